use Rattle.plan_laws.proofs.Adding.Items.{sound_with_item}
use Rattle.plan_laws.proofs.Adding.Outers.{sound_with_outer}
use Rattle.plan_laws.proofs.adding_an_item.Goals as goal

pub returns-clause-item : goal.returns-clause-item
returns-clause-item c = sound_with_item

pub returns-clause-outer : goal.returns-clause-outer
returns-clause-outer c = sound_with_outer
