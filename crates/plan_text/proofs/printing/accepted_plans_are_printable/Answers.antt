use Rattle.plan_text.proofs.SoundItems.{sound_items_printable}
use Rattle.plan_text.proofs.printing.accepted_plans_are_printable.Goals as goal

pub returns : goal.returns
returns c = sound_items_printable
