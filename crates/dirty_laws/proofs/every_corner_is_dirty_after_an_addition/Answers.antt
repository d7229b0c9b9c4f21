use Rattle.dirty_laws.proofs.Edited.{all_dirty_after_addition}
use Rattle.dirty_laws.proofs.every_corner_is_dirty_after_an_addition.Goals as goal

pub returns : goal.returns
returns c = all_dirty_after_addition
