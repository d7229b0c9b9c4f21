use Rattle.dirty_laws.proofs.Edited.{removed_in_box}
use Rattle.dirty_laws.proofs.a_removal_takes_what_is_in_its_box.Goals as goal

pub returns : goal.returns
returns c = removed_in_box
