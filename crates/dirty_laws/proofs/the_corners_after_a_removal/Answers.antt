use Rattle.dirty_laws.proofs.Edited.{corners_close_up}
use Rattle.dirty_laws.proofs.the_corners_after_a_removal.Goals as goal

pub returns : goal.returns
returns c = corners_close_up
