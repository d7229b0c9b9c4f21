use Rattle.plan_laws.proofs.Boxes.{edit_boxes_in_range}
use Rattle.plan_laws.proofs.the_boxes_of_an_edit.Goals as goal

pub returns : goal.returns
returns c = edit_boxes_in_range
