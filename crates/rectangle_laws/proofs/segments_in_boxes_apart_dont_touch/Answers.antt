use Rattle.rectangle_laws.proofs.Apart.{no_touch}
use Rattle.rectangle_laws.proofs.segments_in_boxes_apart_dont_touch.Goals as goal

pub returns : goal.returns
returns c = no_touch
