use Rattle.rectangle_laws.proofs.Apart.{polygons_apart, polygons_of_boxes_apart}
use Rattle.rectangle_laws.proofs.polygons_in_boxes_apart_dont_meet.Goals as goal

pub returns-clause-least : goal.returns-clause-least
returns-clause-least c = polygons_of_boxes_apart

pub returns-clause-any : goal.returns-clause-any
returns-clause-any c = polygons_apart
