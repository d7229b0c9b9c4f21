use Rattle.area_laws.proofs.Laws.{counterclockwise_left, counterclockwise_right, clockwise_left, clockwise_right}
use Rattle.area_laws.proofs.sides_of_a_simple_polygon.Goals as goal

pub returns-clause-left : goal.returns-clause-left
returns-clause-left c = counterclockwise_left

pub returns-clause-right : goal.returns-clause-right
returns-clause-right c = counterclockwise_right

pub returns-clause-left_of_clockwise : goal.returns-clause-left_of_clockwise
returns-clause-left_of_clockwise c = clockwise_left

pub returns-clause-right_of_clockwise : goal.returns-clause-right_of_clockwise
returns-clause-right_of_clockwise c = clockwise_right
