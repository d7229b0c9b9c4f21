use Rattle.plan_laws.proofs.GridPoints.{point_in_row_and_col, number_in_row_and_col, number_is_found, found_number}
use Rattle.plan_laws.proofs.grid_points_are_numbered_by_rows.Goals as goal

pub returns-clause-point : goal.returns-clause-point
returns-clause-point c = point_in_row_and_col

pub returns-clause-below : goal.returns-clause-below
returns-clause-below c = number_in_row_and_col

pub returns-clause-number : goal.returns-clause-number
returns-clause-number c = number_is_found

pub returns-clause-found : goal.returns-clause-found
returns-clause-found c = found_number
