use Rattle.plan_laws.proofs.Ranges.{sound_has_outer, sound_outer, sound_obstacles, sound_screens, sound_routes, sound_limits}
use Rattle.plan_laws.proofs.Grids.{sound_grid, sound_grid_points, sound_grid_length, grid_length}
use Rattle.plan_laws.proofs.the_ranges_of_a_sound_plan.Goals as goal

pub returns-clause-begun : goal.returns-clause-begun
returns-clause-begun c = sound_has_outer

pub returns-clause-outer : goal.returns-clause-outer
returns-clause-outer c = sound_outer

pub returns-clause-obstacles : goal.returns-clause-obstacles
returns-clause-obstacles c = sound_obstacles

pub returns-clause-screens : goal.returns-clause-screens
returns-clause-screens c = sound_screens

pub returns-clause-routes : goal.returns-clause-routes
returns-clause-routes c = sound_routes

pub returns-clause-limits : goal.returns-clause-limits
returns-clause-limits c = sound_limits

pub returns-clause-grid : goal.returns-clause-grid
returns-clause-grid c = sound_grid

pub returns-clause-grid_points_in_range : goal.returns-clause-grid_points_in_range
returns-clause-grid_points_in_range c = sound_grid_points

pub returns-clause-grid_points_few : goal.returns-clause-grid_points_few
returns-clause-grid_points_few c = sound_grid_length

pub returns-clause-grid_points_count : goal.returns-clause-grid_points_count
returns-clause-grid_points_count c = grid_length
