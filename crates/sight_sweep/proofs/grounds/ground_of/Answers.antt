use Rattle.std.proofs.Common.{◌≡◌, subst}
use Rattle.std.specs.Prelude.{false}
use Rattle.std.specs.List.{list_any}
use Rattle.sight_spec.specs.Sight.{is_in_interior}
use Rattle.station_laws.specs.Grounds.{at_corner, on_wall, on_nothing, IsAtNoCorner, IsFirstCorner, IsOnWall}
use Rattle.sight_sweep.proofs.grounds.ground_of.Goals as goal

pub returns-in-Some : goal.returns-in-Some
returns-in-Some c = at_corner c.in-Some.corner
    (subst (λ xs. IsFirstCorner c.args.p xs c.in-Some.corner) c.corners.ensures.corners c.in-Some.ensures)

pub returns-in-Some-wall_at : goal.returns-in-Some-wall_at
returns-in-Some-wall_at c =
    on_wall c.in-Some-wall_at.wall (subst (IsAtNoCorner c.args.p) c.corners.ensures.corners c.in-None.ensures)
    (subst (λ xs. IsOnWall c.args.p xs c.in-Some-wall_at.wall) c.walls.ensures.walls c.in-Some-wall_at.ensures)

pub returns-in-None-wall_at : goal.returns-in-None-wall_at
returns-in-None-wall_at c =
    on_nothing (subst (IsAtNoCorner c.args.p) c.corners.ensures.corners c.in-None.ensures)
    (subst (λ xs. list_any (is_in_interior c.args.p) xs ≡ false) c.walls.ensures.walls c.in-None-wall_at.ensures)
