-- What it is for a wall to span the directions of a run.
use Rattle.std.specs.Prelude.{◌≡◌, ◌≢◌, ◌<◌, ℤ, pos, ◌≤ℤ◌, ◌<ℤ◌, length, Bool, ◌&&◌, false}
use Rattle.plane_spec.specs.declared.Point.{Point}
use Rattle.plane_spec.specs.Vectors.{cross_of, vector, turns_left}
use Rattle.plane_spec.specs.Fractions.{Fraction, floor_of, ceil_of}
use Rattle.sight_spec.specs.Scene.{Scene, blockers_of_scene}
use Rattle.sight_spec.specs.Isovist.{Run, blocker_at, meeting_with}

-- f is left of e, and b left of a; e and f lie from a to b, a isn't f's direction, and b isn't e's
pub record Wedge (a b e f : Point) : Type 0 where
  pub turned : pos 0 <ℤ cross_of e f
  pub wide : pos 0 <ℤ cross_of a b
  pub begins : pos 0 ≤ℤ cross_of a e
  pub begins_before : pos 0 <ℤ cross_of e b
  pub ends_after : pos 0 <ℤ cross_of a f
  pub ends : pos 0 ≤ℤ cross_of f b

-- the wedge from one of two directions to the other
pub data Spans (a b e f : Point) : Type 0 where
  forth : Wedge a b e f → Spans a b e f
  back : Wedge b a e f → Spans a b e f

-- a run's wall or screen is one of the scene's, and spans the run's directions as it is seen from p
pub record IsSpanned (scene : Scene) (p : Point) (r : Run) : Type 0 where
  pub numbered : r.wall < length (blockers_of_scene scene)
  pub spans : Spans (vector p (blocker_at (blockers_of_scene scene) r.wall).a) (vector p (blocker_at (blockers_of_scene scene) r.wall).b) r.from r.to

-- d lies strictly between e and f, which is left of e
abbrev pub lies_between : Point → Point → Point → Bool
lies_between e f d = turns_left e d && turns_left d f

-- the run is less than a half turn; p isn't on the line of its wall or screen; no end of that lies strictly between the
-- run's directions; and the rays in both directions meet its line ahead
pub record IsMet (scene : Scene) (p : Point) (r : Run) : Type 0 where
  pub numbered : r.wall < length (blockers_of_scene scene)
  pub less_than_half : pos 0 <ℤ cross_of r.from r.to
  pub off_line : cross_of (vector p (blocker_at (blockers_of_scene scene) r.wall).a) (vector p (blocker_at (blockers_of_scene scene) r.wall).b) ≢ pos 0
  pub first_outside : lies_between r.from r.to (vector p (blocker_at (blockers_of_scene scene) r.wall).a) ≡ false
  pub second_outside : lies_between r.from r.to (vector p (blocker_at (blockers_of_scene scene) r.wall).b) ≡ false
  pub from_turned : cross_of r.from (vector (blocker_at (blockers_of_scene scene) r.wall).a (blocker_at (blockers_of_scene scene) r.wall).b) ≢ pos 0
  pub to_turned : cross_of r.to (vector (blocker_at (blockers_of_scene scene) r.wall).a (blocker_at (blockers_of_scene scene) r.wall).b) ≢ pos 0
  pub from_ahead : pos 0 <ℤ (meeting_with scene p r.from r.wall).num
  pub to_ahead : pos 0 <ℤ (meeting_with scene p r.to r.wall).num

-- the floor and the ceiling of f are from 0 to `most`
pub record HasRoundingWithin (most : ℤ) (f : Fraction) : Type 0 where
  pub floor_low : pos 0 ≤ℤ floor_of f
  pub floor_high : floor_of f ≤ℤ most
  pub ceil_low : pos 0 ≤ℤ ceil_of f
  pub ceil_high : ceil_of f ≤ℤ most
