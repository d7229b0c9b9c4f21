-- How far a segment reaches to the left of a direction, by its ends as seen from a point.
use Rattle.std.proofs.Common.{◌≡◌, ◌≢◌, true, false, Bool, ℤ, pos, ◌-ℤ◌, ◌∙◌, arith}
use Rattle.std.proofs.lemmas.Int.{ints}
use Rattle.int_laws.proofs.Ring.{times_minus}
use Rattle.plane_spec.specs.declared.Point.{Point}
use Rattle.plane_spec.specs.declared.Segment.{Segment}
use Rattle.plane_spec.specs.Segments.{are_opposite}
use Rattle.plane_spec.specs.Vectors.{cross_of, vector}
use Rattle.sight_spec.specs.Stops.{is_across}

-- the difference of its ends is the segment's own vector
pub width_is : (p d : Point) (w : Segment)
    → cross_of d (vector p w.b) -ℤ cross_of d (vector p w.a) ≡ cross_of d (vector w.a w.b)
width_is p d w =
    let by = times_minus d.x w.b.y p.y in
    let bx = times_minus d.y w.b.x p.x in
    let ay = times_minus d.x w.a.y p.y in
    let ax = times_minus d.y w.a.x p.x in
    let vy = times_minus d.x w.b.y w.a.y in
    let vx = times_minus d.y w.b.x w.a.x in
    omega (arith, ints, by, bx, ay, ax, vy, vx)

-- and isn't 0 across a line
apart : (s t : ℤ) → are_opposite s t ≡ true → t -ℤ s ≢ pos 0
apart s t h = grind (arith, ints)

pub across_apart : (p d : Point) (w : Segment) → is_across p d w ≡ true
    → cross_of d (vector p w.b) -ℤ cross_of d (vector p w.a) ≢ pos 0
across_apart p d w h = apart (cross_of d (vector p w.a)) (cross_of d (vector p w.b)) h

-- a segment across a line isn't in the line's direction
pub across_is_turned : (p d : Point) (w : Segment) → is_across p d w ≡ true → cross_of d (vector w.a w.b) ≢ pos 0
across_is_turned p d w h =
    λ none. across_apart p d w h (width_is p d w ∙ none)
