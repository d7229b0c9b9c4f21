-- The directions of rays that are sent into gaps.
use Rattle.std.proofs.Common.{◌≡◌, ℤ, pos, arith, true}
use Rattle.std.specs.Prelude.{int_lt, int_le, not}
use Rattle.std.proofs.lemmas.Int.{ints}
use Rattle.int_laws.proofs.Ring.{times_sum}
use Rattle.int_laws.proofs.Signs.{tested_positive}
use Rattle.plane_spec.specs.declared.Point.{Point}
use Rattle.plane_spec.specs.Vectors.{IsDirection, IsDirected, cross_of, turns_left}
use Rattle.sight_spec.specs.Isovist.{sum_of}
use Rattle.isovist_laws.proofs.Directions.{directed_by_cross}
use Rattle.isovist_core.specs.Steps.{IsStep}

-- the vector between two points in range is a direction
pub step_is_direction : (d : Point) → IsStep d → IsDirection d
step_is_direction d h = record {
  x = record { low = omega (arith, ints, h.x.low); high = omega (arith, ints, h.x.high) };
  y = record { low = omega (arith, ints, h.y.low); high = omega (arith, ints, h.y.high) };
}

-- left of the first of two directions is their sum, where the second is
pub sum_left : (e f : Point) → cross_of e (sum_of e f) ≡ cross_of e f
sum_left e f =
    let x = times_sum e.x e.y f.y in
    let y = times_sum e.y e.x f.x in
    omega (arith, ints, x, y)

pub sum_directed : (e f : Point) → turns_left e f ≡ true → IsDirected (sum_of e f)
sum_directed e f left =
    let up = tested_positive (cross_of e f) left in
    let is = sum_left e f in
    directed_by_cross e (sum_of e f) (omega (arith, ints, up, is))

-- what isn't left is a half turn or more
pub not_left : (z : ℤ) → not (int_lt (pos 0) z) ≡ int_le z (pos 0)
not_left z = grind (arith, ints)
