-- The order of points whose coordinates are fractions.
use Rattle.std.specs.Prelude.{pos, ◌≤ℤ◌}
use Rattle.std.specs.Ordering.{ordering_then}
use Rattle.std.specs.declared.cmp.Ordering.{Ordering}
use Rattle.plane_spec.specs.Fractions.{RPoint, value_order_of}

-- by the first coordinate, and by the second where the first ones have one value
abbrev pub rpoint_order_of : RPoint → RPoint → Ordering
rpoint_order_of p q = ordering_then (value_order_of p.x q.x) (value_order_of p.y q.y)

-- both coordinates stand over denominators of at least 1
pub record IsOverPositive (p : RPoint) : Type 0 where
  pub x : pos 1 ≤ℤ p.x.den
  pub y : pos 1 ≤ℤ p.y.den
