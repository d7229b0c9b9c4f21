-- The order of directions, by the half turns in which two directions are.
use Rattle.std.proofs.Common.{◌≡◌, ℤ, pos, neg_ℤ, refl, arith}
use Rattle.std.specs.Prelude.{Bool, true, false, int_lt, if◌then◌else◌}
use Rattle.std.specs.declared.cmp.Ordering.{Ordering}
use Rattle.std.specs.declared.cmp.Ordering.TheVariants.{Less, Equal, Greater}
use Rattle.std.proofs.lemmas.Int.{ints}
use Rattle.plane_spec.specs.declared.Point.{Point}
use Rattle.plane_spec.specs.Vectors.{cross_of, turns_left, is_upper, turns_by, turns_before, turn_order_of}
use Rattle.int_laws.proofs.Ring.{cross_exchanged}
use Rattle.exact_geom.specs.Directions.{turned_order}

-- exchanged, the cross product of two directions changes its sign
pub cross_of_exchanged : (d e : Point) → cross_of e d ≡ neg_ℤ (cross_of d e)
cross_of_exchanged d e = cross_exchanged d.x d.y e.x e.y

right_of : (y z : ℤ) → y ≡ neg_ℤ z → int_lt (pos 0) y ≡ int_lt z (pos 0)
right_of y z e = grind (arith, ints)

-- d is left of e where e is right of d
pub left_is_right : (d e : Point) → turns_left e d ≡ int_lt (cross_of d e) (pos 0)
left_is_right d e = right_of (cross_of e d) (cross_of d e) (cross_of_exchanged d e)

-- the order by halves, by whether the second is left of the first, and whether the first is left of the second
abbrev pub order_by : Bool → Bool → Bool → Bool → Ordering
order_by upper upper_too left right = if turns_by upper upper_too left then Less else (if turns_by upper_too upper right then Greater else Equal)

pub order_by_halves : (d e : Point) → turn_order_of d e ≡ order_by (is_upper d) (is_upper e) (turns_left d e) (turns_left e d)
unfolding turn_order_of turns_before
order_by_halves d e = refl

order_by_turn : (upper left right : Bool) → order_by upper upper left right ≡ (if left then Less else (if right then Greater else Equal))
order_by_turn true left right = refl
order_by_turn false left right = refl

-- within one half turn
pub order_within : (d e : Point) (upper : Bool) → is_upper d ≡ upper → is_upper e ≡ upper → turn_order_of d e ≡ turned_order d e
order_within d e upper h k = rw (order_by_halves d e, h, k, order_by_turn upper, left_is_right d e) refl

-- from the upper half turn to the other
pub order_down : (d e : Point) → is_upper d ≡ true → is_upper e ≡ false → turn_order_of d e ≡ Less
order_down d e h k = rw (order_by_halves d e, h, k) refl

-- from the other half turn to the upper one
pub order_up : (d e : Point) → is_upper d ≡ false → is_upper e ≡ true → turn_order_of d e ≡ Greater
order_up d e h k = rw (order_by_halves d e, h, k) refl
