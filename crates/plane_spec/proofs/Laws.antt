-- What the definitions mean, where it is short to show.
use Rattle.std.specs.Prelude.{◌≡◌, refl, ℤ, pos, ◌-ℤ◌, ◌*ℤ◌, Bool, false, ◌&&◌, ◌||◌}
use Rattle.std.proofs.Common.{arith, ap, ◌∙◌}
use Rattle.std.proofs.Math.Bool.{and_comm, or_comm}
use Rattle.std.proofs.lemmas.Int.{ints}
use Rattle.plane_spec.specs.declared.Point.{Point}
use Rattle.plane_spec.specs.Vectors.{orient_of}
use Rattle.plane_spec.specs.Segments.{are_opposite, is_on_segment, cross_properly, do_touch}
use Rattle.plane_spec.specs.Cones.{corner, is_in_cone}

-- two segments touch in whatever order they are named
pub touching_is_symmetric : (a b c d : Point) → do_touch a b c d ≡ do_touch c d a b
unfolding do_touch cross_properly
touching_is_symmetric a b c d =
    let crossing = and_comm (are_opposite (orient_of a b c) (orient_of a b d)) (are_opposite (orient_of c d a) (orient_of c d b)) in
    let ends = or_comm (is_on_segment a c d || is_on_segment b c d) (is_on_segment c a b || is_on_segment d a b) in
    ap (λ t. t || ((is_on_segment a c d || is_on_segment b c d) || (is_on_segment c a b || is_on_segment d a b))) crossing
    ∙ ap (λ t. (are_opposite (orient_of c d a) (orient_of c d b) && are_opposite (orient_of a b c) (orient_of a b d)) || t) ends

nothing_left : (z : ℤ) → z -ℤ z ≡ pos 0
nothing_left z = omega (arith, ints)

zero_times : (z : ℤ) → pos 0 *ℤ z ≡ pos 0
zero_times z = omega (arith, ints)

-- no direction is in the cone of an end that stands alone, since there is no wall to be left of
pub a_lone_end_blocks_nothing : (v d : Point) → is_in_cone (corner v v v) d ≡ false
unfolding is_in_cone
a_lone_end_blocks_nothing v d = simp (nothing_left, zero_times)
