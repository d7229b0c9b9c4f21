-- Where a blocker begins, one direction spans it and all that go on.
--
-- The direction just after s is (10^12) s and a little left: its cross product with a vector a is 10^12 times that of
-- s and a, plus or less their dot product, which is at most 320000000000. So where s and a aren't in line the cross
-- product decides, as at s; and where a leads in the direction of s, the dot product decides, and the direction is
-- left of a. That is, it spans what begins at s, what goes on there, and nothing that ends there.
use Rattle.std.proofs.Common.{◌≡◌, ℤ, pos, neg_ℤ, ◌+ℤ◌, ◌*ℤ◌, ◌<ℤ◌, arith}
use Rattle.std.proofs.lemmas.Int.{ints}
use Rattle.std.specs.Prelude.{true}
use Rattle.plane_spec.specs.Vectors.{dot_of, IsWithin, IsDirection}
use Rattle.plane_spec.specs.declared.Point.{Point}
use Rattle.exact_geom.proofs.Bounds.{product_within}
use Rattle.front_laws.specs.Seen.{Seen, spans, are_apart, AreTogether}
use Rattle.turn_laws.proofs.After.{goes_on_after}
use Rattle.turn_laws.specs.Turns.{GoesOnFrom, just_after}

dot_within : (d e : Point) → IsDirection d → IsDirection e → IsWithin (pos 320000000000) (dot_of d e)
dot_within d e d_in e_in =
    let p = product_within 400000 400000 d.x e.x d_in.x e_in.x in
    let q = product_within 400000 400000 d.y e.y d_in.y e_in.y in
    sum_within (d.x *ℤ e.x) (d.y *ℤ e.y) p q
  where
    sum_within : (a b : ℤ) → IsWithin (pos 160000000000) a → IsWithin (pos 160000000000) b
        → IsWithin (pos 320000000000) (a +ℤ b)
    sum_within a b h k = record { low = omega (arith, ints, h, k); high = omega (arith, ints, h, k) }

above_low : (z : ℤ) → IsWithin (pos 320000000000) z → neg_ℤ (pos 1000000000000) <ℤ z
above_low z h = omega (arith, ints, h)

below_high : (z : ℤ) → IsWithin (pos 320000000000) z → z <ℤ pos 1000000000000
below_high z h = omega (arith, ints, h)

-- what goes on from s is spanned by the direction just after s
pub spans_just_after : (s : Point) (w : Seen) → IsDirection s → IsDirection w.from → IsDirection w.to → GoesOnFrom s w
    → spans (just_after s) w ≡ true
spans_just_after s w s_in from_in to_in on =
    let a = dot_within w.from s from_in s_in in
    let b = dot_within s w.to s_in to_in in
    goes_on_after (pos 1000000000000) s w on (above_low (dot_of w.from s) a) (below_high (dot_of w.from s) a)
    (above_low (dot_of s w.to) b) (below_high (dot_of s w.to) b)

-- two that go on from s are together just after it, where they are apart there
pub together_after : (s : Point) (v w : Seen) → IsDirection s → IsDirection v.from → IsDirection v.to
    → IsDirection w.from → IsDirection w.to → GoesOnFrom s v → GoesOnFrom s w
    → (spans (just_after s) v ≡ true → spans (just_after s) w ≡ true → (are_apart v w ≡ true) × (are_apart w v ≡ true))
    → AreTogether (just_after s) v w
together_after s v w s_in v_from v_to w_from w_to v_on w_on apart =
    let v_spans = spans_just_after s v s_in v_from v_to v_on in
    let w_spans = spans_just_after s w s_in w_from w_to w_on in
    record { first = v_spans; second = w_spans; apart = (apart v_spans w_spans).0; back = (apart v_spans w_spans).1 }
