-- An edge that the segment from p to q crosses properly: the windings differ by one more on its left.
use Rattle.std.specs.Prelude.{int_lt, if◌then◌else◌}
use Rattle.std.proofs.Common.{pos, ℤ, ◌<ℤ◌, ap, ◌≡◌, ◌≤ℤ◌, arith, ◌-ℤ◌, ◌*ℤ◌, ◌∙◌, neg_ℤ, ◌+ℤ◌, refl}
use Rattle.std.proofs.lemmas.Int.{ints, by_lt_z}
use Rattle.int_laws.proofs.Tests.{less_tested, not_less}
use Rattle.int_laws.proofs.Ring.{times_zero, zero_times, times_neg}
use Rattle.int_laws.proofs.Signs.{negative_product_both, not_negative_product, positive_product, opposite_product}
use Rattle.int_laws.proofs.Signs.{negative_product}
use Rattle.plane_spec.specs.declared.Point.{Point}
use Rattle.plane_spec.specs.declared.Segment.{Segment}
use Rattle.plane_spec.specs.Vectors.{orient_of}
use Rattle.exact_geom.proofs.Orientation.{orient_of_first_exchanged}
use Rattle.winding_laws.specs.Windings.{wind}
use Rattle.winding_laws.proofs.OneEdge.{start_identity, end_identity, strip_above, strip_below, strip_mid, wind_above}
use Rattle.winding_laws.proofs.OneEdge.{strip}
use Rattle.winding_laws.proofs.OneEdge.{wind_across, wind_below, wind_turned, strip_turned}
use Rattle.sight_spec.specs.Scene.{turned_edge}

-- p left and q right of the edge, whose start is right and whose end is left of the segment
pub record Crosses (a b p q : Point) : Type 0 where
  pub p_left : pos 0 <ℤ orient_of a b p
  pub q_right : orient_of a b q <ℤ pos 0
  pub a_right : orient_of p q a <ℤ pos 0
  pub b_left : pos 0 <ℤ orient_of p q b

one_where : (z : ℤ) → pos 0 <ℤ z → (if int_lt (pos 0) z then pos 1 else pos 0) ≡ pos 1
one_where z h = ap (λ t. if t then pos 1 else pos 0) (less_tested (pos 0) z h)

none_where : (z : ℤ) → z ≤ℤ pos 0 → (if int_lt (pos 0) z then pos 1 else pos 0) ≡ pos 0
none_where z h = ap (λ t. if t then pos 1 else pos 0) (not_less (pos 0) z h)

one_below : (z : ℤ) → z <ℤ pos 0 → (if int_lt z (pos 0) then pos 1 else pos 0) ≡ pos 1
one_below z h = ap (λ t. if t then pos 1 else pos 0) (less_tested z (pos 0) h)

none_below : (z : ℤ) → pos 0 ≤ℤ z → (if int_lt z (pos 0) then pos 1 else pos 0) ≡ pos 0
none_below z h = ap (λ t. if t then pos 1 else pos 0) (not_less z (pos 0) h)

level_side : (a b p : Point) → a.y ≡ b.y → a.y ≡ p.y → orient_of a b p ≡ pos 0
level_side a b p h k =
    let z : b.y -ℤ a.y ≡ pos 0 = omega (arith, ints, h) in
    let y : p.y -ℤ a.y ≡ pos 0 = omega (arith, ints, k) in
    let e = ap (λ t. (b.x -ℤ a.x) *ℤ t) y ∙ times_zero (b.x -ℤ a.x) in
    let f = ap (λ t. t *ℤ (p.x -ℤ a.x)) z ∙ zero_times (p.x -ℤ a.x) in
    omega (arith, ints, e, f)

-- edges that don't reach between the heights of p and q don't cross
never_below : (a b p q : Point) → Crosses a b p q → a.y ≤ℤ b.y → b.y ≤ℤ p.y → p.y ≤ℤ q.y → ⊥
never_below a b p q c edge under segment =
    let p_left = c.p_left in let a_right = c.a_right in let b_left = c.b_left in
    let i = start_identity a b p q in
    let third = not_negative_product (orient_of a b p) (q.y -ℤ p.y) (omega (arith, ints, p_left))
    (omega (arith, ints, segment)) in
    let second = not_negative_product (orient_of p q b) (p.y -ℤ a.y) (omega (arith, ints, b_left))
    (omega (arith, ints, edge, under)) in
    by_lt_z b.y p.y
    (λ strictly. let first = negative_product_both (orient_of p q a) (b.y -ℤ p.y) a_right
    (omega (arith, ints, strictly)) in absurd (omega (arith, ints, i, first, second, third)))
    (λ level. let z : b.y -ℤ p.y ≡ pos 0 = omega (arith, ints, under, level) in
    let first = ap (λ t. orient_of p q a *ℤ t) z ∙ times_zero (orient_of p q a) in
    by_lt_z a.y p.y
    (λ low. let more = positive_product (orient_of p q b) (p.y -ℤ a.y) b_left (omega (arith, ints, low)) in
    absurd (omega (arith, ints, i, first, third, more)))
    (λ flat. let s = level_side a b p (omega (arith, ints, z, flat, edge)) (omega (arith, ints, z, flat, edge)) in
    absurd (omega (arith, ints, s, p_left))))

never_above : (a b p q : Point) → Crosses a b p q → a.y ≤ℤ b.y → q.y <ℤ a.y → p.y ≤ℤ q.y → ⊥
never_above a b p q c edge over segment =
    let q_right = c.q_right in let a_right = c.a_right in let b_left = c.b_left in
    let i = end_identity a b p q in
    let first = opposite_product (orient_of p q a) (b.y -ℤ q.y) (omega (arith, ints, a_right))
    (omega (arith, ints, edge, over)) in
    let third = opposite_product (orient_of a b q) (q.y -ℤ p.y) (omega (arith, ints, q_right))
    (omega (arith, ints, segment)) in
    let e = times_neg (orient_of p q b) (a.y -ℤ q.y) in
    let flip : q.y -ℤ a.y ≡ neg_ℤ (a.y -ℤ q.y) = omega (arith, ints) in
    let f = ap (λ t. orient_of p q b *ℤ t) flip in
    let second = positive_product (orient_of p q b) (a.y -ℤ q.y) b_left (omega (arith, ints, over)) in
    absurd (omega (arith, ints, i, first, second, third, e, f))

sums : (a b c d a' b' c' d' n : ℤ) → a ≡ a' → b ≡ b' → c ≡ c' → d ≡ d' → a' -ℤ b' ≡ (c' -ℤ d') +ℤ n
    → a -ℤ b ≡ (c -ℤ d) +ℤ n
sums a b c d a' b' c' d' n e f g h i = omega (arith, ints, e, f, g, h, i)

-- by how much more
abbrev pub Differs : Point → Point → Segment → ℤ → Type 0
Differs p q e n = wind p e -ℤ wind q e ≡ (strip p q e.b -ℤ strip p q e.a) +ℤ n

upwards_down : (p q : Point) (e : Segment) → Crosses e.a e.b p q → p.y ≤ℤ q.y → e.a.y ≤ℤ e.b.y → Differs p q e (pos 1)
upwards_down p q e c segment edge =
    let p_left = c.p_left in let q_right = c.q_right in let a_right = c.a_right in let b_left = c.b_left in
    by_lt_z q.y e.a.y
    (λ over. absurd (never_above e.a e.b p q c edge over segment))
    (λ a_low. by_lt_z p.y e.a.y
    (λ a_mid. by_lt_z q.y e.b.y
    (λ b_high. sums _ _ _ _ _ _ _ _ (pos 1) (wind_below p e a_mid (omega (arith, ints, a_mid, edge)))
    (wind_across q e a_low b_high ∙ none_where (orient_of e.a e.b q) (omega (arith, ints, q_right)))
    (strip_above p q e.b (omega (arith, ints, a_mid, edge)) b_high)
    (strip_mid p q e.a a_mid a_low ∙ one_below (orient_of p q e.a) a_right) refl)
    (λ b_low. sums _ _ _ _ _ _ _ _ (pos 1) (wind_below p e a_mid (omega (arith, ints, a_mid, edge)))
    (wind_above q e a_low b_low)
    (strip_mid p q e.b (omega (arith, ints, a_mid, edge)) b_low
    ∙ none_below (orient_of p q e.b) (omega (arith, ints, b_left)))
    (strip_mid p q e.a a_mid a_low ∙ one_below (orient_of p q e.a) a_right) refl))
    (λ a_under. by_lt_z q.y e.b.y
    (λ b_high. sums _ _ _ _ _ _ _ _ (pos 1) (wind_across p e a_under (omega (arith, ints, segment, b_high))
    ∙ one_where (orient_of e.a e.b p) p_left)
    (wind_across q e a_low b_high ∙ none_where (orient_of e.a e.b q) (omega (arith, ints, q_right)))
    (strip_above p q e.b (omega (arith, ints, segment, b_high)) b_high) (strip_below p q e.a a_under a_low) refl)
    (λ b_low. by_lt_z p.y e.b.y
    (λ b_mid. sums _ _ _ _ _ _ _ _ (pos 1) (wind_across p e a_under b_mid ∙ one_where (orient_of e.a e.b p) p_left)
    (wind_above q e a_low b_low)
    (strip_mid p q e.b b_mid b_low ∙ none_below (orient_of p q e.b) (omega (arith, ints, b_left)))
    (strip_below p q e.a a_under a_low) refl)
    (λ b_under. absurd (never_below e.a e.b p q c edge b_under segment)))))

-- the same with the edge, or the segment, the other way
back_crosses : (a b p q : Point) → Crosses a b p q → Crosses b a q p
back_crosses a b p q c =
    let p_left = c.p_left in let q_right = c.q_right in let a_right = c.a_right in let b_left = c.b_left in
    let e = orient_of_first_exchanged a b p in
    let f = orient_of_first_exchanged a b q in
    let g = orient_of_first_exchanged p q a in
    let h = orient_of_first_exchanged p q b in
    record {
      p_left = omega (arith, ints, f, q_right);
      q_right = omega (arith, ints, e, p_left);
      a_right = omega (arith, ints, h, b_left);
      b_left = omega (arith, ints, g, a_right);
    }

-- with both ends exchanged on both, where the edge goes up and the segment down
upwards_up : (p q : Point) (e : Segment) → Crosses e.a e.b q p → p.y ≤ℤ q.y → e.a.y ≤ℤ e.b.y
    → Differs p q e (neg_ℤ (pos 1))
upwards_up p q e c segment edge =
    let q_left = c.p_left in let p_right = c.q_right in let a_of = c.a_right in let b_of = c.b_left in
    let o_a = orient_of_first_exchanged q p e.a in
    let o_b = orient_of_first_exchanged q p e.b in
    let a_left : pos 0 <ℤ orient_of p q e.a = omega (arith, ints, o_a, a_of) in
    let b_right : orient_of p q e.b <ℤ pos 0 = omega (arith, ints, o_b, b_of) in
    by_lt_z q.y e.a.y
    (λ over. absurd (high over))
    (λ a_low. by_lt_z p.y e.a.y
    (λ a_mid. by_lt_z q.y e.b.y
    (λ b_high. sums _ _ _ _ _ _ _ _ (neg_ℤ (pos 1)) (wind_below p e a_mid (omega (arith, ints, a_mid, edge)))
    (wind_across q e a_low b_high ∙ one_where (orient_of e.a e.b q) q_left)
    (strip_above p q e.b (omega (arith, ints, a_mid, edge)) b_high)
    (strip_mid p q e.a a_mid a_low ∙ none_below (orient_of p q e.a) (omega (arith, ints, a_left))) refl)
    (λ b_low. sums _ _ _ _ _ _ _ _ (neg_ℤ (pos 1)) (wind_below p e a_mid (omega (arith, ints, a_mid, edge)))
    (wind_above q e a_low b_low)
    (strip_mid p q e.b (omega (arith, ints, a_mid, edge)) b_low ∙ one_below (orient_of p q e.b) b_right)
    (strip_mid p q e.a a_mid a_low ∙ none_below (orient_of p q e.a) (omega (arith, ints, a_left))) refl))
    (λ a_under. by_lt_z q.y e.b.y
    (λ b_high. sums _ _ _ _ _ _ _ _ (neg_ℤ (pos 1)) (wind_across p e a_under (omega (arith, ints, segment, b_high))
    ∙ none_where (orient_of e.a e.b p) (omega (arith, ints, p_right)))
    (wind_across q e a_low b_high ∙ one_where (orient_of e.a e.b q) q_left)
    (strip_above p q e.b (omega (arith, ints, segment, b_high)) b_high) (strip_below p q e.a a_under a_low) refl)
    (λ b_low. by_lt_z p.y e.b.y
    (λ b_mid. sums _ _ _ _ _ _ _ _ (neg_ℤ (pos 1)) (wind_across p e a_under b_mid
    ∙ none_where (orient_of e.a e.b p) (omega (arith, ints, p_right))) (wind_above q e a_low b_low)
    (strip_mid p q e.b b_mid b_low ∙ one_below (orient_of p q e.b) b_right) (strip_below p q e.a a_under a_low) refl)
    (λ b_under. absurd (low b_under)))))
  where
    high : q.y <ℤ e.a.y → ⊥
    high over =
        let i = end_identity e.a e.b p q in
        let q_left = c.p_left in let a_of = c.a_right in let b_of = c.b_left in
        let o_a = orient_of_first_exchanged q p e.a in
        let o_b = orient_of_first_exchanged q p e.b in
        let first = not_negative_product (orient_of p q e.a) (e.b.y -ℤ q.y) (omega (arith, ints, o_a, a_of))
        (omega (arith, ints, edge, over)) in
        let second = negative_product_both (orient_of p q e.b) (q.y -ℤ e.a.y) (omega (arith, ints, o_b, b_of))
        (omega (arith, ints, over)) in
        let third = not_negative_product (orient_of e.a e.b q) (q.y -ℤ p.y) (omega (arith, ints, q_left))
        (omega (arith, ints, segment)) in
        absurd (omega (arith, ints, i, first, second, third))

    low : e.b.y ≤ℤ p.y → ⊥
    low under =
        let i = start_identity e.a e.b p q in
        let p_right = c.q_right in let a_of = c.a_right in let b_of = c.b_left in
        let o_a = orient_of_first_exchanged q p e.a in
        let o_b = orient_of_first_exchanged q p e.b in
        let third = opposite_product (orient_of e.a e.b p) (q.y -ℤ p.y) (omega (arith, ints, p_right))
        (omega (arith, ints, segment)) in
        let second = opposite_product (orient_of p q e.b) (p.y -ℤ e.a.y) (omega (arith, ints, o_b, b_of))
        (omega (arith, ints, edge, under)) in
        by_lt_z e.b.y p.y
        (λ strictly.
        let flip : e.b.y -ℤ p.y ≡ neg_ℤ (p.y -ℤ e.b.y) = omega (arith, ints) in
        let f = ap (λ t. orient_of p q e.a *ℤ t) flip ∙ times_neg (orient_of p q e.a) (p.y -ℤ e.b.y) in
        let more = positive_product (orient_of p q e.a) (p.y -ℤ e.b.y) (omega (arith, ints, o_a, a_of))
        (omega (arith, ints, strictly)) in
        absurd (omega (arith, ints, i, f, more, second, third)))
        (λ level. let z : e.b.y -ℤ p.y ≡ pos 0 = omega (arith, ints, under, level) in
        let first = ap (λ t. orient_of p q e.a *ℤ t) z ∙ times_zero (orient_of p q e.a) in
        by_lt_z e.a.y p.y
        (λ lower.
        let flip : p.y -ℤ e.a.y ≡ p.y -ℤ e.a.y = refl in
        let more = negative_by (orient_of p q e.b) (p.y -ℤ e.a.y) (omega (arith, ints, o_b, b_of))
        (omega (arith, ints, lower)) in
        absurd (omega (arith, ints, i, first, more, third)))
        (λ flat. let s = level_side e.a e.b p (omega (arith, ints, z, flat, edge))
        (omega (arith, ints, z, flat, edge)) in absurd (omega (arith, ints, s, p_right))))
      where
        negative_by : (x f : ℤ) → x <ℤ pos 0 → pos 0 <ℤ f → (x *ℤ f) <ℤ pos 0
        negative_by x f h k = negative_product x f h k

differs_turned : (p q : Point) (e : Segment) (n : ℤ) → Differs p q (turned_edge e) (neg_ℤ n) → Differs p q e n
differs_turned p q e n h =
    let first = wind_turned p e in
    let second = wind_turned q e in
    omega (arith, ints, h, first, second)

differs_swapped : (p q : Point) (e : Segment) (n : ℤ) → Differs q p e (neg_ℤ n) → Differs p q e n
differs_swapped p q e n h =
    let first = strip_turned p q e.a in
    let second = strip_turned p q e.b in
    omega (arith, ints, h, first, second)

-- an edge that is crossed properly adds one more on its left
pub crossed_edge : (p q : Point) (e : Segment) → Crosses e.a e.b p q → Differs p q e (pos 1)
crossed_edge p q e c =
    by_lt_z q.y p.y
    (λ down. differs_swapped p q e (pos 1) (by_lt_z e.b.y e.a.y
    (λ falls. differs_turned q p e (neg_ℤ (pos 1)) (twice
    (upwards_down q p (turned_edge e) (back_crosses e.a e.b p q c) (omega (arith, ints, down))
    (omega (arith, ints, falls)))))
    (λ rises. upwards_up q p e c (omega (arith, ints, down)) rises)))
    (λ up. by_lt_z e.b.y e.a.y
    (λ falls. differs_turned p q e (pos 1) (upwards_up p q (turned_edge e) (back_crosses e.a e.b p q c) up
    (omega (arith, ints, falls))))
    (λ rises. upwards_down p q e c up rises))
  where
    twice : Differs q p (turned_edge e) (pos 1) → Differs q p (turned_edge e) (neg_ℤ (neg_ℤ (pos 1)))
    twice h = omega (arith, ints, h)
