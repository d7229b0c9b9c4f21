-- The blockers that one direction spans are in order from the station outwards.
--
-- Hits are fractions, and `is_before` is a strict order of their values (`before_chain`: as directions above the
-- axis). Two apart blockers have no hit in common: if they had, the weighted sums of sides would be 0, so all four
-- ends would lie on one line, or the two would cross there. So of two of them one is in front (`behind`), and being in
-- front passes on (`front_chain`). A list in this order stays so when one is taken out, and when one is put in at the
-- place up to which all are in front of it, which a binary search finds (`can_search`, `placed`).
use Rattle.std.proofs.Common.{◌≡◌, ℕ, ◌≤◌, ℤ, ◌+ℤ◌, ◌-ℤ◌, ◌*ℤ◌, ◌<ℤ◌, ◌∙◌, ◌∷◌, pos, arith, sym, List, subst, get_or}
use Rattle.std.proofs.Common.{length, suc}
use Rattle.std.proofs.lemmas.Int.{ints, by_lt_z}
use Rattle.std.specs.List.Sorted.{IsPartitionedBy, IsPartitionPoint}
use Rattle.std.specs.Ordering.{int_eq}
use Rattle.std.specs.Prelude.{◌&&◌, true, int_lt, false, Bool, not, AllPairs, All, insert}
use Rattle.plane_spec.specs.Fractions.{Fraction, is_before}
use Rattle.plane_spec.specs.Segments.{are_opposite}
use Rattle.plane_spec.specs.Vectors.{cross_of}
use Rattle.plane_spec.specs.declared.Point.{Point}
use Rattle.int_laws.proofs.Signs.{tested_positive}
use Rattle.int_laws.proofs.Tests.{less_tested}
use Rattle.exact_geom.proofs.Circle.{above, left_of_left}
use Rattle.front_laws.proofs.InFront.{apart_by, sides_are, sides_differ, front_is_before}
use Rattle.front_laws.proofs.Lists.{AllPairs-insert}
use Rattle.front_laws.proofs.Tests.{by_cases, both_of, by_lt}
use Rattle.front_laws.proofs.Weights.{weighted_up, weighted_up_first, weighted_down, weighted_down_first}
use Rattle.front_laws.specs.Seen.{Seen, spans, hit_of, AreTogether, side_of, are_apart, is_in_front}

-- ---- pairs of a list

-- ---- the order of hits

-- a ratio that comes before one that comes before a third
pub before_chain : (h k l : Fraction) → pos 0 <ℤ h.den → pos 0 <ℤ k.den → pos 0 <ℤ l.den → is_before h k ≡ true
    → is_before k l ≡ true → is_before h l ≡ true
before_chain h k l h_up k_up l_up hk kl =
    from_cross h.num h.den l.num l.den
    (left_of_left l.num l.den k.num k.den h.num h.den (above l_up) (above k_up) (above h_up)
    (to_cross k.num k.den l.num l.den kl) (to_cross h.num h.den k.num k.den hk))
  where
    to_cross : (a b c d : ℤ) → int_lt (a *ℤ d) (c *ℤ b) ≡ true → pos 0 <ℤ (c *ℤ b -ℤ d *ℤ a)
    to_cross a b c d h = omega (arith, ints, h)

    from_cross : (a b c d : ℤ) → pos 0 <ℤ (c *ℤ b -ℤ d *ℤ a) → int_lt (a *ℤ d) (c *ℤ b) ≡ true
    from_cross a b c d h = less_tested (a *ℤ d) (c *ℤ b) (omega (arith, ints, h))

-- numbers that weigh up to 0 and aren't on different sides of it
pub zero_weights : (a b x y : ℤ) → pos 0 <ℤ a → pos 0 <ℤ b → a *ℤ x +ℤ b *ℤ y ≡ pos 0 → are_opposite x y ≡ false
    → (x ≡ pos 0) × (y ≡ pos 0)
zero_weights a b x y a_up b_up e apart =
    by_lt_z (pos 0) x
    (λ x_up. let s = weighted_up_first a b x y a_up b_up x_up (grind (arith, ints)) in
    absurd (omega (arith, ints, e, s)))
    (λ x_low. by_lt_z x (pos 0)
    (λ x_down. let s = weighted_down_first a b x y a_up b_up x_down (grind (arith, ints)) in
    absurd (omega (arith, ints, e, s)))
    (λ x_high. by_lt_z (pos 0) y
    (λ y_up. let s = weighted_up a b x y a_up b_up x_high y_up in absurd (omega (arith, ints, e, s)))
    (λ y_low. by_lt_z y (pos 0)
    (λ y_down. let s = weighted_down a b x y a_up b_up x_low y_down in absurd (omega (arith, ints, e, s)))
    (λ y_high. (omega (arith, ints), omega (arith, ints))))))

-- apart blockers have no hit in common
no_tie : (x y z u c f e s p q : ℤ) → pos 0 <ℤ c → pos 0 <ℤ f → pos 0 <ℤ e → pos 0 <ℤ s
    → f *ℤ x +ℤ c *ℤ y ≡ p -ℤ q → e *ℤ z +ℤ s *ℤ u ≡ q -ℤ p → y -ℤ x ≡ z -ℤ u
    → apart_by x y z u ≡ true → int_lt q p ≡ false → int_lt p q ≡ true
no_tie x y z u c f e s p q c_up f_up e_up s_up first second same apart not_before =
    by_lt_z p q (λ h. less_tested p q h)
    (λ h. let tie : p ≡ q = omega (arith, ints, not_before, h) in
    by_cases (are_opposite x y)
    (λ o. let w = zero_weights e s z u e_up s_up (omega (arith, ints, second, tie)) (grind arith) in
    absurd (never x y o (omega (arith, ints, same, w))))
    (λ o. let w = zero_weights f c x y f_up c_up (omega (arith, ints, first, tie)) o in
    absurd (line x y (are_opposite x y && are_opposite z u) w.0 w.1 apart)))
  where
    never : (x y : ℤ) → are_opposite x y ≡ true → y ≡ x → ⊥
    never x y h e = grind (arith, ints)

    line : (x y : ℤ) (b : Bool) → x ≡ pos 0 → y ≡ pos 0 → (not b && not (int_eq x (pos 0) && int_eq y (pos 0))) ≡ true
        → ⊥
    line x y b h k e = grind (arith, ints)

-- ---- blockers that one direction spans

pub den_up : (d : Point) (w : Seen) → spans d w ≡ true → pos 0 <ℤ (hit_of d w).den
den_up d w h =
    let two = both_of (int_lt (pos 0) (cross_of w.from d)) (int_lt (pos 0) (cross_of d w.to)) h in
    sum_up (cross_of d w.to) (cross_of w.from d) (tested_positive _ two.1) (tested_positive _ two.0)
  where
    sum_up : (a b : ℤ) → pos 0 <ℤ a → pos 0 <ℤ b → pos 0 <ℤ (a +ℤ b)
    sum_up a b h k = omega (arith, ints)

tie : (d : Point) (v w : Seen) → AreTogether d v w → is_before (hit_of d v) (hit_of d w) ≡ false
    → is_before (hit_of d w) (hit_of d v) ≡ true
unfolding are_apart
tie d v w t h =
    let v_two = both_of (int_lt (pos 0) (cross_of v.from d)) (int_lt (pos 0) (cross_of d v.to)) t.first in
    let w_two = both_of (int_lt (pos 0) (cross_of w.from d)) (int_lt (pos 0) (cross_of d w.to)) t.second in
    no_tie (side_of w v.from) (side_of w v.to) (side_of v w.from) (side_of v w.to)
    (cross_of v.from d) (cross_of d v.to) (cross_of d w.to) (cross_of w.from d)
    (cross_of w.from w.to *ℤ (cross_of d v.to +ℤ cross_of v.from d))
    (cross_of v.from v.to *ℤ (cross_of d w.to +ℤ cross_of w.from d))
    (tested_positive _ v_two.0) (tested_positive _ v_two.1) (tested_positive _ w_two.1) (tested_positive _ w_two.0)
    (sides_are d v w) (sides_are d w v) (sides_differ v w) t.apart h

-- the one that isn't in front is behind
pub behind : (d : Point) (v w : Seen) → AreTogether d v w → is_in_front v w ≡ false → is_in_front w v ≡ true
behind d v w t h =
    let before = sym (front_is_before d v w t.first t.second t.apart) ∙ h in
    front_is_before d w v t.second t.first t.back ∙ tie d v w t before

-- in front of one that is in front of a third
pub front_chain : (d : Point) (u v w : Seen) → AreTogether d u v → AreTogether d v w → AreTogether d u w
    → is_in_front u v ≡ true → is_in_front v w ≡ true → is_in_front u w ≡ true
front_chain d u v w uv vw uw h k =
    front_is_before d u w uw.first uw.second uw.apart
    ∙ before_chain (hit_of d u) (hit_of d v) (hit_of d w) (den_up d u uv.first) (den_up d v vw.first)
    (den_up d w vw.second)
    (sym (front_is_before d u v uv.first uv.second uv.apart) ∙ h)
    (sym (front_is_before d v w vw.first vw.second vw.apart) ∙ k)

-- ---- the active list

abbrev pub IsInOrder : List Seen → Type 0
IsInOrder xs = AllPairs (λ v w. is_in_front v w ≡ true) xs

-- one direction spans all of the list and w, and each two are apart
pub record SpanAll (d : Point) (xs : List Seen) (w : Seen) : Type 0 where
  pub pairs : AllPairs (λ u v. AreTogether d u v) xs
  pub with : All (λ v. AreTogether d v w) xs

-- what `partition_point` asks
pub can_search : (d : Point) (xs : List Seen) (w : Seen) → IsInOrder xs → SpanAll d xs w
    → IsPartitionedBy (λ v. is_in_front v w) xs
can_search d xs w order all i j x le within h =
    by_lt i j
    (λ lt. front_chain d (get_or xs i x) (get_or xs j x) w (all.pairs i j x lt within) (all.with j x within)
    (all.with i x (omega arith)) (order i j x lt within) h)
    (λ ge. let e : i ≡ j = omega arith in subst (λ t. is_in_front (get_or xs t x) w ≡ true) (sym e) h)

-- the list with w at the place that was found is in order
pub placed : (d : Point) (xs : List Seen) (w : Seen) (i : ℕ) → IsInOrder xs → SpanAll d xs w → i ≤ length xs
    → IsPartitionPoint (λ v. is_in_front v w ≡ true) (λ v. is_in_front v w ≡ false) xs i → IsInOrder (insert xs i w)
placed d xs w i order all inside point =
    AllPairs-insert (λ v w. is_in_front v w ≡ true) xs i w order inside
    (λ k x lt. point.0 k x (omega arith) lt)
    (λ k x le within. behind d (get_or xs k x) w (all.with k x within) (point.1 k x le within))

-- nothing in the list comes before its first
pub first_is_nearest : (d : Point) (x : Seen) (xs : List Seen) → IsInOrder (x ∷ xs)
    → AllPairs (λ u v. AreTogether d u v) (x ∷ xs)
    → All (λ w. is_before (hit_of d x) (hit_of d w) ≡ true) xs
first_is_nearest d x xs order all k e within =
    let t = all 0 (suc k) e (omega arith) (omega arith) in
    sym (front_is_before d x (get_or xs k e) t.first t.second t.apart) ∙ order 0 (suc k) e (omega arith) (omega arith)
