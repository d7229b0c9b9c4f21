-- Lines of which one lies before the other in one coordinate don't meet.
use Rattle.std.proofs.Common.{◌≡◌, refl, ap, ◌∙◌, arith, ℤ, pos, neg_ℤ, ◌+ℤ◌, ◌-ℤ◌, ◌*ℤ◌, ◌≤ℤ◌, ◌<ℤ◌, true, ◌⊎◌, inl, inr}
use Rattle.std.proofs.lemmas.Int.{ints, by_lt_z}
use Rattle.int_laws.proofs.Ring.{neg_times, times_neg, zero_times, product_swapped}
use Rattle.int_laws.proofs.Signs.{negative_product, positive_product, not_negative_product, opposite_product}
use Rattle.meet_laws.specs.Stretches.{is_zero_between}
use Rattle.meet_laws.proofs.Identities.{reach_parts, reach_both}
use Rattle.meet_laws.proofs.Signs.{IsNonzero, by_zero, apart_scaled}

-- ---- of two numbers with 0 between them one is at most 0, and one at least 0

one_low : (s t : ℤ) → is_zero_between s t ≡ true → (s ≤ℤ pos 0) ⊎ (t ≤ℤ pos 0)
one_low s t h = by_lt_z (pos 0) s (λ p. by_lt_z (pos 0) t (λ q. absurd (no s t h p q)) (λ q. inr q)) (λ p. inl p)
  where
    no : (s t : ℤ) → is_zero_between s t ≡ true → pos 0 <ℤ s → pos 0 <ℤ t → ⊥
    no s t h p q = grind (arith, ints)

one_high : (s t : ℤ) → is_zero_between s t ≡ true → (pos 0 ≤ℤ s) ⊎ (pos 0 ≤ℤ t)
one_high s t h = by_lt_z s (pos 0) (λ p. by_lt_z t (pos 0) (λ q. absurd (no s t h p q)) (λ q. inr q)) (λ p. inl p)
  where
    no : (s t : ℤ) → is_zero_between s t ≡ true → s <ℤ pos 0 → t <ℤ pos 0 → ⊥
    no s t h p q = grind (arith, ints)

apart_still : (d s t : ℤ) → is_zero_between s t ≡ true → is_zero_between (d *ℤ s) (d *ℤ t) ≡ true
apart_still d s t h = by d s t h (by_zero d)
  where
    by : (d s t : ℤ) → is_zero_between s t ≡ true → (d ≡ pos 0) ⊎ IsNonzero d
        → is_zero_between (d *ℤ s) (d *ℤ t) ≡ true
    by d s t h (inl e) = rw (e, zero_times s, zero_times t) refl
    by d s t h (inr some) = apart_scaled d s t some ∙ h

-- ---- how far one end lies before another

gap_is : (c t u p q d e n m k l : ℤ) → c *ℤ (q -ℤ p) ≡ t *ℤ d +ℤ u *ℤ e
    → c *ℤ ((p *ℤ m +ℤ n *ℤ d) *ℤ l -ℤ (q *ℤ l +ℤ k *ℤ e) *ℤ m)
    ≡ neg_ℤ (l *ℤ (d *ℤ (t *ℤ m -ℤ n *ℤ c)) +ℤ m *ℤ (e *ℤ (u *ℤ l -ℤ k *ℤ neg_ℤ c)))
gap_is c t u p q d e n m k l turns =
    reach_parts c p q d e n m k l
    ∙ ap (λ z. (n *ℤ c) *ℤ (l *ℤ d) -ℤ (m *ℤ l) *ℤ z -ℤ (k *ℤ c) *ℤ (m *ℤ e)) turns
    ∙ reach_both t u d e n m k l c

-- the end of the first line that is at least as far, and that of the second that is at most as far
no_gap : (c g x y m l : ℤ) → c *ℤ g ≡ neg_ℤ (l *ℤ x +ℤ m *ℤ y) → g <ℤ pos 0 → pos 1 ≤ℤ m → pos 1 ≤ℤ l
    → ((pos 0 <ℤ c) × ((x ≤ℤ pos 0) × (y ≤ℤ pos 0))) ⊎ ((c <ℤ pos 0) × ((pos 0 ≤ℤ x) × (pos 0 ≤ℤ y))) → ⊥
no_gap c g x y m l e less m_up l_up (inl h) =
    let a = negative_product g c less h.0 in
    let b = product_swapped g c in
    let f = opposite_product x l h.1.0 (omega (arith, ints)) in
    let f' = product_swapped x l in
    let j = opposite_product y m h.1.1 (omega (arith, ints)) in
    let j' = product_swapped y m in
    omega (arith, ints, e, a, b, f, f', j, j')
no_gap c g x y m l e less m_up l_up (inr h) =
    let a = positive_product (neg_ℤ g) (neg_ℤ c) (omega (arith, ints)) (let c_down = h.0 in omega (arith, ints)) in
    let b = neg_times g (neg_ℤ c) in
    let b' = times_neg g c in
    let b'' = product_swapped g c in
    let f = not_negative_product l x (omega (arith, ints)) h.1.0 in
    let j = not_negative_product m y (omega (arith, ints)) h.1.1 in
    omega (arith, ints, e, a, b, b', b'', f, j)

-- one coordinate of four ends, of which the first two are less than the other two
pub no_meeting : (c t u p q d e n1 m1 n2 m2 n3 m3 n4 m4 : ℤ) → IsNonzero c → c *ℤ (q -ℤ p) ≡ t *ℤ d +ℤ u *ℤ e
    → pos 1 ≤ℤ m1 → pos 1 ≤ℤ m2 → pos 1 ≤ℤ m3 → pos 1 ≤ℤ m4
    → is_zero_between (t *ℤ m1 -ℤ n1 *ℤ c) (t *ℤ m2 -ℤ n2 *ℤ c) ≡ true
    → is_zero_between (u *ℤ m3 -ℤ n3 *ℤ neg_ℤ c) (u *ℤ m4 -ℤ n4 *ℤ neg_ℤ c) ≡ true
    → ((p *ℤ m1 +ℤ n1 *ℤ d) *ℤ m3 -ℤ (q *ℤ m3 +ℤ n3 *ℤ e) *ℤ m1) <ℤ pos 0
    → ((p *ℤ m1 +ℤ n1 *ℤ d) *ℤ m4 -ℤ (q *ℤ m4 +ℤ n4 *ℤ e) *ℤ m1) <ℤ pos 0
    → ((p *ℤ m2 +ℤ n2 *ℤ d) *ℤ m3 -ℤ (q *ℤ m3 +ℤ n3 *ℤ e) *ℤ m2) <ℤ pos 0
    → ((p *ℤ m2 +ℤ n2 *ℤ d) *ℤ m4 -ℤ (q *ℤ m4 +ℤ n4 *ℤ e) *ℤ m2) <ℤ pos 0 → ⊥
no_meeting c t u p q d e n1 m1 n2 m2 n3 m3 n4 m4 some turns up1 up2 up3 up4 across across' g13 g14 g23 g24 =
    by some (one_low _ _ (apart_still d _ _ across)) (one_low _ _ (apart_still e _ _ across'))
    (one_high _ _ (apart_still d _ _ across)) (one_high _ _ (apart_still e _ _ across'))
  where
    by : IsNonzero c
        → ((d *ℤ (t *ℤ m1 -ℤ n1 *ℤ c)) ≤ℤ pos 0) ⊎ ((d *ℤ (t *ℤ m2 -ℤ n2 *ℤ c)) ≤ℤ pos 0)
        → ((e *ℤ (u *ℤ m3 -ℤ n3 *ℤ neg_ℤ c)) ≤ℤ pos 0) ⊎ ((e *ℤ (u *ℤ m4 -ℤ n4 *ℤ neg_ℤ c)) ≤ℤ pos 0)
        → (pos 0 ≤ℤ (d *ℤ (t *ℤ m1 -ℤ n1 *ℤ c))) ⊎ (pos 0 ≤ℤ (d *ℤ (t *ℤ m2 -ℤ n2 *ℤ c)))
        → (pos 0 ≤ℤ (e *ℤ (u *ℤ m3 -ℤ n3 *ℤ neg_ℤ c))) ⊎ (pos 0 ≤ℤ (e *ℤ (u *ℤ m4 -ℤ n4 *ℤ neg_ℤ c))) → ⊥
    by (inr up) (inl x) (inl y) high high' = no_gap c _ _ _ m1 m3 (gap_is c t u p q d e n1 m1 n3 m3 turns) g13 up1 up3
        (inl (up, (x, y)))
    by (inr up) (inl x) (inr y) high high' = no_gap c _ _ _ m1 m4 (gap_is c t u p q d e n1 m1 n4 m4 turns) g14 up1 up4
        (inl (up, (x, y)))
    by (inr up) (inr x) (inl y) high high' = no_gap c _ _ _ m2 m3 (gap_is c t u p q d e n2 m2 n3 m3 turns) g23 up2 up3
        (inl (up, (x, y)))
    by (inr up) (inr x) (inr y) high high' = no_gap c _ _ _ m2 m4 (gap_is c t u p q d e n2 m2 n4 m4 turns) g24 up2 up4
        (inl (up, (x, y)))
    by (inl down) low low' (inl x) (inl y) = no_gap c _ _ _ m1 m3 (gap_is c t u p q d e n1 m1 n3 m3 turns) g13 up1 up3
        (inr (down, (x, y)))
    by (inl down) low low' (inl x) (inr y) = no_gap c _ _ _ m1 m4 (gap_is c t u p q d e n1 m1 n4 m4 turns) g14 up1 up4
        (inr (down, (x, y)))
    by (inl down) low low' (inr x) (inl y) = no_gap c _ _ _ m2 m3 (gap_is c t u p q d e n2 m2 n3 m3 turns) g23 up2 up3
        (inr (down, (x, y)))
    by (inl down) low low' (inr x) (inr y) = no_gap c _ _ _ m2 m4 (gap_is c t u p q d e n2 m2 n4 m4 turns) g24 up2 up4
        (inr (down, (x, y)))
