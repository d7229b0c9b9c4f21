-- Where each line has the other's ends on different sides, told by comparing fractions.
use Rattle.std.proofs.Common.{◌≡◌, ap, ◌∙◌, arith, ℤ, pos, neg_ℤ, ◌-ℤ◌, ◌*ℤ◌, ◌≤ℤ◌, ◌<ℤ◌}
use Rattle.std.specs.Prelude.{not, ◌&&◌, int_lt, int_le}
use Rattle.std.proofs.lemmas.Int.{ints}
use Rattle.int_laws.proofs.Ring.{neg_times, times_neg, product_swapped}
use Rattle.int_laws.proofs.Signs.{positive_product, not_positive_product, not_negative_product}
use Rattle.meet_laws.specs.Stretches.{is_zero_between, gap, is_between_parameters, is_between_parameters_turned}
use Rattle.meet_laws.proofs.Identities.{both_ahead}

-- the second isn't above 0 where the first is at most 0
apart_in_order : (v w : ℤ) → (v ≤ℤ pos 0 → pos 0 ≤ℤ w → ⊥)
    → is_zero_between v w ≡ (not (int_lt v (pos 0)) && not (int_lt (pos 0) w))
apart_in_order v w h = grind (arith, ints)

less_as_minus : (x y : ℤ) → not (int_lt (x -ℤ y) (pos 0)) ≡ int_le y x
less_as_minus x y = grind (arith, ints)

more_as_minus : (x y : ℤ) → not (int_lt (pos 0) (x -ℤ y)) ≡ int_le x y
more_as_minus x y = grind (arith, ints)

in_order : (c t n m k l : ℤ) → pos 0 <ℤ c → pos 1 ≤ℤ m → pos 1 ≤ℤ l → pos 1 ≤ℤ gap n m k l
    → (t *ℤ m -ℤ n *ℤ c) ≤ℤ pos 0 → pos 0 ≤ℤ (t *ℤ l -ℤ k *ℤ c) → ⊥
in_order c t n m k l up m_up l_up more low high =
    let e = both_ahead c t n m k l in
    let f = positive_product c (gap n m k l) up (omega (arith, ints)) in
    let g = not_positive_product (t *ℤ m -ℤ n *ℤ c) l low (omega (arith, ints)) in
    let h = not_negative_product (t *ℤ l -ℤ k *ℤ c) m high (omega (arith, ints)) in
    omega (arith, ints, e, f, g, h)

pub apart_is_within : (c t n m k l : ℤ) → pos 0 <ℤ c → pos 1 ≤ℤ m → pos 1 ≤ℤ l → pos 1 ≤ℤ gap n m k l
    → is_zero_between (t *ℤ m -ℤ n *ℤ c) (t *ℤ l -ℤ k *ℤ c) ≡ is_between_parameters t c n m k l
unfolding is_between_parameters
apart_is_within c t n m k l up m_up l_up more =
    apart_in_order _ _ (in_order c t n m k l up m_up l_up more)
    ∙ ap (λ z. z && not (int_lt (pos 0) (t *ℤ l -ℤ k *ℤ c))) (less_as_minus (t *ℤ m) (n *ℤ c))
    ∙ ap (λ z. int_le (n *ℤ c) (t *ℤ m) && z) (more_as_minus (t *ℤ l) (k *ℤ c))
    ∙ ap (λ z. int_le (n *ℤ c) z && int_le (t *ℤ l) (k *ℤ c)) (product_swapped t m)
    ∙ ap (λ z. int_le (n *ℤ c) (m *ℤ t) && int_le z (k *ℤ c)) (product_swapped t l)

turned : (c t n m : ℤ) → t *ℤ m -ℤ n *ℤ c ≡ neg_ℤ (neg_ℤ t *ℤ m -ℤ n *ℤ neg_ℤ c)
turned c t n m = let e = neg_times t m in let f = times_neg n c in omega (arith, ints, e, f)

apart_turned : (s t : ℤ) → is_zero_between (neg_ℤ s) (neg_ℤ t) ≡ is_zero_between s t
apart_turned s t = grind (arith, ints)

pub apart_is_within_turned : (c t n m k l : ℤ) → c <ℤ pos 0 → pos 1 ≤ℤ m → pos 1 ≤ℤ l → pos 1 ≤ℤ gap n m k l
    → is_zero_between (t *ℤ m -ℤ n *ℤ c) (t *ℤ l -ℤ k *ℤ c) ≡ is_between_parameters (neg_ℤ t) (neg_ℤ c) n m k l
apart_is_within_turned c t n m k l down m_up l_up more =
    ap (λ z. is_zero_between z (t *ℤ l -ℤ k *ℤ c)) (turned c t n m)
    ∙ ap (λ z. is_zero_between (neg_ℤ (neg_ℤ t *ℤ m -ℤ n *ℤ neg_ℤ c)) z) (turned c t k l)
    ∙ apart_turned (neg_ℤ t *ℤ m -ℤ n *ℤ neg_ℤ c) (neg_ℤ t *ℤ l -ℤ k *ℤ neg_ℤ c)
    ∙ apart_is_within (neg_ℤ c) (neg_ℤ t) n m k l (omega (arith, ints)) m_up l_up more

at_most_turned : (x y : ℤ) → int_le (neg_ℤ x) (neg_ℤ y) ≡ int_le y x
at_most_turned x y = grind (arith, ints)

one_turned : (n m t c : ℤ) → int_le (n *ℤ neg_ℤ c) (m *ℤ neg_ℤ t) ≡ int_le (m *ℤ t) (n *ℤ c)
one_turned n m t c = ap (λ z. int_le z (m *ℤ neg_ℤ t)) (times_neg n c)
    ∙ ap (λ z. int_le (neg_ℤ (n *ℤ c)) z) (times_neg m t) ∙ at_most_turned (n *ℤ c) (m *ℤ t)

pub within_turned : (c t n m k l : ℤ) → is_between_parameters (neg_ℤ t) (neg_ℤ c) n m k l
    ≡ is_between_parameters_turned t c n m k l
unfolding is_between_parameters is_between_parameters_turned
within_turned c t n m k l =
    ap (λ z. z && int_le (l *ℤ neg_ℤ t) (k *ℤ neg_ℤ c)) (one_turned n m t c)
    ∙ ap (λ z. int_le (m *ℤ t) (n *ℤ c) && z) (one_turned l k c t)
