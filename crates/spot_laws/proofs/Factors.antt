-- A positive factor on both sides keeps the order, and tests of it.
use Rattle.std.proofs.Common.{◌≡◌, ◌∙◌, ℤ, pos, ◌*ℤ◌, ◌≤ℤ◌, ◌<ℤ◌, arith, sym, ap, subst}
use Rattle.std.specs.Prelude.{int_lt, int_le}
use Rattle.std.proofs.lemmas.Int.{ints, by_lt_z}
use Rattle.int_laws.proofs.Ring.{times_zero, product_swapped, product_grouped}
use Rattle.int_laws.proofs.Signs.{positive_product, opposite_product}
use Rattle.box_laws.proofs.Touching.{order_stays}
use Rattle.box_laws.proofs.Crossing.{strictly_stays}

-- what is positive isn't negative
pub not_negative : (z : ℤ) → pos 0 <ℤ z → pos 0 ≤ℤ z
not_negative z h = omega (arith, ints)

-- what is at least 1 is positive
pub from_one : (z : ℤ) → pos 1 ≤ℤ z → pos 0 <ℤ z
from_one z h = omega (arith, ints)

-- what is positive is at least 1
pub to_one : (z : ℤ) → pos 0 <ℤ z → pos 1 ≤ℤ z
to_one z h = omega (arith, ints)

-- the outer factors of three, exchanged
pub outer_exchanged : (x y z : ℤ) → x *ℤ (y *ℤ z) ≡ z *ℤ (y *ℤ x)
outer_exchanged x y z =
    sym (product_grouped x y z) ∙ product_swapped (x *ℤ y) z ∙ ap (λ t. z *ℤ t) (product_swapped x y)

-- a product of one that isn't negative with one that isn't positive
pub falling_product : (n d : ℤ) → pos 0 ≤ℤ n → d ≤ℤ pos 0 → (n *ℤ d) ≤ℤ pos 0
falling_product n d h k = subst (λ z. z ≤ℤ pos 0) (product_swapped d n) (opposite_product d n k h)

-- ---- a factor taken away

-- from an order
pub cancel_le : (d a b : ℤ) → pos 0 <ℤ d → (d *ℤ a) ≤ℤ (d *ℤ b) → a ≤ℤ b
cancel_le d a b h k =
    by_lt_z b a (λ m. let g = strictly_stays d b a h m in absurd (apart (d *ℤ a) (d *ℤ b) k g)) (λ m. m)
  where
    apart : (s t : ℤ) → s ≤ℤ t → t <ℤ s → ⊥
    apart s t h k = omega (arith, ints)

-- from a strict order
pub cancel_lt : (d a b : ℤ) → pos 0 <ℤ d → (d *ℤ a) <ℤ (d *ℤ b) → a <ℤ b
cancel_lt d a b h k =
    by_lt_z a b (λ m. m) (λ m. let g = order_stays d b a (not_negative d h) m in absurd (apart (d *ℤ a) (d *ℤ b) k g))
  where
    apart : (s t : ℤ) → s <ℤ t → t ≤ℤ s → ⊥
    apart s t h k = omega (arith, ints)

-- from an equation
pub same_factor : (d a b : ℤ) → pos 0 <ℤ d → d *ℤ a ≡ d *ℤ b → a ≡ b
same_factor d a b h e = both (cancel_le d a b h (at_most _ _ e)) (cancel_le d b a h (at_most _ _ (sym e)))
  where
    at_most : (s t : ℤ) → s ≡ t → s ≤ℤ t
    at_most s t e = omega (arith, ints)

    both : {a b : ℤ} → a ≤ℤ b → b ≤ℤ a → a ≡ b
    both h k = omega (arith, ints)

-- ---- tests

-- a test of the order
pub same_order : (k a b : ℤ) → pos 0 <ℤ k → int_le (k *ℤ a) (k *ℤ b) ≡ int_le a b
same_order k a b h =
    by_lt_z b a (λ m. let g = strictly_stays k b a h m in both_false _ _ _ _ g m)
    (λ m. let g = order_stays k a b (not_negative _ h) m in both_true _ _ _ _ g m)
  where
    both_false : (s t a b : ℤ) → t <ℤ s → b <ℤ a → int_le s t ≡ int_le a b
    both_false s t a b h k = grind (arith, ints)

    both_true : (s t a b : ℤ) → s ≤ℤ t → a ≤ℤ b → int_le s t ≡ int_le a b
    both_true s t a b h k = grind (arith, ints)

-- a test of the sign
pub same_sign : (k z : ℤ) → pos 0 <ℤ k → int_lt (pos 0) (k *ℤ z) ≡ int_lt (pos 0) z
same_sign k z h =
    by_lt_z (pos 0) z (λ m. let g = positive_product k z h m in both_true _ _ g m)
    (λ m. let g = subst (λ y. (k *ℤ z) ≤ℤ y) (times_zero k) (order_stays k z (pos 0) (not_negative _ h) m) in
    both_false _ _ g m)
  where
    both_true : (s t : ℤ) → pos 0 <ℤ s → pos 0 <ℤ t → int_lt (pos 0) s ≡ int_lt (pos 0) t
    both_true s t h k = grind (arith, ints)

    both_false : (s t : ℤ) → s ≤ℤ pos 0 → t ≤ℤ pos 0 → int_lt (pos 0) s ≡ int_lt (pos 0) t
    both_false s t h k = grind (arith, ints)

-- ---- m / v and n / w of one value, compared with a whole number

-- which of them the number isn't above
pub low_same : (low m v n w : ℤ) → pos 0 <ℤ v → pos 0 <ℤ w → m *ℤ w ≡ n *ℤ v
    → int_le (low *ℤ v) m ≡ int_le (low *ℤ w) n
low_same low m v n w pv pw h =
    sym (same_order w (low *ℤ v) m pw)
    ∙ ap (λ z. int_le z (w *ℤ m)) (outer_exchanged w low v)
    ∙ ap (λ z. int_le (v *ℤ (low *ℤ w)) z) (product_swapped w m ∙ h ∙ product_swapped n v)
    ∙ same_order v (low *ℤ w) n pv

-- which of them isn't above the number
pub high_same : (high m v n w : ℤ) → pos 0 <ℤ v → pos 0 <ℤ w → m *ℤ w ≡ n *ℤ v
    → int_le m (high *ℤ v) ≡ int_le n (high *ℤ w)
high_same high m v n w pv pw h =
    sym (same_order w m (high *ℤ v) pw)
    ∙ ap (λ z. int_le (w *ℤ m) z) (outer_exchanged w high v)
    ∙ ap (λ z. int_le z (v *ℤ (high *ℤ w))) (product_swapped w m ∙ h ∙ product_swapped n v)
    ∙ same_order v n (high *ℤ w) pv
