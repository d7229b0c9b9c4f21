-- What fractions are worth, and the signs of their differences.
use Rattle.std.proofs.Common.{◌≡◌, sym, ap, ◌∙◌, subst, arith, ℤ, pos, ◌-ℤ◌, ◌*ℤ◌, ◌≤ℤ◌}
use Rattle.std.specs.Prelude.{int_lt}
use Rattle.std.specs.Ordering.{int_eq}
use Rattle.std.proofs.lemmas.Int.{ints}
use Rattle.int_laws.proofs.Ring.{zero_times}
use Rattle.int_laws.proofs.Signs.{positive_product}
use Rattle.int_laws.proofs.Tests.{same_test}
use Rattle.plane_spec.specs.Fractions.{Fraction, is_before}
use Rattle.plane_spec.specs.RPoints.{minus, times}
use Rattle.meet_laws.specs.Stretches.{HasValue}
use Rattle.meet_laws.proofs.Identities.{minus_scaled, minus_gathered, times_scaled}

-- ---- signs

-- both are positive, both are 0, or both are negative
pub record HaveOneSign (x y : ℤ) : Type 0 where
  pub above : int_lt (pos 0) x ≡ int_lt (pos 0) y
  pub below : int_lt x (pos 0) ≡ int_lt y (pos 0)

pub zero_tested : (x y : ℤ) → HaveOneSign x y → int_eq x (pos 0) ≡ int_eq y (pos 0)
zero_tested x y h = let a = h.above in let b = h.below in grind (arith, ints)

above_scaled : (x a : ℤ) → pos 1 ≤ℤ a → int_lt (pos 0) (x *ℤ a) ≡ int_lt (pos 0) x
above_scaled x a up = ap (λ t. int_lt t (x *ℤ a)) (sym (zero_times a)) ∙ same_test (pos 0) x a up

below_scaled : (x a : ℤ) → pos 1 ≤ℤ a → int_lt (x *ℤ a) (pos 0) ≡ int_lt x (pos 0)
below_scaled x a up = ap (λ t. int_lt (x *ℤ a) t) (sym (zero_times a)) ∙ same_test x (pos 0) a up

-- numbers of which multiples by positive numbers are equal have one sign
pub one_sign : (x y a b : ℤ) → pos 1 ≤ℤ a → pos 1 ≤ℤ b → x *ℤ a ≡ y *ℤ b → HaveOneSign x y
one_sign x y a b a_up b_up e = record {
  above = sym (above_scaled x a a_up) ∙ ap (λ t. int_lt (pos 0) t) e ∙ above_scaled y b b_up;
  below = sym (below_scaled x a a_up) ∙ ap (λ t. int_lt t (pos 0)) e ∙ below_scaled y b b_up;
}

pub product_up : (a b : ℤ) → pos 1 ≤ℤ a → pos 1 ≤ℤ b → pos 1 ≤ℤ (a *ℤ b)
product_up a b h k = let e = positive_product a b (omega (arith, ints)) (omega (arith, ints)) in omega (arith, ints)

-- ---- fractions

-- the same value, its numerator written otherwise
pub value_as : (f : Fraction) (n k m : ℤ) → n ≡ k → HasValue f n m → HasValue f k m
value_as f n k m e h = subst (λ t. HasValue f t m) e h

-- the value of a difference and of a product
pub minus_value : (f g : Fraction) (n m k l : ℤ) → HasValue f n m → HasValue g k l
    → HasValue (minus f g) (n *ℤ l -ℤ k *ℤ m) (m *ℤ l)
minus_value f g n m k l h i = record {
  part = product_up f.den g.den h.part i.part;
  over = product_up m l h.over i.over;
  equal = minus_scaled f.num g.num f.den g.den m l
      ∙ ap (λ t. t *ℤ (g.den *ℤ l) -ℤ (g.num *ℤ l) *ℤ (f.den *ℤ m)) h.equal
      ∙ ap (λ t. (n *ℤ f.den) *ℤ (g.den *ℤ l) -ℤ t *ℤ (f.den *ℤ m)) i.equal
      ∙ minus_gathered n k f.den g.den m l;
}

pub times_value : (f g : Fraction) (n m k l : ℤ) → HasValue f n m → HasValue g k l
    → HasValue (times f g) (n *ℤ k) (m *ℤ l)
times_value f g n m k l h i = record {
  part = product_up f.den g.den h.part i.part;
  over = product_up m l h.over i.over;
  equal = times_scaled f.num g.num m l
      ∙ ap (λ t. t *ℤ (g.num *ℤ l)) h.equal
      ∙ ap (λ t. (n *ℤ f.den) *ℤ t) i.equal
      ∙ sym (times_scaled n k f.den g.den);
}

-- a numerator has the sign of the value
pub sign_of_value : (f : Fraction) (n m : ℤ) → HasValue f n m → HaveOneSign f.num n
sign_of_value f n m h = one_sign f.num n m f.den h.over h.part h.equal

before_is : (f g : Fraction) → is_before f g ≡ int_lt (minus f g).num (pos 0)
before_is f g = grind (arith, ints)

after_is : (f g : Fraction) → is_before g f ≡ int_lt (pos 0) (minus f g).num
after_is f g = grind (arith, ints)

-- the order of fractions is that of their values
pub before_by_value : (f g : Fraction) (n m k l : ℤ) → HasValue f n m → HasValue g k l
    → is_before f g ≡ int_lt (n *ℤ l -ℤ k *ℤ m) (pos 0)
before_by_value f g n m k l h i = before_is f g ∙ (sign_of_value (minus f g) _ _ (minus_value f g n m k l h i)).below

pub after_by_value : (f g : Fraction) (n m k l : ℤ) → HasValue f n m → HasValue g k l
    → is_before g f ≡ int_lt (pos 0) (n *ℤ l -ℤ k *ℤ m)
after_by_value f g n m k l h i = after_is f g ∙ (sign_of_value (minus f g) _ _ (minus_value f g n m k l h i)).above
