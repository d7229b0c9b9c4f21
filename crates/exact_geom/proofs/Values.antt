-- Fractions of one value have one form in lowest terms.
use Rattle.std.proofs.Common.{◌≡◌, ℕ, suc, ◌*◌, ◌/◌, ◌<◌, refl, sym, ◌∙◌, ap, subst, arith, Bool, true, false, ℤ, pos, neg_ℤ, ◌*ℤ◌, ◌≤ℤ◌, ◌↔◌}
use Prim.Native.Nat.{◌∣◌}
use Rattle.std.specs.Prelude.{unsigned_abs, ◌&&◌}
use Rattle.std.proofs.lemmas.Bool.{false≢true}
use Rattle.std.specs.Int.{IsGcd}
use Rattle.std.specs.Ordering.{int_eq}
use Rattle.std.proofs.lemmas.Int.{ints, unsigned_abs-mul}
use Rattle.std.proofs.lemmas.Nat.Gcd.{same_from_IsGcd}
use Rattle.std.proofs.Math.Nat.{div-mul_cancel, div-one, mul-pos, eq_of_mul-eq-mul_right}
use lib.IntN.{negsuc}
use Rattle.int_laws.proofs.Divisors.{coprime_quotients, one_in_lowest}
use Rattle.int_laws.proofs.Ring.{neg_times, product_grouped, product_swapped}
use Rattle.int_laws.proofs.Tests.{tested_equal, equal_tested, agree}
use Rattle.plane_spec.specs.Fractions.{Fraction, divided, reduced, IsReduced, same_value}
use Rattle.exact_geom.proofs.Lowest.{divisor_of, divisor_is_positive, common_divisor_is, divided_natural, quotient_is_positive, size_is_positive}

-- ---- numerator and denominator are multiples of what is left of them

divided_whole : (z : ℤ) (g : ℕ) → g ∣ unsigned_abs z → divided z g *ℤ pos g ≡ z
divided_whole (pos n) g whole = ap (λ t. t *ℤ pos g) (divided_natural n g) ∙ ap pos (div-mul_cancel g whole)
divided_whole (negsuc n) g whole = neg_times (pos (suc n / g)) (pos g) ∙ ap (λ t. neg_ℤ (pos t)) (div-mul_cancel g whole)

pub numerator_is : (f : Fraction) → (reduced f).num *ℤ pos (divisor_of f) ≡ f.num
unfolding reduced
numerator_is f = divided_whole f.num (divisor_of f) (common_divisor_is (unsigned_abs f.num) (unsigned_abs f.den)).0

pub denominator_is : (f : Fraction) → (reduced f).den *ℤ pos (divisor_of f) ≡ f.den
unfolding reduced
denominator_is f = divided_whole f.den (divisor_of f) (common_divisor_is (unsigned_abs f.num) (unsigned_abs f.den)).1

-- ---- reducing keeps the value

pub reduced_keeps_value : (f : Fraction) → same_value f (reduced f) ≡ true
reduced_keeps_value f =
    let n = (reduced f).num in
    let d = (reduced f).den in
    let g = pos (divisor_of f) in
    equal_tested (f.num *ℤ d) (n *ℤ f.den)
    (ap (λ t. t *ℤ d) (sym (numerator_is f)) ∙ product_grouped n g d ∙ ap (λ t. n *ℤ t) (product_swapped g d ∙ denominator_is f))

-- ---- one form for each value

sizes_agree : (f g : Fraction) → f.num *ℤ g.den ≡ g.num *ℤ f.den → unsigned_abs f.num * unsigned_abs g.den ≡ unsigned_abs g.num * unsigned_abs f.den
sizes_agree f g e = sym (unsigned_abs-mul f.num g.den) ∙ ap unsigned_abs e ∙ unsigned_abs-mul g.num f.den

crossed : (p g s h : ℕ) → (p * g) * (s * h) ≡ (p * s) * (g * h)
crossed p g s h = omega arith

crossed_back : (r h q g : ℕ) → (r * h) * (q * g) ≡ (r * q) * (g * h)
crossed_back r h q g = omega arith

-- what is left of the sizes is the same
same_quotients : (a d b e g h : ℕ) → 0 < d → 0 < g → 0 < h → IsGcd a d g → IsGcd b e h → a * e ≡ b * d → (a / g ≡ b / h) × (d / g ≡ e / h)
same_quotients a d b e g h d_some g_some h_some first second same =
    let p = a / g in
    let q = d / g in
    let r = b / h in
    let s = e / h in
    let p_is : p * g ≡ a = div-mul_cancel g first.0 in
    let q_is : q * g ≡ d = div-mul_cancel g first.1 in
    let r_is : r * h ≡ b = div-mul_cancel h second.0 in
    let s_is : s * h ≡ e = div-mul_cancel h second.1 in
    let left : (p * s) * (g * h) ≡ a * e = sym (crossed p g s h) ∙ ap (λ t. t * (s * h)) p_is ∙ ap (λ t. a * t) s_is in
    let right : (r * q) * (g * h) ≡ b * d = sym (crossed_back r h q g) ∙ ap (λ t. t * (q * g)) r_is ∙ ap (λ t. b * t) q_is in
    let equal : p * s ≡ r * q = eq_of_mul-eq-mul_right (g * h) (mul-pos g_some h_some) (p * s) (r * q) (left ∙ same ∙ sym right) in
    one_in_lowest p q r s (quotient_is_positive d g d_some first.1) (coprime_quotients a d g g_some first) (coprime_quotients b e h h_some second) equal

-- a number that isn't negative and one that is don't agree times positive numbers
opposite : (a b : ℕ) (d e : ℤ) → pos 1 ≤ℤ d → pos 1 ≤ℤ e → pos a *ℤ d ≡ negsuc b *ℤ e → ⊥
opposite a b (pos d) (pos e) d_up e_up same =
    let less : 0 < suc b * e = mul-pos (omega arith) (omega (arith, ints)) in
    absurd (omega (arith, ints))
opposite a b (pos d) (negsuc e) d_up e_up same = absurd (omega (arith, ints))
opposite a b (negsuc d) e d_up e_up same = absurd (omega (arith, ints))

divided_positive : (d e : ℤ) (g h : ℕ) → pos 1 ≤ℤ d → pos 1 ≤ℤ e → unsigned_abs d / g ≡ unsigned_abs e / h → divided d g ≡ divided e h
divided_positive (pos d) (pos e) g h d_up e_up sizes = divided_natural d g ∙ ap pos sizes ∙ sym (divided_natural e h)
divided_positive (pos d) (negsuc e) g h d_up e_up sizes = absurd (omega (arith, ints))
divided_positive (negsuc d) e g h d_up e_up sizes = absurd (omega (arith, ints))

-- two numerators over positive denominators, of one value, have one sign
same_divided : (z w d e : ℤ) (g h : ℕ) → pos 1 ≤ℤ d → pos 1 ≤ℤ e → z *ℤ e ≡ w *ℤ d → unsigned_abs z / g ≡ unsigned_abs w / h → divided z g ≡ divided w h
same_divided (pos a) (pos b) d e g h d_up e_up same sizes = divided_natural a g ∙ ap pos sizes ∙ sym (divided_natural b h)
same_divided (negsuc a) (negsuc b) d e g h d_up e_up same sizes = ap (λ t. neg_ℤ (pos t)) sizes
same_divided (pos a) (negsuc b) d e g h d_up e_up same sizes = absurd (opposite a b e d e_up d_up same)
same_divided (negsuc a) (pos b) d e g h d_up e_up same sizes = absurd (opposite b a d e d_up e_up (sym same))

-- fractions of one value have one form in lowest terms
pub same_reduced : (f g : Fraction) → pos 1 ≤ℤ f.den → pos 1 ≤ℤ g.den → same_value f g ≡ true → reduced f ≡ reduced g
unfolding reduced
same_reduced f g f_up g_up same =
    let e : f.num *ℤ g.den ≡ g.num *ℤ f.den = tested_equal (f.num *ℤ g.den) (g.num *ℤ f.den) same in
    let left = same_quotients (unsigned_abs f.num) (unsigned_abs f.den) (unsigned_abs g.num) (unsigned_abs g.den) (divisor_of f) (divisor_of g)
    (size_is_positive f.den f_up) (divisor_is_positive f f_up) (divisor_is_positive g g_up)
    (common_divisor_is (unsigned_abs f.num) (unsigned_abs f.den)) (common_divisor_is (unsigned_abs g.num) (unsigned_abs g.den)) (sizes_agree f g e) in
    let num_is : divided f.num (divisor_of f) ≡ divided g.num (divisor_of g) = same_divided f.num g.num f.den g.den (divisor_of f) (divisor_of g) f_up g_up e left.0 in
    let den_is : divided f.den (divisor_of f) ≡ divided g.den (divisor_of g) = divided_positive f.den g.den (divisor_of f) (divisor_of g) f_up g_up left.1 in
    ap (λ n. record { num = n; den = divided f.den (divisor_of f) }) num_is ∙ ap (λ d. record { num = divided g.num (divisor_of g); den = d }) den_is

-- ---- what is in lowest terms already

divided_by_one : (z : ℤ) → divided z 1 ≡ z
divided_by_one (pos n) = divided_natural n 1 ∙ ap pos (div-one n)
divided_by_one (negsuc n) = ap (λ t. neg_ℤ (pos t)) (div-one (suc n))

-- reducing changes nothing in lowest terms
pub reduced_again : (f : Fraction) → IsReduced f → reduced f ≡ f
unfolding reduced
reduced_again f h =
    let one : divisor_of f ≡ 1 = same_from_IsGcd (unsigned_abs f.num) (unsigned_abs f.den) (divisor_of f) 1 (common_divisor_is (unsigned_abs f.num) (unsigned_abs f.den)) h.lowest in
    ap (λ g. record { num = divided f.num g; den = divided f.den g }) one
    ∙ ap (λ n. record { num = n; den = divided f.den 1 }) (divided_by_one f.num)
    ∙ ap (λ d. record { num = f.num; den = d }) (divided_by_one f.den)

-- two fractions in lowest terms are the same exactly where their values are
pub equal_where_values_are : (f g : Fraction) → IsReduced f → IsReduced g → (f ≡ g) ↔ (same_value f g ≡ true)
equal_where_values_are f g f_low g_low = (there, back)
  where
    there : f ≡ g → same_value f g ≡ true
    there e = subst (λ t. same_value f t ≡ true) e (equal_tested (f.num *ℤ f.den) (f.num *ℤ f.den) refl)

    back : same_value f g ≡ true → f ≡ g
    back same = sym (reduced_again f f_low) ∙ same_reduced f g f_low.positive g_low.positive same ∙ reduced_again g g_low

-- ---- equality by parts is equality of values

both : (x y : Bool) → x && y ≡ true → (x ≡ true) × (y ≡ true)
both true true h = (refl, refl)
both true false h = absurd (false≢true h)
both false y h = absurd (false≢true h)

pub parts_tell_values : (f g : Fraction) → IsReduced f → IsReduced g → (int_eq f.num g.num && int_eq f.den g.den) ≡ same_value f g
parts_tell_values f g f_low g_low = agree (int_eq f.num g.num && int_eq f.den g.den) (same_value f g) there back
  where
    law : (f ≡ g) ↔ (same_value f g ≡ true)
    law = equal_where_values_are f g f_low g_low

    there : (int_eq f.num g.num && int_eq f.den g.den) ≡ true → same_value f g ≡ true
    there h =
        let parts = both (int_eq f.num g.num) (int_eq f.den g.den) h in
        law.0 (ap (λ n. record { num = n; den = f.den }) (tested_equal f.num g.num parts.0) ∙ ap (λ d. record { num = g.num; den = d }) (tested_equal f.den g.den parts.1))

    back : same_value f g ≡ true → (int_eq f.num g.num && int_eq f.den g.den) ≡ true
    back h =
        let e = law.1 h in
        let first : int_eq f.num g.num ≡ true = equal_tested f.num g.num (ap (λ t. t.num) e) in
        let second : int_eq f.den g.den ≡ true = equal_tested f.den g.den (ap (λ t. t.den) e) in
        ap (λ t. t && int_eq f.den g.den) first ∙ second
