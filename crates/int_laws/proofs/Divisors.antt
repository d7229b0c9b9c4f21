-- Greatest common divisors: Euclid's lemma, and what is left after the common divisor is taken out.
use Rattle.std.proofs.Common.{◌≡◌, ℕ, zero, suc, ◌-◌, ◌*◌, ◌/◌, ◌%◌, ◌<◌, refl, sym, ◌∙◌, ap, subst, arith}
use Prim.Native.Nat.{◌∣◌}
use Rattle.std.specs.Int.{IsGcd}
use Rattle.std.proofs.lemmas.Nat.Gcd.{dvd-zero, dvd_antisymm, IsGcd-from_zero, IsGcd-from_mod, IsGcd-swap, same_from_IsGcd}
use Rattle.std.proofs.Math.Nat.{dvd-mod_iff, dvd-mul_left, dvd-mul_right, mod_def, mul-sub, mul-div-mul_left, mul_assoc, mul_comm, mod-lt, eq_of_mul-eq-mul_right, div-mul_cancel, dvd_of_mul-dvd-mul_right, mul-dvd-mul_right, pos_of_dvd_of_pos}

-- ---- Euclid's lemma

-- a common divisor of two numbers is one of the second and the remainder
onto_remainder : (a b g : ℕ) → IsGcd a b g → IsGcd b (a % b) g
onto_remainder a b g h = (h.1, (dvd-mod_iff g h.1).1 h.0, λ d p q. h.2 d ((dvd-mod_iff d p).0 q) p)

remainder_of_multiples : (c a b : ℕ) → 0 < c → (c * a) % (c * b) ≡ c * (a % b)
remainder_of_multiples c a b some =
    mod_def (c * a) (c * b)
    ∙ ap (λ t. c * a - c * b * t) (mul-div-mul_left a b some)
    ∙ ap (λ t. c * a - t) (mul_assoc c b (a / b))
    ∙ sym (mul-sub c a (b * (a / b)))
    ∙ ap (λ t. c * t) (sym (mod_def a b))

scaled_within : (steps a b g c : ℕ) → b < steps → 0 < c → IsGcd a b g → IsGcd (c * a) (c * b) (c * g)
scaled_within zero a b g c few some h = absurd (omega arith)
scaled_within (suc steps) a zero g c few some h =
    let same : a ≡ g = same_from_IsGcd a zero a g (IsGcd-from_zero a zero refl) h in
    subst (λ t. IsGcd (c * a) (c * zero) (c * t)) same (IsGcd-from_zero (c * a) (c * zero) (omega arith))
scaled_within (suc steps) a (suc b) g c few some h =
    let less : a % suc b < suc b = mod-lt a (omega arith) in
    let rest = scaled_within steps (suc b) (a % suc b) g c (omega arith) some (onto_remainder a (suc b) g h) in
    IsGcd-from_mod (c * a) (c * suc b) (c * g)
    (subst (λ t. IsGcd (c * suc b) t (c * g)) (sym (remainder_of_multiples c a (suc b) some)) rest)

-- the greatest common divisor of multiples is the multiple of the greatest common divisor
pub IsGcd-scaled : (a b g c : ℕ) → 0 < c → IsGcd a b g → IsGcd (c * a) (c * b) (c * g)
IsGcd-scaled a b g c some h = scaled_within (suc b) a b g c (omega arith) some h

-- Euclid's lemma: what divides a product and has no divisor in common with one factor divides the other
pub divides_other_factor : (a b c : ℕ) → IsGcd a b 1 → a ∣ b * c → a ∣ c
divides_other_factor a b zero h k = dvd-zero a
divides_other_factor a b (suc c) h k =
    let scaled = IsGcd-scaled a b 1 (suc c) (omega arith) h in
    let one : suc c * 1 ≡ suc c = omega arith in
    subst (λ t. a ∣ t) one (scaled.2 a (dvd-mul_left a (suc c)) (subst (λ t. a ∣ t) (mul_comm b (suc c)) k))

-- ---- lowest terms

divides_all : (n : ℕ) → 1 ∣ n
divides_all n = let e : 1 * n ≡ n = omega arith in subst (λ t. 1 ∣ t) e (dvd-mul_right 1 n)

-- what is left of two numbers after their greatest common divisor has no divisor but 1
pub coprime_quotients : (a b g : ℕ) → 0 < g → IsGcd a b g → IsGcd (a / g) (b / g) 1
coprime_quotients a b g some h = (divides_all (a / g), divides_all (b / g), λ d p q. only_one d p q)
  where
    multiple : (n d : ℕ) → g ∣ n → d ∣ n / g → d * g ∣ n
    multiple n d whole p = subst (λ t. d * g ∣ t) (div-mul_cancel g whole) (mul-dvd-mul_right d p g)

    only_one : (d : ℕ) → d ∣ a / g → d ∣ b / g → d ∣ 1
    only_one d p q =
        let both : d * g ∣ g = h.2 (d * g) (multiple a d h.0 p) (multiple b d h.1 q) in
        let e : g ≡ 1 * g = omega arith in
        dvd_of_mul-dvd-mul_right d {n = 1} some (subst (λ t. d * g ∣ t) e both)

-- two fractions in lowest terms that have one value are one fraction
pub one_in_lowest : (p q r s : ℕ) → 0 < q → IsGcd p q 1 → IsGcd r s 1 → p * s ≡ r * q → (p ≡ r) × (q ≡ s)
one_in_lowest p q r s some first second e =
    let there : q ∣ s = divides_other_factor q p s (IsGcd-swap p q 1 first) (subst (λ t. q ∣ t) (sym e) (dvd-mul_left q r)) in
    let back : s ∣ q = divides_other_factor s r q (IsGcd-swap r s 1 second) (subst (λ t. s ∣ t) e (dvd-mul_left s p)) in
    let same : q ≡ s = dvd_antisymm there back in
    (eq_of_mul-eq-mul_right q some p r (ap (λ t. p * t) same ∙ e), same)

-- the greatest common divisor of a number and a positive one is positive
pub positive_divisor : (a b g : ℕ) → 0 < b → IsGcd a b g → 0 < g
positive_divisor a b g some h = pos_of_dvd_of_pos h.1 some
