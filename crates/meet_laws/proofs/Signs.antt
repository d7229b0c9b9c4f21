-- Numbers on different sides of 0.
use Rattle.std.proofs.Common.{◌≡◌, ◌≢◌, refl, sym, ap, ◌∙◌, arith, ℤ, pos, neg_ℤ, ◌*ℤ◌, ◌<ℤ◌, Bool, true, false, ◌⊎◌, inl, inr}
use Rattle.std.specs.Prelude.{◌&&◌, ◌||◌}
use Rattle.std.specs.Ordering.{int_eq}
use Rattle.std.proofs.lemmas.Int.{ints, by_lt_z}
use Rattle.int_laws.proofs.Ring.{neg_times, zero_times, product_swapped}
use Rattle.plane_spec.specs.Segments.{are_opposite}
use Rattle.meet_laws.specs.Stretches.{is_zero_between}
use Rattle.meet_laws.proofs.Values.{HaveOneSign, one_sign}

-- only the signs count
pub apart_alike : (s t x y : ℤ) → HaveOneSign s x → HaveOneSign t y → is_zero_between s t ≡ is_zero_between x y
apart_alike s t x y h i = rw (h.above, h.below, i.above, i.below) refl

pub opposite_alike : (s t x y : ℤ) → HaveOneSign s x → HaveOneSign t y → are_opposite s t ≡ are_opposite x y
opposite_alike s t x y h i = rw (h.above, h.below, i.above, i.below) refl

apart_turned : (s t : ℤ) → is_zero_between (neg_ℤ s) (neg_ℤ t) ≡ is_zero_between s t
apart_turned s t = grind (arith, ints)

pub opposite_turned : (s t : ℤ) → are_opposite (neg_ℤ s) (neg_ℤ t) ≡ are_opposite s t
opposite_turned s t = grind (arith, ints)

-- a number that isn't 0
abbrev pub IsNonzero : ℤ → Type 0
IsNonzero z = (z <ℤ pos 0) ⊎ (pos 0 <ℤ z)

times_positive : (c s : ℤ) → pos 0 <ℤ c → HaveOneSign (c *ℤ s) s
times_positive c s up =
    one_sign (c *ℤ s) s (pos 1) c (omega (arith, ints)) (omega (arith, ints))
    (let e = product_swapped c s in omega (arith, ints, e))

-- a factor that isn't 0 changes nothing
pub apart_scaled : (c s t : ℤ) → IsNonzero c → is_zero_between (c *ℤ s) (c *ℤ t) ≡ is_zero_between s t
apart_scaled c s t (inr up) = apart_alike (c *ℤ s) (c *ℤ t) s t (times_positive c s up) (times_positive c t up)
apart_scaled c s t (inl down) =
    let up : pos 0 <ℤ neg_ℤ c = omega (arith, ints) in
    sym (apart_turned (c *ℤ s) (c *ℤ t))
    ∙ ap (λ x. is_zero_between x (neg_ℤ (c *ℤ t))) (sym (neg_times c s))
    ∙ ap (λ x. is_zero_between (neg_ℤ c *ℤ s) x) (sym (neg_times c t))
    ∙ apart_alike (neg_ℤ c *ℤ s) (neg_ℤ c *ℤ t) s t (times_positive (neg_ℤ c) s up) (times_positive (neg_ℤ c) t up)

apart_of_nothing : (s t : ℤ) → is_zero_between (pos 0 *ℤ s) (pos 0 *ℤ t) ≡ true
apart_of_nothing s t = rw (zero_times s, zero_times t) refl

pub by_zero : (c : ℤ) → (c ≡ pos 0) ⊎ IsNonzero c
by_zero c = by_lt_z c (pos 0) (λ p. inr (inl p))
    (λ q. by_lt_z (pos 0) c (λ p. inr (inr p)) (λ r. inl (omega (arith, ints))))

pub nonzero : (c : ℤ) → c ≢ pos 0 → IsNonzero c
nonzero c apart = by (by_zero c)
  where
    by : (c ≡ pos 0) ⊎ IsNonzero c → IsNonzero c
    by (inr h) = h
    by (inl e) = absurd (apart e)

and_same : (x : Bool) → x && x ≡ x
and_same true = refl
and_same false = refl

and_true : (x : Bool) → x && true ≡ x
and_true true = refl
and_true false = refl

-- of two factors, one of which isn't 0
pub apart_in_both : (c d s t : ℤ) → (IsNonzero c ⊎ IsNonzero d)
    → (is_zero_between (c *ℤ s) (c *ℤ t) && is_zero_between (d *ℤ s) (d *ℤ t)) ≡ is_zero_between s t
apart_in_both c d s t some = by_first c d s t some (by_zero c) (by_zero d)
  where
    by_first : (c d s t : ℤ) → (IsNonzero c ⊎ IsNonzero d) → ((c ≡ pos 0) ⊎ IsNonzero c) → ((d ≡ pos 0) ⊎ IsNonzero d)
        → (is_zero_between (c *ℤ s) (c *ℤ t) && is_zero_between (d *ℤ s) (d *ℤ t)) ≡ is_zero_between s t
    by_first c d s t some (inr h) (inr i) = rw (apart_scaled c s t h, apart_scaled d s t i)
        (and_same (is_zero_between s t))
    by_first c d s t some (inr h) (inl e) = rw (apart_scaled c s t h, e, apart_of_nothing s t)
        (and_true (is_zero_between s t))
    by_first c d s t some (inl e) (inr i) = rw (e, apart_of_nothing s t, apart_scaled d s t i) refl
    by_first c d s t (inl h) (inl e) (inl f) = absurd (none c h e)
      where
        none : (c : ℤ) → IsNonzero c → c ≡ pos 0 → ⊥
        none c (inl h) e = omega (arith, ints)
        none c (inr h) e = omega (arith, ints)
    by_first c d s t (inr h) (inl e) (inl f) = absurd (none d h f)
      where
        none : (c : ℤ) → IsNonzero c → c ≡ pos 0 → ⊥
        none c (inl h) e = omega (arith, ints)
        none c (inr h) e = omega (arith, ints)

-- the tests of two segments, by the signs of where each has its ends on the other's line
pub touch_by_signs : (v w s t : ℤ) → (v ≡ pos 0 → w ≡ pos 0 → ⊥) → (s ≡ pos 0 → t ≡ pos 0 → ⊥) →
    ((are_opposite s t && are_opposite v w)
    || (((int_eq v (pos 0) && is_zero_between s t) || (int_eq w (pos 0) && is_zero_between s t))
    || ((int_eq s (pos 0) && is_zero_between v w) || (int_eq t (pos 0) && is_zero_between v w))))
    ≡ (is_zero_between v w && is_zero_between s t)
touch_by_signs v w s t h i = grind (arith, ints)
