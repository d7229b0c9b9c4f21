-- How large the parts of a point on a ray are.
use Rattle.std.proofs.Common.{◌≡◌, ℤ, ◌^◌, ◌*◌, ◌*ℤ◌, ◌+ℤ◌, ◌≤ℤ◌, pos, true, sym, ap, ◌∙◌, lit≤, arith}
use Rattle.std.proofs.lemmas.Int.{ints}
use Rattle.plane_spec.specs.declared.Point.{Point}
use Rattle.plane_spec.specs.Vectors.{InRange, IsDirection, IsWithin}
use Rattle.plane_spec.specs.Fractions.{Fraction, reduced, same_value, shifted, along}
use Rattle.int_laws.proofs.Ring.{product_turned, sum_times}
use Rattle.int_laws.proofs.Tests.{tested_equal, equal_tested}
use Rattle.exact_geom.specs.Parts.{HasPartsWithin, HasCoordinatesWithin}
use Rattle.exact_geom.proofs.Bounds.{product_within}
use Rattle.exact_geom.proofs.Lowest.{within_more, reduced_no_larger, reduced_is_reduced}
use Rattle.exact_geom.proofs.Values.{reduced_keeps_value, same_reduced}

sum_within : (a b : ℤ) → IsWithin (pos (100000 * 10 ^ 12)) a → IsWithin (pos (10 ^ 12 * 400000)) b → IsWithin (pos (10 ^ 18)) (a +ℤ b)
sum_within a b h k = record { low = omega (arith, ints); high = omega (arith, ints) }

shifted_within : (z d : ℤ) (t : Fraction) → IsWithin (pos 100000) z → IsWithin (pos 400000) d → HasPartsWithin (pos (10 ^ 12)) t → HasPartsWithin (pos (10 ^ 18)) (shifted z d t)
shifted_within z d t z_in d_in t_in =
    reduced_no_larger (10 ^ 18) (record { num = z *ℤ t.den +ℤ t.num *ℤ d; den = t.den })
    (record {
      num = sum_within (z *ℤ t.den) (t.num *ℤ d) (product_within 100000 (10 ^ 12) z t.den z_in t_in.den) (product_within (10 ^ 12) 400000 t.num d t_in.num d_in);
      den = within_more (10 ^ 12) (10 ^ 18) t.den (lit≤ tt) t_in.den;
    })

-- after a step with parts of at most 10^12 in size, from a point in range, no part is above 10^18
pub along_within : (p d : Point) (t : Fraction) → InRange p → IsDirection d → HasPartsWithin (pos (10 ^ 12)) t → HasCoordinatesWithin (pos (10 ^ 18)) (along p d t)
unfolding along
along_within p d t p_in d_in t_in = record { x = shifted_within p.x d.x t p_in.x d_in.x t_in; y = shifted_within p.y d.y t p_in.y d_in.y t_in }

-- ---- what it depends on

moved_alike : (z d : ℤ) (s t : Fraction) → s.num *ℤ t.den ≡ t.num *ℤ s.den
    → (z *ℤ s.den +ℤ s.num *ℤ d) *ℤ t.den ≡ (z *ℤ t.den +ℤ t.num *ℤ d) *ℤ s.den
moved_alike z d s t e =
    sum_times (z *ℤ s.den) (s.num *ℤ d) t.den
    ∙ ap (λ u. u +ℤ (s.num *ℤ d) *ℤ t.den) (product_turned z s.den t.den)
    ∙ ap (λ u. (z *ℤ t.den) *ℤ s.den +ℤ u) (product_turned s.num d t.den ∙ ap (λ u. u *ℤ d) e ∙ product_turned t.num s.den d)
    ∙ sym (sum_times (z *ℤ t.den) (t.num *ℤ d) s.den)

shifted_alike : (z d : ℤ) (s t : Fraction) → pos 1 ≤ℤ s.den → pos 1 ≤ℤ t.den → same_value s t ≡ true → shifted z d s ≡ shifted z d t
shifted_alike z d s t s_up t_up same =
    same_reduced (record { num = z *ℤ s.den +ℤ s.num *ℤ d; den = s.den }) (record { num = z *ℤ t.den +ℤ t.num *ℤ d; den = t.den }) s_up t_up
    (equal_tested _ _ (moved_alike z d s t (tested_equal (s.num *ℤ t.den) (t.num *ℤ s.den) same)))

-- a point on a ray depends on the value of the step alone
pub along_alike : (p d : Point) (s t : Fraction) → pos 1 ≤ℤ s.den → pos 1 ≤ℤ t.den → same_value s t ≡ true → along p d s ≡ along p d t
unfolding along
along_alike p d s t s_up t_up same =
    let x = shifted_alike p.x d.x s t s_up t_up same in
    let y = shifted_alike p.y d.y s t s_up t_up same in
    ap (λ u. record { x = u; y = shifted p.y d.y s }) x ∙ ap (λ u. record { x = shifted p.x d.x t; y = u }) y

-- so the step may be reduced before
pub along_reduced : (p d : Point) (t : Fraction) → pos 1 ≤ℤ t.den → along p d (reduced t) ≡ along p d t
along_reduced p d t t_up = sym (along_alike p d t (reduced t) t_up (reduced_is_reduced t t_up).positive (reduced_keeps_value t))
