-- Reducing changes no order of values.
use Rattle.std.proofs.Common.{◌≡◌, sym, ◌∙◌, ap, arith, ℤ, pos, ◌*ℤ◌, ◌≤ℤ◌}
use Rattle.std.specs.Prelude.{int_lt}
use Rattle.std.proofs.lemmas.Int.{ints}
use Rattle.std.specs.declared.cmp.Ordering.TheVariants.{Less, Equal, Greater}
use Rattle.std.specs.Prelude.{if◌then◌else◌}
use Rattle.int_laws.proofs.Ring.{product_grouped, product_swapped}
use Rattle.int_laws.proofs.Signs.{positive_product}
use Rattle.int_laws.proofs.Tests.{same_test}
use Rattle.plane_spec.specs.Fractions.{Fraction, reduced, is_before, value_order_of}
use Rattle.exact_geom.proofs.Lowest.{divisor_of, divisor_is_positive}
use Rattle.exact_geom.proofs.Values.{numerator_is, denominator_is}

products_mixed : (a b c d : ℤ) → (a *ℤ b) *ℤ (c *ℤ d) ≡ (a *ℤ c) *ℤ (b *ℤ d)
products_mixed a b c d =
    product_grouped a b (c *ℤ d)
    ∙ ap (λ t. a *ℤ t) (sym (product_grouped b c d) ∙ ap (λ t. t *ℤ d) (product_swapped b c) ∙ product_grouped c b d)
    ∙ sym (product_grouped a c (b *ℤ d))

factor_is_positive : (m n : ℤ) → pos 1 ≤ℤ m → pos 1 ≤ℤ n → pos 1 ≤ℤ (m *ℤ n)
factor_is_positive m n m_up n_up = let h = positive_product m n (omega (arith, ints)) (omega (arith, ints)) in omega (arith, ints)

pub reduced_keeps_before : (f g : Fraction) → pos 1 ≤ℤ f.den → pos 1 ≤ℤ g.den → is_before (reduced f) (reduced g) ≡ is_before f g
reduced_keeps_before f g f_up g_up =
    let p = reduced f in
    let q = reduced g in
    let m = pos (divisor_of f) in
    let n = pos (divisor_of g) in
    let m_some = divisor_is_positive f f_up in
    let n_some = divisor_is_positive g g_up in
    let left : (p.num *ℤ q.den) *ℤ (m *ℤ n) ≡ f.num *ℤ g.den =
    sym (products_mixed p.num m q.den n) ∙ ap (λ t. t *ℤ (q.den *ℤ n)) (numerator_is f) ∙ ap (λ t. f.num *ℤ t) (denominator_is g) in
    let right : (q.num *ℤ p.den) *ℤ (m *ℤ n) ≡ g.num *ℤ f.den =
    ap (λ t. (q.num *ℤ p.den) *ℤ t) (product_swapped m n)
    ∙ sym (products_mixed q.num n p.den m) ∙ ap (λ t. t *ℤ (p.den *ℤ m)) (numerator_is g) ∙ ap (λ t. g.num *ℤ t) (denominator_is f) in
    sym (same_test (p.num *ℤ q.den) (q.num *ℤ p.den) (m *ℤ n) (factor_is_positive m n (omega (arith, ints)) (omega (arith, ints))))
    ∙ ap (λ t. int_lt t ((q.num *ℤ p.den) *ℤ (m *ℤ n))) left
    ∙ ap (λ t. int_lt (f.num *ℤ g.den) t) right

pub reduced_keeps_order : (f g : Fraction) → pos 1 ≤ℤ f.den → pos 1 ≤ℤ g.den → value_order_of (reduced f) (reduced g) ≡ value_order_of f g
unfolding value_order_of
reduced_keeps_order f g f_up g_up =
    ap (λ t. if t then Less else (if is_before (reduced g) (reduced f) then Greater else Equal)) (reduced_keeps_before f g f_up g_up)
    ∙ ap (λ t. if is_before f g then Less else (if t then Greater else Equal)) (reduced_keeps_before g f g_up f_up)
