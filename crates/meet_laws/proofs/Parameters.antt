-- Parameters on a line: which points they lead to, and in which order.
use Rattle.std.proofs.Common.{◌≡◌, sym, ap, ◌∙◌, arith, ℤ, pos, ◌+ℤ◌, ◌-ℤ◌, ◌*ℤ◌, ◌≤ℤ◌, ◌⊎◌, inl, inr}
use Rattle.std.proofs.lemmas.Int.{ints}
use Rattle.int_laws.proofs.Ring.{zero_times, product_turned, minus_times, product_swapped}
use Rattle.int_laws.proofs.Signs.{positive_product, opposite_product, not_negative_product, not_positive_factor, zero_factor}
use Rattle.plane_spec.specs.declared.Point.{Point}
use Rattle.plane_spec.specs.Fractions.{Fraction, RPoint}
use Rattle.meet_laws.specs.Stretches.{HasValue, IsAt, gap}
use Rattle.meet_laws.proofs.Identities.{steps_apart, over_one, value_over}
use Rattle.meet_laws.proofs.Signs.{IsNonzero}
use Rattle.meet_laws.proofs.Parallel.{nothing_times}

-- two parameters that lead to one coordinate have one value
pub one_parameter : (f : Fraction) (p d n m k l : ℤ) → HasValue f (p *ℤ m +ℤ n *ℤ d) m
    → HasValue f (p *ℤ l +ℤ k *ℤ d) l → IsNonzero d → n *ℤ l ≡ k *ℤ m
one_parameter f p d n m k l h i some =
    let a = p *ℤ m +ℤ n *ℤ d in
    let b = p *ℤ l +ℤ k *ℤ d in
    let same : (a *ℤ f.den) *ℤ l ≡ (b *ℤ f.den) *ℤ m = ap (λ z. z *ℤ l) (sym h.equal) ∙ product_turned f.num m l
    ∙ ap (λ z. z *ℤ m) i.equal in
    let flat : (a *ℤ l -ℤ b *ℤ m) *ℤ f.den ≡ pos 0 = sym (over_one a b f.den m l) ∙ (omega (arith, ints)) in
    let none : a *ℤ l -ℤ b *ℤ m ≡ pos 0 = zero_factor _ f.den flat (let up = h.part in omega (arith, ints)) in
    let steps : n *ℤ l -ℤ k *ℤ m ≡ pos 0 = nothing_times _ d (sym (steps_apart p d n m k l) ∙ none) some in
    omega (arith, ints)

-- a parameter of the same value leads to the same coordinate
pub value_moved : (g : Fraction) (p d n m k l : ℤ) → pos 1 ≤ℤ m → n *ℤ l ≡ k *ℤ m → HasValue g (p *ℤ l +ℤ k *ℤ d) l
    → HasValue g (p *ℤ m +ℤ n *ℤ d) m
value_moved g p d n m k l up same h =
    let a = p *ℤ m +ℤ n *ℤ d in
    let b = p *ℤ l +ℤ k *ℤ d in
    let apart : b *ℤ m -ℤ a *ℤ l ≡ (k *ℤ m -ℤ n *ℤ l) *ℤ d = steps_apart p d k l n m in
    let none : k *ℤ m -ℤ n *ℤ l ≡ pos 0 = omega (arith, ints) in
    let flat : (g.num *ℤ m -ℤ a *ℤ g.den) *ℤ l ≡ pos 0 =
    value_over g.num a g.den m l
    ∙ ap (λ z. z *ℤ m -ℤ (a *ℤ g.den) *ℤ l) h.equal
    ∙ over_one b a g.den l m
    ∙ ap (λ z. z *ℤ g.den) (apart ∙ ap (λ z. z *ℤ d) none ∙ zero_times d)
    ∙ zero_times g.den in
    let value : g.num *ℤ m -ℤ a *ℤ g.den ≡ pos 0 = zero_factor _ l flat (let over = h.over in omega (arith, ints)) in
    record { part = h.part; over = up; equal = omega (arith, ints) }

-- a parameter that leads to a point in one coordinate leads to the point
pub at_by_x : (r : RPoint) (p d : Point) (n m k l : ℤ) → IsAt r p d k l → IsNonzero d.x
    → HasValue r.x (p.x *ℤ m +ℤ n *ℤ d.x) m → IsAt r p d n m
at_by_x r p d n m k l h some value =
    let same = one_parameter r.x p.x d.x n m k l value h.x some in
    record { x = value; y = value_moved r.y p.y d.y n m k l value.over same h.y }

pub at_by_y : (r : RPoint) (p d : Point) (n m k l : ℤ) → IsAt r p d k l → IsNonzero d.y
    → HasValue r.y (p.y *ℤ m +ℤ n *ℤ d.y) m → IsAt r p d n m
at_by_y r p d n m k l h some value =
    let same = one_parameter r.y p.y d.y n m k l value h.y some in
    record { x = value_moved r.x p.x d.x n m k l value.over same h.x; y = value }

-- ---- order

same_parameter : (r : RPoint) (p d : Point) (n m k l : ℤ) → IsAt r p d n m → IsAt r p d k l
    → IsNonzero d.x ⊎ IsNonzero d.y → n *ℤ l ≡ k *ℤ m
same_parameter r p d n m k l h i (inl some) = one_parameter r.x p.x d.x n m k l h.x i.x some
same_parameter r p d n m k l h i (inr some) = one_parameter r.y p.y d.y n m k l h.y i.y some

-- a point that isn't ahead by one parameter isn't by another
pub not_ahead : (r : RPoint) (p d : Point) (n m k l : ℤ) → IsAt r p d n m → IsAt r p d k l
    → IsNonzero d.x ⊎ IsNonzero d.y → k ≤ℤ pos 0 → n ≤ℤ pos 0
not_ahead r p d n m k l h i some low =
    let same = same_parameter r p d n m k l h i some in
    let m_up = h.x.over in
    let l_up = i.x.over in
    let e = opposite_product k m low (omega (arith, ints)) in
    not_positive_factor n l (omega (arith, ints)) (omega (arith, ints))

-- a point that is ahead by at least d by one parameter is by another
pub one_ahead : (r : RPoint) (p d : Point) (n m k l : ℤ) → IsAt r p d n m → IsAt r p d k l
    → IsNonzero d.x ⊎ IsNonzero d.y → l ≤ℤ k → m ≤ℤ n
one_ahead r p d n m k l h i some high =
    let same = same_parameter r p d n m k l h i some in
    let m_up = h.x.over in
    let l_up = i.x.over in
    let e = minus_times m n l in
    let f = not_negative_product (k -ℤ l) m (omega (arith, ints)) (omega (arith, ints)) in
    let g = minus_times k l m in
    let s = product_swapped l m in
    let low : (m -ℤ n) ≤ℤ pos 0 = not_positive_factor (m -ℤ n) l (omega (arith, ints)) (omega (arith, ints)) in
    omega (arith, ints)

pub gap_up : (n m k l : ℤ) → pos 1 ≤ℤ m → pos 1 ≤ℤ l → n ≤ℤ pos 0 → l ≤ℤ k → pos 1 ≤ℤ gap n m k l
gap_up n m k l m_up l_up low high =
    let e = positive_product k m (omega (arith, ints)) (omega (arith, ints)) in
    let f = opposite_product n l low (omega (arith, ints)) in
    omega (arith, ints)
