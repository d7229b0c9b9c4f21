-- The order of points whose coordinates are fractions.
--
-- Values are compared by products across. Multiplied by the third denominator, which is positive, two comparisons
-- in a row speak of the same products, so the order of values is transitive and equal values compare alike. Points
-- are compared by one coordinate and then the other, which keeps both.
use Rattle.std.proofs.Common.{◌≡◌, refl, sym, ◌∙◌, ap, arith, Bool, true, false, ℤ, pos, ◌-ℤ◌, ◌*ℤ◌, ◌≤ℤ◌, ◌<ℤ◌, ◌↔◌}
use Rattle.std.specs.Prelude.{◌&&◌, int_lt, if◌then◌else◌}
use Rattle.std.specs.Ordering.{int_eq, ordering_reverse, ordering_then}
use Rattle.std.specs.Cmp.{then_flip}
use Rattle.std.specs.declared.cmp.Ordering.{Ordering}
use Rattle.std.specs.declared.cmp.Ordering.TheVariants.{Less, Equal, Greater}
use Rattle.std.proofs.lemmas.Int.{ints}
use Rattle.int_laws.proofs.Ring.{product_turned, minus_times}
use Rattle.int_laws.proofs.Signs.{not_negative_product}
use Rattle.int_laws.proofs.Tests.{tested_less, less_tested, tested_equal, equal_tested, smaller_factor, smaller_product, same_test}
use Rattle.plane_spec.specs.Fractions.{Fraction, RPoint, is_before, same_value, same_rpoint, value_order_of}
use Rattle.exact_geom.specs.RPoints.{IsOverPositive, rpoint_order_of}

-- ---- values

-- what is less than something less is less
pub before_transitive : (a b c : Fraction) → pos 1 ≤ℤ a.den → pos 1 ≤ℤ b.den → pos 1 ≤ℤ c.den
    → is_before a b ≡ true → is_before b c ≡ true → is_before a c ≡ true
before_transitive a b c a_up b_up c_up h k =
    let first = smaller_product (a.num *ℤ b.den) (b.num *ℤ a.den) c.den c_up (tested_less _ _ h) in
    let second = smaller_product (b.num *ℤ c.den) (c.num *ℤ b.den) a.den a_up (tested_less _ _ k) in
    let left = product_turned a.num b.den c.den in
    let middle = product_turned b.num a.den c.den in
    let right = product_turned c.num b.den a.den in
    let both : ((a.num *ℤ c.den) *ℤ b.den) <ℤ ((c.num *ℤ a.den) *ℤ b.den) =
    omega (arith, ints, first, second, left, middle, right) in
    less_tested _ _ (smaller_factor (a.num *ℤ c.den) (c.num *ℤ a.den) b.den b_up both)

-- what is not more than something less is less
pub before_follows : (a b c : Fraction) → pos 1 ≤ℤ a.den → pos 1 ≤ℤ b.den → pos 1 ≤ℤ c.den
    → is_before a b ≡ false → is_before a c ≡ true → is_before b c ≡ true
before_follows a b c a_up b_up c_up h k =
    let first = not_negative_product (a.num *ℤ b.den -ℤ b.num *ℤ a.den) c.den (omega (arith, ints, h)) (omega (arith, ints)) in
    let apart = minus_times (a.num *ℤ b.den) (b.num *ℤ a.den) c.den in
    let second = smaller_product (a.num *ℤ c.den) (c.num *ℤ a.den) b.den b_up (tested_less _ _ k) in
    let left = product_turned a.num b.den c.den in
    let middle = product_turned b.num a.den c.den in
    let right = product_turned c.num a.den b.den in
    let both : ((b.num *ℤ c.den) *ℤ a.den) <ℤ ((c.num *ℤ b.den) *ℤ a.den) =
    omega (arith, ints, first, apart, second, left, middle, right) in
    less_tested _ _ (smaller_factor (b.num *ℤ c.den) (c.num *ℤ b.den) a.den a_up both)

-- nothing is less than what is less than it
before_one_way : (a b : Fraction) → is_before a b ≡ true → is_before b a ≡ true → ⊥
before_one_way a b h k =
    let first = tested_less (a.num *ℤ b.den) (b.num *ℤ a.den) h in
    let second = tested_less (b.num *ℤ a.den) (a.num *ℤ b.den) k in
    absurd (omega (arith, ints, first, second))

-- of equal values the same ones are less
after_alike : (a b c : Fraction) → pos 1 ≤ℤ a.den → pos 1 ≤ℤ b.den → a.num *ℤ b.den ≡ b.num *ℤ a.den
    → is_before a c ≡ is_before b c
after_alike a b c a_up b_up e =
    sym (same_test (a.num *ℤ c.den) (c.num *ℤ a.den) b.den b_up)
    ∙ ap (λ t. int_lt t ((c.num *ℤ a.den) *ℤ b.den))
    (product_turned a.num c.den b.den ∙ ap (λ t. t *ℤ c.den) e ∙ product_turned b.num a.den c.den)
    ∙ ap (λ t. int_lt ((b.num *ℤ c.den) *ℤ a.den) t) (product_turned c.num a.den b.den)
    ∙ same_test (b.num *ℤ c.den) (c.num *ℤ b.den) a.den a_up

before_alike : (a b c : Fraction) → pos 1 ≤ℤ a.den → pos 1 ≤ℤ b.den → a.num *ℤ b.den ≡ b.num *ℤ a.den
    → is_before c a ≡ is_before c b
before_alike a b c a_up b_up e =
    sym (same_test (c.num *ℤ a.den) (a.num *ℤ c.den) b.den b_up)
    ∙ ap (λ t. int_lt t ((a.num *ℤ c.den) *ℤ b.den)) (product_turned c.num a.den b.den)
    ∙ ap (λ t. int_lt ((c.num *ℤ b.den) *ℤ a.den) t)
    (product_turned a.num c.den b.den ∙ ap (λ t. t *ℤ c.den) e ∙ product_turned b.num a.den c.den)
    ∙ same_test (c.num *ℤ b.den) (b.num *ℤ c.den) a.den a_up

abbrev order_by : Bool → Bool → Ordering
order_by less more = if less then Less else (if more then Greater else Equal)

by_tests : (f g : Fraction) → value_order_of f g ≡ order_by (is_before f g) (is_before g f)
unfolding value_order_of
by_tests f g = refl

value_reversed : (f g : Fraction) → value_order_of g f ≡ ordering_reverse (value_order_of f g)
value_reversed f g =
    rw (by_tests g f, by_tests f g) (by_cases (is_before f g) (is_before g f) (λ h k. before_one_way f g h k))
  where
    by_cases : (less more : Bool) → (less ≡ true → more ≡ true → ⊥)
        → order_by more less ≡ ordering_reverse (order_by less more)
    by_cases true true never = absurd (never refl refl)
    by_cases true false never = refl
    by_cases false true never = refl
    by_cases false false never = refl

less_is : (f g : Fraction) → value_order_of f g ≡ Less → is_before f g ≡ true
less_is f g h = by_cases (is_before f g) (is_before g f) (sym (by_tests f g) ∙ h)
  where
    by_cases : (less more : Bool) → order_by less more ≡ Less → less ≡ true
    by_cases true more e = refl
    by_cases false true e = cc
    by_cases false false e = cc

is_less : (f g : Fraction) → is_before f g ≡ true → value_order_of f g ≡ Less
is_less f g h = by_tests f g ∙ ap (λ t. order_by t (is_before g f)) h

value_transitive : (a b c : Fraction) → pos 1 ≤ℤ a.den → pos 1 ≤ℤ b.den → pos 1 ≤ℤ c.den
    → value_order_of a b ≡ Less → value_order_of b c ≡ Less → value_order_of a c ≡ Less
value_transitive a b c a_up b_up c_up h k = is_less a c (before_transitive a b c a_up b_up c_up (less_is a b h) (less_is b c k))

-- equal are those of one value
equal_is : (f g : Fraction) → value_order_of f g ≡ Equal → f.num *ℤ g.den ≡ g.num *ℤ f.den
equal_is f g h = by_cases (is_before f g) (is_before g f) refl refl (sym (by_tests f g) ∙ h)
  where
    by_cases : (less more : Bool) → less ≡ is_before f g → more ≡ is_before g f → order_by less more ≡ Equal
        → f.num *ℤ g.den ≡ g.num *ℤ f.den
    by_cases true more d e k = cc
    by_cases false true d e k = cc
    by_cases false false d e k = omega (arith, ints, d, e)

is_equal : (f g : Fraction) → f.num *ℤ g.den ≡ g.num *ℤ f.den → value_order_of f g ≡ Equal
is_equal f g h =
    let not_less : is_before f g ≡ false = grind (arith, ints) in
    let not_more : is_before g f ≡ false = grind (arith, ints) in
    by_tests f g ∙ ap (λ t. order_by t (is_before g f)) not_less ∙ ap (λ t. order_by false t) not_more

value_alike : (a b c : Fraction) → pos 1 ≤ℤ a.den → pos 1 ≤ℤ b.den → value_order_of a b ≡ Equal
    → value_order_of a c ≡ value_order_of b c
value_alike a b c a_up b_up h =
    let e = equal_is a b h in
    by_tests a c
    ∙ ap (λ t. order_by t (is_before c a)) (after_alike a b c a_up b_up e)
    ∙ ap (λ t. order_by (is_before b c) t) (before_alike a b c a_up b_up e)
    ∙ sym (by_tests b c)

value_alike_too : (a b c : Fraction) → pos 1 ≤ℤ b.den → pos 1 ≤ℤ c.den → value_order_of b c ≡ Equal
    → value_order_of a c ≡ value_order_of a b
value_alike_too a b c b_up c_up h =
    value_reversed c a ∙ ap ordering_reverse (sym (value_alike b c a b_up c_up h)) ∙ sym (value_reversed b a)

-- ---- points

pub place_reversed : (p q : RPoint) → rpoint_order_of q p ≡ ordering_reverse (rpoint_order_of p q)
place_reversed p q =
    ap (λ t. ordering_then t (value_order_of q.y p.y)) (value_reversed p.x q.x)
    ∙ ap (λ t. ordering_then (ordering_reverse (value_order_of p.x q.x)) t) (value_reversed p.y q.y)
    ∙ then_flip (value_order_of p.x q.x) (value_order_of p.y q.y)

pub place_transitive : (p q r : RPoint) → IsOverPositive p → IsOverPositive q → IsOverPositive r
    → rpoint_order_of p q ≡ Less → rpoint_order_of q r ≡ Less → rpoint_order_of p r ≡ Less
place_transitive p q r p_up q_up r_up = by_first (value_order_of p.x q.x) (value_order_of q.x r.x) refl refl
  where
    by_first : (o w : Ordering) → value_order_of p.x q.x ≡ o → value_order_of q.x r.x ≡ w
        → ordering_then o (value_order_of p.y q.y) ≡ Less → ordering_then w (value_order_of q.y r.y) ≡ Less
        → ordering_then (value_order_of p.x r.x) (value_order_of p.y r.y) ≡ Less
    by_first Less Less d e h k =
        ap (λ t. ordering_then t (value_order_of p.y r.y)) (value_transitive p.x q.x r.x p_up.x q_up.x r_up.x d e)
    by_first Less Equal d e h k =
        ap (λ t. ordering_then t (value_order_of p.y r.y)) (value_alike_too p.x q.x r.x q_up.x r_up.x e ∙ d)
    by_first Equal Less d e h k =
        ap (λ t. ordering_then t (value_order_of p.y r.y)) (value_alike p.x q.x r.x p_up.x q_up.x d ∙ e)
    by_first Equal Equal d e h k =
        ap (λ t. ordering_then t (value_order_of p.y r.y)) (value_alike p.x q.x r.x p_up.x q_up.x d ∙ e)
        ∙ value_transitive p.y q.y r.y p_up.y q_up.y r_up.y h k
    by_first Greater w d e h k = cc
    by_first Less Greater d e h k = cc
    by_first Equal Greater d e h k = cc

both_equal : (o w : Ordering) → ordering_then o w ≡ Equal → (o ≡ Equal) × (w ≡ Equal)
both_equal Equal w h = (refl, h)
both_equal Less w h = cc
both_equal Greater w h = cc

pub place_alike : (p q r : RPoint) → IsOverPositive p → IsOverPositive q → IsOverPositive r
    → rpoint_order_of p q ≡ Equal → rpoint_order_of p r ≡ rpoint_order_of q r
place_alike p q r p_up q_up r_up h =
    let parts = both_equal (value_order_of p.x q.x) (value_order_of p.y q.y) h in
    ap (λ t. ordering_then t (value_order_of p.y r.y)) (value_alike p.x q.x r.x p_up.x q_up.x parts.0)
    ∙ ap (λ t. ordering_then (value_order_of q.x r.x) t) (value_alike p.y q.y r.y p_up.y q_up.y parts.1)

both : (x y : Bool) → (x && y) ≡ true → (x ≡ true) × (y ≡ true)
both true true h = (refl, refl)
both true false h = cc
both false y h = cc

pub place_equal : (p q : RPoint) → (rpoint_order_of p q ≡ Equal) ↔ (same_rpoint p q ≡ true)
place_equal p q = (there, back)
  where
    there : rpoint_order_of p q ≡ Equal → same_rpoint p q ≡ true
    there h =
        let parts = both_equal (value_order_of p.x q.x) (value_order_of p.y q.y) h in
        let one : same_value p.x q.x ≡ true = equal_tested _ _ (equal_is p.x q.x parts.0) in
        let two : same_value p.y q.y ≡ true = equal_tested _ _ (equal_is p.y q.y parts.1) in
        ap (λ t. t && same_value p.y q.y) one ∙ two

    back : same_rpoint p q ≡ true → rpoint_order_of p q ≡ Equal
    back h =
        let parts = both (same_value p.x q.x) (same_value p.y q.y) h in
        ap (λ t. ordering_then t (value_order_of p.y q.y)) (is_equal p.x q.x (tested_equal _ _ parts.0))
        ∙ is_equal p.y q.y (tested_equal _ _ parts.1)
