-- The order of directions is an order, and equal are those that point the same way.
use Rattle.std.proofs.Common.{◌≡◌, ◌≢◌, ◌↔◌, ℤ, pos, neg_ℤ, ◌+ℤ◌, ◌-ℤ◌, ◌*ℤ◌, ◌<ℤ◌, ◌≤ℤ◌, arith, ap, refl, sym, ◌∙◌, subst}
use Rattle.std.specs.Prelude.{Bool, true, false, int_lt, if◌then◌else◌}
use Rattle.std.specs.Cmp.{IsStrictWeakOrder, IsTotalOrder}
use Rattle.std.specs.Ordering.{is_lt, ordering_reverse}
use Rattle.std.specs.declared.cmp.Ordering.{Ordering}
use Rattle.std.specs.declared.cmp.Ordering.TheVariants.{Less, Equal, Greater}
use Rattle.std.proofs.lemmas.Bool.{true_from_ne_false}
use Rattle.std.proofs.lemmas.Int.{ints}
use Rattle.plane_spec.specs.declared.Point.{Point}
use Rattle.plane_spec.specs.Vectors.{point, cross_of, dot_of, turns_left, is_upper, turns_by, turns_before, turn_order_of, IsDirected}
use Rattle.int_laws.proofs.Ring.{times_zero, times_one, times_minus, times_sum, product_grouped, product_turned, product_swapped, dot_times, dot_times_across}
use Rattle.int_laws.proofs.Signs.{not_positive_tested, tested_not_positive, positive_product, positive_factor, zero_factor}
use Rattle.exact_geom.specs.Directions.{PointAlike}
use Rattle.exact_geom.proofs.Turns.{order_by, order_by_halves, order_within, cross_of_exchanged}
use Rattle.exact_geom.proofs.Circle.{turns_chain, turns_one_way, in_line_within, in_line_across, dot_itself, not_down, upper_is}

-- the order, by which of the two comes before the other
abbrev ordered_by : Bool → Bool → Ordering
ordered_by before after = if before then Less else (if after then Greater else Equal)

order_is : (d e : Point) → turn_order_of d e ≡ ordered_by (turns_before d e) (turns_before e d)
unfolding turn_order_of
order_is d e = refl

-- ---- what each answer says

less_by : (before after : Bool) → ordered_by before after ≡ Less → before ≡ true
less_by true after h = refl
less_by false true h = cc
less_by false false h = cc

-- d comes before e where the answer is Less
pub before_of_less : (d e : Point) → turn_order_of d e ≡ Less → turns_before d e ≡ true
before_of_less d e h = less_by (turns_before d e) (turns_before e d) (sym (order_is d e) ∙ h)

-- the answer is Less where d comes before e
pub less_of_before : (d e : Point) → turns_before d e ≡ true → turn_order_of d e ≡ Less
less_of_before d e h = rw (order_is d e, h) refl

is_lt_by : (before after : Bool) → is_lt (ordered_by before after) ≡ before
is_lt_by true after = refl
is_lt_by false true = refl
is_lt_by false false = refl

-- the answer is Less exactly where d comes before e
pub is_less : (d e : Point) → is_lt (turn_order_of d e) ≡ turns_before d e
is_less d e = rw (order_is d e) (is_lt_by (turns_before d e) (turns_before e d))

record Neither (before after : Bool) : Type 0 where
  first : before ≡ false
  second : after ≡ false

equal_by : (before after : Bool) → ordered_by before after ≡ Equal → Neither before after
equal_by true after h = cc
equal_by false true h = cc
equal_by false false h = record { first = refl; second = refl }

neither_before : (d e : Point) → turn_order_of d e ≡ Equal → Neither (turns_before d e) (turns_before e d)
neither_before d e h = equal_by (turns_before d e) (turns_before e d) (sym (order_is d e) ∙ h)

reversed_by : (before after : Bool) → (before ≡ true → after ≡ false) → ordered_by after before ≡ ordering_reverse (ordered_by before after)
reversed_by true true h = absurd (let e : true ≡ false = h refl in cc)
reversed_by true false h = refl
reversed_by false true h = refl
reversed_by false false h = refl

-- exchanged, directions compare the other way
pub order_reversed : (d e : Point) → turn_order_of e d ≡ ordering_reverse (turn_order_of d e)
order_reversed d e = rw (order_is d e, order_is e d) (reversed_by (turns_before d e) (turns_before e d) (turns_one_way d e))

-- ---- an order

-- what comes before one that comes before a third, comes before the third
pub before_transitive : (a b c : Point) → IsDirected a → IsDirected b → IsDirected c → turns_before a b ≡ true → turns_before b c ≡ true → turns_before a c ≡ true
before_transitive a b c a_some b_some c_some h k =
    true_from_ne_false (turns_before a c)
    (λ n. let e = turns_chain a c b a_some c_some b_some n (turns_one_way b c k) in let f : true ≡ false = sym h ∙ e in cc)

-- what comes before one that isn't after a third, comes before the third
before_then_not_after : (a b c : Point) → IsDirected a → IsDirected b → IsDirected c → turns_before a b ≡ true → turns_before c b ≡ false → turns_before a c ≡ true
before_then_not_after a b c a_some b_some c_some h k =
    true_from_ne_false (turns_before a c) (λ n. let e = turns_chain a c b a_some c_some b_some n k in let f : true ≡ false = sym h ∙ e in cc)

same_test : (a b : Bool) → (a ≡ true → b ≡ true) → (b ≡ true → a ≡ true) → a ≡ b
same_test true b h k = sym (h refl)
same_test false true h k = k refl
same_test false false h k = refl

-- what is equal to another compares as the other does
pub equal_compares_alike : (a b c : Point) → IsDirected a → IsDirected b → IsDirected c → turn_order_of a b ≡ Equal → turn_order_of a c ≡ turn_order_of b c
equal_compares_alike a b c a_some b_some c_some h =
    let n = neither_before a b h in
    let before = same_test (turns_before a c) (turns_before b c)
    (λ e. true_from_ne_false (turns_before b c) (λ f. let g = turns_chain a b c a_some b_some c_some n.first f in let x : true ≡ false = sym e ∙ g in cc))
    (λ e. true_from_ne_false (turns_before a c) (λ f. let g = turns_chain b a c b_some a_some c_some n.second f in let x : true ≡ false = sym e ∙ g in cc)) in
    let after = same_test (turns_before c a) (turns_before c b)
    (λ e. true_from_ne_false (turns_before c b) (λ f. let g = turns_chain c b a c_some b_some a_some f n.second in let x : true ≡ false = sym e ∙ g in cc))
    (λ e. true_from_ne_false (turns_before c a) (λ f. let g = turns_chain c a b c_some a_some b_some f n.first in let x : true ≡ false = sym e ∙ g in cc)) in
    order_is a c ∙ ap (λ t. ordered_by t (turns_before c a)) before ∙ ap (ordered_by (turns_before b c)) after ∙ sym (order_is b c)

-- Less, one after another
pub less_transitive : (a b c : Point) → IsDirected a → IsDirected b → IsDirected c → turn_order_of a b ≡ Less → turn_order_of b c ≡ Less → turn_order_of a c ≡ Less
less_transitive a b c a_some b_some c_some h k =
    less_of_before a c (before_transitive a b c a_some b_some c_some (before_of_less a b h) (before_of_less b c k))

-- values that each have a direction are ordered by their directions, as a sort by `turns_before` asks
pub directions_ranked : {X : Type 0} (way : X → Point) → ((x : X) → IsDirected (way x)) → IsStrictWeakOrder (λ x y. turns_before (way x) (way y))
directions_ranked way nonzero = record {
  one_way = λ x y. turns_one_way (way x) (way y);
  chain = λ x y z. turns_chain (way x) (way y) (way z) (nonzero x) (nonzero y) (nonzero z);
}

-- the same, as an order of answers
pub directions_ordered : {X : Type 0} (way : X → Point) → ((x : X) → IsDirected (way x)) → IsTotalOrder (λ x y. turn_order_of (way x) (way y))
directions_ordered way nonzero = record {
  antisymm = λ x y. order_reversed (way y) (way x);
  trans = λ x y z. less_transitive (way x) (way y) (way z) (nonzero x) (nonzero y) (nonzero z);
  congr = λ x y z. equal_compares_alike (way x) (way y) (way z) (nonzero x) (nonzero y) (nonzero z);
}

not_before_first : (ex ey : ℤ) → pos 0 ≤ℤ ey → int_lt (pos 0) (ex *ℤ pos 0 -ℤ ey *ℤ pos 1) ≡ false
not_before_first ex ey h =
    let z = times_zero ex in
    let w = times_one ey in
    not_positive_tested (ex *ℤ pos 0 -ℤ ey *ℤ pos 1) (omega (arith, ints, z, w))

before_first_by : (upper : Bool) (e : Point) → is_upper e ≡ upper → turns_by upper true (turns_left e (point (pos 1) (pos 0))) ≡ false
before_first_by true e h = not_before_first e.x e.y (not_down e.x e.y (upper_is e h))
before_first_by false e h = refl

-- no direction comes before (1,0)
pub none_before_first : (e : Point) → turns_before e (point (pos 1) (pos 0)) ≡ false
unfolding turns_before
none_before_first e = before_first_by (is_upper e) e refl

-- the same of the answer
pub none_less_than_first : (e : Point) → turn_order_of e (point (pos 1) (pos 0)) ≢ Less
none_less_than_first e h =
    let before = before_of_less e (point (pos 1) (pos 0)) h in
    let clash : true ≡ false = sym before ∙ none_before_first e in cc

-- ---- the same way

record SameHalf (upper upper_too left right : Bool) : Type 0 where
  same : upper_too ≡ upper
  not_left : left ≡ false
  not_right : right ≡ false

same_half_by : (upper upper_too left right : Bool) → order_by upper upper_too left right ≡ Equal → SameHalf upper upper_too left right
same_half_by true true true right h = cc
same_half_by true true false true h = cc
same_half_by true true false false h = record { same = refl; not_left = refl; not_right = refl }
same_half_by true false left right h = cc
same_half_by false true left right h = cc
same_half_by false false true right h = cc
same_half_by false false false true h = cc
same_half_by false false false false h = record { same = refl; not_left = refl; not_right = refl }

neither_way : (y z : ℤ) → y ≡ neg_ℤ z → int_lt (pos 0) z ≡ false → int_lt (pos 0) y ≡ false → z ≡ pos 0
neither_way y z e h k = let p = tested_not_positive z h in let q = tested_not_positive y k in omega (arith, ints, p, q, e)

-- in line, and less than a right angle apart
pub record InLine (d e : Point) : Type 0 where
  pub line : cross_of d e ≡ pos 0
  pub ahead : pos 0 <ℤ dot_of d e

-- equal directions are in line
pub in_line_of_equal : (d e : Point) → IsDirected d → IsDirected e → turn_order_of d e ≡ Equal → InLine d e
in_line_of_equal d e d_some e_some h =
    let half = same_half_by (is_upper d) (is_upper e) (turns_left d e) (turns_left e d) (sym (order_by_halves d e) ∙ h) in
    let line = neither_way (cross_of e d) (cross_of d e) (cross_of_exchanged d e) half.not_left half.not_right in
    record { line = line; ahead = in_line_within d e (is_upper d) d_some e_some refl half.same line }

turned_equal : (z : ℤ) → z ≡ pos 0 → (if int_lt (pos 0) z then Less else (if int_lt z (pos 0) then Greater else Equal)) ≡ Equal
turned_equal z h = rw h refl

opposed : (d e : Point) → IsDirected e → InLine d e → is_upper d ≡ true → is_upper e ≡ false → ⊥
opposed d e e_some l h k = let g = in_line_across d e e_some h k l.line in let f = l.ahead in omega (arith, ints, g, f)

in_line_exchanged : (d e : Point) → InLine d e → InLine e d
in_line_exchanged d e l =
    let h = l.line in let k = l.ahead in let x = cross_of_exchanged d e in
    record { line = omega (arith, ints, h, x); ahead = omega (arith, ints, k) }

equal_by_halves : (d e : Point) → IsDirected d → IsDirected e → InLine d e → (upper upper_too : Bool) → is_upper d ≡ upper → is_upper e ≡ upper_too → turn_order_of d e ≡ Equal
equal_by_halves d e d_some e_some l true true h k = order_within d e true h k ∙ turned_equal (cross_of d e) l.line
equal_by_halves d e d_some e_some l true false h k = absurd (opposed d e e_some l h k)
equal_by_halves d e d_some e_some l false true h k = absurd (opposed e d d_some (in_line_exchanged d e l) k h)
equal_by_halves d e d_some e_some l false false h k = order_within d e false h k ∙ turned_equal (cross_of d e) l.line

-- directions in line are equal
pub equal_of_in_line : (d e : Point) → IsDirected d → IsDirected e → InLine d e → turn_order_of d e ≡ Equal
equal_of_in_line d e d_some e_some l = equal_by_halves d e d_some e_some l (is_upper d) (is_upper e) refl refl

add_nothing : (x y z : ℤ) → x ≡ y +ℤ z → z ≡ pos 0 → x ≡ y
add_nothing x y z e h = omega (arith, ints)

take_nothing : (x y z : ℤ) → x ≡ y -ℤ z → z ≡ pos 0 → x ≡ y
take_nothing x y z e h = omega (arith, ints)

times_line : (x z : ℤ) → z ≡ pos 0 → x *ℤ z ≡ pos 0
times_line x z h = ap (λ t. x *ℤ t) h ∙ times_zero x

-- directions in line are multiples: the square of e times d is the dot product times e
pub alike_of_in_line : (d e : Point) → IsDirected e → InLine d e → PointAlike d e
alike_of_in_line d e e_some l =
    let square = dot_of e e in
    let x_is = take_nothing _ _ _ (dot_times_across d.x d.y e.x e.y) (times_line e.y (cross_of d e) l.line) in
    let y_is = add_nothing _ _ _ (dot_times d.x d.y e.x e.y) (times_line e.x (cross_of d e) l.line) in
    record {
      times = square;
      times_other = dot_of d e;
      positive = dot_itself e e_some;
      positive_other = l.ahead;
      x = product_swapped square d.x ∙ sym x_is;
      y = product_swapped square d.y ∙ sym y_is;
    }

-- multiples have no cross product
line_of_alike : (d e : Point) (a : PointAlike d e) → a.times *ℤ cross_of d e ≡ pos 0
line_of_alike d e a =
    let first = sym (product_grouped a.times d.x e.y) ∙ ap (λ t. t *ℤ e.y) a.x in
    let second = sym (product_grouped a.times d.y e.x) ∙ ap (λ t. t *ℤ e.x) a.y ∙ product_turned a.times_other e.y e.x in
    let both = times_minus a.times (d.x *ℤ e.y) (d.y *ℤ e.x) in
    omega (arith, ints, first, second, both)

dot_of_alike : (d e : Point) (a : PointAlike d e) → a.times *ℤ dot_of d e ≡ a.times_other *ℤ dot_of e e
dot_of_alike d e a =
    let first = sym (product_grouped a.times d.x e.x) ∙ ap (λ t. t *ℤ e.x) a.x ∙ product_grouped a.times_other e.x e.x in
    let second = sym (product_grouped a.times d.y e.y) ∙ ap (λ t. t *ℤ e.y) a.y ∙ product_grouped a.times_other e.y e.y in
    let both = times_sum a.times (d.x *ℤ e.x) (d.y *ℤ e.y) in
    let other = times_sum a.times_other (e.x *ℤ e.x) (e.y *ℤ e.y) in
    omega (arith, ints, first, second, both, other)

-- multiples are in line
pub in_line_of_alike : (d e : Point) → IsDirected e → PointAlike d e → InLine d e
in_line_of_alike d e e_some a =
    let positive = positive_product a.times_other (dot_of e e) a.positive_other (dot_itself e e_some) in
    record {
      line = zero_factor (cross_of d e) a.times (product_swapped (cross_of d e) a.times ∙ line_of_alike d e a) a.positive;
      ahead = positive_factor (dot_of d e) a.times (subst (λ t. pos 0 <ℤ t) (sym (product_swapped (dot_of d e) a.times ∙ dot_of_alike d e a)) positive) a.positive;
    }

-- equal are exactly the directions that point the same way
pub equal_is_alike : (d e : Point) → IsDirected d → IsDirected e → (turn_order_of d e ≡ Equal) ↔ PointAlike d e
equal_is_alike d e d_some e_some = (
  λ h. alike_of_in_line d e e_some (in_line_of_equal d e d_some e_some h),
  λ a. equal_of_in_line d e d_some e_some (in_line_of_alike d e e_some a),
)

-- equal are exactly the directions in line of which less than a right angle is between
pub equal_is_in_line : (d e : Point) → IsDirected d → IsDirected e → (turn_order_of d e ≡ Equal) ↔ ((cross_of d e ≡ pos 0) × (pos 0 <ℤ dot_of d e))
equal_is_in_line d e d_some e_some = (
  λ h. let l = in_line_of_equal d e d_some e_some h in (l.line, l.ahead),
  λ p. equal_of_in_line d e d_some e_some (record { line = p.0; ahead = p.1 }),
)
