-- Directions in their order round the circle, by the half turn that begins at (1,0) and the other one.
use Rattle.std.proofs.Common.{◌≡◌, ℤ, pos, neg_ℤ, ◌+ℤ◌, ◌-ℤ◌, ◌*ℤ◌, ◌<ℤ◌, ◌≤ℤ◌, arith, ap, refl, sym, ◌∙◌, subst}
use Rattle.std.specs.Prelude.{Bool, true, false, int_lt}
use Rattle.std.proofs.lemmas.Int.{ints, by_lt_z}
use Rattle.plane_spec.specs.declared.Point.{Point}
use Rattle.plane_spec.specs.Vectors.{cross_of, dot_of, turns_left, is_upper, turns_by, turns_before, IsDirected}
use Rattle.int_laws.proofs.Ring.{times_zero, neg_times, times_neg, neg_twice, cross_of_three, dot_times}
use Rattle.int_laws.proofs.Signs.{not_positive_tested, tested_not_positive, positive_product, not_negative_product, opposite_product, square, positive_factor, not_positive_factor, positive_sum, not_positive_sum}
use Rattle.exact_geom.proofs.Turns.{cross_of_exchanged}

-- ---- the half turn that begins at (1,0)

-- above the axis, or along it to the right
pub data IsUpper (x y : ℤ) : Type 0 where
  above : pos 0 <ℤ y → IsUpper x y
  along : y ≡ pos 0 → pos 0 <ℤ x → IsUpper x y

-- an upper direction doesn't lead down
pub not_down : (x y : ℤ) → IsUpper x y → pos 0 ≤ℤ y
not_down x y (above h) = omega (arith, ints)
not_down x y (along h k) = omega (arith, ints)

-- an upper direction that leads along the axis leads to the right
rightwards : {x y : ℤ} → IsUpper x y → y ≡ pos 0 → pos 0 ≤ℤ x
rightwards (above h) e = absurd (omega (arith, ints))
rightwards (along h k) e = omega (arith, ints)

factor_zero : (x y : ℤ) → y ≡ pos 0 → x *ℤ y ≡ pos 0
factor_zero x y h = ap (λ t. x *ℤ t) h ∙ times_zero x

-- what is left of an upper direction and upper itself is above the axis
upper_of_left : (bx by cx cy : ℤ) → IsUpper bx by → IsUpper cx cy → pos 0 <ℤ (bx *ℤ cy -ℤ by *ℤ cx) → pos 0 <ℤ cy
upper_of_left bx by cx cy b (above h) bc = h
upper_of_left bx by cx cy b (along h k) bc =
    let z = factor_zero bx cy h in
    let n = not_negative_product by cx (not_down bx by b) (omega (arith, ints)) in
    absurd (omega (arith, ints, z, n, bc))

-- upper directions that are each left of the one before are in one order
pub left_of_left : (ax ay bx by cx cy : ℤ) → IsUpper ax ay → IsUpper bx by → IsUpper cx cy
    → pos 0 <ℤ (ax *ℤ by -ℤ ay *ℤ bx) → pos 0 <ℤ (bx *ℤ cy -ℤ by *ℤ cx) → pos 0 <ℤ (ax *ℤ cy -ℤ ay *ℤ cx)
left_of_left ax ay bx by cx cy a b c ab bc =
    let b_up = upper_of_left ax ay bx by a b ab in
    let c_up = upper_of_left bx by cx cy b c bc in
    let first = positive_product (ax *ℤ by -ℤ ay *ℤ bx) cy ab c_up in
    let second = not_negative_product (bx *ℤ cy -ℤ by *ℤ cx) ay (omega (arith, ints, bc)) (not_down ax ay a) in
    let both : pos 0 <ℤ ((ax *ℤ by -ℤ ay *ℤ bx) *ℤ cy +ℤ (bx *ℤ cy -ℤ by *ℤ cx) *ℤ ay) = positive_sum _ _ first second in
    positive_factor (ax *ℤ cy -ℤ ay *ℤ cx) by (subst (λ z. pos 0 <ℤ z) (sym (cross_of_three ax ay bx by cx cy)) both) b_up

-- of upper directions of which none is left of the one before, the last isn't left of the first
pub none_left_of_none_left : (ax ay bx by cx cy : ℤ) → IsUpper ax ay → IsUpper bx by → IsUpper cx cy
    → (ax *ℤ by -ℤ ay *ℤ bx) ≤ℤ pos 0 → (bx *ℤ cy -ℤ by *ℤ cx) ≤ℤ pos 0 → (ax *ℤ cy -ℤ ay *ℤ cx) ≤ℤ pos 0
none_left_of_none_left ax ay bx by cx cy a (above b_up) c ab bc =
    let ac = ax *ℤ cy -ℤ ay *ℤ cx in
    let first = opposite_product (ax *ℤ by -ℤ ay *ℤ bx) cy ab (not_down cx cy c) in
    let second = opposite_product (bx *ℤ cy -ℤ by *ℤ cx) ay bc (not_down ax ay a) in
    not_positive_factor ac by (subst (λ z. z ≤ℤ pos 0) (sym (cross_of_three ax ay bx by cx cy)) (not_positive_sum _ _ first second)) b_up
none_left_of_none_left ax ay bx by cx cy a (along b_is b_right) c ab bc =
    -- b leads along the axis, and so does c
    let z = factor_zero cx by b_is in
    by_lt_z (pos 0) cy
    (λ c_up. let g = positive_product bx cy b_right c_up in absurd (omega (arith, ints, z, g, bc)))
    (λ c_low. let c_is : cy ≡ pos 0 = let n = not_down cx cy c in omega (arith, ints, n) in
    let y = factor_zero ax cy c_is in
    let n = not_negative_product ay cx (not_down ax ay a) (rightwards c c_is) in
    omega (arith, ints, y, n))

-- ---- the direction the other way

abbrev pub back : Point → Point
back d = record { x = neg_ℤ d.x; y = neg_ℤ d.y }

pub back_left : (a b : Point) → cross_of (back a) b ≡ neg_ℤ (cross_of a b)
back_left a b = let e = neg_times a.x b.y in let f = neg_times a.y b.x in omega (arith, ints, e, f)

pub back_right : (a b : Point) → cross_of a (back b) ≡ neg_ℤ (cross_of a b)
back_right a b = let e = times_neg a.x b.y in let f = times_neg a.y b.x in omega (arith, ints, e, f)

pub both_back : (a b : Point) → cross_of (back a) (back b) ≡ cross_of a b
both_back a b = back_left a (back b) ∙ ap neg_ℤ (back_right a b) ∙ neg_twice _

dot_back : (a b : Point) → dot_of a (back b) ≡ neg_ℤ (dot_of a b)
dot_back a b = let e = times_neg a.x b.x in let f = times_neg a.y b.y in omega (arith, ints, e, f)

back_dot : (a b : Point) → dot_of (back a) b ≡ neg_ℤ (dot_of a b)
back_dot a b = let e = neg_times a.x b.x in let f = neg_times a.y b.y in omega (arith, ints, e, f)

dot_both_back : (a b : Point) → dot_of (back a) (back b) ≡ dot_of a b
dot_both_back a b = back_dot a (back b) ∙ ap neg_ℤ (dot_back a b) ∙ neg_twice _

pub upper_is : (d : Point) → is_upper d ≡ true → IsUpper d.x d.y
upper_is d h = by_lt_z (pos 0) d.y (λ p. above p) (λ q. let level : d.y ≡ pos 0 = grind (arith, ints) in along level (grind (arith, ints)))

pub lower_is : (d : Point) → IsDirected d → is_upper d ≡ false → IsUpper (neg_ℤ d.x) (neg_ℤ d.y)
lower_is d directed h =
    let nonzero = directed.somewhere in
    by_lt_z d.y (pos 0) (λ p. above (omega (arith, ints)))
    (λ q. let level : d.y ≡ pos 0 = grind (arith, ints) in along (omega (arith, ints)) (grind (arith, ints)))

-- ---- none before, one after another

none_chain : (a b c : Point) → IsUpper a.x a.y → IsUpper b.x b.y → IsUpper c.x c.y → turns_left a b ≡ false → turns_left b c ≡ false → turns_left a c ≡ false
none_chain a b c a_up b_up c_up h k =
    not_positive_tested _ (none_left_of_none_left a.x a.y b.x b.y c.x c.y a_up b_up c_up (tested_not_positive _ h) (tested_not_positive _ k))

left_back : (a b : Point) → turns_left (back a) (back b) ≡ turns_left a b
left_back a b = ap (int_lt (pos 0)) (both_back a b)

none_chain_lower : (a b c : Point) → IsUpper (neg_ℤ a.x) (neg_ℤ a.y) → IsUpper (neg_ℤ b.x) (neg_ℤ b.y) → IsUpper (neg_ℤ c.x) (neg_ℤ c.y)
    → turns_left a b ≡ false → turns_left b c ≡ false → turns_left a c ≡ false
none_chain_lower a b c a_low b_low c_low h k =
    sym (left_back a c) ∙ none_chain (back a) (back b) (back c) a_low b_low c_low (left_back a b ∙ h) (left_back b c ∙ k)

-- what holds within each half turn
record Nones (a b c ab bc ac : Bool) : Type 0 where
  up : a ≡ true → b ≡ true → c ≡ true → ab ≡ false → bc ≡ false → ac ≡ false
  down : a ≡ false → b ≡ false → c ≡ false → ab ≡ false → bc ≡ false → ac ≡ false

turns_chain_by : (a b c ab bc ac : Bool) → Nones a b c ab bc ac → turns_by a b ab ≡ false → turns_by b c bc ≡ false → turns_by a c ac ≡ false
turns_chain_by true true true ab bc ac n h k = n.up refl refl refl h k
turns_chain_by true true false ab bc ac n h k = k
turns_chain_by true false c ab bc ac n h k = cc
turns_chain_by false true true ab bc ac n h k = refl
turns_chain_by false true false ab bc ac n h k = cc
turns_chain_by false false true ab bc ac n h k = refl
turns_chain_by false false false ab bc ac n h k = n.down refl refl refl h k

-- of directions of which none comes before the next, the first doesn't come before the last
pub turns_chain : (a b c : Point) → IsDirected a → IsDirected b → IsDirected c → turns_before a b ≡ false → turns_before b c ≡ false → turns_before a c ≡ false
unfolding turns_before
turns_chain a b c a_some b_some c_some =
    turns_chain_by (is_upper a) (is_upper b) (is_upper c) _ _ _ (record {
      up = λ ha hb hc. none_chain a b c (upper_is a ha) (upper_is b hb) (upper_is c hc);
      down = λ ha hb hc. none_chain_lower a b c (lower_is a a_some ha) (lower_is b b_some hb) (lower_is c c_some hc);
    })

turns_one_way_by : (a b ab ba : Bool) → (ab ≡ true → ba ≡ false) → turns_by a b ab ≡ true → turns_by b a ba ≡ false
turns_one_way_by true true ab ba f h = f h
turns_one_way_by true false ab ba f h = refl
turns_one_way_by false true ab ba f h = cc
turns_one_way_by false false ab ba f h = f h

left_one_way : (y z : ℤ) → y ≡ neg_ℤ z → int_lt (pos 0) z ≡ true → int_lt (pos 0) y ≡ false
left_one_way y z e h = grind (arith, ints)

-- no two directions come before each other
pub turns_one_way : (a b : Point) → turns_before a b ≡ true → turns_before b a ≡ false
unfolding turns_before
turns_one_way a b = turns_one_way_by (is_upper a) (is_upper b) _ _ (left_one_way (cross_of b a) (cross_of a b) (cross_of_exchanged a b))

-- ---- the same way

square_sum : (x y : ℤ) → pos 0 <ℤ y → pos 0 <ℤ (x *ℤ x +ℤ y *ℤ y)
square_sum x y h = let g = square x in let f = positive_product y y h h in omega (arith, ints, g, f)

-- upper directions in line point the same way
upper_in_line : (dx dy ex ey : ℤ) → IsUpper dx dy → IsUpper ex ey → dx *ℤ ey -ℤ dy *ℤ ex ≡ pos 0 → pos 0 <ℤ (dx *ℤ ex +ℤ dy *ℤ ey)
upper_in_line dx dy ex ey (above d_up) (above e_up) line =
    let g = positive_product dy (ex *ℤ ex +ℤ ey *ℤ ey) d_up (square_sum ex ey e_up) in
    let z = factor_zero ex (dx *ℤ ey -ℤ dy *ℤ ex) line in
    let e = dot_times dx dy ex ey in
    positive_factor (dx *ℤ ex +ℤ dy *ℤ ey) ey (subst (λ t. pos 0 <ℤ t) (sym e) (positive_sum _ _ g (subst (λ t. pos 0 ≤ℤ t) (sym z) (omega (arith, ints))))) e_up
upper_in_line dx dy ex ey (above d_up) (along e_is e_right) line =
    let g = positive_product dy ex d_up e_right in
    let z = factor_zero dx ey e_is in
    absurd (omega (arith, ints, g, z, line))
upper_in_line dx dy ex ey (along d_is d_right) (above e_up) line =
    let g = positive_product dx ey d_right e_up in
    let z = factor_zero ex dy d_is in
    absurd (omega (arith, ints, g, z, line))
upper_in_line dx dy ex ey (along d_is d_right) (along e_is e_right) line =
    let g = positive_product dx ex d_right e_right in
    let z = factor_zero dy ey e_is in
    omega (arith, ints, g, z)

-- directions of one half turn that are in line point the same way
pub in_line_within : (d e : Point) (upper : Bool) → IsDirected d → IsDirected e → is_upper d ≡ upper → is_upper e ≡ upper → cross_of d e ≡ pos 0 → pos 0 <ℤ dot_of d e
in_line_within d e true d_some e_some h k line = upper_in_line d.x d.y e.x e.y (upper_is d h) (upper_is e k) line
in_line_within d e false d_some e_some h k line =
    subst (λ t. pos 0 <ℤ t) (dot_both_back d e)
    (upper_in_line (neg_ℤ d.x) (neg_ℤ d.y) (neg_ℤ e.x) (neg_ℤ e.y) (lower_is d d_some h) (lower_is e e_some k) (both_back d e ∙ line))

negated_zero : (y z : ℤ) → y ≡ neg_ℤ z → z ≡ pos 0 → y ≡ pos 0
negated_zero y z e h = omega (arith, ints)

negated_positive : (y z : ℤ) → y ≡ neg_ℤ z → pos 0 <ℤ y → z <ℤ pos 0
negated_positive y z e h = omega (arith, ints)

-- directions of different half turns that are in line point to opposite sides
pub in_line_across : (d e : Point) → IsDirected e → is_upper d ≡ true → is_upper e ≡ false → cross_of d e ≡ pos 0 → dot_of d e <ℤ pos 0
in_line_across d e e_some h k line =
    negated_positive _ _ (dot_back d e)
    (upper_in_line d.x d.y (neg_ℤ e.x) (neg_ℤ e.y) (upper_is d h) (lower_is e e_some k) (negated_zero _ _ (back_right d e) line))

cross_itself : (d : Point) → cross_of d d ≡ pos 0
cross_itself d = omega (arith, ints)

-- the square of a direction is positive
pub dot_itself : (d : Point) → IsDirected d → pos 0 <ℤ dot_of d d
dot_itself d d_some = in_line_within d d (is_upper d) d_some d_some refl refl (cross_itself d)
