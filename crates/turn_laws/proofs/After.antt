-- A direction just after another, which spans what begins there and what goes on.
use Rattle.std.proofs.Common.{◌≡◌, ℕ, ℤ, ◌+ℤ◌, ◌-ℤ◌, ◌*ℤ◌, neg_ℤ, ◌<ℤ◌, ◌≤ℤ◌, ◌∙◌, arith, pos, sym, refl, ap}
use Rattle.std.proofs.lemmas.Int.{ints, by_lt_z}
use Rattle.std.specs.Prelude.{if◌then◌else◌, ◌&&◌, ◌||◌, Bool, true, false, int_lt}
use borrow.Author.Differences.{up, down}
use Rattle.plane_spec.specs.Cones.{is_in_cone}
use Rattle.plane_spec.specs.Vectors.{cross_of, dot_of, IsDirected, is_upper, turns_by, turns_before, orient_of, vector}
use Rattle.plane_spec.specs.declared.Corner.{Corner}
use Rattle.plane_spec.specs.declared.Point.{Point}
use Rattle.int_laws.proofs.Ring.{minus_diff, product_diff, same_diff, sum_diff, diff, is_diff, times_minus, neg_times}
use Rattle.int_laws.proofs.Ring.{times_neg, neg_twice}
use Rattle.int_laws.proofs.Signs.{not_negative_product, positive_tested, positive_product, tested_not_positive}
use Rattle.int_laws.proofs.Signs.{none_times, positive_factor, tested_positive, not_positive_tested}
use Rattle.exact_geom.proofs.Circle.{IsUpper, above, along, back, both_back, lower_is, upper_is, turns_one_way}
use Rattle.exact_geom.proofs.Circle.{back_right}
use Rattle.exact_geom.proofs.Turns.{cross_of_exchanged}
use Rattle.front_laws.proofs.InFront.{four_of}
use Rattle.front_laws.proofs.Tests.{positive_as, both_of}
use Rattle.front_laws.specs.Seen.{Seen, spans}
use Rattle.turn_laws.proofs.Among.{zero_times}
use Rattle.turn_laws.specs.Turns.{AreOneWay, GoesOnFrom, ReachesFrom, right, same, after}

left_diff : (a b c d e f g h i j : ℕ) →
    diff c d *ℤ (diff a b *ℤ diff i j +ℤ diff g h) -ℤ diff e f *ℤ (diff a b *ℤ diff g h -ℤ diff i j)
    ≡ diff a b *ℤ (diff c d *ℤ diff i j -ℤ diff e f *ℤ diff g h) +ℤ (diff c d *ℤ diff g h +ℤ diff e f *ℤ diff i j)
left_diff a b c d e f g h i j = simp (product_diff, minus_diff, sum_diff) (same_diff _ _ _ _ (omega arith))

left_is : (n ax ay sx sy : ℤ) → ax *ℤ (n *ℤ sy +ℤ sx) -ℤ ay *ℤ (n *ℤ sx -ℤ sy)
    ≡ n *ℤ (ax *ℤ sy -ℤ ay *ℤ sx) +ℤ (ax *ℤ sx +ℤ ay *ℤ sy)
left_is n ax ay sx sy = rw (is_diff n, is_diff ax, is_diff ay, is_diff sx, is_diff sy)
    (left_diff (up n) (down n) (up ax) (down ax) (up ay) (down ay) (up sx) (down sx) (up sy) (down sy))

pub left_of_after : (n : ℤ) (a s : Point) → cross_of a (after n s) ≡ n *ℤ cross_of a s +ℤ dot_of a s
left_of_after n a s = left_is n a.x a.y s.x s.y

right_diff : (a b c d e f g h i j : ℕ) →
    (diff a b *ℤ diff g h -ℤ diff i j) *ℤ diff e f -ℤ (diff a b *ℤ diff i j +ℤ diff g h) *ℤ diff c d
    ≡ diff a b *ℤ (diff g h *ℤ diff e f -ℤ diff i j *ℤ diff c d) -ℤ (diff g h *ℤ diff c d +ℤ diff i j *ℤ diff e f)
right_diff a b c d e f g h i j = simp (product_diff, minus_diff, sum_diff) (same_diff _ _ _ _ (omega arith))

right_is : (n bx by sx sy : ℤ) → (n *ℤ sx -ℤ sy) *ℤ by -ℤ (n *ℤ sy +ℤ sx) *ℤ bx
    ≡ n *ℤ (sx *ℤ by -ℤ sy *ℤ bx) -ℤ (sx *ℤ bx +ℤ sy *ℤ by)
right_is n bx by sx sy = rw (is_diff n, is_diff bx, is_diff by, is_diff sx, is_diff sy)
    (right_diff (up n) (down n) (up bx) (down bx) (up by) (down by) (up sx) (down sx) (up sy) (down sy))

pub right_of_after : (n : ℤ) (s b : Point) → cross_of (after n s) b ≡ n *ℤ cross_of s b -ℤ dot_of s b
right_of_after n s b = right_is n b.x b.y s.x s.y

-- much of a positive number outweighs what is less
outweighs : (n c m : ℤ) → pos 0 <ℤ c → neg_ℤ n <ℤ m → m <ℤ n → pos 0 <ℤ (n *ℤ c +ℤ m)
outweighs n c m h low high =
    let g = not_negative_product n (c -ℤ pos 1) (omega (arith, ints, low, high)) (omega (arith, ints, h)) in
    let e = times_minus n c (pos 1) in
    let o : n *ℤ pos 1 ≡ n = one n in
    omega (arith, ints, g, e, o, low)
  where
    one : (n : ℤ) → n *ℤ pos 1 ≡ n
    one n = omega (arith, ints)

reaches_after : (n : ℤ) (a s : Point) → ReachesFrom a s → neg_ℤ n <ℤ dot_of a s → dot_of a s <ℤ n
    → pos 0 <ℤ cross_of a (after n s)
reaches_after n a s (right h) low high = positive_as _ _ (left_of_after n a s)
    (outweighs n (cross_of a s) (dot_of a s) h low high)
reaches_after n a s (same h k) low high = positive_as _ _ (left_of_after n a s) (none n (cross_of a s) (dot_of a s) h k)
  where
    none : (n c m : ℤ) → c ≡ pos 0 → pos 0 <ℤ m → pos 0 <ℤ (n *ℤ c +ℤ m)
    none n c m h k = let z = zero_times n c h in omega (arith, ints, z, k)

-- what a blocker spans from s on, it spans just after s
pub spans_after : (n : ℤ) (s : Point) (w : Seen) → ReachesFrom w.from s → pos 0 <ℤ cross_of s w.to
    → neg_ℤ n <ℤ dot_of w.from s → dot_of w.from s <ℤ n → neg_ℤ n <ℤ dot_of s w.to → dot_of s w.to <ℤ n
    → spans (after n s) w ≡ true
spans_after n s w reach h a b c d =
    both_are (positive_tested _ (reaches_after n w.from s reach a b))
    (positive_tested _ (positive_as _ _ (right_of_after n s w.to)
    (minus_is (n *ℤ cross_of s w.to) (dot_of s w.to)
    (outweighs n (cross_of s w.to) (neg_ℤ (dot_of s w.to)) h (omega (arith, ints, d)) (omega (arith, ints, c))))))
  where
    both_are : {a b : Bool} → a ≡ true → b ≡ true → (a && b) ≡ true
    both_are {a} {b} h k = grind arith

    minus_is : (x y : ℤ) → pos 0 <ℤ (x +ℤ neg_ℤ y) → pos 0 <ℤ (x -ℤ y)
    minus_is x y h = omega (arith, ints, h)

-- ---- directions of which neither comes before the other

dot_upper : (ax ay bx by : ℤ) → IsUpper ax ay → IsUpper bx by → ax *ℤ by ≡ ay *ℤ bx → pos 0 <ℤ (ax *ℤ bx +ℤ ay *ℤ by)
dot_upper ax ay bx by (above a_up) (above b_up) e =
    let y = positive_product ay by a_up b_up in
    by_lt_z ax (pos 0)
    (λ a_left. let b_left : bx <ℤ pos 0 = by_lt_z bx (pos 0) (λ h. h)
    (λ h. let g = not_negative_product ay bx (omega (arith, ints, a_up)) h in
    let f = positive_product (neg_ℤ ax) by (omega (arith, ints, a_left)) b_up in
    let m = neg_times ax by in absurd (omega (arith, ints, g, f, m, e))) in
    let x = positive_product (neg_ℤ ax) (neg_ℤ bx) (omega (arith, ints, a_left)) (omega (arith, ints, b_left)) in
    let m = neg_times ax (neg_ℤ bx) in
    let k = times_neg ax bx in
    omega (arith, ints, x, y, m, k))
    (λ a_right. let b_right : pos 0 ≤ℤ bx = by_lt_z bx (pos 0)
    (λ h. let g = not_negative_product ax by a_right (omega (arith, ints, b_up)) in
    let f = positive_product ay (neg_ℤ bx) a_up (omega (arith, ints, h)) in
    let m = times_neg ay bx in absurd (omega (arith, ints, g, f, m, e)))
    (λ h. h) in
    let x = not_negative_product ax bx a_right b_right in
    omega (arith, ints, x, y))
dot_upper ax ay bx by (above a_up) (along b_is b_right) e =
    let z = zero_times ax by b_is in let f = positive_product ay bx a_up b_right in
    absurd (omega (arith, ints, z, f, e))
dot_upper ax ay bx by (along a_is a_right) (above b_up) e =
    let z = zero_times bx ay a_is in let f = positive_product ax by a_right b_up in
    absurd (omega (arith, ints, z, f, e))
dot_upper ax ay bx by (along a_is a_right) (along b_is b_right) e =
    let z = zero_times ay by b_is in let f = positive_product ax bx a_right b_right in omega (arith, ints, z, f)

dot_back : (a b : Point) → dot_of (back a) (back b) ≡ dot_of a b
dot_back a b =
    let p = neg_times a.x (neg_ℤ b.x) in let q = times_neg a.x b.x in
    let r = neg_times a.y (neg_ℤ b.y) in let s = times_neg a.y b.y in
    omega (arith, ints, p, q, r, s)

no_cross : (a b : Point) → int_lt (pos 0) (cross_of a b) ≡ false → int_lt (pos 0) (cross_of b a) ≡ false → cross_of a b
    ≡ pos 0
no_cross a b h k = zero (cross_of a b) (cross_of b a) (cross_of_exchanged a b) (tested_not_positive _ h)
    (tested_not_positive _ k)
  where
    zero : (x y : ℤ) → y ≡ neg_ℤ x → x ≤ℤ pos 0 → y ≤ℤ pos 0 → x ≡ pos 0
    zero x y e h k = omega (arith, ints)

equal_products : (a b : Point) → cross_of a b ≡ pos 0 → a.x *ℤ b.y ≡ a.y *ℤ b.x
equal_products a b h = omega (arith, ints, h)

one_way_of : (u v : Bool) (a b : Point) → IsDirected a → IsDirected b → is_upper a ≡ u → is_upper b ≡ v
    → turns_by u v (int_lt (pos 0) (cross_of a b)) ≡ false → turns_by v u (int_lt (pos 0) (cross_of b a)) ≡ false
    → AreOneWay a b
one_way_of true true a b a_some b_some ha hb h k =
    let e = no_cross a b h k in
    record { line = e; forward = dot_upper a.x a.y b.x b.y (upper_is a ha) (upper_is b hb) (equal_products a b e) }
one_way_of true false a b a_some b_some ha hb h k = absurd (grind arith)
one_way_of false true a b a_some b_some ha hb h k = absurd (grind arith)
one_way_of false false a b a_some b_some ha hb h k =
    let e = no_cross a b h k in
    record {
      line = e;
      forward = positive_as _ _ (sym (dot_back a b))
          (dot_upper (neg_ℤ a.x) (neg_ℤ a.y) (neg_ℤ b.x) (neg_ℤ b.y) (lower_is a a_some ha) (lower_is b b_some hb)
          (equal_products (back a) (back b) (both_back a b ∙ e)));
    }

pub neither_before : (a b : Point) → IsDirected a → IsDirected b → turns_before a b ≡ false → turns_before b a ≡ false
    → AreOneWay a b
unfolding turns_before
neither_before a b a_some b_some = one_way_of (is_upper a) (is_upper b) a b a_some b_some refl refl

-- what goes on from a direction of the same way
dot_turned : (a b : Point) → dot_of a b ≡ dot_of b a
dot_turned a b = omega (arith, ints)

square : (s : Point) → cross_of s (record { x = neg_ℤ s.y; y = s.x }) ≡ dot_of s s
square s = let e = times_neg s.y s.y in omega (arith, ints, e)

along_is : (a s : Point) → cross_of a (record { x = neg_ℤ s.y; y = s.x }) ≡ dot_of a s
along_is a s = let e = times_neg a.y s.y in omega (arith, ints, e)

-- with f in the way of s, what is left of f is left of s
pub goes_on : (f s t : Point) → AreOneWay f s → AreOneWay s s → pos 0 <ℤ cross_of f t → pos 0 <ℤ cross_of s t
goes_on f s t way self left =
    let r : Point = record { x = neg_ℤ s.y; y = s.x } in
    from_four (cross_of f t) (cross_of s r) (cross_of f r) (cross_of t s) (cross_of s t) (cross_of f s) (cross_of t r)
    (four_of f t s r) way.line (positive_as _ _ (square s) self.forward) (positive_as _ _ (along_is f s) way.forward)
    (cross_of_exchanged s t) left
  where
    from_four : (ft sr fr ts st fs tq : ℤ) → ft *ℤ sr +ℤ fr *ℤ ts ≡ fs *ℤ tq → fs ≡ pos 0 → pos 0 <ℤ sr → pos 0 <ℤ fr
        → ts ≡ neg_ℤ st → pos 0 <ℤ ft → pos 0 <ℤ st
    from_four ft sr fr ts st fs tq e z sr_up fr_up ts_is ft_up =
        let g = positive_product ft sr ft_up sr_up in
        let n : fs *ℤ tq ≡ pos 0 = none_times fs tq z in
        let m : fr *ℤ ts ≡ neg_ℤ (st *ℤ fr) = ap (λ u. fr *ℤ u) ts_is ∙ flip st fr in
        positive_factor st fr (omega (arith, ints, e, n, m, g)) fr_up
      where
        flip : (x y : ℤ) → y *ℤ neg_ℤ x ≡ neg_ℤ (x *ℤ y)
        flip x y = let k = times_neg y x in omega (arith, ints, k)

pub self_way : (s : Point) → IsDirected s → AreOneWay s s
self_way s some = neither_before s s some some (never (turns_before s s) (turns_one_way s s))
    (never (turns_before s s) (turns_one_way s s))
  where
    never : (b : Bool) → (b ≡ true → b ≡ false) → b ≡ false
    never true h = h refl
    never false h = refl

-- the blocker that begins goes on from its own direction
pub begins_at : (w : Seen) → IsDirected w.from → pos 0 <ℤ cross_of w.from w.to → GoesOnFrom w.from w
begins_at w some h = let way = self_way w.from some in record { begins = same way.line way.forward; ends = h }

pub spans_on : (s : Point) (w : Seen) → spans s w ≡ true → GoesOnFrom s w
spans_on s w h =
    let two = both_of (int_lt (pos 0) (cross_of w.from s)) (int_lt (pos 0) (cross_of s w.to)) h in
    record { begins = right (tested_positive _ two.0); ends = tested_positive _ two.1 }

-- so all of them and the new one span the direction just after
pub goes_on_after : (n : ℤ) (s : Point) (w : Seen) → GoesOnFrom s w
    → neg_ℤ n <ℤ dot_of w.from s → dot_of w.from s <ℤ n → neg_ℤ n <ℤ dot_of s w.to → dot_of s w.to <ℤ n
    → spans (after n s) w ≡ true
goes_on_after n s w on = spans_after n s w on.begins on.ends

-- ---- cones along a direction

way_back : (a b : Point) → AreOneWay a b → AreOneWay b a
way_back a b w = record {
  line = zero (cross_of a b) (cross_of b a) (cross_of_exchanged a b) w.line;
  forward = positive_as _ _ (dot_turned b a) w.forward;
}
  where
    zero : (x y : ℤ) → y ≡ neg_ℤ x → x ≡ pos 0 → y ≡ pos 0
    zero x y e h = omega (arith, ints, e, h)

pub self_of : (a : Point) → pos 0 <ℤ dot_of a a → AreOneWay a a
self_of a h = record { line = zero a.x a.y; forward = h }
  where
    zero : (x y : ℤ) → x *ℤ y -ℤ y *ℤ x ≡ pos 0
    zero x y = omega (arith, ints)

equal_tests : (x y : ℤ) → (pos 0 <ℤ x → pos 0 <ℤ y) → (pos 0 <ℤ y → pos 0 <ℤ x) → int_lt (pos 0) x ≡ int_lt (pos 0) y
equal_tests x y f g = by_lt_z (pos 0) x
    (λ h. positive_tested x h ∙ sym (positive_tested y (f h)))
    (λ h. by_lt_z (pos 0) y (λ k. absurd (clash (g k) h))
    (λ k. not_positive_tested x h ∙ sym (not_positive_tested y k)))
  where
    clash : pos 0 <ℤ x → x ≤ℤ pos 0 → ⊥
    clash h k = omega (arith, ints, h, k)

-- what is left of u in one of two directions of one way is left of it in the other
pub same_left : (u a b : Point) → AreOneWay a b → AreOneWay a a → AreOneWay b b → int_lt (pos 0) (cross_of u a)
    ≡ int_lt (pos 0) (cross_of u b)
same_left u a b way a_self b_self =
    equal_tests (cross_of u a) (cross_of u b)
    (λ h. unback u b (goes_on a b (back u) way b_self (onto u a h)))
    (λ h. unback u a (goes_on b a (back u) (way_back a b way) a_self (onto u b h)))
  where
    onto : (u a : Point) → pos 0 <ℤ cross_of u a → pos 0 <ℤ cross_of a (back u)
    onto u a h = positive_as _ _ (back_right a u ∙ ap neg_ℤ (cross_of_exchanged u a) ∙ neg_twice _) h

    unback : (u a : Point) → pos 0 <ℤ cross_of a (back u) → pos 0 <ℤ cross_of u a
    unback u a h = positive_as _ _ (sym (back_right a u ∙ ap neg_ℤ (cross_of_exchanged u a) ∙ neg_twice _)) h

cone_by : Bool → Bool → Bool → Bool
cone_by reflex a b = if reflex then (a && b) else (a || b)

-- a cone holds both of two directions of one way, or neither
pub same_cone : (c : Corner) (a b : Point) → AreOneWay a b → AreOneWay a a → AreOneWay b b → is_in_cone c a
    ≡ is_in_cone c b
unfolding is_in_cone cone_by
same_cone c a b way a_self b_self =
    ap (λ t. cone_by (int_lt (pos 0) (orient_of c.prev c.here c.next)) t
    (int_lt (pos 0) (cross_of (vector c.here c.next) a))) (same_left (vector c.prev c.here) a b way a_self b_self)
    ∙ ap (λ t. cone_by (int_lt (pos 0) (orient_of c.prev c.here c.next))
    (int_lt (pos 0) (cross_of (vector c.prev c.here) b)) t) (same_left (vector c.here c.next) a b way a_self b_self)

-- ---- the steps of the sweep
