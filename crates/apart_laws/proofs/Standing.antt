-- Edges that stand beside each other in a sound plan are apart wherever one direction spans both.
--
-- Edges that don't touch don't cross, and no end of one is on the other; seen from either end of each that stays so.
-- On one line, the farther first end or the nearer last end of two that a direction spans both would be on the other
-- (`Apart`). Edges that follow each other share a corner v. Where v is the last end of one and the first of the other,
-- as they are seen, no direction spans both, since it would be left of v and right of v. Else v is the first end of
-- both or the last of both, they cross nowhere, and the other ends decide as before, since neither is on the other
-- edge.
use Rattle.std.proofs.Common.{◌≡◌, ℤ, neg_ℤ, ◌<ℤ◌, ◌∙◌, pos, arith, refl, ap, subst, sym}
use Rattle.std.proofs.Math.Bool.{or_comm}
use Rattle.std.proofs.lemmas.Int.{ints}
use Rattle.std.specs.Ordering.{int_eq}
use Rattle.std.specs.Prelude.{◌&&◌, Some, None, true, int_lt, Bool, false, cond, int_le}
use Rattle.plane_spec.specs.Segments.{is_on_segment, are_opposite, cross_properly, do_touch, is_between}
use Rattle.plane_spec.specs.Vectors.{vector, cross_of, orient_of}
use Rattle.plane_spec.specs.declared.Point.{Point}
use Rattle.plane_spec.specs.declared.Segment.{Segment}
use Rattle.int_laws.proofs.Signs.{tested_positive}
use Rattle.exact_geom.proofs.Orientation.{orient_of_first_exchanged, orient_of_cycled}
use Rattle.exact_geom.proofs.Turns.{cross_of_exchanged}
use Rattle.apart_laws.proofs.Apart.{seen_from, apart_where, apart_where_ends}
use Rattle.front_laws.proofs.Tests.{some_same, neither_first, neither_second, both_of}
use Rattle.front_laws.specs.Seen.{Seen, seen_of, spans, are_apart, BothApart}

-- ---- how an edge is seen

pub data Ways (p a b : Point) (s : Seen) : Type 0 where
  ahead : pos 0 <ℤ cross_of (vector p a) (vector p b) → seen_from p a b ≡ s → Ways p a b s
  back : pos 0 <ℤ cross_of (vector p b) (vector p a) → seen_from p b a ≡ s → Ways p a b s

none_is_none : {X : Type 0} {P : Type 0} (x : X) → None ≡ Some x → P
none_is_none x h = absurd (grind arith)

back_up : (x y : ℤ) → y ≡ neg_ℤ x → int_lt x (pos 0) ≡ true → pos 0 <ℤ y
back_up x y e h = omega (arith, ints, e, h)

split : {P : Type 0} (n m : Bool) (x y s : Seen) → cond n (Some x) (cond m (Some y) None) ≡ Some s
    → (n ≡ true → x ≡ s → P) → (m ≡ true → y ≡ s → P) → P
split true m x y s h f g = f refl (some_same x s h)
split false true x y s h f g = g refl (some_same y s h)
split false false x y s h f g = none_is_none s h

pub ways_of : (p : Point) (e : Segment) (s : Seen) → seen_of p e ≡ Some s → Ways p e.a e.b s
unfolding seen_of
ways_of p e s h =
    split (int_lt (pos 0) (cross_of (vector p e.a) (vector p e.b)))
    (int_lt (cross_of (vector p e.a) (vector p e.b)) (pos 0)) (seen_from p e.a e.b) (seen_from p e.b e.a) s h
    (λ n w. ahead (tested_positive _ n) w)
    (λ m w. back (back_up _ _ (cross_of_exchanged (vector p e.a) (vector p e.b)) m) w)

-- ---- the facts of two edges ab and ce

-- the ends that don't lie on the other edge: the first ends, or the last
pub data Off (a b c e : Point) : Type 0 where
  firsts : is_on_segment c a b ≡ false → is_on_segment a c e ≡ false → Off a b c e
  lasts : is_on_segment e a b ≡ false → is_on_segment b c e ≡ false → Off a b c e

off_swapped : (a b c e : Point) → Off a b c e → Off c e a b
off_swapped a b c e (firsts h k) = firsts k h
off_swapped a b c e (lasts h k) = lasts k h

abbrev uncrossed : Point → Point → Point → Point → Bool
uncrossed a b c e = are_opposite (orient_of a b c) (orient_of a b e) && are_opposite (orient_of c e a) (orient_of c e b)

one_apart : (p d a b c e : Point) → pos 0 <ℤ cross_of (vector p a) (vector p b)
    → pos 0 <ℤ cross_of (vector p c) (vector p e)
    → spans d (seen_from p a b) ≡ true → spans d (seen_from p c e) ≡ true → uncrossed a b c e ≡ false → Off a b c e
    → are_apart (seen_from p c e) (seen_from p a b) ≡ true
one_apart p d a b c e ab ce w v x (firsts h k) = apart_where p d a b c e ab ce w v x h k
one_apart p d a b c e ab ce w v x (lasts h k) = apart_where_ends p d a b c e ab ce w v x h k

and_swapped : (x y : Bool) → (x && y) ≡ false → (y && x) ≡ false
and_swapped x y h = grind arith

both_apart : (p d a b c e : Point) → pos 0 <ℤ cross_of (vector p a) (vector p b)
    → pos 0 <ℤ cross_of (vector p c) (vector p e)
    → spans d (seen_from p a b) ≡ true → spans d (seen_from p c e) ≡ true → uncrossed a b c e ≡ false → Off a b c e
    → BothApart (seen_from p a b) (seen_from p c e)
both_apart p d a b c e ab ce w v x off = record {
  first = one_apart p d c e a b ce ab v w (and_swapped (are_opposite (orient_of a b c) (orient_of a b e))
      (are_opposite (orient_of c e a) (orient_of c e b)) x) (off_swapped a b c e off);
  second = one_apart p d a b c e ab ce w v x off;
}

-- ---- edges that don't touch

-- the same for any direction of the two
record NotTouching (a b c e : Point) : Type 0 where
  crossing : uncrossed a b c e ≡ false
  a_off : is_on_segment a c e ≡ false
  b_off : is_on_segment b c e ≡ false
  c_off : is_on_segment c a b ≡ false
  e_off : is_on_segment e a b ≡ false

untouched : (a b c e : Point) → do_touch a b c e ≡ false → NotTouching a b c e
unfolding do_touch cross_properly
untouched a b c e h = record {
  crossing = neither_first (uncrossed a b c e) _ h;
  a_off = neither_first _ _ (neither_first _ _ (neither_second (uncrossed a b c e) _ h));
  b_off = neither_second _ _ (neither_first _ _ (neither_second (uncrossed a b c e) _ h));
  c_off = neither_first _ _ (neither_second _ _ (neither_second (uncrossed a b c e) _ h));
  e_off = neither_second _ _ (neither_second _ _ (neither_second (uncrossed a b c e) _ h));
}

zero_turned : (x y : ℤ) → y ≡ neg_ℤ x → int_eq y (pos 0) ≡ int_eq x (pos 0)
zero_turned x y h = grind (arith, ints)

-- a segment is the same from its other end
pub segment_turned : (q a b : Point) → is_on_segment q b a ≡ is_on_segment q a b
unfolding is_on_segment
segment_turned q a b =
    ap (λ t. t && (is_between q.x b.x a.x && is_between q.y b.y a.y))
    (zero_turned (orient_of a b q) (orient_of b a q) (orient_of_first_exchanged a b q))
    ∙ ap (λ t. int_eq (orient_of a b q) (pos 0) && (t && is_between q.y b.y a.y))
    (or_comm (int_le b.x q.x && int_le q.x a.x) (int_le a.x q.x && int_le q.x b.x))
    ∙ ap (λ t. int_eq (orient_of a b q) (pos 0) && (is_between q.x a.x b.x && t))
    (or_comm (int_le b.y q.y && int_le q.y a.y) (int_le a.y q.y && int_le q.y b.y))

flip_first : (x y z u v w : ℤ) → v ≡ neg_ℤ x → w ≡ neg_ℤ y → (are_opposite x y && are_opposite z u) ≡ false
    → (are_opposite v w && are_opposite u z) ≡ false
flip_first x y z u v w h k j = grind (arith, ints)

first_turned : (a b c e : Point) → NotTouching a b c e → NotTouching b a c e
first_turned a b c e n = record {
  crossing = flip_first (orient_of a b c) (orient_of a b e) (orient_of c e a) (orient_of c e b) (orient_of b a c)
      (orient_of b a e) (orient_of_first_exchanged a b c) (orient_of_first_exchanged a b e) n.crossing;
  a_off = n.b_off;
  b_off = n.a_off;
  c_off = segment_turned c a b ∙ n.c_off;
  e_off = segment_turned e a b ∙ n.e_off;
}

swapped_over : (a b c e : Point) → NotTouching a b c e → NotTouching c e a b
swapped_over a b c e n = record {
  crossing = and_swapped (are_opposite (orient_of a b c) (orient_of a b e))
      (are_opposite (orient_of c e a) (orient_of c e b)) n.crossing;
  a_off = n.c_off;
  b_off = n.e_off;
  c_off = n.a_off;
  e_off = n.b_off;
}

second_turned : (a b c e : Point) → NotTouching a b c e → NotTouching a b e c
second_turned a b c e n = swapped_over e c a b (first_turned c e a b (swapped_over a b c e n))

-- ---- together

-- two edges uv and xy of an accepted plan: they don't touch, or they share one end and no more
pub data MayStand (u v x y : Point) : Type 0 where
  clear : do_touch u v x y ≡ false → MayStand u v x y
  next : v ≡ x → is_on_segment u x y ≡ false → is_on_segment y u v ≡ false → MayStand u v x y
  prev : y ≡ u → is_on_segment x u v ≡ false → is_on_segment v x y ≡ false → MayStand u v x y

as_seen : (d : Point) (s t v w : Seen) → v ≡ s → w ≡ t → (spans d v ≡ true → spans d w ≡ true → BothApart v w)
    → spans d s ≡ true → spans d t ≡ true → BothApart s t
as_seen d s t v w h k f = subst (λ z. spans d s ≡ true → spans d z ≡ true → BothApart s z) k
    (subst (λ z. spans d z ≡ true → spans d w ≡ true → BothApart z w) h f)

clear_apart : (p d a b c e : Point) (s t : Seen) → NotTouching a b c e → Ways p a b s → Ways p c e t → spans d s ≡ true
    → spans d t ≡ true → BothApart s t
clear_apart p d a b c e s t n (ahead ab v) (ahead ce w) =
    as_seen d s t (seen_from p a b) (seen_from p c e) v w
    (λ h k. both_apart p d a b c e ab ce h k n.crossing (firsts n.c_off n.a_off))
clear_apart p d a b c e s t n (back ab v) (ahead ce w) =
    let m = first_turned a b c e n in
    as_seen d s t (seen_from p b a) (seen_from p c e) v w
    (λ h k. both_apart p d b a c e ab ce h k m.crossing (firsts m.c_off m.a_off))
clear_apart p d a b c e s t n (ahead ab v) (back ce w) =
    let m = second_turned a b c e n in
    as_seen d s t (seen_from p a b) (seen_from p e c) v w
    (λ h k. both_apart p d a b e c ab ce h k m.crossing (firsts m.c_off m.a_off))
clear_apart p d a b c e s t n (back ab v) (back ce w) =
    let m = second_turned b a c e (first_turned a b c e n) in
    as_seen d s t (seen_from p b a) (seen_from p e c) v w
    (λ h k. both_apart p d b a e c ab ce h k m.crossing (firsts m.c_off m.a_off))

own_opposite : (z : ℤ) → z ≡ neg_ℤ z → z ≡ pos 0
own_opposite z h = omega (arith, ints, h)

twin_first : (a c : Point) → orient_of a a c ≡ pos 0
twin_first a c = own_opposite _ (orient_of_first_exchanged a a c)

pub twin_ends : (a b : Point) → orient_of a b a ≡ pos 0
twin_ends a b = orient_of_cycled a a b ∙ twin_first a b

twin_last : (a b : Point) → orient_of a b b ≡ pos 0
twin_last a b = orient_of_cycled b a b ∙ twin_ends b a

none_opposite_first : (x y z u : ℤ) → x ≡ pos 0 → (are_opposite x y && are_opposite z u) ≡ false
none_opposite_first x y z u h = grind (arith, ints)

none_opposite_last : (x y z u : ℤ) → y ≡ pos 0 → (are_opposite x y && are_opposite z u) ≡ false
none_opposite_last x y z u h = grind (arith, ints)

not_both : {P : Type 0} (d b : Point) → int_lt (pos 0) (cross_of d b) ≡ true → int_lt (pos 0) (cross_of b d) ≡ true → P
not_both d b h k = absurd (no _ _ (cross_of_exchanged d b) h k)
  where
    no : (x y : ℤ) → y ≡ neg_ℤ x → int_lt (pos 0) x ≡ true → int_lt (pos 0) y ≡ true → ⊥
    no x y e h k = omega (arith, ints, e, h, k)

spans_from : (d : Point) (s : Seen) → spans d s ≡ true → int_lt (pos 0) (cross_of s.from d) ≡ true
spans_from d s h = (both_of (int_lt (pos 0) (cross_of s.from d)) (int_lt (pos 0) (cross_of d s.to)) h).0

spans_to : (d : Point) (s : Seen) → spans d s ≡ true → int_lt (pos 0) (cross_of d s.to) ≡ true
spans_to d s h = (both_of (int_lt (pos 0) (cross_of s.from d)) (int_lt (pos 0) (cross_of d s.to)) h).1

-- the second edge begins where the first ends
next_apart : (p d u v y : Point) (s t : Seen) → is_on_segment u v y ≡ false → is_on_segment y u v ≡ false
    → Ways p u v s → Ways p v y t → spans d s ≡ true → spans d t ≡ true → BothApart s t
next_apart p d u v y s t u_off y_off (ahead ab i) (ahead ce j) =
    as_seen d s t (seen_from p u v) (seen_from p v y) i j
    (λ h k. not_both d (vector p v) (spans_to d (seen_from p u v) h) (spans_from d (seen_from p v y) k))
next_apart p d u v y s t u_off y_off (ahead ab i) (back ce j) =
    as_seen d s t (seen_from p u v) (seen_from p y v) i j (λ h k. both_apart p d u v y v ab ce h k
    (none_opposite_last (orient_of u v y) (orient_of u v v) (orient_of y v u) (orient_of y v v) (twin_last u v))
    (firsts y_off (segment_turned u v y ∙ u_off)))
next_apart p d u v y s t u_off y_off (back ab i) (ahead ce j) =
    as_seen d s t (seen_from p v u) (seen_from p v y) i j (λ h k. both_apart p d v u v y ab ce h k
    (none_opposite_first (orient_of v u v) (orient_of v u y) (orient_of v y v) (orient_of v y u) (twin_ends v u))
    (lasts (segment_turned y u v ∙ y_off) u_off))
next_apart p d u v y s t u_off y_off (back ab i) (back ce j) =
    as_seen d s t (seen_from p v u) (seen_from p y v) i j
    (λ h k. not_both d (vector p v) (spans_to d (seen_from p y v) k) (spans_from d (seen_from p v u) h))

apart_swapped : (s t : Seen) → BothApart s t → BothApart t s
apart_swapped s t b = record { first = b.second; second = b.first }

-- two edges of an accepted plan are apart wherever one direction spans both
pub standing_apart : (p d u v x y : Point) (s t : Seen) → MayStand u v x y → Ways p u v s → Ways p x y t → spans d s
    ≡ true → spans d t ≡ true → BothApart s t
standing_apart p d u v x y s t (clear h) v_s v_t = clear_apart p d u v x y s t (untouched u v x y h) v_s v_t
standing_apart p d u v x y s t (next e u_off y_off) v_s v_t =
    let at : (z : Point) → v ≡ z → is_on_segment u z y ≡ false → Ways p z y t → spans d s ≡ true → spans d t ≡ true
    → BothApart s t =
    λ z same off w. next_apart p d u v y s t (subst (λ k. is_on_segment u k y ≡ false) (sym same) off) y_off v_s
    (subst (λ k. Ways p k y t) (sym same) w) in
    at x e u_off v_t
standing_apart p d u v x y s t (prev e x_off v_off) v_s v_t =
    let at : (z : Point) → y ≡ z → is_on_segment x z v ≡ false → Ways p z v s → spans d s ≡ true → spans d t ≡ true
    → BothApart s t =
    λ z same off w h k. apart_swapped t s (next_apart p d x y v t s
    (subst (λ k. is_on_segment x k v ≡ false) (sym same) off) v_off v_t
    (subst (λ k. Ways p k v s) (sym same) w) k h) in
    at u e x_off v_s
