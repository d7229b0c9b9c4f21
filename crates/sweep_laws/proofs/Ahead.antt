-- What corners stop a segment, by the nearest ones of its direction.
use Rattle.std.proofs.Common.{◌≡◌, ℤ, neg_ℤ, ◌+ℤ◌, ◌-ℤ◌, ◌*ℤ◌, ◌<ℤ◌, ◌≤ℤ◌, ap, ◌∙◌, arith, pos, sym, subst, refl, List}
use Rattle.std.proofs.Common.{get_or}
use Rattle.std.proofs.lemmas.Int.{ints}
use Rattle.std.specs.List.{list_any}
use Rattle.std.specs.Ordering.{int_eq}
use Rattle.std.specs.Prelude.{Bool, true, false, ◌&&◌, ◌||◌, not, int_lt, int_le}
use Rattle.plane_spec.specs.Cones.{is_in_cone}
use Rattle.plane_spec.specs.Segments.{is_on_segment, is_between}
use Rattle.plane_spec.specs.Vectors.{point, vector, cross_of, dot_of, same_point, orient_of, reversed_direction}
use Rattle.plane_spec.specs.declared.Corner.{Corner}
use Rattle.plane_spec.specs.declared.Point.{Point}
use Rattle.sight_spec.specs.Sight.{corner_stops, corner_blocks}
use Rattle.int_laws.proofs.Ring.{neg_times, times_neg, product_swapped, times_minus}
use Rattle.int_laws.proofs.Tests.{less_tested, tested_less, agree, at_most_tested, tested_at_most}
use Rattle.list_laws.proofs.Tests.{list_any_or, list_any_agree}
use Rattle.apart_laws.proofs.Plans.{points_same}
use Rattle.apart_laws.proofs.Standing.{segment_turned, twin_ends}
use Rattle.front_laws.proofs.Lists.{any_is}
use Rattle.front_laws.proofs.Tests.{both_true, zero_tested, both_of, tested_zero, by_cases, no_difference}
use Rattle.front_laws.proofs.Tests.{at_most_of_less, other_of_either, tested_not, at_most_itself}
use Rattle.sweep_laws.proofs.Reach.{reaches}
use Rattle.sweep_laws.specs.Groups.{stands_in, is_ahead, is_behind, is_own, no_corner, IsNearest}
use Rattle.sweep_laws.proofs.OnSegment.{onward_of, stops_along}

of_not : (a : Bool) → a ≡ false → not a ≡ true
of_not a h = ap not h

-- ---- vectors the other way

minus_turned : (x y : ℤ) → x -ℤ y ≡ neg_ℤ (y -ℤ x)
minus_turned x y = omega (arith, ints)

pub vector_turned : (p q : Point) → vector q p ≡ reversed_direction (vector p q)
vector_turned p q = ap (λ t. point t (p.y -ℤ q.y)) (minus_turned p.x q.x)
    ∙ ap (λ t. point (neg_ℤ (q.x -ℤ p.x)) t) (minus_turned p.y q.y)

cross_backs : (a b : Point) → cross_of (reversed_direction a) (reversed_direction b) ≡ cross_of a b
cross_backs a b =
    let e = neg_times a.x (neg_ℤ b.y) in let f = times_neg a.x b.y in
    let g = neg_times a.y (neg_ℤ b.x) in let h = times_neg a.y b.x in omega (arith, ints, e, f, g, h)

dot_backs : (a b : Point) → dot_of (reversed_direction a) (reversed_direction b) ≡ dot_of a b
dot_backs a b =
    let e = neg_times a.x (neg_ℤ b.x) in let f = times_neg a.x b.x in
    let g = neg_times a.y (neg_ℤ b.y) in let h = times_neg a.y b.y in omega (arith, ints, e, f, g, h)

cross_swapped : (a b : Point) → cross_of a b ≡ pos 0 → cross_of b a ≡ pos 0
cross_swapped a b h = omega (arith, ints, h)

dot_swapped : (a b : Point) → dot_of a b ≡ dot_of b a
dot_swapped a b = omega (arith, ints)

-- the way to a point of the segment and on to its end
dot_parts : (p x q : Point) → dot_of (vector p q) (vector p x) +ℤ dot_of (vector x q) (vector p q)
    ≡ dot_of (vector p q) (vector p q)
dot_parts p x q =
    let dx = q.x -ℤ p.x in let dy = q.y -ℤ p.y in
    let a = times_minus dx x.x p.x in let b = times_minus dy x.y p.y in
    let c : (q.x -ℤ x.x) *ℤ dx ≡ dx *ℤ q.x -ℤ dx *ℤ x.x = product_swapped (q.x -ℤ x.x) dx ∙ times_minus dx q.x x.x in
    let e : (q.y -ℤ x.y) *ℤ dy ≡ dy *ℤ q.y -ℤ dy *ℤ x.y = product_swapped (q.y -ℤ x.y) dy ∙ times_minus dy q.y x.y in
    let f = times_minus dx q.x p.x in let g = times_minus dy q.y p.y in
    omega (arith, ints, a, b, c, e, f, g)

-- ---- points of a segment

on_turned : (x p q : Point) → is_on_segment x p q ≡ true → is_on_segment x q p ≡ true
on_turned x p q h = segment_turned x p q ∙ h

-- a point of the segment that isn't its start is in the segment's direction
in_direction : (p q x : Point) → is_on_segment x p q ≡ true → same_point x p ≡ false → stands_in p (vector p q) x ≡ true
in_direction p q x on other =
    let way = (onward_of x q p (on_turned x p q on) other).way in
    let d = vector p q in
    let v = vector p x in
    let line : cross_of v d ≡ pos 0 = sym (cross_backs v d)
    ∙ ap (λ t. cross_of t (reversed_direction d)) (sym (vector_turned p x))
    ∙ ap (λ t. cross_of (vector x p) t) (sym (vector_turned p q)) ∙ way.line in
    let dots : dot_of d v ≡ dot_of (vector x p) (vector q p) = dot_swapped d v ∙ sym (dot_backs v d)
    ∙ ap (λ t. dot_of t (reversed_direction d)) (sym (vector_turned p x))
    ∙ ap (λ t. dot_of (vector x p) t) (sym (vector_turned p q)) in
    both_true (int_eq (cross_of d v) (pos 0)) (int_lt (pos 0) (dot_of d v)) (zero_tested _ (cross_swapped v d line))
    (less_tested (pos 0) (dot_of d v) (subst (λ t. pos 0 <ℤ t) (sym dots) way.forward))

-- and nearer than the end, where it isn't the end
before_end : (p q x : Point) → is_on_segment x p q ≡ true → same_point x q ≡ false
    → dot_of (vector p q) (vector p x) <ℤ dot_of (vector p q) (vector p q)
before_end p q x on other =
    let way = (onward_of x p q on other).way in
    less_by _ _ _ (dot_parts p x q) way.forward
  where
    less_by : (a b c : ℤ) → a +ℤ b ≡ c → pos 0 <ℤ b → a <ℤ c
    less_by a b c e h = omega (arith, ints, e, h)

on_by : (p q x : Point) → stands_in p (vector p q) x ≡ true
    → dot_of (vector p q) (vector p x) ≤ℤ dot_of (vector p q) (vector p q) → is_on_segment x p q ≡ true
on_by p q x h near =
    let d = vector p q in
    let v = vector p x in
    let two = both_of (int_eq (cross_of d v) (pos 0)) (int_lt (pos 0) (dot_of d v)) h in
    let line = tested_zero (cross_of d v) two.0 in
    let forward = tested_less (pos 0) (dot_of d v) two.1 in
    let same = dot_swapped d v in
    reaches x p q d (cross_swapped d v line) line (some (dot_of d v) (dot_of d d) forward near)
    (from_zero (dot_of v d) (dot_of d v) same forward) (moved (dot_of v d) (dot_of d v) (dot_of d d) same near)
  where
    some : (a b : ℤ) → pos 0 <ℤ a → a ≤ℤ b → pos 0 <ℤ b
    some a b h k = omega (arith, ints, h, k)

    from_zero : (a b : ℤ) → b ≡ a → pos 0 <ℤ b → pos 0 ≤ℤ a
    from_zero a b e h = omega (arith, ints, e, h)

    moved : (a b c : ℤ) → b ≡ a → b ≤ℤ c → a ≤ℤ c
    moved a b c e h = omega (arith, ints, e, h)

at_start : (p q : Point) → is_on_segment p p q ≡ true
unfolding is_on_segment
at_start p q = both_true (int_eq (orient_of p q p) (pos 0)) (is_between p.x p.x q.x && is_between p.y p.y q.y)
    (zero_tested _ (twin_ends p q)) (both_true (is_between p.x p.x q.x) (is_between p.y p.y q.y) (own p.x q.x)
    (own p.y q.y))
  where
    own : (x y : ℤ) → is_between x x y ≡ true
    own x y = grind (arith, ints)

never_less : {P : Type 0} (z : ℤ) → z <ℤ z → P
never_less z h = absurd (omega (arith, ints, h))

not_at_start : (p d x : Point) → stands_in p d x ≡ true → same_point x p ≡ false
not_at_start p d x h = by_cases (same_point x p)
    (λ e. let two = both_of (int_eq (cross_of d (vector p x)) (pos 0)) (int_lt (pos 0) (dot_of d (vector p x))) h in
    absurd (none d.x d.y (x.x -ℤ p.x) (x.y -ℤ p.y) (no_difference x.x p.x (ap (λ t. t.x) (points_same x p e)))
    (no_difference x.y p.y (ap (λ t. t.y) (points_same x p e)))
    (tested_less (pos 0) (dot_of d (vector p x)) two.1)))
    (λ e. e)
  where
    none : (x y u v : ℤ) → u ≡ pos 0 → v ≡ pos 0 → pos 0 <ℤ (x *ℤ u +ℤ y *ℤ v) → ⊥
    none x y u v a b h =
        let e : x *ℤ u ≡ x *ℤ pos 0 = ap (λ t. x *ℤ t) a in
        let f : y *ℤ v ≡ y *ℤ pos 0 = ap (λ t. y *ℤ t) b in
        omega (arith, ints, e, f, h)

not_at_end : (p q x : Point) → dot_of (vector p q) (vector p x) <ℤ dot_of (vector p q) (vector p q) → same_point x q
    ≡ false
not_at_end p q x h = by_cases (same_point x q)
    (λ e. never_less (dot_of (vector p q) (vector p q))
    (subst (λ t. dot_of (vector p q) (vector p t) <ℤ dot_of (vector p q) (vector p q)) (points_same x q e) h))
    (λ e. e)

-- ---- one corner

-- where a point lies on the segment before its end
before_where : (p q x : Point) → same_point p q ≡ false
    → (not (same_point x q) && is_on_segment x p q)
    ≡ (same_point x p || (stands_in p (vector p q) x && int_lt (dot_of (vector p q) (vector p x))
    (dot_of (vector p q) (vector p q))))
before_where p q x differ =
    let d = vector p q in
    let v = vector p x in
    agree _ _
    (λ h. let two = both_of (not (same_point x q)) (is_on_segment x p q) h in
    or_by (same_point x p) _ (λ other. both_true (stands_in p d x) (int_lt (dot_of d v) (dot_of d d))
    (in_direction p q x two.1 other)
    (less_tested (dot_of d v) (dot_of d d) (before_end p q x two.1 (tested_not _ two.0)))))
    (λ h. by_cases (same_point x p)
    (λ e. let same = points_same x p e in
    subst (λ t. (not (same_point t q) && is_on_segment t p q) ≡ true) (sym same)
    (both_true (not (same_point p q)) (is_on_segment p p q) (of_not _ differ) (at_start p q)))
    (λ other. let two = both_of (stands_in p d x) (int_lt (dot_of d v) (dot_of d d))
    (other_of_either (same_point x p) _ other h) in
    let less = tested_less (dot_of d v) (dot_of d d) two.1 in
    both_true (not (same_point x q)) (is_on_segment x p q) (of_not _ (not_at_end p q x less))
    (on_by p q x two.0 (at_most_of_less (dot_of d v) (dot_of d d) less))))
  where
    or_by : (a b : Bool) → (a ≡ false → b ≡ true) → (a || b) ≡ true
    or_by true b f = refl
    or_by false b f = f refl

-- where a point lies on the segment after its start
after_where : (p q x : Point)
    → (not (same_point x p) && is_on_segment x q p)
    ≡ (stands_in p (vector p q) x && int_le (dot_of (vector p q) (vector p x)) (dot_of (vector p q) (vector p q)))
after_where p q x =
    let d = vector p q in
    let v = vector p x in
    agree _ _
    (λ h. let two = both_of (not (same_point x p)) (is_on_segment x q p) h in
    let on = on_turned x q p two.1 in
    both_true (stands_in p d x) (int_le (dot_of d v) (dot_of d d)) (in_direction p q x on (tested_not _ two.0))
    (at_most_tested (dot_of d v) (dot_of d d) (by_cases (same_point x q)
    (λ e. subst (λ t. dot_of d (vector p t) ≤ℤ dot_of d d) (sym (points_same x q e))
    (at_most_itself (dot_of d d)))
    (λ other. at_most_of_less (dot_of d v) (dot_of d d) (before_end p q x on other)))))
    (λ h. let two = both_of (stands_in p d x) (int_le (dot_of d v) (dot_of d d)) h in
    both_true (not (same_point x p)) (is_on_segment x q p) (of_not _ (not_at_start p d x two.0))
    (on_turned x p q (on_by p q x two.0 (tested_at_most (dot_of d v) (dot_of d d) two.1))))

abbrev pub is_before_end : Point → Point → Corner → Bool
is_before_end p d c = is_ahead p d c && int_lt (dot_of d (vector p c.here)) (dot_of d d)

abbrev pub is_up_to_end : Point → Point → Corner → Bool
is_up_to_end p d c = is_behind p d c && int_le (dot_of d (vector p c.here)) (dot_of d d)

stops_where : (p q : Point) (c : Corner) → same_point p q ≡ false → corner_stops p q c
    ≡ (is_own p (vector p q) c || is_before_end p (vector p q) c)
stops_where p q c differ =
    let d = vector p q in
    stops_along p q c
    ∙ spread (not (same_point c.here q)) (is_on_segment c.here p q) (same_point c.here p) (stands_in p d c.here)
    (int_lt (dot_of d (vector p c.here)) (dot_of d d)) (is_in_cone c d) (before_where p q c.here differ)
  where
    spread : (a b s t l k : Bool) → (a && b) ≡ (s || (t && l)) → (a && (b && k)) ≡ ((s && k) || ((t && k) && l))
    spread a b s t l k h = grind arith

stops_back_where : (p q : Point) (c : Corner) → corner_stops q p c ≡ is_up_to_end p (vector p q) c
stops_back_where p q c =
    let d = vector p q in
    stops_along q p c
    ∙ ap (λ t. not (same_point c.here p) && (is_on_segment c.here q p && is_in_cone c t)) (vector_turned p q)
    ∙ spread (not (same_point c.here p)) (is_on_segment c.here q p) (stands_in p d c.here)
    (int_le (dot_of d (vector p c.here)) (dot_of d d)) (is_in_cone c (reversed_direction d)) (after_where p q c.here)
  where
    spread : (a b t l k : Bool) → (a && b) ≡ (t && l) → (a && (b && k)) ≡ ((t && k) && l)
    spread a b t l k h = grind arith

-- ---- all of them

pub none_before : (p d : Point) (corners : List Corner) → list_any (is_ahead p d) corners ≡ false
    → list_any (is_before_end p d) corners ≡ false
none_before p d corners h =
    any_is (is_before_end p d) corners no_corner false
    (λ some. let c = get_or corners some.place no_corner in
    sym h ∙ any_is (is_ahead p d) corners no_corner true (λ t. refl)
    (λ t. record {
      place = some.place;
      within = some.within;
      holds = (both_of (is_ahead p d c) (int_lt (dot_of d (vector p c.here)) (dot_of d d)) some.holds).0;
    }))
    (λ k. absurd (grind arith))

pub none_up_to : (p d : Point) (corners : List Corner) → list_any (is_behind p d) corners ≡ false
    → list_any (is_up_to_end p d) corners ≡ false
none_up_to p d corners h =
    any_is (is_up_to_end p d) corners no_corner false
    (λ some. let c = get_or corners some.place no_corner in
    sym h ∙ any_is (is_behind p d) corners no_corner true (λ t. refl)
    (λ t. record {
      place = some.place;
      within = some.within;
      holds = (both_of (is_behind p d c) (int_le (dot_of d (vector p c.here)) (dot_of d d)) some.holds).0;
    }))
    (λ k. absurd (grind arith))

pub before_by_nearest : (p d v : Point) (corners : List Corner) → IsNearest p d (is_ahead p d) corners v
    → list_any (is_before_end p d) corners ≡ int_lt (dot_of d v) (dot_of d d)
before_by_nearest p d v corners n =
    any_is (is_before_end p d) corners no_corner (int_lt (dot_of d v) (dot_of d d))
    (λ some. let c = get_or corners some.place no_corner in
    let two = both_of (is_ahead p d c) (int_lt (dot_of d (vector p c.here)) (dot_of d d)) some.holds in
    less_tested (dot_of d v) (dot_of d d) (chain (dot_of d v) (dot_of d (vector p c.here)) (dot_of d d)
    (n.nearest some.place some.within two.0) (tested_less (dot_of d (vector p c.here)) (dot_of d d) two.1)))
    (λ h. let c = get_or corners n.place no_corner in
    record {
      place = n.place;
      within = n.within;
      holds = both_true (is_ahead p d c)
          (int_lt (dot_of d (vector p c.here)) (dot_of d d)) n.passes
          (subst (λ t. int_lt (dot_of d t) (dot_of d d) ≡ true) (sym n.at) h);
    })
  where
    chain : (x y z : ℤ) → x ≤ℤ y → y <ℤ z → x <ℤ z
    chain x y z h k = omega (arith, ints, h, k)

pub up_to_by_nearest : (p d v : Point) (corners : List Corner) → IsNearest p d (is_behind p d) corners v
    → list_any (is_up_to_end p d) corners ≡ int_le (dot_of d v) (dot_of d d)
up_to_by_nearest p d v corners n =
    any_is (is_up_to_end p d) corners no_corner (int_le (dot_of d v) (dot_of d d))
    (λ some. let c = get_or corners some.place no_corner in
    let two = both_of (is_behind p d c) (int_le (dot_of d (vector p c.here)) (dot_of d d)) some.holds in
    at_most_tested (dot_of d v) (dot_of d d)
    (chain (dot_of d v) (dot_of d (vector p c.here)) (dot_of d d) (n.nearest some.place some.within two.0)
    (tested_at_most (dot_of d (vector p c.here)) (dot_of d d) two.1)))
    (λ h. let c = get_or corners n.place no_corner in
    record {
      place = n.place;
      within = n.within;
      holds = both_true (is_behind p d c)
          (int_le (dot_of d (vector p c.here)) (dot_of d d)) n.passes
          (subst (λ t. int_le (dot_of d t) (dot_of d d) ≡ true) (sym n.at) h);
    })
  where
    chain : (x y z : ℤ) → x ≤ℤ y → y ≤ℤ z → x ≤ℤ z
    chain x y z h k = omega (arith, ints, h, k)

-- the corners that block a segment: one at its start, one ahead before its end, one that is in the way back
pub corners_where : (p q : Point) (corners : List Corner) → same_point p q ≡ false
    → list_any (corner_blocks p q) corners
    ≡ ((list_any (is_own p (vector p q)) corners || list_any (is_before_end p (vector p q)) corners)
    || list_any (is_up_to_end p (vector p q)) corners)
corners_where p q corners differ =
    let d = vector p q in
    list_any_or (corner_stops p q) (corner_stops q p) corners
    ∙ ap (λ t. t || list_any (corner_stops q p) corners)
    (list_any_agree (corner_stops p q) (λ c. is_own p d c || is_before_end p d c) (λ c. stops_where p q c differ)
    corners ∙ list_any_or (is_own p d) (is_before_end p d) corners)
    ∙ ap (λ t. (list_any (is_own p d) corners || list_any (is_before_end p d) corners) || t)
    (list_any_agree (corner_stops q p) (is_up_to_end p d) (λ c. stops_back_where p q c) corners)
