-- A simple convex obstacle by itself blocks exactly what passes through it, unless both ends are strictly inside.
--
-- What passes through it passes through its inside, and back, since to be inside is to be strictly left of all walls.
-- So this is the law of simple polygons, from whichever end isn't inside.
use Rattle.std.specs.Prelude.{Bool, true, false, not, ◌&&◌, List, map}
use Rattle.std.specs.Ordering.{int_eq}
use Rattle.std.proofs.Common.{◌≡◌, ◌⊎◌, inl, inr, ℕ, ◌-◌, ◌<◌, ℤ, pos, ◌+ℤ◌, ◌*ℤ◌, ◌<ℤ◌, refl, sym, ap, ◌∙◌, subst}
use Rattle.std.proofs.Common.{arith}
use Rattle.std.proofs.lemmas.Int.{ints}
use Rattle.std.proofs.lemmas.Bool.{and_parts, and_from, and_cases, false_from_ne_true, not-true}
use Rattle.std.proofs.Math.Bool.{or_comm}
use Rattle.int_laws.proofs.Ring.{times_zero, product_swapped}
use Rattle.int_laws.proofs.Signs.{positive_factor, tested_positive}
use Rattle.plane_spec.specs.declared.Point.{Point}
use Rattle.plane_spec.specs.declared.Segment.{Segment}
use Rattle.plane_spec.specs.declared.Corner.{Corner}
use Rattle.plane_spec.specs.declared.Orientation.TheVariants.{Counterclockwise}
use Rattle.plane_spec.specs.Vectors.{vector, cross_of, orient_of, same_point, is_left_of_line}
use Rattle.plane_spec.specs.Segments.{is_between, is_on_segment, cross_properly}
use Rattle.plane_spec.specs.Polygons.{is_on_edge, is_inside, is_simple, has_repeat, crosses_nowhere}
use Rattle.plane_spec.specs.Cones.{is_in_cone}
use Rattle.sight_spec.specs.Scene.{Scene, oriented_walls, oriented_corners, blockers_of_scene}
use Rattle.sight_spec.specs.Sight.{crosses, is_in_interior, starts_into_wall}
use Rattle.sight_spec.specs.Sight.{starts_or_ends_in_wall, corner_stops, corner_blocks}
use Rattle.sight_spec.specs.Sight.{is_blocked}
use Rattle.list_laws.proofs.Tests.{list_any_agree}
use Rattle.plane_laws.specs.Enlarged.{enlarged, part_way}
use Rattle.plane_laws.proofs.Tests.{clash}
use Rattle.plane_laws.proofs.Lists.Members.{IsIn, source, mapped}
use Rattle.plane_laws.proofs.Points.Directions.{cross_none}
use Rattle.exact_geom.proofs.Orientation.{orient_of_first_exchanged}
use Rattle.plane_laws.proofs.Points.Heights.{height, height_from}
use Rattle.plane_laws.proofs.Points.Between.{between, same_from_test, apart_back}
use Rattle.plane_laws.proofs.Segments.Touching.{opposite_swapped, opposite_negated}
use Rattle.plane_laws.proofs.Segments.Apart.{Crossing, rises, falls, crossing}
use Rattle.plane_laws.proofs.Points.Scaled.{scaled_wall}
use Rattle.walk_laws.proofs.Walk.{height_of_step}
use Rattle.polygon_laws.specs.Alone.{obstacle_alone}
use Rattle.polygon_laws.specs.Through.{PassesInside}
use Rattle.polygon_laws.proofs.Blocked.{InTheWay, crossed, left_behind, stopped}
use Rattle.polygon_laws.proofs.Enters.{other_end}
use Rattle.polygon_laws.proofs.Plans.{no_screens, obstacle_law}
use Rattle.sight_laws.specs.Convex.{is_convex, is_strictly_inside, PassesThrough}
use Rattle.sight_laws.proofs.Walls.{left_of_walls, from_left_of_walls, walls_enlarged}
use Rattle.sight_laws.proofs.Polygons.{left_where_inside, inside_where_left_enlarged, left_where_inside_enlarged}

-- ---- passing through, and passing through the inside

pub no_repeat : (points : List Point) → is_simple points ≡ true → has_repeat points ≡ false
no_repeat points simple =
    not-true (has_repeat points) (and_parts (not (has_repeat points)) (crosses_nowhere points)
    (and_parts _ (not (has_repeat points) && crosses_nowhere points) simple).1).0

pub through_inside : (points : List Point) (p q : Point) → is_simple points ≡ true → is_convex points ≡ true
    → PassesThrough points p q → PassesInside points p q
through_inside points p q simple convex w = (
  w.0,
  w.1,
  w.2,
  w.3,
  inside_where_left_enlarged points w.1 (part_way w.0 w.1 p q) simple convex
      (let l = w.3 in omega (arith, l)) w.4,
)

pub inside_through : (points : List Point) (p q : Point) → is_simple points ≡ true → is_convex points ≡ true
    → PassesInside points p q → PassesThrough points p q
inside_through points p q simple convex w = (
  w.0,
  w.1,
  w.2,
  w.3,
  left_where_inside_enlarged points w.1 (part_way w.0 w.1 p q) (no_repeat points simple) convex
      (let l = w.3 in omega (arith, l)) w.4,
)

-- the other way along the segment
pub through_back : (points : List Point) (p q : Point) → PassesThrough points p q → PassesThrough points q p
through_back points p q w = (
  w.1 - w.0,
  w.1,
  let l = w.3 in omega (arith, l),
  let l = w.2 in let m = w.3 in omega (arith, l, m),
  subst (λ t. is_strictly_inside t (map (enlarged w.1) points) ≡ true) (other_end w.1 w.0 q p w.3) w.4,
)

-- between two points that are strictly inside, the middle is
through_between : (points : List Point) (p q : Point) → is_strictly_inside p points ≡ true
    → is_strictly_inside q points ≡ true → PassesThrough points p q
through_between points p q p_in q_in =
    (1, 2, omega arith, omega arith, from_left_of_walls (map (enlarged 2) points) (part_way 1 2 p q) left)
  where
    over : (w : Segment) → pos 0 <ℤ height w p → pos 0 <ℤ height w q
        → pos 0 <ℤ height (scaled_wall (pos 2) (pos 2) w) (part_way 1 2 p q)
    over w h k =
        let e = height_of_step 2 1 p q w in
        let f = height_from w.a w.b p q in
        omega (arith, ints, e, f, h, k)

    left : (w : Segment) → IsIn (oriented_walls Counterclockwise (map (enlarged 2) points)) w
        → pos 0 <ℤ height w (part_way 1 2 p q)
    left w there =
        let o = source (scaled_wall (pos 2) (pos 2)) (oriented_walls Counterclockwise points) w
        (subst (λ t. IsIn t w) (walls_enlarged 2 points (omega arith)) there) in
        subst (λ t. pos 0 <ℤ height t (part_way 1 2 p q)) o.is
        (over o.it (left_of_walls points p p_in o.it o.is_in) (left_of_walls points q q_in o.it o.is_in))

-- a segment that is a point passes through only where it is strictly inside
through_point : (points : List Point) (p : Point) → PassesThrough points p p → is_strictly_inside p points ≡ true
through_point points p w = from_left_of_walls points p left
  where
    n : ℕ
    n = w.1

    some : 0 < n
    some = let l = w.3 in omega (arith, l)

    by_sign : (z k c : ℤ) → c ≡ pos 0 → pos 0 <ℤ (pos n *ℤ (pos n *ℤ z +ℤ k *ℤ c)) → pos 0 <ℤ z
    by_sign z k c none h =
        let e = ap (λ t. k *ℤ t) none ∙ times_zero k in
        let up : pos 0 <ℤ pos n = let l = some in omega (arith, ints, l) in
        let a = product_swapped (pos n) (pos n *ℤ z +ℤ k *ℤ c) in
        let first = positive_factor (pos n *ℤ z +ℤ k *ℤ c) (pos n) (omega (arith, ints, a, h)) up in
        let b = product_swapped (pos n) z in
        positive_factor z (pos n) (omega (arith, ints, first, b, e)) up

    left : (f : Segment) → IsIn (oriented_walls Counterclockwise points) f → pos 0 <ℤ height f p
    left f there =
        let h = left_of_walls (map (enlarged n) points) (part_way w.0 n p p) w.4 (scaled_wall (pos n) (pos n) f)
        (subst (λ t. IsIn t (scaled_wall (pos n) (pos n) f)) (sym (walls_enlarged n points some))
        (mapped (scaled_wall (pos n) (pos n)) (oriented_walls Counterclockwise points) f there)) in
        by_sign (height f p) (pos w.0) (cross_of (vector f.a f.b) (vector p p)) (cross_none (vector f.a f.b) p)
        (subst (λ t. pos 0 <ℤ t) (height_of_step n w.0 p p f) h)

-- ---- either way along the segment

crosses_back : (p q : Point) (w : Segment) → crosses q p w ≡ crosses p q w
unfolding cross_properly
crosses_back p q w = rw (
  opposite_swapped (orient_of w.a w.b p) (orient_of w.a w.b q),
  opposite_negated (orient_of p q w.a) (orient_of p q w.b) (orient_of q p w.a) (orient_of q p w.b)
      (orient_of_first_exchanged p q w.a) (orient_of_first_exchanged p q w.b),
) refl

-- what is in the way is so from either end
pub blocked_back : (scene : Scene) (p q : Point) → is_blocked scene q p ≡ is_blocked scene p q
unfolding is_blocked
blocked_back scene p q = rw (
  list_any_agree (crosses q p) (crosses p q) (crosses_back p q) (blockers_of_scene scene),
  list_any_agree (starts_or_ends_in_wall q p) (starts_or_ends_in_wall p q)
      (λ w. or_comm (starts_into_wall q p w) (starts_into_wall p q w)) scene.walls,
  list_any_agree (corner_blocks q p) (corner_blocks p q)
      (λ c. or_comm (corner_stops q p c) (corner_stops p q c)) scene.corners,
) refl

-- ---- a segment that is a point

nothing_in_the_way : (walls : List Segment) (corners : List Corner) (p : Point) → InTheWay walls corners p p → ⊥
unfolding cross_properly starts_into_wall corner_stops
nothing_in_the_way walls corners p (crossed w there h) =
    by_signs (crossing (orient_of w.a w.b p) (orient_of w.a w.b p) (and_parts _ _ h).0)
  where
    by_signs : {z : ℤ} → Crossing z z → ⊥
    by_signs (rises a b) = absurd (omega (arith, ints, a, b))
    by_signs (falls a b) = absurd (omega (arith, ints, a, b))
nothing_in_the_way walls corners p (left_behind w there h) =
    let parts = and_parts (is_in_interior p w) (is_left_of_line w.a w.b p) h in
    let on = between p w.a w.b (and_parts (is_on_edge p w) _ parts.0).0 in
    let line = on.line in
    let left = tested_positive (orient_of w.a w.b p) parts.1 in
    absurd (omega (arith, ints, line, left))
nothing_in_the_way walls corners p (stopped c there h) =
    let parts = and_parts (not (same_point c.here p)) (is_on_segment c.here p p && is_in_cone c (vector c.here p)) h in
    let on = between c.here p p (and_parts (is_on_segment c.here p p) (is_in_cone c (vector c.here p)) parts.1).0 in
    absurd (clash (not-true (same_point c.here p) parts.0) (and_from _ _ (at c.here.x p.x on.x) (at c.here.y p.y on.y)))
  where
    at : (x p : ℤ) → is_between x p p ≡ true → int_eq x p ≡ true
    at x p h = grind (arith, ints)

pub point_unblocked : (points : List Point) (p : Point) → is_blocked (obstacle_alone points) p p ≡ true → ⊥
point_unblocked points p h =
    by_side (no_screens (oriented_walls Counterclockwise points) (oriented_corners Counterclockwise points) p p h)
  where
    by_side : InTheWay (oriented_walls Counterclockwise points) (oriented_corners Counterclockwise points) p p
        ⊎ InTheWay (oriented_walls Counterclockwise points) (oriented_corners Counterclockwise points) p p → ⊥
    by_side (inl way) =
        nothing_in_the_way (oriented_walls Counterclockwise points) (oriented_corners Counterclockwise points) p way
    by_side (inr way) =
        nothing_in_the_way (oriented_walls Counterclockwise points) (oriented_corners Counterclockwise points) p way

-- ---- the laws

not_inside : (points : List Point) (x : Point) → is_simple points ≡ true → is_convex points ≡ true
    → is_strictly_inside x points ≡ false → is_inside x points ≡ false
not_inside points x simple convex out =
    false_from_ne_true (is_inside x points) (λ h. clash out
    (left_where_inside points x (no_repeat points simple) convex h))

-- **what passes through is blocked**
pub through_blocked : (points : List Point) (p q : Point) → is_simple points ≡ true → is_convex points ≡ true
    → (is_strictly_inside p points && is_strictly_inside q points) ≡ false
    → PassesThrough points p q → is_blocked (obstacle_alone points) p q ≡ true
through_blocked points p q simple convex apart w = by_same (same_point p q) refl
  where
    by_end : same_point p q ≡ false → (is_strictly_inside p points ≡ false) ⊎ (is_strictly_inside q points ≡ false)
        → is_blocked (obstacle_alone points) p q ≡ true
    by_end differ (inl out) =
        (obstacle_law points p q simple (not_inside points p simple convex out) differ).1
        (through_inside points p q simple convex w)
    by_end differ (inr out) =
        sym (blocked_back (obstacle_alone points) p q)
        ∙ (obstacle_law points q p simple (not_inside points q simple convex out) (apart_back p q differ)).1
        (through_inside points q p simple convex (through_back points p q w))

    by_same : (t : Bool) → same_point p q ≡ t → is_blocked (obstacle_alone points) p q ≡ true
    by_same false differ = by_end differ (and_cases (is_strictly_inside p points) (is_strictly_inside q points) apart)
    by_same true same =
        let e = same_from_test p q same in
        let p_in = through_point points p (subst (λ t. PassesThrough points p t) e w) in
        absurd (clash apart (and_from _ _ p_in (subst (λ t. is_strictly_inside t points ≡ true) (sym e) p_in)))

-- **what is blocked passes through**
pub blocked_through : (points : List Point) (p q : Point) → is_simple points ≡ true → is_convex points ≡ true
    → is_blocked (obstacle_alone points) p q ≡ true → PassesThrough points p q
blocked_through points p q simple convex h = by_same (same_point p q) refl
  where
    from_p : same_point p q ≡ false → is_inside p points ≡ false → PassesThrough points p q
    from_p differ out = inside_through points p q simple convex ((obstacle_law points p q simple out differ).0 h)

    from_q : same_point p q ≡ false → is_inside q points ≡ false → PassesThrough points p q
    from_q differ out =
        through_back points q p
        (inside_through points q p simple convex ((obstacle_law points q p simple out (apart_back p q differ)).0
        (blocked_back (obstacle_alone points) p q ∙ h)))

    by_ends : same_point p q ≡ false → (s t : Bool) → is_inside p points ≡ s → is_inside q points ≡ t
        → PassesThrough points p q
    by_ends differ false t e f = from_p differ e
    by_ends differ true false e f = from_q differ f
    by_ends differ true true e f =
        through_between points p q (left_where_inside points p (no_repeat points simple) convex e)
        (left_where_inside points q (no_repeat points simple) convex f)

    by_same : (t : Bool) → same_point p q ≡ t → PassesThrough points p q
    by_same false differ = by_ends differ (is_inside p points) (is_inside q points) refl refl
    by_same true same =
        absurd (point_unblocked points p (subst (λ t. is_blocked (obstacle_alone points) p t ≡ true)
        (same_from_test p q same) h))
