-- Between two points that are on or left of all walls, none of an outer polygon's walls or corners is in the way: the
-- outer polygon's walls lead the other way, so both points are on them or on their right, and what is blocked lies
-- left.
use Rattle.std.specs.Prelude.{Bool, true, false, not, ◌&&◌, ◌||◌, if◌then◌else◌, List, map}
use Rattle.std.proofs.Common.{◌≡◌, ◌⊎◌, inl, inr, ℤ, pos, ◌<ℤ◌, ◌≤ℤ◌, sym, subst, arith}
use Rattle.std.proofs.lemmas.Int.{ints}
use Rattle.std.proofs.lemmas.Bool.{and_parts, or_cases, false_from_ne_true}
use Rattle.int_laws.proofs.Signs.{tested_positive}
use Rattle.plane_spec.specs.declared.Point.{Point}
use Rattle.plane_spec.specs.declared.Segment.{Segment}
use Rattle.plane_spec.specs.declared.Corner.{Corner}
use Rattle.plane_spec.specs.declared.Orientation.TheVariants.{Counterclockwise, Clockwise}
use Rattle.plane_spec.specs.Vectors.{vector, cross_of, orient_of, same_point, turns_left, is_left_of_line}
use Rattle.plane_spec.specs.Segments.{is_on_segment, cross_properly}
use Rattle.plane_spec.specs.Polygons.{edges_of, is_counterclockwise}
use Rattle.plane_spec.specs.Cones.{corner, is_in_cone}
use Rattle.sight_spec.specs.Scene.{turned_edge, turned_corner, oriented_walls, oriented_corners, corners_along}
use Rattle.sight_spec.specs.Sight.{is_in_interior, starts_into_wall, corner_stops, is_blocked}
use Rattle.exact_geom.proofs.Orientation.{orient_of_first_exchanged}
use Rattle.plane_laws.proofs.Lists.Members.{IsIn, source, mapped}
use Rattle.plane_laws.proofs.Points.Directions.{turn_is}
use Rattle.plane_laws.proofs.Segments.Apart.{Crossing, rises, falls, crossing}
use Rattle.cone_laws.proofs.Rounds.{CornerOf, all_corners, turned_from}
use Rattle.polygon_laws.specs.Alone.{outer_alone}
use Rattle.polygon_laws.proofs.Blocked.{InTheWay, crossed, left_behind, stopped}
use Rattle.polygon_laws.proofs.Plans.{no_screens}
use Rattle.sight_laws.specs.Convex.{is_on_or_inside}
use Rattle.sight_laws.proofs.Walls.{over_walls}

-- ---- the outer polygon's walls and corners

-- turned round, a wall of the outer polygon is one of an obstacle of that shape
turned_wall : (points : List Point) (w : Segment) → IsIn (oriented_walls Clockwise points) w
    → IsIn (oriented_walls Counterclockwise points) (turned_edge w)
unfolding oriented_walls
turned_wall points w there = by_turn (is_counterclockwise points) there
  where
    by_turn : (t : Bool) → IsIn (if not t then edges_of points else map turned_edge (edges_of points)) w
        → IsIn (if t then edges_of points else map turned_edge (edges_of points)) (turned_edge w)
    by_turn true k =
        let o = source turned_edge (edges_of points) w k in
        subst (λ t. IsIn (edges_of points) (turned_edge t)) o.is o.is_in
    by_turn false k = mapped turned_edge (edges_of points) w k

-- each of its corners is between two of its walls
corner_between : (points : List Point) (c : Corner) → IsIn (oriented_corners Clockwise points) c
    → CornerOf (oriented_walls Clockwise points) c
unfolding oriented_walls oriented_corners
corner_between points c there = by_turn (is_counterclockwise points) there
  where
    by_turn : (t : Bool)
        → IsIn (if not t then corners_along (edges_of points)
        else map turned_corner (corners_along (edges_of points))) c
        → CornerOf (if not t then edges_of points else map turned_edge (edges_of points)) c
    by_turn true k =
        let o = source turned_corner (corners_along (edges_of points)) c k in
        turned_from (edges_of points) c o.it o.is ((all_corners points).from o.it o.is_in)
    by_turn false k = (all_corners points).from c k

-- a direction in the cone of a corner is left of one of its walls
left_of_one : (u v z d : Point) → is_in_cone (corner u v z) d ≡ true
    → (pos 0 <ℤ cross_of (vector u v) d) ⊎ (pos 0 <ℤ cross_of (vector v z) d)
unfolding is_in_cone
left_of_one u v z d h = by_turn (is_left_of_line u v z) h
  where
    by_turn : (t : Bool)
        → (if t then (turns_left (vector u v) d && turns_left (vector v z) d)
        else (turns_left (vector u v) d || turns_left (vector v z) d)) ≡ true
        → (pos 0 <ℤ cross_of (vector u v) d) ⊎ (pos 0 <ℤ cross_of (vector v z) d)
    by_turn true k =
        inl (tested_positive (cross_of (vector u v) d)
        (and_parts (turns_left (vector u v) d) (turns_left (vector v z) d) k).0)
    by_turn false k = elim (or_cases (turns_left (vector u v) d) (turns_left (vector v z) d) k) [
      | inl l ↦ inl (tested_positive (cross_of (vector u v) d) l)
      | inr l ↦ inr (tested_positive (cross_of (vector v z) d) l)
    ]

-- ---- what isn't in the way

never_in_the_way : (points : List Point) (p q : Point) → is_on_or_inside p points ≡ true
    → is_on_or_inside q points ≡ true
    → InTheWay (oriented_walls Clockwise points) (oriented_corners Clockwise points) p q → ⊥
unfolding cross_properly starts_into_wall corner_stops
never_in_the_way points p q p_over q_over way = by_way way
  where
    right : (x : Point) → is_on_or_inside x points ≡ true → (w : Segment) → IsIn (oriented_walls Clockwise points) w
        → orient_of w.a w.b x ≤ℤ pos 0
    right x over w there =
        let h = over_walls points x over (turned_edge w) (turned_wall points w there) in
        let o = orient_of_first_exchanged w.a w.b x in
        omega (arith, ints, h, o)

    by_signs : (s t : ℤ) → s ≤ℤ pos 0 → t ≤ℤ pos 0 → Crossing s t → ⊥
    by_signs s t h k (rises a b) = absurd (omega (arith, ints, k, b))
    by_signs s t h k (falls a b) = absurd (omega (arith, ints, h, a))

    by_way : InTheWay (oriented_walls Clockwise points) (oriented_corners Clockwise points) p q → ⊥
    by_way (crossed w there h) =
        let parts = and_parts _ _ h in
        by_signs (orient_of w.a w.b p) (orient_of w.a w.b q) (right p p_over w there) (right q q_over w there)
        (crossing (orient_of w.a w.b p) (orient_of w.a w.b q) parts.0)
    by_way (left_behind w there h) =
        let parts = and_parts (is_in_interior p w) (is_left_of_line w.a w.b q) h in
        let left = tested_positive (orient_of w.a w.b q) parts.1 in
        let r = right q q_over w there in
        absurd (omega (arith, ints, left, r))
    by_way (stopped c there h) =
        let first = and_parts (not (same_point c.here q))
        (is_on_segment c.here p q && is_in_cone c (vector c.here q)) h in
        let second = and_parts (is_on_segment c.here p q) (is_in_cone c (vector c.here q)) first.1 in
        let o = corner_between points c there in
        at_corner o.before o.edge o.before_there o.edge_there o.meets
        (left_of_one o.before.a o.edge.a o.edge.b (vector o.edge.a q)
        (subst (λ t. is_in_cone t (vector t.here q) ≡ true) (sym o.is) second.1))
      where
        at_corner : (before edge : Segment) → IsIn (oriented_walls Clockwise points) before
            → IsIn (oriented_walls Clockwise points) edge → before.b ≡ edge.a
            → (pos 0 <ℤ cross_of (vector before.a edge.a) (vector edge.a q))
            ⊎ (pos 0 <ℤ cross_of (vector edge.a edge.b) (vector edge.a q)) → ⊥
        at_corner before edge before_there edge_there meets (inl left) =
            let r = subst (λ t. orient_of before.a t q ≤ℤ pos 0) meets (right q q_over before before_there) in
            let t = turn_is before.a edge.a q in
            absurd (omega (arith, ints, left, t, r))
        at_corner before edge before_there edge_there meets (inr left) =
            let r = right q q_over edge edge_there in
            absurd (omega (arith, ints, left, r))

-- **a polygon is in nobody's way between points that are on or left of all its walls**
pub outer_unblocked : (points : List Point) (p q : Point) → is_on_or_inside p points ≡ true
    → is_on_or_inside q points ≡ true
    → is_blocked (outer_alone points) p q ≡ false
outer_unblocked points p q p_over q_over =
    false_from_ne_true (is_blocked (outer_alone points) p q)
    (λ h. by_side (no_screens (oriented_walls Clockwise points) (oriented_corners Clockwise points) p q h))
  where
    by_side : InTheWay (oriented_walls Clockwise points) (oriented_corners Clockwise points) p q
        ⊎ InTheWay (oriented_walls Clockwise points) (oriented_corners Clockwise points) q p → ⊥
    by_side (inl way) = never_in_the_way points p q p_over q_over way
    by_side (inr way) = never_in_the_way points q p q_over p_over way
