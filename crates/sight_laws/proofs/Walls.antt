-- The walls of a convex polygon: both ends of each wall are on or left of each wall, in a plane as large as is
-- wanted.
use Rattle.std.specs.Prelude.{Bool, true, false, int_lt, List, map, if◌then◌else◌, int_le}
use Rattle.std.proofs.Common.{◌≡◌, ℕ, ◌<◌, pos, ◌*ℤ◌, ◌≤ℤ◌, ◌<ℤ◌, refl, sym, ap, ◌∙◌, subst, arith}
use Rattle.std.proofs.lemmas.Int.{ints}
use Rattle.int_laws.proofs.Signs.{not_negative_product, positive_product, tested_positive, positive_tested}
use Rattle.int_laws.proofs.Tests.{tested_at_most, at_most_tested}
use Rattle.int_laws.proofs.Multiples.{positive_scaled}
use Rattle.plane_spec.specs.declared.Point.{Point}
use Rattle.plane_spec.specs.declared.Segment.{Segment}
use Rattle.plane_spec.specs.declared.Orientation.TheVariants.{Counterclockwise}
use Rattle.plane_spec.specs.Vectors.{orient_of, is_left_of_line}
use Rattle.plane_spec.specs.Polygons.{edges_of, doubled_area, is_counterclockwise}
use Rattle.sight_spec.specs.Scene.{turned_edge, oriented_walls}
use Rattle.plane_laws.specs.Enlarged.{enlarged}
use Rattle.plane_laws.proofs.Lists.Members.{IsIn, each_passes, all_pass, source, mapped}
use Rattle.plane_laws.proofs.Points.Heights.{height}
use Rattle.plane_laws.proofs.Points.Scaled.{large, scaled_wall, orient_scaled}
use Rattle.side_laws.proofs.Sides.{wall}
use Rattle.side_laws.proofs.Neighbours.{next_edge, edge_before}
use Rattle.area_laws.proofs.Grid.{area_scaled}
use Rattle.polygon_laws.proofs.Insides.{edges_enlarged, turned_large}
use Rattle.sight_laws.specs.Convex.{is_convex, is_on_or_inside, is_strictly_inside}

-- both ends of each wall are on or left of each wall
abbrev pub AreConvex : List Segment → Type 0
AreConvex walls =
    (w v : Segment) → IsIn walls w → IsIn walls v → (pos 0 ≤ℤ height w v.a) × (pos 0 ≤ℤ height w v.b)

-- ---- from the tests

-- another wall begins where each one ends
next_wall : (points : List Point) (v : Segment) → IsIn (oriented_walls Counterclockwise points) v
    → (f : Segment) × IsIn (oriented_walls Counterclockwise points) f × (f.a ≡ v.b)
unfolding oriented_walls
next_wall points v there = by_turn (is_counterclockwise points) there
  where
    by_turn : (t : Bool) → IsIn (if t then edges_of points else map turned_edge (edges_of points)) v
        → (f : Segment) × IsIn (if t then edges_of points else map turned_edge (edges_of points)) f × (f.a ≡ v.b)
    by_turn true h = let n = next_edge points v h in (wall v.b n.0, n.1, refl)
    by_turn false h =
        let o = source turned_edge (edges_of points) v h in
        let b = edge_before points o.it o.is_in in
        (turned_edge (wall b.0 o.it.a), mapped turned_edge (edges_of points) (wall b.0 o.it.a) b.1, ap (λ t. t.b) o.is)

pub over_walls : (points : List Point) (x : Point) → is_on_or_inside x points ≡ true
    → (w : Segment) → IsIn (oriented_walls Counterclockwise points) w → pos 0 ≤ℤ height w x
over_walls points x h w there =
    tested_at_most (pos 0) (height w x) (each_passes (λ w. int_le (pos 0) (orient_of w.a w.b x))
    (oriented_walls Counterclockwise points) w h there)

pub from_over_walls : (points : List Point) (x : Point)
    → ((w : Segment) → IsIn (oriented_walls Counterclockwise points) w → pos 0 ≤ℤ height w x)
    → is_on_or_inside x points ≡ true
from_over_walls points x h =
    all_pass (λ w. int_le (pos 0) (orient_of w.a w.b x)) (oriented_walls Counterclockwise points)
    (λ w there. at_most_tested (pos 0) (height w x) (h w there))

pub left_of_walls : (points : List Point) (x : Point) → is_strictly_inside x points ≡ true
    → (w : Segment) → IsIn (oriented_walls Counterclockwise points) w → pos 0 <ℤ height w x
left_of_walls points x h w there =
    tested_positive (height w x)
    (each_passes (λ w. is_left_of_line w.a w.b x) (oriented_walls Counterclockwise points) w h there)

pub from_left_of_walls : (points : List Point) (x : Point)
    → ((w : Segment) → IsIn (oriented_walls Counterclockwise points) w → pos 0 <ℤ height w x)
    → is_strictly_inside x points ≡ true
from_left_of_walls points x h =
    all_pass (λ w. is_left_of_line w.a w.b x) (oriented_walls Counterclockwise points)
    (λ w there. positive_tested (height w x) (h w there))

pub convex_walls : (points : List Point) → is_convex points ≡ true → AreConvex (oriented_walls Counterclockwise points)
convex_walls points h w v w_there v_there =
    let next = next_wall points v v_there in
    (start v v_there, subst (λ t. pos 0 ≤ℤ height w t) next.2 (start next.0 next.1))
  where
    start : (v : Segment) → IsIn (oriented_walls Counterclockwise points) v → pos 0 ≤ℤ height w v.a
    start v there =
        over_walls points v.a (each_passes (λ v. is_on_or_inside v.a points)
        (oriented_walls Counterclockwise points) v h there) w w_there

-- ---- in a plane that is n times as large

height_large : (n : ℕ) (w : Segment) (x : Point)
    → height (scaled_wall (pos n) (pos n) w) (enlarged n x) ≡ (pos n *ℤ pos n) *ℤ height w x
height_large n w x = orient_scaled (pos n) (pos n) w.a w.b x

pub convex_large : (n : ℕ) (walls : List Segment) → AreConvex walls → AreConvex (large n walls)
convex_large n walls convex w v w_there v_there =
    let o = source (scaled_wall (pos n) (pos n)) walls w w_there in
    let s = source (scaled_wall (pos n) (pos n)) walls v v_there in
    let c = convex o.it s.it o.is_in s.is_in in
    (at o.it w s.it.a v.a o.is (ap (λ t. t.a) s.is) c.0, at o.it w s.it.b v.b o.is (ap (λ t. t.b) s.is) c.1)
  where
    wide : pos 0 ≤ℤ (pos n *ℤ pos n)
    wide = not_negative_product (pos n) (pos n) (omega (arith, ints)) (omega (arith, ints))

    at : (f w : Segment) (y x : Point) → scaled_wall (pos n) (pos n) f ≡ w → enlarged n y ≡ x → pos 0 ≤ℤ height f y
        → pos 0 ≤ℤ height w x
    at f w y x e i h =
        subst (λ t. pos 0 ≤ℤ height t x) e
        (subst (λ t. pos 0 ≤ℤ height (scaled_wall (pos n) (pos n) f) t) i
        (subst (λ t. pos 0 ≤ℤ t) (sym (height_large n f y))
        (not_negative_product (pos n *ℤ pos n) (height f y) wide h)))

counterclockwise_enlarged : (n : ℕ) (points : List Point) → 0 < n
    → is_counterclockwise (map (enlarged n) points) ≡ is_counterclockwise points
unfolding is_counterclockwise
counterclockwise_enlarged n points some =
    ap (λ t. int_lt (pos 0) t)
    (ap doubled_area (edges_enlarged n points) ∙ area_scaled (pos n) (pos n) (edges_of points))
    ∙ positive_scaled (pos n *ℤ pos n) (doubled_area (edges_of points)) wide
  where
    wide : pos 0 <ℤ (pos n *ℤ pos n)
    wide = positive_product (pos n) (pos n) (omega (arith, ints, some)) (omega (arith, ints, some))

-- the walls of the polygon n times as large
pub walls_enlarged : (n : ℕ) (points : List Point) → 0 < n
    → oriented_walls Counterclockwise (map (enlarged n) points) ≡ large n (oriented_walls Counterclockwise points)
unfolding oriented_walls
walls_enlarged n points some =
    ap (λ t. if t then edges_of (map (enlarged n) points) else map turned_edge (edges_of (map (enlarged n) points)))
    (counterclockwise_enlarged n points some)
    ∙ by_turn (is_counterclockwise points)
  where
    by_turn : (t : Bool)
        → (if t then edges_of (map (enlarged n) points) else map turned_edge (edges_of (map (enlarged n) points)))
        ≡ large n (if t then edges_of points else map turned_edge (edges_of points))
    by_turn true = edges_enlarged n points
    by_turn false = ap (map turned_edge) (edges_enlarged n points) ∙ sym (turned_large n (edges_of points))
