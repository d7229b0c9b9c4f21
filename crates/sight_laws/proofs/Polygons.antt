-- Of a simple convex polygon, what is strictly left of all walls is inside, and back; what is on the border is on or
-- left of all walls.
use Rattle.std.specs.Prelude.{Bool, true, false, not, ◌&&◌, ◌||◌, if◌then◌else◌, List, [], ◌∷◌, map}
use Rattle.std.proofs.Common.{◌≡◌, ◌⊎◌, inl, inr, ℕ, ◌<◌, pos, ◌<ℤ◌, ◌≤ℤ◌, refl, sym, ◌∙◌, subst, arith}
use Rattle.std.proofs.lemmas.Int.{ints, by_lt_z}
use Rattle.std.proofs.lemmas.Bool.{and_from, false_from_ne_true}
use Rattle.plane_spec.specs.declared.Point.{Point}
use Rattle.plane_spec.specs.declared.Segment.{Segment}
use Rattle.plane_spec.specs.declared.Orientation.TheVariants.{Counterclockwise}
use Rattle.plane_spec.specs.Vectors.{same_point}
use Rattle.plane_spec.specs.Polygons.{edges_of, is_on_edge, is_on_border, is_inside, is_simple, has_repeat}
use Rattle.plane_spec.specs.Polygons.{is_nothing, is_counterclockwise}
use Rattle.sight_spec.specs.Scene.{turned_edge, oriented_walls}
use Rattle.plane_laws.specs.Enlarged.{enlarged}
use Rattle.plane_laws.proofs.Tests.{clash}
use Rattle.plane_laws.proofs.Lists.Members.{IsIn, Found, found, each_fails, source, mapped}
use Rattle.plane_laws.proofs.Lists.Numbers.{without_number}
use Rattle.plane_laws.proofs.Points.Heights.{height}
use Rattle.plane_laws.proofs.Points.Between.{between, weak_mean, apart_back}
use Rattle.plane_laws.proofs.Points.Scaled.{large, scaled_wall, same_scaled}
use Rattle.winding_laws.proofs.Parity.{is_odd, even_where_none, odd_where_once}
use Rattle.winding_laws.proofs.Closed.{AreClosed, polygon_closes}
use Rattle.winding_laws.proofs.Turned.{closed_turned}
use Rattle.winding_laws.proofs.Strips.{closed_enlarged}
use Rattle.side_laws.proofs.Sides.{wall}
use Rattle.side_laws.proofs.Neighbours.{starts}
use Rattle.side_laws.proofs.Sound.{IsSound}
use Rattle.side_laws.proofs.Scaled.{scaled_sound}
use Rattle.cone_laws.proofs.Rounds.{obstacle_round}
use Rattle.polygon_laws.proofs.Insides.{is_on_any, by_walls, both_by_walls, inside_by_walls}
use Rattle.sight_laws.specs.Convex.{is_convex, is_on_or_inside, is_strictly_inside}
use Rattle.sight_laws.proofs.Walls.{AreConvex, convex_walls, convex_large, walls_enlarged, from_over_walls}
use Rattle.sight_laws.proofs.Walls.{left_of_walls, from_left_of_walls}
use Rattle.sight_laws.proofs.LeftOfAll.{winding_inside}
use Rattle.sight_laws.proofs.RightOfOne.{winding_outside}

-- ---- by the walls

-- a polygon's walls are its edges, or those turned round
same_walls : (points : List Point) → (oriented_walls Counterclockwise points ≡ edges_of points)
    ⊎ (oriented_walls Counterclockwise points ≡ map turned_edge (edges_of points))
unfolding oriented_walls
same_walls points = by_turn (is_counterclockwise points)
  where
    by_turn : (t : Bool) → ((if t then edges_of points else map turned_edge (edges_of points)) ≡ edges_of points)
        ⊎ ((if t then edges_of points else map turned_edge (edges_of points)) ≡ map turned_edge (edges_of points))
    by_turn true = inl refl
    by_turn false = inr refl

-- what is left of a wall isn't on it
off_where_left : (walls : List Segment) (x : Point) → ((w : Segment) → IsIn walls w → pos 0 <ℤ height w x)
    → is_on_any x walls ≡ false
off_where_left walls x left = false_from_ne_true (is_on_any x walls) (λ h. never (found (is_on_edge x) walls h))
  where
    never : Found (is_on_edge x) walls → ⊥
    never f =
        let on = between x f.it.a f.it.b f.passes in
        let line = on.line in
        let up = left f.it f.is_in in
        absurd (omega (arith, ints, line, up))

odd_where_left : (walls : List Segment) → IsSound walls (pos 1) → AreConvex walls → (first : Segment)
    → IsIn walls first → (x : Point)
    → ((w : Segment) → IsIn walls w → pos 0 <ℤ height w x) → is_odd x walls ≡ true
odd_where_left walls sound convex first there x left =
    odd_where_once x walls (inl (winding_inside walls (pos 1) sound convex first there x left))

left_where_odd : (walls : List Segment) → AreClosed walls
    → ((f : Segment) → IsIn walls f → same_point f.a f.b ≡ false) → AreConvex walls → (x : Point)
    → is_on_any x walls ≡ false → is_odd x walls ≡ true → (w : Segment) → IsIn walls w → pos 0 <ℤ height w x
left_where_odd walls closed some convex x off odd w there =
    by_lt_z (pos 0) (height w x) (λ left. left)
    (λ right. absurd (clash (even_where_none x walls (winding_outside walls closed w (some w there) some
    (λ f f_there. convex w f there f_there) x right
    (λ f f_there. each_fails (is_on_edge x) walls f off f_there))) odd))

-- a simple polygon has a wall
some_wall : (points : List Point) → is_simple points ≡ true
    → (w : Segment) × IsIn (oriented_walls Counterclockwise points) w
unfolding oriented_walls
some_wall points simple = by_turn (is_counterclockwise points) (some_edge points simple)
  where
    some_edge : (points : List Point) → is_simple points ≡ true → (e : Segment) × IsIn (edges_of points) e
    some_edge [] h = cc
    some_edge (start ∷ points) h =
        let s = starts 0 start start points in
        (wall start s.0, without_number 0 (edges_of (start ∷ points)) (0, wall start s.0) s.1)

    by_turn : (t : Bool) → (e : Segment) × IsIn (edges_of points) e
        → (w : Segment) × IsIn (if t then edges_of points else map turned_edge (edges_of points)) w
    by_turn true e = e
    by_turn false e = (turned_edge e.0, mapped turned_edge (edges_of points) e.0 e.1)

-- what no repeat means for the walls
real_walls : (points : List Point) → has_repeat points ≡ false → (w : Segment)
    → IsIn (oriented_walls Counterclockwise points) w
    → same_point w.a w.b ≡ false
unfolding oriented_walls
real_walls points h w there = by_turn (is_counterclockwise points) there
  where
    real : (e : Segment) → IsIn (edges_of points) e → same_point e.a e.b ≡ false
    real e e_there = each_fails is_nothing (edges_of points) e h e_there

    by_turn : (t : Bool) → IsIn (if t then edges_of points else map turned_edge (edges_of points)) w
        → same_point w.a w.b ≡ false
    by_turn true k = real w k
    by_turn false k =
        let o = source turned_edge (edges_of points) w k in
        subst (λ t. same_point t.a t.b ≡ false) o.is (apart_back o.it.a o.it.b (real o.it o.is_in))

closed_walls : (points : List Point) → AreClosed (oriented_walls Counterclockwise points)
unfolding oriented_walls
closed_walls points = by_turn (is_counterclockwise points)
  where
    by_turn : (t : Bool) → AreClosed (if t then edges_of points else map turned_edge (edges_of points))
    by_turn true = polygon_closes points
    by_turn false = closed_turned (edges_of points) (polygon_closes points)

not_on : (t : Bool) → t ≡ false → not t ≡ true
not_on t h = rw h refl

off_and_odd : (s t : Bool) → (not s && t) ≡ true → (s ≡ false) × (t ≡ true)
off_and_odd true t h = cc
off_and_odd false t h = (refl, h)

-- ---- strictly left of all walls is inside, and back

pub inside_where_left : (points : List Point) (x : Point) → is_simple points ≡ true → is_convex points ≡ true
    → is_strictly_inside x points ≡ true → is_inside x points ≡ true
inside_where_left points x simple convex h =
    let walls = oriented_walls Counterclockwise points in
    let first = some_wall points simple in
    let left = left_of_walls points x h in
    by_walls points walls x (same_walls points)
    ∙ and_from _ _ (not_on (is_on_any x walls) (off_where_left walls x left))
    (odd_where_left walls (obstacle_round points simple).sound (convex_walls points convex) first.0 first.1 x left)

pub left_where_inside : (points : List Point) (x : Point) → has_repeat points ≡ false → is_convex points ≡ true
    → is_inside x points ≡ true → is_strictly_inside x points ≡ true
left_where_inside points x some convex h =
    let walls = oriented_walls Counterclockwise points in
    let parts = off_and_odd (is_on_any x walls) (is_odd x walls)
    (sym (by_walls points walls x (same_walls points)) ∙ h) in
    from_left_of_walls points x
    (left_where_odd walls (closed_walls points) (real_walls points some) (convex_walls points convex) x parts.0 parts.1)

-- what is on or inside a convex polygon is on or left of all walls
pub over_where_within : (points : List Point) (x : Point) → has_repeat points ≡ false → is_convex points ≡ true
    → (is_on_border x points || is_inside x points) ≡ true → is_on_or_inside x points ≡ true
over_where_within points x some convex h =
    from_over_walls points x (λ w there. by_part w there (is_on_any x walls) refl)
  where
    walls : List Segment
    walls = oriented_walls Counterclockwise points

    whole : (is_on_any x walls || (not (is_on_any x walls) && is_odd x walls)) ≡ true
    whole = sym (both_by_walls points walls x (same_walls points)) ∙ h

    on_wall : Found (is_on_edge x) walls → (w : Segment) → IsIn walls w → pos 0 ≤ℤ height w x
    on_wall f w there =
        let c = convex_walls points convex w f.it there f.is_in in
        weak_mean f.it.a f.it.b x w (real_walls points some f.it f.is_in) (between x f.it.a f.it.b f.passes) c.0 c.1

    odd_off : (s t : Bool) → s ≡ false → (s || (not s && t)) ≡ true → t ≡ true
    odd_off true t e k = cc
    odd_off false t e k = k

    by_part : (w : Segment) → IsIn walls w → (t : Bool) → is_on_any x walls ≡ t → pos 0 ≤ℤ height w x
    by_part w there true on = on_wall (found (is_on_edge x) walls on) w there
    by_part w there false off =
        let left = left_where_odd walls (closed_walls points) (real_walls points some)
        (convex_walls points convex) x off (odd_off (is_on_any x walls) (is_odd x walls) off whole) w there in
        omega (arith, ints, left)

-- ---- the same in a plane that is n times as large

pub inside_where_left_enlarged : (points : List Point) (n : ℕ) (x : Point) → is_simple points ≡ true
    → is_convex points ≡ true → 0 < n
    → is_strictly_inside x (map (enlarged n) points) ≡ true → is_inside x (map (enlarged n) points) ≡ true
inside_where_left_enlarged points n x simple convex some h =
    inside_by_walls points walls n x (same_walls points)
    ∙ and_from _ _ (not_on (is_on_any x (large n walls)) (off_where_left (large n walls) x left))
    (odd_where_left (large n walls) (scaled_sound (pos n) (pos n) walls (pos 1) up up
    (obstacle_round points simple).sound)
    (convex_large n walls (convex_walls points convex)) (scaled_wall (pos n) (pos n) first.0)
    (mapped (scaled_wall (pos n) (pos n)) walls first.0 first.1) x left)
  where
    walls : List Segment
    walls = oriented_walls Counterclockwise points

    first : (w : Segment) × IsIn walls w
    first = some_wall points simple

    up : pos 0 <ℤ pos n
    up = omega (arith, ints, some)

    left : (w : Segment) → IsIn (large n walls) w → pos 0 <ℤ height w x
    left w there =
        left_of_walls (map (enlarged n) points) x h w (subst (λ t. IsIn t w)
        (sym (walls_enlarged n points some)) there)

pub left_where_inside_enlarged : (points : List Point) (n : ℕ) (x : Point) → has_repeat points ≡ false
    → is_convex points ≡ true → 0 < n
    → is_inside x (map (enlarged n) points) ≡ true → is_strictly_inside x (map (enlarged n) points) ≡ true
left_where_inside_enlarged points n x real convex some h =
    from_left_of_walls (map (enlarged n) points) x (λ w there. left w
    (subst (λ t. IsIn t w) (walls_enlarged n points some) there))
  where
    walls : List Segment
    walls = oriented_walls Counterclockwise points

    up : pos 0 <ℤ pos n
    up = omega (arith, ints, some)

    parts : (is_on_any x (large n walls) ≡ false) × (is_odd x (large n walls) ≡ true)
    parts =
        off_and_odd (is_on_any x (large n walls)) (is_odd x (large n walls))
        (sym (inside_by_walls points walls n x (same_walls points)) ∙ h)

    real_large : (f : Segment) → IsIn (large n walls) f → same_point f.a f.b ≡ false
    real_large f there =
        let o = source (scaled_wall (pos n) (pos n)) walls f there in
        subst (λ t. same_point t.a t.b ≡ false) o.is (same_scaled (pos n) (pos n) o.it.a o.it.b up up
        ∙ real_walls points real o.it o.is_in)

    left : (w : Segment) → IsIn (large n walls) w → pos 0 <ℤ height w x
    left w there =
        left_where_odd (large n walls) (closed_enlarged n walls (closed_walls points)) real_large
        (convex_large n walls (convex_walls points convex)) x parts.0 parts.1 w there
