-- Convex polygons, and the segments that pass through one.
use Rattle.std.specs.Prelude.{ℕ, pos, ◌<◌, ◌≡◌, Bool, true, false, ◌&&◌, IsTrue, List, Contains, map, int_le}
use Rattle.std.specs.List.{list_any, list_all}
use Rattle.plane_spec.specs.declared.Point.{Point}
use Rattle.plane_spec.specs.declared.Orientation.TheVariants.{Counterclockwise}
use Rattle.plane_spec.specs.Vectors.{orient_of, same_point, is_left_of_line}
use Rattle.plane_spec.specs.Polygons.{is_simple}
use Rattle.plan_spec.specs.Plan.{Obstacle, Plan}
use Rattle.sight_spec.specs.Scene.{oriented_walls, screens_of}
use Rattle.sight_spec.specs.Sight.{crosses}
use Rattle.plane_laws.specs.Enlarged.{enlarged, part_way}

-- ---- convex polygons, whichever way round their points go

-- x is on or left of all walls, as is all that lies on a convex polygon or inside it
abbrev pub is_on_or_inside : Point → List Point → Bool
is_on_or_inside x points = list_all (λ w. int_le (pos 0) (orient_of w.a w.b x)) (oriented_walls Counterclockwise points)

-- x is strictly left of all walls: strictly inside
abbrev pub is_strictly_inside : Point → List Point → Bool
is_strictly_inside x points = list_all (λ w. is_left_of_line w.a w.b x) (oriented_walls Counterclockwise points)

-- each corner is on or left of each wall
abbrev pub is_convex : List Point → Bool
is_convex points = list_all (λ v. is_on_or_inside v.a points) (oriented_walls Counterclockwise points)

-- some point p + (a/n)(q - p) of the segment, for whole numbers 0 < a < n, is strictly inside
abbrev pub PassesThrough : List Point → Point → Point → Type 0
PassesThrough points p q =
    (a n : ℕ) × (0 < a) × (a < n) × IsTrue (is_strictly_inside (part_way a n p q) (map (enlarged n) points))

-- ---- plans of convex polygons

-- the obstacle's polygon is simple and convex
abbrev pub is_convex_obstacle : Obstacle → Bool
is_convex_obstacle o = is_simple o.points && is_convex o.points

-- the outer polygon and all obstacles are convex
abbrev pub has_convex_polygons : Plan → Bool
has_convex_polygons plan = is_convex plan.outer && list_all (λ o. is_convex o.points) plan.obstacles

-- both points are strictly inside the obstacle
abbrev pub has_both_inside : Point → Point → Obstacle → Bool
has_both_inside p q o = is_strictly_inside p o.points && is_strictly_inside q o.points

-- the points differ, and the segment between them crosses no screen properly and passes through no obstacle
pub record SeesPast (plan : Plan) (p q : Point) : Type 0 where
  pub differ : same_point p q ≡ false
  pub no_screen : list_any (crosses p q) (screens_of plan) ≡ false
  pub no_obstacle : (o : Obstacle) → Contains plan.obstacles o → PassesThrough o.points p q → ⊥
