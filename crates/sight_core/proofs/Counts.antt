-- A sound plan has few walls, screens and corners.
use Rattle.std.proofs.Common.{◌≡◌, ◌≤◌, ◌+◌, ◌*◌, ℕ, suc, Bool, true, false, List, [], ◌∷◌, ◌++◌, length, map, refl, ap, ◌∙◌, arith}
use Rattle.std.specs.Prelude.{IsTrue, if◌then◌else◌}
use Rattle.std.specs.List.{flat_map, sum_by}
use Rattle.std.proofs.lemmas.List.{length-map, length-append}
use Rattle.std.proofs.lemmas.List.Sums.{sum_by-cons}
use Rattle.plane_spec.specs.declared.Point.{Point}
use Rattle.plane_spec.specs.declared.Segment.{Segment}
use Rattle.plane_spec.specs.declared.Orientation.{Orientation}
use Rattle.plane_spec.specs.declared.Orientation.TheVariants.{Counterclockwise, Clockwise}
use Rattle.plane_spec.specs.Polygons.{edges_of}
use Rattle.exact_geom.proofs.Edges.{length-edges_of}
use Rattle.plan_spec.specs.declared.item.Screen.{Screen}
use Rattle.plan_spec.specs.Plan.{Plan, corner_count, corners_of_obstacle_count}
use Rattle.plan_spec.specs.Accepted.{is_sound}
use Rattle.sight_spec.specs.Scene.{Scene, turned_edge, has_orientation, oriented_walls, walls_of_obstacle, walls_of, segment_of_screen, screens_of, corners_after, last_edge, corners_along, turned_corner, oriented_corners, corners_of_obstacle, ends_of_screen, corners_of}
use Rattle.plan_laws.proofs.Ranges.{sound_limits}
use Rattle.sight_core.specs.Scenes.{IsOfSoundPlan}

-- ---- one polygon: as many walls and corners as points

length-oriented_walls : (way : Orientation) (points : List Point) → length (oriented_walls way points) ≡ length points
unfolding oriented_walls
length-oriented_walls way points =
    elim (has_orientation way points) as (λ keep. length (if keep then edges_of points else map turned_edge (edges_of points)) ≡ length points) [
      | true ↦ length-edges_of points
      | false ↦ length-map (edges_of points) turned_edge ∙ length-edges_of points
    ]

length-corners_after : (before : Segment) (edges : List Segment) → length (corners_after before edges) ≡ length edges
length-corners_after before [] = refl
length-corners_after before (e ∷ edges) = ap suc (length-corners_after e edges)

length-corners_along : (edges : List Segment) → length (corners_along edges) ≡ length edges
length-corners_along [] = refl
length-corners_along (e ∷ edges) = length-corners_after (last_edge e edges) (e ∷ edges)

length-oriented_corners : (way : Orientation) (points : List Point) → length (oriented_corners way points) ≡ length points
unfolding oriented_corners
length-oriented_corners way points =
    let all = length-corners_along (edges_of points) ∙ length-edges_of points in
    elim (has_orientation way points) as (λ keep. length (if keep then corners_along (edges_of points) else map turned_corner (corners_along (edges_of points))) ≡ length points) [
      | true ↦ all
      | false ↦ length-map (corners_along (edges_of points)) turned_corner ∙ all
    ]

-- ---- the obstacles and the screens

length-of_each : {X Y : Type 0} (f : X → List Y) (count : X → ℕ) → ((x : X) → length (f x) ≡ count x) → (xs : List X) → length (flat_map f xs) ≡ sum_by count xs
length-of_each f count each [] = refl
length-of_each f count each (x ∷ xs) =
    let here = each x in
    let parts = length-append (f x) (flat_map f xs) in
    let rest = length-of_each f count each xs in
    let sum = sum_by-cons count x xs in
    omega (arith, here, parts, rest, sum)

length-ends : (screens : List Screen) → length (flat_map ends_of_screen screens) ≡ 2 * length screens
length-ends [] = refl
length-ends (s ∷ screens) = let rest = length-ends screens in omega (arith, rest)

-- ---- the plan

-- the walls and the ends of the screens are as many as the corners that are counted
walls_counted : (plan : Plan) → length (walls_of plan) + 2 * length plan.screens ≡ corner_count plan
walls_counted plan =
    let parts = length-append (oriented_walls Clockwise plan.outer) (flat_map walls_of_obstacle plan.obstacles) in
    let outer = length-oriented_walls Clockwise plan.outer in
    let obstacles = length-of_each walls_of_obstacle corners_of_obstacle_count (λ o. length-oriented_walls Counterclockwise o.points) plan.obstacles in
    omega (arith, parts, outer, obstacles)

-- so are the corners
corners_counted : (plan : Plan) → length (corners_of plan) ≡ corner_count plan
corners_counted plan =
    let parts = length-append (oriented_corners Clockwise plan.outer) (flat_map corners_of_obstacle plan.obstacles ++ flat_map ends_of_screen plan.screens) in
    let more = length-append (flat_map corners_of_obstacle plan.obstacles) (flat_map ends_of_screen plan.screens) in
    let outer = length-oriented_corners Clockwise plan.outer in
    let obstacles = length-of_each corners_of_obstacle corners_of_obstacle_count (λ o. length-oriented_corners Counterclockwise o.points) plan.obstacles in
    let ends = length-ends plan.screens in
    omega (arith, parts, more, outer, obstacles, ends)

few_walls_of : (plan : Plan) → IsTrue (is_sound plan) → length (walls_of plan) ≤ 1024
few_walls_of plan sound =
    let limits = sound_limits plan sound in
    let counted = walls_counted plan in
    omega (arith, limits.corners, counted)

few_screens_of : (plan : Plan) → IsTrue (is_sound plan) → length (screens_of plan) ≤ 256
few_screens_of plan sound =
    let limits = sound_limits plan sound in
    let all = length-map plan.screens segment_of_screen in
    omega (arith, limits.screens, all)

few_corners_of : (plan : Plan) → IsTrue (is_sound plan) → length (corners_of plan) ≤ 1024
few_corners_of plan sound =
    let limits = sound_limits plan sound in
    let counted = corners_counted plan in
    omega (arith, limits.corners, counted)

-- ---- the scene

pub few_walls : (scene : Scene) → IsOfSoundPlan scene → length scene.walls ≤ 1024
few_walls scene h = rw h.seen (few_walls_of h.plan h.sound)

pub few_screens : (scene : Scene) → IsOfSoundPlan scene → length scene.screens ≤ 256
few_screens scene h = rw h.seen (few_screens_of h.plan h.sound)

pub few_corners : (scene : Scene) → IsOfSoundPlan scene → length scene.corners ≤ 1024
few_corners scene h = rw h.seen (few_corners_of h.plan h.sound)
