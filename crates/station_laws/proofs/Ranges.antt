-- The walls and screens of a sound plan are in range, so as they are seen from a station they are blockers.
use Rattle.std.proofs.Common.{◌≡◌, zero, suc, arith, List, [], ◌∷◌, ◌++◌, get_or}
use Rattle.std.specs.Prelude.{Bool, true, false, cond, map, All}
use Rattle.std.specs.List.{flat_map}
use Rattle.plane_spec.specs.declared.Point.{Point}
use Rattle.plane_spec.specs.declared.Segment.{Segment}
use Rattle.plane_spec.specs.declared.Orientation.{Orientation}
use Rattle.plane_spec.specs.declared.Orientation.TheVariants.{Counterclockwise, Clockwise}
use Rattle.plane_spec.specs.Vectors.{InRange}
use Rattle.plane_spec.specs.Segments.{IsSegmentInRange}
use Rattle.plane_spec.specs.Polygons.{edges_of}
use Rattle.plan_spec.specs.Plan.{Plan}
use Rattle.plan_spec.specs.Accepted.{is_sound}
use Rattle.plan_laws.proofs.Ranges.{outer_in_range, obstacles_in_range, sound_screens}
use Rattle.exact_geom.proofs.Edges.{edges_of-in_range}
use Rattle.sight_spec.specs.Scene.{scene_of, blockers_of_scene, oriented_walls, walls_of_obstacle, turned_edge}
use Rattle.sight_spec.specs.Scene.{has_orientation, segment_of_screen}
use Rattle.sight_spec.specs.Isovist.{no_segment}
use Rattle.round_laws.specs.Rounds.{AreWalls}
use Rattle.round_laws.proofs.Bodies.{walls_of_plan}

-- ---- lists

in_map : {X Y : Type 0} (P : Y → Type 0) (f : X → Y) (xs : List X) → All (λ x. P (f x)) xs → All P (map f xs)
in_map P f [] h k d lt = absurd (omega arith)
in_map P f (x ∷ xs) h zero d lt = h 0 x (omega arith)
in_map P f (x ∷ xs) h (suc k) d lt = in_map P f xs (λ j e l. h (suc j) e (omega arith)) k d (omega arith)

in_both : {X : Type 0} (P : X → Type 0) (xs ys : List X) → All P xs → All P ys → All P (xs ++ ys)
in_both P [] ys h g k d lt = g k d lt
in_both P (x ∷ xs) ys h g zero d lt = h 0 x (omega arith)
in_both P (x ∷ xs) ys h g (suc k) d lt = in_both P xs ys (λ j e l. h (suc j) e (omega arith)) g k d (omega arith)

in_flat : {X Y : Type 0} (P : Y → Type 0) (f : X → List Y) (xs : List X) → All (λ x. All P (f x)) xs
    → All P (flat_map f xs)
in_flat P f [] h k d lt = absurd (omega arith)
in_flat P f (x ∷ xs) h k d lt = in_both P (f x) (flat_map f xs) (h 0 x (omega arith))
    (in_flat P f xs (λ j e l. h (suc j) e (omega arith))) k d lt

-- ---- walls and screens

turned_in : (es : List Segment) → All IsSegmentInRange es → All IsSegmentInRange (map turned_edge es)
turned_in es h = in_map IsSegmentInRange turned_edge es
    (λ k d lt. record { a = (h k d lt).b; b = (h k d lt).a })

either_way : (b : Bool) (es : List Segment) → All IsSegmentInRange es
    → All IsSegmentInRange (cond b es (map turned_edge es))
either_way true es h = h
either_way false es h = turned_in es h

oriented_in : (way : Orientation) (points : List Point) → All InRange points
    → All IsSegmentInRange (oriented_walls way points)
unfolding oriented_walls
oriented_in way points h = either_way (has_orientation way points) (edges_of points) (edges_of-in_range points h)

-- all walls and screens are in range
pub blockers_in_range : (plan : Plan) → is_sound plan ≡ true
    → All IsSegmentInRange (blockers_of_scene (scene_of plan))
blockers_in_range plan sound =
    in_both IsSegmentInRange (oriented_walls Clockwise plan.outer ++ flat_map walls_of_obstacle plan.obstacles)
    (map segment_of_screen plan.screens)
    (in_both IsSegmentInRange (oriented_walls Clockwise plan.outer) (flat_map walls_of_obstacle plan.obstacles)
    (oriented_in Clockwise plan.outer (outer_in_range plan sound))
    (in_flat IsSegmentInRange walls_of_obstacle plan.obstacles
    (λ k d lt. oriented_in Counterclockwise (get_or plan.obstacles k d).points (obstacles_in_range plan sound k d lt))))
    (in_map IsSegmentInRange segment_of_screen plan.screens
    (λ k d lt. record { a = (sound_screens plan sound k d lt).from_in; b = (sound_screens plan sound k d lt).to_in }))

-- from a station in range all that is seen are blockers, and those that one direction spans are apart
pub walls_of_sound : (plan : Plan) (p : Point) → is_sound plan ≡ true → InRange p → AreWalls (scene_of plan) p
walls_of_sound plan p sound p_in =
    walls_of_plan plan p sound p_in (λ n lt. (blockers_in_range plan sound n no_segment lt).a)
    (λ n lt. (blockers_in_range plan sound n no_segment lt).b)
