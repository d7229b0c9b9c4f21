-- One more obstacle.
use Rattle.std.specs.Prelude.{◌≡◌, ℕ, ◌+◌, nat_le, nat_lt, Bool, false, not, ◌&&◌, List, [], ◌∷◌, ◌++◌, length, None, is_none}
use Rattle.std.specs.List.{list_all, list_any}
use Rattle.std.specs.Str.{bytes_eq}
use Rattle.std.proofs.Common.{refl, sym, ap, arith, ◌∙◌}
use Rattle.std.proofs.Math.Bool.{and_assoc, and_comm, not-not, and-true}
use Rattle.plane_spec.specs.declared.Point.{Point}
use Rattle.plan_spec.specs.declared.item.Screen.{Screen}
use Rattle.plan_spec.specs.declared.item.Item.TheVariants.{Obstacle as ObstacleItem}
use Rattle.plan_spec.specs.declared.limits.TheConstants.{MAX_OBSTACLES, MAX_CORNERS}
use Rattle.plan_spec.specs.Plan.{Obstacle, Plan, obstacle, with_obstacles, with_item, has_outer, corner_count, is_obstacle_named}
use Rattle.plan_spec.specs.Accepted.{is_polygon, lies_within, polygons_meet, segment_meets_polygon, obstacles_apart, are_obstacles_sound, are_screens_sound, are_routes_sound, is_sound}
use Rattle.plan_spec.specs.Refusals.{why_not_obstacle}
use Rattle.list_laws.proofs.Conditions.{and_left_comm, not_or}
use Rattle.list_laws.proofs.Tests.{list_all_push, list_any_push, list_all_and, list_all_not, list_all_agree}
use Rattle.plan_laws.proofs.Pairs.{each_two_push}
use Rattle.plan_laws.proofs.Adding.Causes.{none_refuses, none_when, none_of_polygon, none_of_polygon_in, outer_test_drops}
use Rattle.plan_laws.proofs.Adding.Limits.{limits_with_obstacle}

-- one more obstacle stands where it is a polygon within the outer one, meets no other, and has a name of its own
pub apart_from_each : (obstacles : List Obstacle) (name : List ℕ) (points : List Point)
    → list_all (λ o. obstacles_apart o (obstacle name points)) obstacles
    ≡ (not (list_any (λ o. polygons_meet o.points points) obstacles) && not (list_any (is_obstacle_named name) obstacles))
apart_from_each obstacles name points =
    simp (list_all_and (λ o. not (polygons_meet o.points points)) (λ o. not (bytes_eq o.name name)) obstacles, list_all_not (λ o. polygons_meet o.points points) obstacles, list_all_not (is_obstacle_named name) obstacles)

obstacle_tests_last : (p p' e m n : Bool) → ((p && p') && (e && (m && n))) ≡ ((p && e) && (p' && (m && n)))
obstacle_tests_last p p' e m n = simp (and_assoc, and_left_comm)

pub obstacles_with_obstacle : (p : Plan) (name : List ℕ) (points : List Point)
    → are_obstacles_sound (with_obstacles p (p.obstacles ++ obstacle name points ∷ []))
    ≡ (are_obstacles_sound p && ((is_polygon points && lies_within p.outer points)
    && (not (list_any (λ o. polygons_meet o.points points) p.obstacles) && not (list_any (is_obstacle_named name) p.obstacles))))
unfolding are_obstacles_sound
obstacles_with_obstacle p name points =
    rw (
      list_all_push (λ o. is_polygon o.points && lies_within p.outer o.points) p.obstacles (obstacle name points),
      each_two_push obstacles_apart p.obstacles (obstacle name points),
      apart_from_each p.obstacles name points,
      obstacle_tests_last,
    )

-- the screens stand beside one more obstacle that none of them meets
pub clear_of_obstacle : (screens : List Screen) (obstacles : List Obstacle) (name : List ℕ) (points : List Point)
    → list_all (λ s. not (list_any (λ o. segment_meets_polygon s.from s.to o.points) (obstacles ++ obstacle name points ∷ []))) screens
    ≡ (list_all (λ s. not (list_any (λ o. segment_meets_polygon s.from s.to o.points) obstacles)) screens && not (list_any (λ s. segment_meets_polygon s.from s.to points) screens))
clear_of_obstacle screens obstacles name points =
    list_all_agree (λ s. not (list_any (λ o. segment_meets_polygon s.from s.to o.points) (obstacles ++ obstacle name points ∷ [])))
    (λ s. not (list_any (λ o. segment_meets_polygon s.from s.to o.points) obstacles) && not (segment_meets_polygon s.from s.to points))
    (λ s. ap not (list_any_push (λ o. segment_meets_polygon s.from s.to o.points) obstacles (obstacle name points)) ∙ not_or _ _)
    screens
    ∙ list_all_and (λ s. not (list_any (λ o. segment_meets_polygon s.from s.to o.points) obstacles)) (λ s. not (segment_meets_polygon s.from s.to points)) screens
    ∙ ap (λ t. list_all (λ s. not (list_any (λ o. segment_meets_polygon s.from s.to o.points) obstacles)) screens && t) (list_all_not (λ s. segment_meets_polygon s.from s.to points) screens)

screen_test_last : (l c m e : Bool) → (l && ((c && m) && e)) ≡ ((l && (c && e)) && m)
screen_test_last l c m e = simp (and_assoc, and_comm)

pub screens_with_obstacle : (p : Plan) (name : List ℕ) (points : List Point)
    → are_screens_sound (with_obstacles p (p.obstacles ++ obstacle name points ∷ []))
    ≡ (are_screens_sound p && not (list_any (λ s. segment_meets_polygon s.from s.to points) p.screens))
unfolding are_screens_sound
screens_with_obstacle p name points =
    rw (clear_of_obstacle p.screens p.obstacles name points, screen_test_last)

-- the routes aren't compared with obstacles
pub routes_with_obstacles : (p : Plan) (obstacles : List Obstacle) → are_routes_sound (with_obstacles p obstacles) ≡ are_routes_sound p
unfolding are_routes_sound
routes_with_obstacles p obstacles = refl

-- the new obstacle passes each test for which it might be refused
pub fits_as_obstacle : (p : Plan) (name : List ℕ) (points : List Point)
    → is_none (why_not_obstacle p name points)
    ≡ (has_outer p && (is_polygon points && (lies_within p.outer points
    && (not (list_any (λ o. polygons_meet o.points points) p.obstacles) && (not (list_any (λ s. segment_meets_polygon s.from s.to points) p.screens)
    && (not (list_any (is_obstacle_named name) p.obstacles)
    && (not (nat_le MAX_OBSTACLES (length p.obstacles)) && not (nat_lt MAX_CORNERS (corner_count p + length points)))))))))
unfolding why_not_obstacle
fits_as_obstacle p name points =
    rw none_refuses (simp (none_when, none_of_polygon, none_of_polygon_in, not-not, and_assoc, and-true))

-- an obstacle that isn't refused has a name of its own
pub new_obstacle : (p : Plan) (name : List ℕ) (points : List Point)
    → why_not_obstacle p name points ≡ None → list_any (is_obstacle_named name) p.obstacles ≡ false
new_obstacle p name points none =
    let fits = sym (fits_as_obstacle p name points) ∙ ap is_none none in
    grind arith

new_tests_last : (a g o s r w p l m x n f c : Bool)
    → ((a && g) && (((o && ((p && l) && (m && n))) && (s && x)) && (r && (w && (f && c)))))
    ≡ (((a && g) && ((o && s) && (r && w))) && (p && (l && (m && (x && (n && (f && c)))))))
new_tests_last a g o s r w p l m x n f c = simp (and_assoc, and_left_comm, and_comm)

-- a plan with one more obstacle is sound where the plan is and the obstacle isn't refused
pub sound_with_obstacle : (p : Plan) (name : List ℕ) (points : List Point)
    → is_sound (with_item p (ObstacleItem name points)) ≡ (is_sound p && is_none (why_not_obstacle p name points))
unfolding is_sound with_item
sound_with_obstacle p name points =
    rw (fits_as_obstacle p name points, outer_test_drops, obstacles_with_obstacle p name points, screens_with_obstacle p name points, routes_with_obstacles p (p.obstacles ++ obstacle name points ∷ []), limits_with_obstacle p name points, new_tests_last)
