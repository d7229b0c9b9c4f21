-- Nothing is refused exactly where no cause holds, and each cause holds exactly where its test does.
use Rattle.std.specs.Prelude.{◌≡◌, ℕ, nat_le, nat_lt, Bool, true, false, not, ◌&&◌, ◌||◌, List, [], ◌∷◌, filter, cond, length, Option, Some, None, is_none}
use Rattle.std.specs.List.{list_all, list_any}
use Rattle.std.proofs.Common.{refl, sym, arith}
use Rattle.std.proofs.lemmas.Bool.Decides.{nat_tests}
use Rattle.std.proofs.Math.Bool.{not-not, and-true}
use Rattle.plane_spec.specs.declared.Point.{Point}
use Rattle.plane_spec.specs.Vectors.{is_in_range}
use Rattle.plane_spec.specs.Segments.{do_touch}
use Rattle.plane_spec.specs.Polygons.{has_repeat, crosses_nowhere}
use Rattle.plan_spec.specs.declared.item.Screen.{Screen}
use Rattle.plan_spec.specs.declared.item.Route.{Route}
use Rattle.plan_spec.specs.declared.why.Why.{Why}
use Rattle.plan_spec.specs.Plan.{Obstacle, Plan, has_outer}
use Rattle.plan_spec.specs.Accepted.{is_polygon, is_proper_segment, lies_within, polygons_meet, segment_lies_within, segment_meets_polygon, is_sound}
use Rattle.plan_spec.specs.Refusals.{when, first_cause, first_obstacle, first_screen, first_route, why_not_polygon, why_not_segment, why_not_polygon_in, why_not_segment_in}
use Rattle.list_laws.proofs.Conditions.{and_left_comm}

-- ---- tests on numbers

pub not_below : (a b : ℕ) → not (nat_lt a b) ≡ nat_le b a
not_below a b = grind (arith, nat_tests)

-- ---- several causes

-- nothing is refused exactly where none of the causes holds
pub none_refuses : (causes : List (Option Why)) → is_none (first_cause causes) ≡ list_all is_none causes
none_refuses [] = refl
none_refuses (None ∷ causes) = none_refuses causes
none_refuses (Some why ∷ causes) = refl

-- ---- one cause

pub none_when : (test : Bool) (why : Why) → is_none (when test why) ≡ not test
none_when true why = refl
none_when false why = refl

pub none_of_obstacles : (meets : Obstacle → Bool) (obstacles : List Obstacle)
    → is_none (first_obstacle (filter meets obstacles)) ≡ not (list_any meets obstacles)
none_of_obstacles meets [] = refl
none_of_obstacles meets (o ∷ obstacles) = step (meets o) (none_of_obstacles meets obstacles)
  where
    step : (t : Bool) → is_none (first_obstacle (filter meets obstacles)) ≡ not (list_any meets obstacles)
        → is_none (first_obstacle (cond t (o ∷ filter meets obstacles) (filter meets obstacles)))
        ≡ not (t || list_any meets obstacles)
    step true h = refl
    step false h = h

pub none_of_screens : (meets : Screen → Bool) (screens : List Screen)
    → is_none (first_screen (filter meets screens)) ≡ not (list_any meets screens)
none_of_screens meets [] = refl
none_of_screens meets (s ∷ screens) = step (meets s) (none_of_screens meets screens)
  where
    step : (t : Bool) → is_none (first_screen (filter meets screens)) ≡ not (list_any meets screens)
        → is_none (first_screen (cond t (s ∷ filter meets screens) (filter meets screens)))
        ≡ not (t || list_any meets screens)
    step true h = refl
    step false h = h

pub none_of_routes : (meets : Route → Bool) (routes : List Route)
    → is_none (first_route (filter meets routes)) ≡ not (list_any meets routes)
none_of_routes meets [] = refl
none_of_routes meets (r ∷ routes) = step (meets r) (none_of_routes meets routes)
  where
    step : (t : Bool) → is_none (first_route (filter meets routes)) ≡ not (list_any meets routes)
        → is_none (first_route (cond t (r ∷ filter meets routes) (filter meets routes)))
        ≡ not (t || list_any meets routes)
    step true h = refl
    step false h = h

-- ---- a polygon or a line, by itself and beside the others

pub none_of_polygon : (points : List Point) → is_none (why_not_polygon points) ≡ is_polygon points
unfolding why_not_polygon
none_of_polygon points =
    rw none_refuses
    (simp (none_when, not_below, not-not, and-true)
    (and_left_comm (nat_le 3 (length points)) (list_all is_in_range points)
    (not (has_repeat points) && crosses_nowhere points)))

pub none_of_line : (from to : Point) → is_none (why_not_segment from to) ≡ is_proper_segment from to
unfolding why_not_segment
none_of_line from to =
    rw none_refuses (simp (none_when, not-not, and-true))

pub none_of_polygon_in : (p : Plan) (points : List Point)
    → is_none (why_not_polygon_in p points)
    ≡ (lies_within p.outer points && (not (list_any (λ o. polygons_meet o.points points) p.obstacles)
    && not (list_any (λ s. segment_meets_polygon s.from s.to points) p.screens)))
unfolding why_not_polygon_in
none_of_polygon_in p points =
    rw none_refuses (simp (none_when, none_of_obstacles, none_of_screens, not-not, and-true))

pub none_of_line_in : (p : Plan) (from to : Point)
    → is_none (why_not_segment_in p from to)
    ≡ (segment_lies_within p.outer from to && (not (list_any (λ o. segment_meets_polygon from to o.points) p.obstacles)
    && not (list_any (λ s. do_touch s.from s.to from to) p.screens)))
unfolding why_not_segment_in
none_of_line_in p from to =
    rw none_refuses (simp (none_when, none_of_obstacles, none_of_screens, not-not, and-true))

-- ---- the outer polygon has come

polygon_has_points : (p : Plan) → (has_outer p && is_polygon p.outer) ≡ is_polygon p.outer
polygon_has_points p = step p.outer
  where
    step : (points : List Point) → (has_outer (record p { outer = points }) && is_polygon points) ≡ is_polygon points
    step [] = refl
    step (x ∷ points) = refl

-- a sound plan has an outer polygon
pub outer_test_drops : (p : Plan) (t : Bool) → (is_sound p && (has_outer p && t)) ≡ (is_sound p && t)
unfolding is_sound
outer_test_drops p t = step (is_polygon p.outer) _ _ (has_outer p) t (polygon_has_points p)
  where
    step : (a g r h t : Bool) → (h && a) ≡ a → (((a && g) && r) && (h && t)) ≡ (((a && g) && r) && t)
    step true g r true t e = refl
    step true g r false t e = grind arith
    step false g r h t e = refl

-- and isn't one where there is none
pub no_outer_no_sound : (p : Plan) (t : Bool) → (is_sound p && (not (has_outer p) && t)) ≡ false
no_outer_no_sound p t = step (is_sound p) (has_outer p) t (outer_test_drops p)
  where
    step : (s h t : Bool) → ((t : Bool) → (s && (h && t)) ≡ (s && t)) → (s && (not h && t)) ≡ false
    step false h t e = refl
    step true true t e = refl
    step true false t e = sym (e t)
