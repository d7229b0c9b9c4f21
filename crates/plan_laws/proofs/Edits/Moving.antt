-- A sound plan in which one obstacle gets other points.
use Rattle.std.specs.Prelude.{◌≡◌, ℕ, ◌+◌, nat_le, Bool, true, false, not, ◌&&◌, List, [], ◌∷◌, ◌++◌, length, map, filter, ℤ, if◌then◌else◌}
use Rattle.std.specs.List.{list_all, list_any, sum_by, flat_map}
use Rattle.std.specs.Str.{bytes_eq}
use Rattle.std.proofs.Common.{sym, ap, ◌∙◌}
use Rattle.std.proofs.Math.Bool.{and_assoc, and-true}
use Rattle.std.proofs.lemmas.Bool.{and_parts}
use Rattle.std.proofs.lemmas.List.{length-append, length-map, map-append, append-nil}
use Rattle.std.proofs.lemmas.List.Elements.{filter-append}
use Rattle.std.proofs.lemmas.List.Sums.{sum_by-append, sum_by-cons}
use Rattle.std.proofs.lemmas.List.Folds.{list_any-append}
use Rattle.plane_spec.specs.declared.Point.{Point}
use Rattle.plane_spec.specs.Vectors.{is_in_range}
use Rattle.plane_spec.specs.Polygons.{has_repeat, crosses_nowhere, is_simple}
use Rattle.plan_spec.specs.declared.item.Screen.{Screen}
use Rattle.plan_spec.specs.Plan.{Obstacle, Plan, obstacle, with_obstacles, corners_of_obstacle_count, is_obstacle_named}
use Rattle.plan_spec.specs.Accepted.{each_two, is_polygon, lies_within, polygons_meet, segment_meets_polygon, obstacles_apart, are_obstacles_sound, are_screens_sound, are_routes_sound, is_within_limits, is_sound}
use Rattle.plan_spec.specs.Edits.{shifted_point, shifted_obstacle, points_named, without_obstacle}
use Rattle.list_laws.proofs.Conditions.{not_or}
use Rattle.list_laws.proofs.Tests.{list_all_middle, list_any_middle, list_all_and, list_all_not, list_all_agree, list_any_agree, filter_none, filter_not_none, map_none}
use Rattle.plan_laws.proofs.Pairs.{each_two_middle}
use Rattle.plan_laws.proofs.Shifts.{repeat_shifted, crosses_shifted}
use Rattle.plan_laws.proofs.Meeting.{meeting_turned}
use Rattle.plan_laws.proofs.Parts.{parts_of_sound, parts_of_obstacles, parts_of_screens}

-- ---- apart from those before and after

apart_from_before : (before : List Obstacle) (name : List ℕ) (points : List Point)
    → list_all (λ x. not (bytes_eq x.name name)) before ≡ true
    → list_all (λ x. obstacles_apart x (obstacle name points)) before ≡ not (list_any (λ x. polygons_meet x.points points) before)
apart_from_before before name points names =
    list_all_and (λ x. not (polygons_meet x.points points)) (λ x. not (bytes_eq x.name name)) before
    ∙ ap (λ t. list_all (λ x. not (polygons_meet x.points points)) before && t) names
    ∙ and-true (list_all (λ x. not (polygons_meet x.points points)) before)
    ∙ list_all_not (λ x. polygons_meet x.points points) before

apart_from_after : (name : List ℕ) (points : List Point) (after : List Obstacle)
    → list_all (λ x. not (bytes_eq name x.name)) after ≡ true
    → list_all (obstacles_apart (obstacle name points)) after ≡ not (list_any (λ x. polygons_meet x.points points) after)
apart_from_after name points after names =
    list_all_and (λ x. not (polygons_meet points x.points)) (λ x. not (bytes_eq name x.name)) after
    ∙ ap (λ t. list_all (λ x. not (polygons_meet points x.points)) after && t) names
    ∙ and-true (list_all (λ x. not (polygons_meet points x.points)) after)
    ∙ list_all_not (λ x. polygons_meet points x.points) after
    ∙ ap not (list_any_agree (λ x. polygons_meet points x.points) (λ x. polygons_meet x.points points) (λ x. meeting_turned points x.points) after)

-- from all those before and after
apart_from_rest : (before : List Obstacle) (name : List ℕ) (points : List Point) (after : List Obstacle)
    → list_all (λ x. not (bytes_eq x.name name)) before ≡ true → list_all (λ x. not (bytes_eq name x.name)) after ≡ true
    → (list_all (λ x. obstacles_apart x (obstacle name points)) before && list_all (obstacles_apart (obstacle name points)) after)
    ≡ not (list_any (λ x. polygons_meet x.points points) (before ++ after))
apart_from_rest before name points after names_before names_after =
    rw (apart_from_before before name points names_before, apart_from_after name points after names_after, list_any-append (λ x. polygons_meet x.points points) before after)
    (sym (not_or (list_any (λ x. polygons_meet x.points points) before) (list_any (λ x. polygons_meet x.points points) after)))

-- the screens clear of an obstacle in the middle, and of the others
clear_of_middle : (screens : List Screen) (before : List Obstacle) (o : Obstacle) (after : List Obstacle)
    → list_all (λ s. not (list_any (λ x. segment_meets_polygon s.from s.to x.points) (before ++ o ∷ after))) screens
    ≡ (not (list_any (λ s. segment_meets_polygon s.from s.to o.points) screens) && list_all (λ s. not (list_any (λ x. segment_meets_polygon s.from s.to x.points) (before ++ after))) screens)
clear_of_middle screens before o after =
    list_all_agree (λ s. not (list_any (λ x. segment_meets_polygon s.from s.to x.points) (before ++ o ∷ after)))
    (λ s. not (segment_meets_polygon s.from s.to o.points) && not (list_any (λ x. segment_meets_polygon s.from s.to x.points) (before ++ after)))
    (λ s. ap not (list_any_middle (λ x. segment_meets_polygon s.from s.to x.points) before o after)
    ∙ not_or (segment_meets_polygon s.from s.to o.points) (list_any (λ x. segment_meets_polygon s.from s.to x.points) (before ++ after)))
    screens
    ∙ list_all_and (λ s. not (segment_meets_polygon s.from s.to o.points)) (λ s. not (list_any (λ x. segment_meets_polygon s.from s.to x.points) (before ++ after))) screens
    ∙ ap (λ t. t && list_all (λ s. not (list_any (λ x. segment_meets_polygon s.from s.to x.points) (before ++ after))) screens) (list_all_not (λ s. segment_meets_polygon s.from s.to o.points) screens)

corners_of_middle : (before : List Obstacle) (o : Obstacle) (after : List Obstacle)
    → sum_by corners_of_obstacle_count (before ++ o ∷ after) ≡ sum_by corners_of_obstacle_count before + (length o.points + sum_by corners_of_obstacle_count after)
corners_of_middle before o after =
    sum_by-append corners_of_obstacle_count before (o ∷ after)
    ∙ ap (λ n. sum_by corners_of_obstacle_count before + n) (sum_by-cons corners_of_obstacle_count o after)

-- ---- the plan

-- a sound plan with other points for one of its obstacles, as many as before, is sound where they fit
module _ (p : Plan) (before : List Obstacle) (o : Obstacle) (after : List Obstacle) (points : List Point) where
  abbrev old : Plan
  old = with_obstacles p (before ++ o ∷ after)

  abbrev new : Plan
  new = with_obstacles p (before ++ obstacle o.name points ∷ after)

  abbrev meets_another : Bool
  meets_another = list_any (λ x. polygons_meet x.points points) (before ++ after)

  abbrev meets_a_screen : Bool
  meets_a_screen = list_any (λ s. segment_meets_polygon s.from s.to points) p.screens

  obstacles_with_other_points : are_obstacles_sound old ≡ true → are_obstacles_sound new ≡ ((is_polygon points && lies_within p.outer points) && not meets_another)
  unfolding are_obstacles_sound
  obstacles_with_other_points h =
      let parts = parts_of_obstacles old h in
      let polygon : Obstacle → Bool = λ x. is_polygon x.points && lies_within p.outer x.points in
      let polygons = and_parts (polygon o) (list_all polygon (before ++ after)) (sym (list_all_middle polygon before o after) ∙ parts.polygons) in
      let apart = and_parts (list_all (λ x. obstacles_apart x o) before && list_all (obstacles_apart o) after) (each_two obstacles_apart (before ++ after))
      (sym (each_two_middle obstacles_apart before o after) ∙ parts.apart) in
      let apart_here = and_parts (list_all (λ x. obstacles_apart x o) before) (list_all (obstacles_apart o) after) apart.0 in
      let names_before = (and_parts (list_all (λ x. not (polygons_meet x.points o.points)) before) (list_all (λ x. not (bytes_eq x.name o.name)) before)
      (sym (list_all_and (λ x. not (polygons_meet x.points o.points)) (λ x. not (bytes_eq x.name o.name)) before) ∙ apart_here.0)).1 in
      let names_after = (and_parts (list_all (λ x. not (polygons_meet o.points x.points)) after) (list_all (λ x. not (bytes_eq o.name x.name)) after)
      (sym (list_all_and (λ x. not (polygons_meet o.points x.points)) (λ x. not (bytes_eq o.name x.name)) after) ∙ apart_here.1)).1 in
      rw (
        list_all_middle polygon before (obstacle o.name points) after,
        each_two_middle obstacles_apart before (obstacle o.name points) after,
        polygons.1,
        apart.1,
        apart_from_rest before o.name points after names_before names_after,
        and-true (polygon (obstacle o.name points)),
        and-true (not meets_another),
      )

  screens_with_other_points : are_screens_sound old ≡ true → are_screens_sound new ≡ not meets_a_screen
  unfolding are_screens_sound
  screens_with_other_points h =
      let parts = parts_of_screens old h in
      let clear = and_parts (not (list_any (λ s. segment_meets_polygon s.from s.to o.points) p.screens)) (list_all (λ s. not (list_any (λ x. segment_meets_polygon s.from s.to x.points) (before ++ after))) p.screens)
      (sym (clear_of_middle p.screens before o after) ∙ parts.clear) in
      rw (clear_of_middle p.screens before (obstacle o.name points) after, parts.lines, parts.apart, clear.1, and-true (not meets_a_screen), and-true (not meets_a_screen))

  routes_with_other_points : are_routes_sound old ≡ true → are_routes_sound new ≡ true
  unfolding are_routes_sound
  routes_with_other_points h = h

  limits_with_other_points : length points ≡ length o.points → is_within_limits new ≡ is_within_limits old
  unfolding is_within_limits
  limits_with_other_points e =
      rw (length-append before (obstacle o.name points ∷ after), length-append before (o ∷ after), corners_of_middle before (obstacle o.name points) after, corners_of_middle before o after, e)

  pub sound_with_other_points : is_sound old ≡ true → length points ≡ length o.points
      → is_sound new ≡ (is_polygon points && (lies_within p.outer points && (not meets_another && not meets_a_screen)))
  unfolding is_sound
  sound_with_other_points h e =
      let parts = parts_of_sound old h in
      rw (obstacles_with_other_points parts.obstacles, screens_with_other_points parts.screens, limits_with_other_points e, parts.outer, parts.grid, routes_with_other_points parts.routes, parts.limits, and-true)
      (and_assoc (is_polygon points && lies_within p.outer points) (not meets_another) (not meets_a_screen)
      ∙ and_assoc (is_polygon points) (lies_within p.outer points) (not meets_another && not meets_a_screen))

-- ---- the obstacle of a name

module _ (name : List ℕ) (before : List Obstacle) (o : Obstacle) (after : List Obstacle)
    (named : is_obstacle_named name o ≡ true) (none_before : list_any (is_obstacle_named name) before ≡ false) (none_after : list_any (is_obstacle_named name) after ≡ false) where
  named_alone : filter (is_obstacle_named name) (before ++ o ∷ after) ≡ o ∷ []
  named_alone =
      filter-append (is_obstacle_named name) before (o ∷ after)
      ∙ rw (filter_none (is_obstacle_named name) before none_before, named, filter_none (is_obstacle_named name) after none_after)

  pub points_of_named : points_named name (before ++ o ∷ after) ≡ o.points
  points_of_named = ap (flat_map (λ x. x.points)) named_alone ∙ append-nil o.points

  pub others_than_named : without_obstacle name (before ++ o ∷ after) ≡ before ++ after
  others_than_named =
      filter-append (λ x. not (is_obstacle_named name x)) before (o ∷ after)
      ∙ rw (filter_not_none (is_obstacle_named name) before none_before, named, filter_not_none (is_obstacle_named name) after none_after)

  pub with_named_shifted : (dx dy : ℤ)
      → map (λ x. if is_obstacle_named name x then shifted_obstacle dx dy x else x) (before ++ o ∷ after) ≡ before ++ shifted_obstacle dx dy o ∷ after
  with_named_shifted dx dy =
      map-append (λ x. if is_obstacle_named name x then shifted_obstacle dx dy x else x) before (o ∷ after)
      ∙ rw (map_none (is_obstacle_named name) (shifted_obstacle dx dy) before none_before, named, map_none (is_obstacle_named name) (shifted_obstacle dx dy) after none_after)

-- a polygon that is shifted is one where its points are still in range
pub polygon_shifted : (dx dy : ℤ) (points : List Point) → is_polygon points ≡ true
    → is_polygon (map (shifted_point dx dy) points) ≡ list_all is_in_range (map (shifted_point dx dy) points)
polygon_shifted dx dy points h =
    let simple = and_parts (list_all is_in_range points) (is_simple points) h in
    let long = and_parts (nat_le 3 (length points)) (not (has_repeat points) && crosses_nowhere points) simple.1 in
    let last = and_parts (not (has_repeat points)) (crosses_nowhere points) long.1 in
    rw (length-map points (shifted_point dx dy), repeat_shifted dx dy points, crosses_shifted dx dy points, long.0, last.0, last.1)
    (and-true (list_all is_in_range (map (shifted_point dx dy) points)))
