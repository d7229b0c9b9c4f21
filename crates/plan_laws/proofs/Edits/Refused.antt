-- Which edits of a sound plan are refused.
use Rattle.std.specs.Prelude.{◌≡◌, ℕ, Bool, true, false, not, ◌&&◌, List, ◌∷◌, ◌++◌, map, ℤ, Some, None, is_none, if◌then◌else◌}
use Rattle.std.specs.List.{list_all, list_any}
use Rattle.std.proofs.Common.{refl, sym, ap, ap₂, ◌∙◌, arith}
use Rattle.std.proofs.Math.Bool.{not-not, and-true}
use Rattle.std.proofs.lemmas.Bool.{and_parts}
use Rattle.std.proofs.lemmas.List.{length-map}
use Rattle.plane_spec.specs.declared.Point.{Point}
use Rattle.plane_spec.specs.Vectors.{is_in_range}
use Rattle.plan_spec.specs.declared.edit.Edit.{Edit}
use Rattle.plan_spec.specs.declared.edit.Edit.TheVariants.{Add, Remove, Move, AddScreen, RemoveScreen, AddRoute, RemoveRoute}
use Rattle.plan_spec.specs.declared.why.Why.{Why}
use Rattle.plan_spec.specs.declared.why.Why.TheVariants.{Missing}
use Rattle.plan_spec.specs.Plan.{Obstacle, Plan, with_obstacles, is_obstacle_named, is_screen_named, is_route_named}
use Rattle.plan_spec.specs.Accepted.{is_polygon, lies_within, polygons_meet, segment_meets_polygon, is_sound}
use Rattle.plan_spec.specs.Edits.{is_there, others_of, moved_points, shifted_point, shifted_obstacle, points_named, without_obstacle, why_not_moved, why_not_edit, plan_after_edit}
use Rattle.list_laws.proofs.Tests.{list_all_middle}
use Rattle.list_laws.proofs.Single.{Single}
use Rattle.plan_laws.proofs.Names.{obstacle_alone}
use Rattle.plan_laws.proofs.Parts.{parts_of_sound, parts_of_obstacles}
use Rattle.plan_laws.proofs.Adding.Causes.{none_refuses, none_when, none_of_polygon_in}
use Rattle.plan_laws.proofs.Adding.Items.{no_cause, a_cause}
use Rattle.plan_laws.proofs.Adding.Obstacles.{sound_with_obstacle}
use Rattle.plan_laws.proofs.Adding.Screens.{sound_with_screen}
use Rattle.plan_laws.proofs.Adding.Routes.{sound_with_route}
use Rattle.plan_laws.proofs.Edits.Removing.{sound_with_fewer_obstacles, sound_with_fewer_screens, sound_with_fewer_routes}
use Rattle.plan_laws.proofs.Edits.Moving.{sound_with_other_points, points_of_named, others_than_named, with_named_shifted, polygon_shifted}

-- ---- an obstacle that is moved

pub fits_when_moved : (others : Plan) (points : List Point)
    → is_none (why_not_moved others points)
    ≡ (list_all is_in_range points && (lies_within others.outer points
    && (not (list_any (λ x. polygons_meet x.points points) others.obstacles)
    && not (list_any (λ s. segment_meets_polygon s.from s.to points) others.screens))))
unfolding why_not_moved
fits_when_moved others points = rw none_refuses (simp (none_when, none_of_polygon_in, not-not, and-true))

-- a move isn't refused exactly where there is such an obstacle and the shifted polygon isn't refused
pub none_of_move : (p : Plan) (name : List ℕ) (dx dy : ℤ)
    → is_none (why_not_edit p (Move name dx dy))
    ≡ (list_any (is_obstacle_named name) p.obstacles
    && is_none (why_not_moved (others_of p name) (moved_points p name dx dy)))
unfolding why_not_edit
none_of_move p name dx dy = rw none_refuses (simp (none_when, not-not, and-true))

-- the tests that are left for the shifted polygon, beside the other obstacles
fits : Plan → List Point → List Obstacle → Bool
fits p points others =
    list_all is_in_range points && (lies_within p.outer points
    && (not (list_any (λ x. polygons_meet x.points points) others) && not (list_any (λ s. segment_meets_polygon s.from s.to points) p.screens)))

moved_where_split : (p : Plan) (name : List ℕ) (dx dy : ℤ) → is_sound p ≡ true → Single (is_obstacle_named name) p.obstacles
    → is_none (why_not_moved (others_of p name) (moved_points p name dx dy)) ≡ is_sound (plan_after_edit p (Move name dx dy))
unfolding plan_after_edit fits
moved_where_split p name dx dy h s =
    let moved : List Point = map (shifted_point dx dy) s.it.points in
    let points_is : map (shifted_point dx dy) (points_named name p.obstacles) ≡ moved =
    ap (λ os. map (shifted_point dx dy) (points_named name os)) s.is
    ∙ ap (map (shifted_point dx dy)) (points_of_named name s.before s.it s.after s.passes s.none_before s.none_after) in
    let others_is : without_obstacle name p.obstacles ≡ s.before ++ s.after =
    ap (without_obstacle name) s.is ∙ others_than_named name s.before s.it s.after s.passes s.none_before s.none_after in
    let obstacles_is : map (λ x. if is_obstacle_named name x then shifted_obstacle dx dy x else x) p.obstacles ≡ s.before ++ shifted_obstacle dx dy s.it ∷ s.after =
    ap (map (λ x. if is_obstacle_named name x then shifted_obstacle dx dy x else x)) s.is
    ∙ with_named_shifted name s.before s.it s.after s.passes s.none_before s.none_after dx dy in
    let polygon : Obstacle → Bool = λ x. is_polygon x.points && lies_within p.outer x.points in
    let polygons = and_parts (polygon s.it) (list_all polygon (s.before ++ s.after))
    (sym (list_all_middle polygon s.before s.it s.after) ∙ ap (list_all polygon) (sym s.is) ∙ (parts_of_obstacles p (parts_of_sound p h).obstacles).polygons) in
    let here = and_parts (is_polygon s.it.points) (lies_within p.outer s.it.points) polygons.0 in
    fits_when_moved (others_of p name) (moved_points p name dx dy)
    ∙ ap₂ (fits p) points_is others_is
    ∙ ap (λ t. t && (lies_within p.outer moved && (not (list_any (λ x. polygons_meet x.points moved) (s.before ++ s.after)) && not (list_any (λ s. segment_meets_polygon s.from s.to moved) p.screens))))
    (sym (polygon_shifted dx dy s.it.points here.0))
    ∙ sym (sound_with_other_points p s.before s.it s.after moved (ap (λ os. is_sound (with_obstacles p os)) (sym s.is) ∙ h) (length-map s.it.points (shifted_point dx dy)))
    ∙ ap (λ os. is_sound (with_obstacles p os)) (sym obstacles_is)

moved_where_there : (p : Plan) (name : List ℕ) (dx dy : ℤ) → is_sound p ≡ true → list_any (is_obstacle_named name) p.obstacles ≡ true
    → is_none (why_not_moved (others_of p name) (moved_points p name dx dy)) ≡ is_sound (plan_after_edit p (Move name dx dy))
moved_where_there p name dx dy h there =
    moved_where_split p name dx dy h (obstacle_alone p name h there)

-- ---- every edit

where_there : (there : Bool) (a b : Bool) → (there ≡ true → a ≡ b) → (there && a) ≡ (there && b)
where_there true a b h = h refl
where_there false a b h = refl

where_sound : (there b : Bool) → b ≡ true → not (not there) ≡ (there && b)
where_sound true b h = sym h
where_sound false b h = refl

alone : (s n t : Bool) → t ≡ (s && n) → s ≡ true → n ≡ t
alone s n t e h = grind arith

-- an edit of a sound plan is refused exactly where what it names isn't there or the plan after it wouldn't be sound
pub sound_where_edited : (p : Plan) (e : Edit) → is_sound p ≡ true → is_none (why_not_edit p e) ≡ (is_there p e && is_sound (plan_after_edit p e))
unfolding why_not_edit plan_after_edit
sound_where_edited p (Add name points) h = alone (is_sound p) _ _ (sound_with_obstacle p name points) h
sound_where_edited p (Remove name) h =
    none_when (not (list_any (is_obstacle_named name) p.obstacles)) Missing
    ∙ where_sound (list_any (is_obstacle_named name) p.obstacles) _ (sound_with_fewer_obstacles p (λ o. not (is_obstacle_named name o)) h)
sound_where_edited p (Move name dx dy) h =
    none_of_move p name dx dy
    ∙ where_there (list_any (is_obstacle_named name) p.obstacles) _ _ (moved_where_there p name dx dy h)
sound_where_edited p (AddScreen name from to) h = alone (is_sound p) _ _ (sound_with_screen p name from to) h
sound_where_edited p (RemoveScreen name) h =
    none_when (not (list_any (is_screen_named name) p.screens)) Missing
    ∙ where_sound (list_any (is_screen_named name) p.screens) _ (sound_with_fewer_screens p (λ s. not (is_screen_named name s)) h)
sound_where_edited p (AddRoute name from to) h = alone (is_sound p) _ _ (sound_with_route p name from to) h
sound_where_edited p (RemoveRoute name) h =
    none_when (not (list_any (is_route_named name) p.routes)) Missing
    ∙ where_sound (list_any (is_route_named name) p.routes) _ (sound_with_fewer_routes p (λ r. not (is_route_named name r)) h)

-- ---- what isn't refused leaves a sound plan, and what is refused names nothing or leaves one that isn't

pub edited_is_sound : (p : Plan) (e : Edit) → is_sound p ≡ true → why_not_edit p e ≡ None → is_sound (plan_after_edit p e) ≡ true
edited_is_sound p e h none = (and_parts (is_there p e) (is_sound (plan_after_edit p e)) (sym (sound_where_edited p e h) ∙ no_cause (why_not_edit p e) none)).1

pub refused_edit_is_unsound : (p : Plan) (e : Edit) (why : Why) → is_sound p ≡ true → why_not_edit p e ≡ Some why → (is_there p e && is_sound (plan_after_edit p e)) ≡ false
refused_edit_is_unsound p e why h some = sym (sound_where_edited p e h) ∙ a_cause (why_not_edit p e) why some
