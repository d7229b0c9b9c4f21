-- The corners that a removal takes out of a sound plan stand together, and lie in its box.
--
-- The corners of a plan are those of the outer polygon, then of each obstacle, then the ends of each screen, in
-- order. In a
-- sound plan obstacles have different names, and so have screens, so a removal takes out one obstacle or one screen
-- (`Single`). What stands before it and after it keeps its corners, in order: they are the front and the back, and
-- its own
-- corners are the part between. All its points lie in the box of the edit, so its corners do.
use Rattle.std.proofs.Common.{◌≡◌, ◌∙◌, ◌≤ℤ◌, Bool, true, false, not, ◌&&◌, ℕ, List, [], ◌∷◌, ◌++◌, map, filter}
use Rattle.std.proofs.Common.{None, refl, sym, ap, subst, append_assoc, arith, ℤ}
use Rattle.std.specs.List.{All, list_any, list_all, flat_map}
use Rattle.std.proofs.lemmas.Int.{ints}
use Rattle.std.proofs.lemmas.Bool.{and_parts, and_from}
use Rattle.std.proofs.lemmas.Grind.{flat_map-append}
use Rattle.std.proofs.lemmas.List.{map-append}
use Rattle.std.proofs.lemmas.List.Elements.{All-nil, All-cons, All-head, All-tail, All-map}
use Rattle.plane_spec.specs.declared.Point.{Point}
use Rattle.plane_spec.specs.declared.PlanBox.{PlanBox}
use Rattle.plane_spec.specs.declared.Corner.{Corner}
use Rattle.plane_spec.specs.Boxes.{box_of_points, does_meet_box, do_intervals_overlap, reaches_line}
use Rattle.plan_spec.specs.declared.item.Screen.{Screen}
use Rattle.plan_spec.specs.declared.edit.Edit.{Edit}
use Rattle.plan_spec.specs.declared.edit.Edit.TheVariants.{Add, Remove, Move, AddScreen, RemoveScreen, AddRoute}
use Rattle.plan_spec.specs.declared.edit.Edit.TheVariants.{RemoveRoute}
use Rattle.plan_spec.specs.Plan.{Obstacle, Plan, with_obstacles, with_screens, is_obstacle_named, is_screen_named}
use Rattle.plan_spec.specs.Accepted.{is_sound}
use Rattle.sight_spec.specs.Scene.{scene_of, corners_of_obstacle, ends_of_screen}
use Rattle.plan_spec.specs.Edits.{changed, changed_boxes, plan_after_edit, points_named, ends_named, without_obstacle}
use Rattle.sight_spec.specs.Axial.{here_of}
use Rattle.plan_laws.proofs.Names.{obstacle_alone, screen_alone}
use Rattle.list_laws.proofs.Tests.{filter_none}
use Rattle.list_laws.proofs.Elements.{each_part, second_part, where_passed}
use Rattle.list_laws.proofs.Single.{Single, all_but_single}
use Rattle.box_laws.specs.Boxes.{IsIn, OfCorner}
use Rattle.box_laws.proofs.Held.{held_in}
use Rattle.box_laws.proofs.Parts.{obstacle_corners_held, outer_corners}
use Rattle.box_laws.proofs.Blocking.{first_meets}
use Rattle.dirty_laws.proofs.Unboxed.{first_of, second_of}
use Rattle.dirty_laws.specs.Scenes.{ClosesUp, removal_of}
use Rattle.dirty_laws.proofs.Removal.{PointsIn, EndsIn, end_corners_held, no_box, moved_box}

-- ---- the box as a test

-- points in a box meet it, taken as segments
all_meet : (box : PlanBox) (points : List Point) → All (IsIn box) points
    → list_all (λ p. does_meet_box p p box) points ≡ true
all_meet box [] all = refl
all_meet box (p ∷ points) all =
    and_from _ _ (first_meets p p box (All-head (IsIn box) p points all))
    (all_meet box points (All-tail (IsIn box) p points all))

-- a point that meets a box is in it
in_where_met : (box : PlanBox) (p : Point) → does_meet_box p p box ≡ true → IsIn box p
unfolding does_meet_box
in_where_met box p h =
    let across = do_intervals_overlap p.x p.x box.low.x box.high.x in
    let up = do_intervals_overlap p.y p.y box.low.y box.high.y in
    let both = and_parts across up (and_parts (across && up) (reaches_line p p box) h).0 in
    let x = between p.x box.low.x box.high.x both.0 in
    let y = between p.y box.low.y box.high.y both.1 in
    record { left = x.0; right = x.1; below = y.0; above = y.1 }
  where
    between : (z low high : ℤ) → do_intervals_overlap z z low high ≡ true → (low ≤ℤ z) × (z ≤ℤ high)
    between z low high h = (grind (arith, ints), grind (arith, ints))

-- points that meet a box are in it
pub all_met_in : (box : PlanBox) (points : List Point) → list_all (λ p. does_meet_box p p box) points ≡ true
    → All (IsIn box) points
all_met_in box [] h = All-nil (IsIn box)
all_met_in box (p ∷ points) h =
    let both = and_parts (does_meet_box p p box) (list_all (λ p. does_meet_box p p box) points) h in
    All-cons (IsIn box) p points (in_where_met box p both.0) (all_met_in box points both.1)

-- ---- the one of a name

-- what holds of all of a name holds of the only one
pub only_one_has : {X : Type 0} (P : X → Type 0) (test : X → Bool) (xs : List X) → (s : Single test xs)
    → All P (filter test xs) → P s.it
only_one_has P test xs s all =
    All-head (λ x. test x ≡ true → P x) s.it s.after
    (second_part (λ x. test x ≡ true → P x) s.before (s.it ∷ s.after)
    (subst (All (λ x. test x ≡ true → P x)) s.is (where_passed P test xs all))) s.passes

-- ---- corners in parts

-- where corners stand
abbrev pub places : List Corner → List Point
places corners = map here_of corners

-- the corners of one part in the middle, between those before it and those after it
pub part_in_middle : {X : Type 0} (f : X → List Corner) (first last : List Corner) (before : List X) (x : X)
    (after : List X) → places (first ++ (flat_map f (before ++ x ∷ after) ++ last))
    ≡ places (first ++ flat_map f before) ++ (places (f x) ++ places (flat_map f after ++ last))
part_in_middle f first last before x after = simp (flat_map-append, map-append, append_assoc) refl

-- and without it
part_left_out : {X : Type 0} (f : X → List Corner) (first last : List Corner) (before after : List X)
    → places (first ++ (flat_map f (before ++ after) ++ last)) ≡ places (first ++ flat_map f before) ++ places
    (flat_map f after ++ last)
part_left_out f first last before after = simp (flat_map-append, map-append, append_assoc) refl

-- the corners of obstacles and screens, with the screens last: those of the parts before, and of the screens
pub screens_last : (outer others : List Corner) (screens : List Screen)
    → places (outer ++ (others ++ flat_map ends_of_screen screens))
    ≡ places ((outer ++ others) ++ (flat_map ends_of_screen screens ++ []))
screens_last outer others screens =
    ap places
    (sym (append_assoc outer others (flat_map ends_of_screen screens))
    ∙ ap (λ r. (outer ++ others) ++ r) (end_left (flat_map ends_of_screen screens)))
  where
    end_left : {X : Type 0} (xs : List X) → xs ≡ xs ++ []
    end_left [] = refl
    end_left (x ∷ xs) = ap (λ r. x ∷ r) (end_left xs)

-- what holds of corners holds of where they stand
places_in : (box : PlanBox) (corners : List Corner) → All (OfCorner (IsIn box)) corners
    → All (IsIn box) (places corners)
places_in box corners all = All-map (IsIn box) here_of corners all

-- ---- removals

-- the corners of an obstacle that is removed
closes_obstacle : (box : PlanBox) (plan : Plan) (name : List ℕ)
    → All (PointsIn box) (filter (is_obstacle_named name) plan.obstacles)
    → Single (is_obstacle_named name) plan.obstacles
    → ClosesUp box (scene_of plan) (scene_of (with_obstacles plan (without_obstacle name plan.obstacles)))
closes_obstacle box plan name held s =
    let outer = outer_corners plan.outer in
    let ends = flat_map ends_of_screen plan.screens in
    let all : List Obstacle → List Point = λ os. places (outer ++ (flat_map corners_of_obstacle os ++ ends)) in
    let in_box = only_one_has (PointsIn box) (is_obstacle_named name) plan.obstacles s held in
    record {
      front = places (outer ++ flat_map corners_of_obstacle s.before);
      gone = places (corners_of_obstacle s.it);
      back = places (flat_map corners_of_obstacle s.after ++ ends);
      old_is = ap all s.is ∙ part_in_middle corners_of_obstacle outer ends s.before s.it s.after;
      new_is = ap all (all_but_single (is_obstacle_named name) plan.obstacles s)
          ∙ part_left_out corners_of_obstacle outer ends s.before s.after;
      gone_in = all_meet box (places (corners_of_obstacle s.it))
          (places_in box (corners_of_obstacle s.it) (obstacle_corners_held (IsIn box) s.it in_box));
    }

-- the ends of a screen that is removed
closes_screen : (box : PlanBox) (plan : Plan) (name : List ℕ)
    → All (EndsIn box) (filter (is_screen_named name) plan.screens) → Single (is_screen_named name) plan.screens
    → ClosesUp box (scene_of plan)
    (scene_of (with_screens plan (filter (λ s. not (is_screen_named name s)) plan.screens)))
closes_screen box plan name held s =
    let outer = outer_corners plan.outer in
    let others = flat_map corners_of_obstacle plan.obstacles in
    let all : List Screen → List Point = λ ss. places ((outer ++ others) ++ (flat_map ends_of_screen ss ++ [])) in
    let in_box = only_one_has (EndsIn box) (is_screen_named name) plan.screens s held in
    record {
      front = places ((outer ++ others) ++ flat_map ends_of_screen s.before);
      gone = places (ends_of_screen s.it);
      back = places (flat_map ends_of_screen s.after ++ []);
      old_is = screens_last outer others plan.screens
          ∙ ap all s.is
          ∙ part_in_middle ends_of_screen (outer ++ others) [] s.before s.it s.after;
      new_is = screens_last outer others (filter (λ s. not (is_screen_named name s)) plan.screens)
          ∙ ap all (all_but_single (is_screen_named name) plan.screens s)
          ∙ part_left_out ends_of_screen (outer ++ others) [] s.before s.after;
      gone_in = all_meet box (places (ends_of_screen s.it))
          (places_in box (ends_of_screen s.it) (end_corners_held box s.it in_box));
    }

-- the corners that a removal takes out of a sound plan stand together, kind by kind of edit
pub removal_closes_up : (plan : Plan) (edit : Edit) (box : PlanBox) → is_sound plan ≡ true
    → changed_boxes plan edit ≡ removal_of box → ClosesUp box (scene_of plan) (scene_of (plan_after_edit plan edit))
unfolding plan_after_edit changed_boxes
removal_closes_up plan (Add name points) box sound h = no_box box _ refl h
removal_closes_up plan (Remove name) box sound h = by (list_any (is_obstacle_named name) plan.obstacles) refl
  where
    held : All (PointsIn box) (filter (is_obstacle_named name) plan.obstacles)
    held =
        each_part (IsIn box) (λ o. o.points) (filter (is_obstacle_named name) plan.obstacles)
        (held_in (points_named name plan.obstacles) box (ap first_of h))

    none : {P : Type 0} → changed None None ≡ removal_of box → P
    none e = no_box box (changed None None) refl e

    by : (t : Bool) → list_any (is_obstacle_named name) plan.obstacles ≡ t
        → ClosesUp box (scene_of plan) (scene_of (with_obstacles plan (without_obstacle name plan.obstacles)))
    by true there = closes_obstacle box plan name held (obstacle_alone plan name sound there)
    by false there =
        none
        (sym (ap (λ os. changed (box_of_points (flat_map (λ o. o.points) os)) None)
        (filter_none (is_obstacle_named name) plan.obstacles there))
        ∙ h)
removal_closes_up plan (Move name dx dy) box sound h =
    moved_box box dx dy (points_named name plan.obstacles) (ap first_of h) (ap second_of h)
removal_closes_up plan (AddScreen name from to) box sound h = no_box box _ refl h
removal_closes_up plan (RemoveScreen name) box sound h = by (list_any (is_screen_named name) plan.screens) refl
  where
    held : All (EndsIn box) (filter (is_screen_named name) plan.screens)
    held =
        each_part (IsIn box) (λ s. s.from ∷ s.to ∷ []) (filter (is_screen_named name) plan.screens)
        (held_in (ends_named name plan.screens) box (ap first_of h))

    none : {P : Type 0} → changed None None ≡ removal_of box → P
    none e = no_box box (changed None None) refl e

    by : (t : Bool) → list_any (is_screen_named name) plan.screens ≡ t → ClosesUp box (scene_of plan)
        (scene_of (with_screens plan (filter (λ s. not (is_screen_named name s)) plan.screens)))
    by true there = closes_screen box plan name held (screen_alone plan name sound there)
    by false there =
        none
        (sym (ap (λ ss. changed (box_of_points (flat_map (λ s. s.from ∷ s.to ∷ []) ss)) None)
        (filter_none (is_screen_named name) plan.screens there))
        ∙ h)
removal_closes_up plan (AddRoute name from to) box sound h = no_box box _ refl h
removal_closes_up plan (RemoveRoute name) box sound h = no_box box _ refl h
