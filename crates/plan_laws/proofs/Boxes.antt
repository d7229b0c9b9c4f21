-- The box of points in range is in range, and so are the boxes of an edit that isn't refused.
use Rattle.std.specs.Prelude.{◌≡◌, ℕ, ℤ, pos, Bool, true, false, ◌&&◌, not, cond, IfSome, is_none, int_lt, List, [], ◌∷◌, ◌++◌, map, filter, None}
use Rattle.std.specs.List.{All, flat_map, list_all, list_any}
use Rattle.std.proofs.Common.{sym, ◌∙◌}
use Rattle.std.proofs.lemmas.Bool.{and_parts}
use Rattle.std.proofs.lemmas.List.Elements.{All-nil, All-cons, All-append, All-filter, All-head, All-tail, All-weaker}
use Rattle.plane_spec.specs.declared.Point.{Point}
use Rattle.plane_spec.specs.declared.PlanBox.{PlanBox}
use Rattle.plane_spec.specs.Vectors.{IsWithin, InRange, is_in_range}
use Rattle.plane_spec.specs.Boxes.{with_point, with_points, box_of_points}
use Rattle.plan_spec.specs.declared.item.Screen.{Screen}
use Rattle.plan_spec.specs.declared.edit.Edit.{Edit}
use Rattle.plan_spec.specs.declared.edit.Edit.TheVariants.{Add, Remove, Move, AddScreen, RemoveScreen, AddRoute, RemoveRoute}
use Rattle.plan_spec.specs.Plan.{Obstacle, Plan, obstacle, screen, with_item, is_obstacle_named, is_screen_named}
use Rattle.plan_spec.specs.Accepted.{lies_within, polygons_meet, segment_meets_polygon, is_sound}
use Rattle.plan_spec.specs.Edits.{others_of, moved_points, shifted_point, points_named, ends_named, why_not_moved, why_not_edit, plan_after_edit, changed_boxes}
use Rattle.plan_spec.specs.Ranges.{IsPolygonInRange, IsProperSegmentInRange, IsBoxInRange, AreBoxesInRange}
use Rattle.plan_laws.proofs.Ranges.{points_in_range, obstacles_in_range, sound_obstacles, sound_screens}
use Rattle.plan_laws.proofs.Adding.Items.{no_cause}
use Rattle.plan_laws.proofs.Edits.Refused.{fits_when_moved, none_of_move, edited_is_sound}

-- ---- the box of points in range

either_within : (t : Bool) (a b : ℤ) → IsWithin (pos 100000) a → IsWithin (pos 100000) b → IsWithin (pos 100000) (cond t a b)
either_within true a b h k = h
either_within false a b h k = k

with_point_in : (area : PlanBox) (p : Point) → IsBoxInRange area → InRange p → IsBoxInRange (with_point area p)
with_point_in area p area_in p_in = record {
  low = record {
    x = either_within (int_lt p.x area.low.x) p.x area.low.x p_in.x area_in.low.x;
    y = either_within (int_lt p.y area.low.y) p.y area.low.y p_in.y area_in.low.y;
  };
  high = record {
    x = either_within (int_lt p.x area.high.x) area.high.x p.x area_in.high.x p_in.x;
    y = either_within (int_lt p.y area.high.y) area.high.y p.y area_in.high.y p_in.y;
  };
}

with_points_in : (area : PlanBox) (points : List Point) → IsBoxInRange area → All InRange points → IsBoxInRange (with_points area points)
unfolding with_points
with_points_in area [] area_in all = area_in
with_points_in area (p ∷ points) area_in all =
    with_points_in (with_point area p) points (with_point_in area p area_in (All-head InRange p points all)) (All-tail InRange p points all)

pub box_in_range : (points : List Point) → All InRange points → IfSome (box_of_points points) IsBoxInRange
box_in_range [] all = tt
box_in_range (p ∷ points) all =
    let p_in = All-head InRange p points all in
    with_points_in (record { low = p; high = p }) points (record { low = p_in; high = p_in }) (All-tail InRange p points all)

ends_in : (from to : Point) → IsProperSegmentInRange from to → All InRange (from ∷ to ∷ [])
ends_in from to line = All-cons InRange from (to ∷ []) line.from_in (All-cons InRange to [] line.to_in (All-nil InRange))

line_box_in_range : (from to : Point) → IsProperSegmentInRange from to → IfSome (box_of_points (from ∷ to ∷ [])) IsBoxInRange
line_box_in_range from to line = box_in_range (from ∷ to ∷ []) (ends_in from to line)

-- ---- what the plan has

-- what holds of each part holds of the parts joined
joined_in : {X : Type 0} (P : Point → Type 0) (f : X → List Point) (xs : List X) → All (λ x. All P (f x)) xs → All P (flat_map f xs)
joined_in P f [] all = All-nil P
joined_in P f (x ∷ xs) all =
    All-append P (f x) (flat_map f xs) (All-head (λ x. All P (f x)) x xs all) (joined_in P f xs (All-tail (λ x. All P (f x)) x xs all))

-- the points of the obstacle of a name are in range
pub named_points_in : (plan : Plan) (name : List ℕ) → is_sound plan ≡ true → All InRange (points_named name plan.obstacles)
named_points_in plan name sound =
    joined_in InRange (λ (o : Obstacle). o.points) (filter (is_obstacle_named name) plan.obstacles)
    (All-filter (is_obstacle_named name) (λ (o : Obstacle). All InRange o.points) plan.obstacles (obstacles_in_range plan sound))

-- the ends of the screen of a name are in range
named_ends_in : (plan : Plan) (name : List ℕ) → is_sound plan ≡ true → All InRange (ends_named name plan.screens)
named_ends_in plan name sound =
    joined_in InRange (λ (s : Screen). s.from ∷ s.to ∷ []) (filter (is_screen_named name) plan.screens)
    (All-filter (is_screen_named name) (λ (s : Screen). All InRange (s.from ∷ s.to ∷ [])) plan.screens
    (All-weaker (λ (s : Screen). IsProperSegmentInRange s.from s.to) (λ (s : Screen). All InRange (s.from ∷ s.to ∷ [])) (λ s. ends_in s.from s.to) plan.screens (sound_screens plan sound)))

named_points_box : (plan : Plan) (name : List ℕ) → is_sound plan ≡ true → IfSome (box_of_points (points_named name plan.obstacles)) IsBoxInRange
named_points_box plan name sound = box_in_range (points_named name plan.obstacles) (named_points_in plan name sound)

named_ends_box : (plan : Plan) (name : List ℕ) → is_sound plan ≡ true → IfSome (box_of_points (ends_named name plan.screens)) IsBoxInRange
named_ends_box plan name sound = box_in_range (ends_named name plan.screens) (named_ends_in plan name sound)

-- ---- what an edit adds or moves

-- what holds of all holds of the last
last_of_all : {X : Type 0} (P : X → Type 0) (xs : List X) (x : X) → All P (xs ++ x ∷ []) → P x
last_of_all P [] x all = All-head P x [] all
last_of_all P (y ∷ xs) x all = last_of_all P xs x (All-tail P y (xs ++ x ∷ []) all)

added_points_in : (p : Plan) (name : List ℕ) (points : List Point) → is_sound p ≡ true → why_not_edit p (Add name points) ≡ None → All InRange points
unfolding plan_after_edit with_item
added_points_in p name points h none =
    (last_of_all (λ (o : Obstacle). IsPolygonInRange o.points) p.obstacles (obstacle name points)
    (sound_obstacles (plan_after_edit p (Add name points)) (edited_is_sound p (Add name points) h none))).in_range

added_screen_in : (p : Plan) (name : List ℕ) (from to : Point) → is_sound p ≡ true → why_not_edit p (AddScreen name from to) ≡ None → IsProperSegmentInRange from to
unfolding plan_after_edit with_item
added_screen_in p name from to h none =
    last_of_all (λ (s : Screen). IsProperSegmentInRange s.from s.to) p.screens (screen name from to)
    (sound_screens (plan_after_edit p (AddScreen name from to)) (edited_is_sound p (AddScreen name from to) h none))

moved_points_in : (p : Plan) (name : List ℕ) (dx dy : ℤ) → why_not_edit p (Move name dx dy) ≡ None → All InRange (map (shifted_point dx dy) (points_named name p.obstacles))
moved_points_in p name dx dy none =
    let points : List Point = moved_points p name dx dy in
    let others : Plan = others_of p name in
    let there : Bool = list_any (is_obstacle_named name) p.obstacles in
    let fits : Bool =
    lies_within others.outer points
    && (not (list_any (λ x. polygons_meet x.points points) others.obstacles) && not (list_any (λ s. segment_meets_polygon s.from s.to points) others.screens)) in
    let tests = and_parts there (is_none (why_not_moved others points)) (sym (none_of_move p name dx dy) ∙ no_cause _ none) in
    points_in_range points (and_parts (list_all is_in_range points) fits (sym (fits_when_moved others points) ∙ tests.1)).0

-- ---- every edit

pub edit_boxes_in_range : (p : Plan) (e : Edit) → is_sound p ≡ true → why_not_edit p e ≡ None → AreBoxesInRange (changed_boxes p e)
unfolding changed_boxes
edit_boxes_in_range p (Add name points) h none = record { first = tt; second = box_in_range points (added_points_in p name points h none) }
edit_boxes_in_range p (Remove name) h none = record { first = named_points_box p name h; second = tt }
edit_boxes_in_range p (Move name dx dy) h none = record {
  first = named_points_box p name h;
  second = box_in_range (map (shifted_point dx dy) (points_named name p.obstacles)) (moved_points_in p name dx dy none);
}
edit_boxes_in_range p (AddScreen name from to) h none = record { first = tt; second = line_box_in_range from to (added_screen_in p name from to h none) }
edit_boxes_in_range p (RemoveScreen name) h none = record { first = named_ends_box p name h; second = tt }
edit_boxes_in_range p (AddRoute name from to) h none = record { first = tt; second = tt }
edit_boxes_in_range p (RemoveRoute name) h none = record { first = tt; second = tt }
