-- What a removal takes out of the scene of a plan lies in its box.
--
-- An edit with a box before it and none after it takes away the obstacles, or the screens, of a name: what is added
-- or
-- moved has a box after it, since a move keeps the number of points, and a route has none. The box is the least one
-- of all
-- their points. So the ends of their walls and their corners, or the ends of the screens, lie in it (`Parts`); the
-- other
-- obstacles and screens stay in their order, and with them their walls and corners.
use Rattle.std.proofs.Common.{◌≡◌, ◌∙◌, not, ℤ, List, [], ◌∷◌, ◌++◌, map}
use Rattle.std.proofs.Common.{filter, All, Some, None, refl, sym, ap}
use Rattle.std.specs.List.{flat_map}
use Rattle.std.proofs.lemmas.List.Elements.{All-nil, All-cons, All-head, All-tail}
use Rattle.plane_spec.specs.declared.Point.{Point}
use Rattle.plane_spec.specs.declared.PlanBox.{PlanBox}
use Rattle.plane_spec.specs.Boxes.{box_of_points}
use Rattle.plan_spec.specs.declared.item.Screen.{Screen}
use Rattle.plan_spec.specs.declared.edit.Edit.{Edit}
use Rattle.plan_spec.specs.declared.edit.Edit.TheVariants.{Add, Remove, Move, AddScreen, RemoveScreen, AddRoute}
use Rattle.plan_spec.specs.declared.edit.Edit.TheVariants.{RemoveRoute}
use Rattle.plan_spec.specs.declared.edit.Changed.{Changed}
use Rattle.plan_spec.specs.Plan.{Obstacle, Plan, with_obstacles, with_screens, is_obstacle_named, is_screen_named}
use Rattle.sight_spec.specs.Scene.{scene_of, walls_of_obstacle, corners_of_obstacle}
use Rattle.sight_spec.specs.Scene.{segment_of_screen, screen_corner, ends_of_screen}
use Rattle.plan_spec.specs.Edits.{changed_boxes, plan_after_edit, points_named, ends_named, without_obstacle}
use Rattle.plan_spec.specs.Edits.{shifted_point}
use Rattle.box_laws.specs.Boxes.{IsIn, OfEnds, OfCorner}
use Rattle.box_laws.proofs.Held.{held_in}
use Rattle.list_laws.proofs.Elements.{each_part}
use Rattle.box_laws.proofs.Parts.{obstacle_corners_held, obstacle_walls_held, outer_corners, outer_walls}
use Rattle.list_laws.specs.Dropped.{Dropped}
use Rattle.list_laws.proofs.Dropped.{nothing_dropped, both_dropped, parts_dropped, each_dropped}
use Rattle.list_laws.proofs.Dropped.{passing_dropped}
use Rattle.dirty_laws.specs.Scenes.{IsWithout, removal_of}
use Rattle.dirty_laws.proofs.Unboxed.{first_of, second_of}

-- ---- obstacles and screens in the box

-- the obstacle lies in the box
abbrev pub PointsIn : PlanBox → Obstacle → Type 0
PointsIn box o = All (IsIn box) o.points

-- the screen lies in the box
abbrev pub EndsIn : PlanBox → Screen → Type 0
EndsIn box s = All (IsIn box) (s.from ∷ s.to ∷ [])

-- the scene without some obstacles in the box
without_obstacles : (box : PlanBox) (plan : Plan) (obstacles : List Obstacle)
    → Dropped (PointsIn box) plan.obstacles obstacles
    → IsWithout box (scene_of plan) (scene_of (with_obstacles plan obstacles))
without_obstacles box plan obstacles d =
    let walls = outer_walls plan.outer in
    let corners = outer_corners plan.outer in
    let ends = flat_map ends_of_screen plan.screens in
    record {
      walls =
          both_dropped (OfEnds (IsIn box)) walls walls (flat_map walls_of_obstacle plan.obstacles)
          (flat_map walls_of_obstacle obstacles) (nothing_dropped (OfEnds (IsIn box)) walls)
          (parts_dropped (PointsIn box) (OfEnds (IsIn box)) walls_of_obstacle
          (obstacle_walls_held (IsIn box)) plan.obstacles obstacles d);
      screens = nothing_dropped (OfEnds (IsIn box)) (map segment_of_screen plan.screens);
      corners =
          both_dropped (OfCorner (IsIn box)) corners corners (flat_map corners_of_obstacle plan.obstacles ++ ends)
          (flat_map corners_of_obstacle obstacles ++ ends) (nothing_dropped (OfCorner (IsIn box)) corners)
          (both_dropped (OfCorner (IsIn box)) (flat_map corners_of_obstacle plan.obstacles)
          (flat_map corners_of_obstacle obstacles) ends ends
          (parts_dropped (PointsIn box) (OfCorner (IsIn box)) corners_of_obstacle
          (obstacle_corners_held (IsIn box)) plan.obstacles obstacles d)
          (nothing_dropped (OfCorner (IsIn box)) ends));
    }

-- the ends of a screen in the box
ends_held : (box : PlanBox) (s : Screen) → EndsIn box s → OfEnds (IsIn box) (segment_of_screen s)
ends_held box s h = record {
  a = All-head (IsIn box) s.from (s.to ∷ []) h;
  b = All-head (IsIn box) s.to [] (All-tail (IsIn box) s.from (s.to ∷ []) h);
}

-- and the corners at them
pub end_corners_held : (box : PlanBox) (s : Screen) → EndsIn box s → All (OfCorner (IsIn box)) (ends_of_screen s)
end_corners_held box s h =
    let both = ends_held box s h in
    All-cons (OfCorner (IsIn box)) (screen_corner s.from) (screen_corner s.to ∷ []) both.a
    (All-cons (OfCorner (IsIn box)) (screen_corner s.to) [] both.b (All-nil (OfCorner (IsIn box))))

-- the scene without some screens in the box
without_screens : (box : PlanBox) (plan : Plan) (screens : List Screen) → Dropped (EndsIn box) plan.screens screens
    → IsWithout box (scene_of plan) (scene_of (with_screens plan screens))
without_screens box plan screens d =
    let corners = outer_corners plan.outer in
    let others = flat_map corners_of_obstacle plan.obstacles in
    record {
      walls =
          nothing_dropped (OfEnds (IsIn box))
          (outer_walls plan.outer ++ flat_map walls_of_obstacle plan.obstacles);
      screens =
          each_dropped (EndsIn box) (OfEnds (IsIn box)) segment_of_screen (ends_held box) plan.screens screens d;
      corners =
          both_dropped (OfCorner (IsIn box)) corners corners (others ++ flat_map ends_of_screen plan.screens)
          (others ++ flat_map ends_of_screen screens) (nothing_dropped (OfCorner (IsIn box)) corners)
          (both_dropped (OfCorner (IsIn box)) others others (flat_map ends_of_screen plan.screens)
          (flat_map ends_of_screen screens) (nothing_dropped (OfCorner (IsIn box)) others)
          (parts_dropped (EndsIn box) (OfCorner (IsIn box)) ends_of_screen (end_corners_held box) plan.screens
          screens d));
    }

-- ---- edits that have a box before alone

-- an edit without a box before it isn't a removal
pub no_box : {P : Type 0} (box : PlanBox) (boxes : Changed) → first_of boxes ≡ None → boxes ≡ removal_of box → P
no_box box boxes e h = none (sym e ∙ ap first_of h)
  where
    none : {P : Type 0} → None ≡ Some box → P
    none e = cc

-- the shifted points have a box where the points have one
pub moved_box : {P : Type 0} (box : PlanBox) (dx dy : ℤ) (points : List Point) → box_of_points points ≡ Some box
    → box_of_points (map (shifted_point dx dy) points) ≡ None → P
moved_box box dx dy [] h k = cc
moved_box box dx dy (p ∷ points) h k = cc

-- what a removal takes out lies in its box, kind by kind of edit
pub removal_is_without : (plan : Plan) (edit : Edit) (box : PlanBox) → changed_boxes plan edit ≡ removal_of box
    → IsWithout box (scene_of plan) (scene_of (plan_after_edit plan edit))
unfolding plan_after_edit changed_boxes
removal_is_without plan (Add name points) box h = no_box box _ refl h
removal_is_without plan (Remove name) box h =
    without_obstacles box plan (without_obstacle name plan.obstacles)
    (passing_dropped (PointsIn box) (is_obstacle_named name) plan.obstacles
    (each_part (IsIn box) (λ o. o.points) (filter (is_obstacle_named name) plan.obstacles)
    (held_in (points_named name plan.obstacles) box (ap first_of h))))
removal_is_without plan (Move name dx dy) box h =
    moved_box box dx dy (points_named name plan.obstacles) (ap first_of h) (ap second_of h)
removal_is_without plan (AddScreen name from to) box h = no_box box _ refl h
removal_is_without plan (RemoveScreen name) box h =
    without_screens box plan (filter (λ s. not (is_screen_named name s)) plan.screens)
    (passing_dropped (EndsIn box) (is_screen_named name) plan.screens
    (each_part (IsIn box) (λ s. s.from ∷ s.to ∷ []) (filter (is_screen_named name) plan.screens)
    (held_in (ends_named name plan.screens) box (ap first_of h))))
removal_is_without plan (AddRoute name from to) box h = no_box box _ refl h
removal_is_without plan (RemoveRoute name) box h = no_box box _ refl h
