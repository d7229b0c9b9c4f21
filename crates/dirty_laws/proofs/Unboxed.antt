-- An edit without boxes leaves the scene as it was.
--
-- A list of points without a box is empty, since each point makes one. So what an edit without boxes adds, takes away
-- or
-- moves has no points: then it is no screen, which has two ends, but a route, which isn't seen, or obstacles without
-- points, which have no edges and so neither walls nor corners. Parts that are joined to the same lists without them.
use Rattle.std.proofs.Common.{◌≡◌, ◌∙◌, Bool, true, false, cond, not, List, [], ◌∷◌, ◌++◌, map, filter, All}
use Rattle.std.proofs.Common.{Option, None, refl, sym, ap}
use Rattle.std.specs.List.{flat_map}
use Rattle.std.proofs.lemmas.List.Elements.{All-nil, All-cons, All-head, All-tail, All-weaker}
use Rattle.plane_spec.specs.declared.Point.{Point}
use Rattle.plane_spec.specs.declared.PlanBox.{PlanBox}
use Rattle.plane_spec.specs.declared.Orientation.TheVariants.{Counterclockwise}
use Rattle.plane_spec.specs.Boxes.{box_of_points}
use Rattle.plane_spec.specs.Polygons.{edges_of}
use Rattle.plan_spec.specs.declared.item.Screen.{Screen}
use Rattle.plan_spec.specs.declared.edit.Edit.{Edit}
use Rattle.plan_spec.specs.declared.edit.Edit.TheVariants.{Add, Remove, Move, AddScreen, RemoveScreen, AddRoute}
use Rattle.plan_spec.specs.declared.edit.Edit.TheVariants.{RemoveRoute}
use Rattle.plan_spec.specs.declared.edit.Changed.{Changed}
use Rattle.plan_spec.specs.Plan.{Obstacle, Plan, obstacle, with_item, with_obstacles, with_screens, is_obstacle_named}
use Rattle.plan_spec.specs.Plan.{is_screen_named}
use Rattle.sight_spec.specs.Scene.{scene_of, has_orientation, turned_edge, turned_corner, corners_along, oriented_walls}
use Rattle.sight_spec.specs.Scene.{walls_of_obstacle, oriented_corners, corners_of_obstacle}
use Rattle.plan_spec.specs.Edits.{changed, changed_boxes, plan_after_edit, points_named, ends_named, without_obstacle}
use Rattle.plan_spec.specs.Edits.{shifted_point, shifted_obstacle}

-- the box before an edit
abbrev pub first_of : Changed → Option PlanBox
first_of boxes = boxes.first

-- and the one after it
abbrev pub second_of : Changed → Option PlanBox
second_of boxes = boxes.second

-- points without a box are none
no_points : (points : List Point) → box_of_points points ≡ None → points ≡ []
no_points [] h = refl
no_points (p ∷ points) h = cc

-- obstacles without points have no walls
no_walls : (o : Obstacle) → o.points ≡ [] → walls_of_obstacle o ≡ []
unfolding oriented_walls
no_walls o e = ap (λ ps. oriented_walls Counterclockwise ps) e ∙ by (has_orientation Counterclockwise [])
  where
    by : (t : Bool) → cond t (edges_of []) (map turned_edge (edges_of [])) ≡ []
    by true = refl
    by false = refl

-- nor corners
no_corners : (o : Obstacle) → o.points ≡ [] → corners_of_obstacle o ≡ []
unfolding oriented_corners
no_corners o e = ap (λ ps. oriented_corners Counterclockwise ps) e ∙ by (has_orientation Counterclockwise [])
  where
    by : (t : Bool) → cond t (corners_along (edges_of [])) (map turned_corner (corners_along (edges_of []))) ≡ []
    by true = refl
    by false = refl

-- each of the parts is empty where they are joined to nothing
each_empty : {X Y : Type 0} (f : X → List Y) (xs : List X) → flat_map f xs ≡ [] → All (λ x. f x ≡ []) xs
each_empty f [] h = All-nil (λ x. f x ≡ [])
each_empty f (x ∷ xs) h =
    All-cons (λ y. f y ≡ []) x xs (first (f x) (flat_map f xs) h) (each_empty f xs (second (f x) (flat_map f xs) h))
  where
    first : {Z : Type 0} (us vs : List Z) → us ++ vs ≡ [] → us ≡ []
    first [] vs h = refl
    first (u ∷ us) vs h = cc

    second : {Z : Type 0} (us vs : List Z) → us ++ vs ≡ [] → vs ≡ []
    second [] vs h = h
    second (u ∷ us) vs h = cc

-- those of a name give nothing, so nothing changes without them
without_named : {X Y : Type 0} (f : X → List Y) (named : X → Bool) (xs : List X)
    → All (λ x. f x ≡ []) (filter named xs) → flat_map f (filter (λ x. not (named x)) xs) ≡ flat_map f xs
without_named f named [] all = refl
without_named {X = X} {Y = Y} f named (x ∷ xs) all = by (named x) all (λ h. without_named f named xs h)
  where
    by : (t : Bool) → All (λ x. f x ≡ []) (cond t (x ∷ filter named xs) (filter named xs))
        → (All (λ x. f x ≡ []) (filter named xs) → flat_map f (filter (λ x. not (named x)) xs) ≡ flat_map f xs)
        → flat_map f (cond (not t) (x ∷ filter (λ x. not (named x)) xs) (filter (λ x. not (named x)) xs))
        ≡ f x ++ flat_map f xs
    by true all ih =
        ih (All-tail (λ x. f x ≡ []) x (filter named xs) all)
        ∙ ap (λ ys. ys ++ flat_map f xs) (sym (All-head (λ x. f x ≡ []) x (filter named xs) all))
    by false all ih = ap (λ ys. f x ++ ys) (ih all)

-- nor when those of a name are moved
moved_named : {X Y : Type 0} (f : X → List Y) (named : X → Bool) (move : X → X) (xs : List X)
    → All (λ x. f x ≡ []) (filter named xs) → All (λ x. f (move x) ≡ []) (filter named xs)
    → flat_map f (map (λ x. cond (named x) (move x) x) xs) ≡ flat_map f xs
moved_named f named move [] all also = refl
moved_named {X = X} f named move (x ∷ xs) all also = by (named x) all also (λ h g. moved_named f named move xs h g)
  where
    rest : List X
    rest = map (λ x. cond (named x) (move x) x) xs

    by : (t : Bool) → All (λ x. f x ≡ []) (cond t (x ∷ filter named xs) (filter named xs))
        → All (λ x. f (move x) ≡ []) (cond t (x ∷ filter named xs) (filter named xs))
        → (All (λ x. f x ≡ []) (filter named xs) → All (λ x. f (move x) ≡ []) (filter named xs)
        → flat_map f (map (λ x. cond (named x) (move x) x) xs) ≡ flat_map f xs)
        → f (cond t (move x) x) ++ flat_map f (map (λ x. cond (named x) (move x) x) xs) ≡ f x ++ flat_map f xs
    by true all also ih =
        ap (λ ys. ys ++ flat_map f (map (λ x. cond (named x) (move x) x) xs))
        (All-head (λ x. f (move x) ≡ []) x (filter named xs) also
        ∙ sym (All-head (λ x. f x ≡ []) x (filter named xs) all))
        ∙ ap (λ ys. f x ++ ys) (ih (All-tail (λ x. f x ≡ []) x (filter named xs) all)
        (All-tail (λ x. f (move x) ≡ []) x (filter named xs) also))
    by false all also ih = ap (λ ys. f x ++ ys) (ih all also)

-- other obstacles with the same walls and corners are seen as the same scene
same_obstacles : (plan : Plan) (obstacles : List Obstacle)
    → flat_map walls_of_obstacle obstacles ≡ flat_map walls_of_obstacle plan.obstacles
    → flat_map corners_of_obstacle obstacles ≡ flat_map corners_of_obstacle plan.obstacles
    → scene_of (with_obstacles plan obstacles) ≡ scene_of plan
same_obstacles plan obstacles w c = rw (w, c) refl

-- the scene stays, kind by kind of edit
pub scene_kept : (plan : Plan) (edit : Edit) → changed_boxes plan edit ≡ changed None None
    → scene_of (plan_after_edit plan edit) ≡ scene_of plan
unfolding plan_after_edit with_item changed_boxes
scene_kept plan (Add name points) h =
    let none = no_points points (ap second_of h) in
    same_obstacles plan (plan.obstacles ++ obstacle name points ∷ [])
    (joined walls_of_obstacle plan.obstacles (obstacle name points) (no_walls (obstacle name points) none))
    (joined corners_of_obstacle plan.obstacles (obstacle name points) (no_corners (obstacle name points) none))
  where
    joined : {Y : Type 0} (f : Obstacle → List Y) (xs : List Obstacle) (x : Obstacle) → f x ≡ []
        → flat_map f (xs ++ x ∷ []) ≡ flat_map f xs
    joined f [] x e = rw e refl
    joined f (y ∷ xs) x e = ap (λ ys. f y ++ ys) (joined f xs x e)
scene_kept plan (Remove name) h =
    let none = each_empty (λ o. o.points) (filter (is_obstacle_named name) plan.obstacles)
    (no_points (points_named name plan.obstacles) (ap first_of h)) in
    same_obstacles plan (without_obstacle name plan.obstacles)
    (without_named walls_of_obstacle (is_obstacle_named name) plan.obstacles
    (All-weaker (λ o. o.points ≡ []) (λ o. walls_of_obstacle o ≡ []) no_walls
    (filter (is_obstacle_named name) plan.obstacles) none))
    (without_named corners_of_obstacle (is_obstacle_named name) plan.obstacles
    (All-weaker (λ o. o.points ≡ []) (λ o. corners_of_obstacle o ≡ []) no_corners
    (filter (is_obstacle_named name) plan.obstacles) none))
scene_kept plan (Move name dx dy) h =
    let named = filter (is_obstacle_named name) plan.obstacles in
    let none = each_empty (λ o. o.points) named (no_points (points_named name plan.obstacles) (ap first_of h)) in
    let moved = All-weaker (λ o. o.points ≡ []) (λ o. (shifted_obstacle dx dy o).points ≡ [])
    (λ o e. ap (map (shifted_point dx dy)) e) named none in
    same_obstacles plan (map (λ o. cond (is_obstacle_named name o) (shifted_obstacle dx dy o) o) plan.obstacles)
    (moved_named walls_of_obstacle (is_obstacle_named name) (shifted_obstacle dx dy) plan.obstacles
    (All-weaker (λ o. o.points ≡ []) (λ o. walls_of_obstacle o ≡ []) no_walls named none)
    (All-weaker (λ o. (shifted_obstacle dx dy o).points ≡ [])
    (λ o. walls_of_obstacle (shifted_obstacle dx dy o) ≡ []) (λ o e. no_walls (shifted_obstacle dx dy o) e) named
    moved))
    (moved_named corners_of_obstacle (is_obstacle_named name) (shifted_obstacle dx dy) plan.obstacles
    (All-weaker (λ o. o.points ≡ []) (λ o. corners_of_obstacle o ≡ []) no_corners named none)
    (All-weaker (λ o. (shifted_obstacle dx dy o).points ≡ [])
    (λ o. corners_of_obstacle (shifted_obstacle dx dy o) ≡ []) (λ o e. no_corners (shifted_obstacle dx dy o) e)
    named moved))
scene_kept plan (AddScreen name from to) h = absurd (none (ap second_of h))
  where
    none : box_of_points (from ∷ to ∷ []) ≡ None → ⊥
    none e = cc
scene_kept plan (RemoveScreen name) h =
    let none = each_empty (λ s. s.from ∷ s.to ∷ []) (filter (is_screen_named name) plan.screens)
    (no_points (ends_named name plan.screens) (ap first_of h)) in
    ap (λ ss. scene_of (with_screens plan ss)) (all_left (is_screen_named name) plan.screens none)
  where
    all_left : (named : Screen → Bool) (ss : List Screen) → All (λ s. (s.from ∷ s.to ∷ []) ≡ []) (filter named ss)
        → filter (λ s. not (named s)) ss ≡ ss
    all_left named [] all = refl
    all_left named (s ∷ ss) all = by (named s) all (λ h. all_left named ss h)
      where
        by : (t : Bool) → All (λ s. (s.from ∷ s.to ∷ []) ≡ []) (cond t (s ∷ filter named ss) (filter named ss))
            → (All (λ s. (s.from ∷ s.to ∷ []) ≡ []) (filter named ss) → filter (λ s. not (named s)) ss ≡ ss)
            → cond (not t) (s ∷ filter (λ s. not (named s)) ss) (filter (λ s. not (named s)) ss) ≡ s ∷ ss
        by true all ih = impossible (All-head (λ s. (s.from ∷ s.to ∷ []) ≡ []) s (filter named ss) all)
          where
            impossible : {A : Type 0} → (s.from ∷ s.to ∷ []) ≡ [] → A
            impossible e = cc
        by false all ih = ap (λ r. s ∷ r) (ih all)
scene_kept plan (AddRoute name from to) h = refl
scene_kept plan (RemoveRoute name) h = refl
