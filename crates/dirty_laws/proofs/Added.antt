-- After an addition or a move every corner is dirty.
--
-- What an edit adds or moves has a box after it, which holds all its points. In the plan after the edit, which is
-- sound, it
-- is a polygon or a screen, so its first two points differ, and corners stand at both. A segment that ends in the box
-- meets
-- it. Each corner of the scene differs from one of the two, and so has a dirty pair with that one.
use Rattle.std.proofs.Common.{◌≡◌, ◌∙◌, Bool, true, false, cond, not, ◌&&◌, ◌||◌, ℕ, ℤ, List, [], ◌∷◌, ◌++◌, map}
use Rattle.std.proofs.Common.{filter, Some, None, refl, sym, ap, subst, arith}
use Rattle.std.specs.Prelude.{nat_le, length}
use Rattle.std.specs.List.{All, Contains, list_any, list_all, flat_map}
use Rattle.std.proofs.lemmas.Int.{ints}
use Rattle.std.proofs.lemmas.Bool.{and_parts}
use Rattle.std.proofs.lemmas.List.Elements.{All-head, All-tail, Contains-get_or}
use Rattle.std.proofs.lemmas.List.Elements.{Contains-append_left, Contains-append_right}
use Rattle.plane_spec.specs.declared.Orientation.{Orientation}
use Rattle.plane_spec.specs.declared.Point.{Point}
use Rattle.plane_spec.specs.declared.PlanBox.{PlanBox}
use Rattle.plane_spec.specs.declared.Segment.{Segment}
use Rattle.plane_spec.specs.declared.Corner.{Corner}
use Rattle.plane_spec.specs.declared.Orientation.TheVariants.{Counterclockwise}
use Rattle.plane_spec.specs.Vectors.{same_point}
use Rattle.plane_spec.specs.Boxes.{box_of_points}
use Rattle.plane_spec.specs.Polygons.{edges_to, edges_of, has_repeat, is_nothing}
use Rattle.plan_spec.specs.declared.item.Screen.{Screen}
use Rattle.plan_spec.specs.declared.edit.Changed.{Changed}
use Rattle.plan_spec.specs.declared.edit.Edit.{Edit}
use Rattle.plan_spec.specs.declared.edit.Edit.TheVariants.{Add, Remove, Move, AddScreen, RemoveScreen, AddRoute}
use Rattle.plan_spec.specs.declared.edit.Edit.TheVariants.{RemoveRoute}
use Rattle.plan_spec.specs.Plan.{Obstacle, Plan, obstacle, screen, with_item, is_obstacle_named}
use Rattle.plan_spec.specs.Accepted.{is_polygon, is_proper_segment, lies_within, segment_lies_within, is_sound}
use Rattle.sight_spec.specs.Scene.{Scene, scene_of, has_orientation, turned_corner, corners_after, last_edge, corners_along}
use Rattle.sight_spec.specs.Scene.{oriented_corners, corners_of_obstacle, ends_of_screen}
use Rattle.plan_spec.specs.Edits.{changed_boxes, plan_after_edit, points_named, shifted_point, shifted_obstacle, why_not_edit}
use Rattle.sight_spec.specs.Axial.{AxialLine, here_of}
use Rattle.sight_spec.specs.Dirty.{meets_if_there, is_dirty_pair, was_corner, is_dirty_to_another, is_dirty_corner}
use Rattle.plan_laws.proofs.Parts.{parts_of_sound, parts_of_obstacles, parts_of_screens}
use Rattle.plan_laws.proofs.Edits.Refused.{edited_is_sound}
use Rattle.list_laws.proofs.Tests.{list_any_map, list_all_middle, filter_none}
use Rattle.list_laws.proofs.Elements.{each_mapped_part, passed_by_one}
use Rattle.list_laws.proofs.Single.{with_single_changed}
use Rattle.box_laws.specs.Boxes.{IsIn}
use Rattle.box_laws.proofs.Parts.{outer_corners}
use Rattle.box_laws.proofs.Held.{held_in}
use Rattle.box_laws.proofs.Blocking.{second_meets}
use Rattle.plan_laws.proofs.Names.{obstacle_alone}
use Rattle.dirty_laws.proofs.ClosingUp.{only_one_has, places, part_in_middle, screens_last}

-- ---- two corners of the box

-- in a scene with two corners at different points of the box after an edit, each corner is dirty
each_is_dirty : (boxes : Changed) (box : PlanBox) → boxes.second ≡ Some box
    → (old new : Scene) (lines : List AxialLine) (c d : Point) → Contains (places new.corners) c
    → Contains (places new.corners) d → same_point c d ≡ false
    → IsIn box c → IsIn box d → (p : Point) → is_dirty_corner boxes old lines new p ≡ true
unfolding is_dirty_corner is_dirty_pair
each_is_dirty boxes box b old new lines c d ac ad differ ic id p = by (same_point c p) (same_point d p) refl refl
  where
    second : (a b c : Bool) → b ≡ true → (a || (b || c)) ≡ true
    second a b c h = grind arith

    meets : (q : Point) → IsIn box q → (meets_if_there p q boxes.first || meets_if_there p q boxes.second) ≡ true
    meets q i = either (meets_if_there p q boxes.first) (ap (meets_if_there p q) b ∙ second_meets p q box i)
      where
        either : (s : Bool) {t : Bool} → t ≡ true → (s || t) ≡ true
        either true h = refl
        either false h = h

    other : (q : Point) → Contains (places new.corners) q → IsIn box q → same_point q p ≡ false
        → is_dirty_to_another boxes new p ≡ true
    other q a i f =
        sym (list_any_map (λ x. not (same_point x p) && is_dirty_pair boxes p x) here_of new.corners)
        ∙ passed_by_one (λ x. not (same_point x p) && is_dirty_pair boxes p x) (places new.corners) q a
        (rw f (meets q i))

    clash : same_point c p ≡ true → same_point d p ≡ true → ⊥
    clash f g = two (same_point c d) differ (through c.x c.y d.x d.y p.x p.y f g)
      where
        two : (t : Bool) → t ≡ false → t ≡ true → ⊥
        two true h k = cc
        two false h k = cc

        through : (ax ay bx by px py : ℤ)
            → same_point (record { x = ax; y = ay }) (record { x = px; y = py }) ≡ true
            → same_point (record { x = bx; y = by }) (record { x = px; y = py }) ≡ true
            → same_point (record { x = ax; y = ay }) (record { x = bx; y = by }) ≡ true
        through ax ay bx by px py f g = grind (arith, ints)

    by : (s t : Bool) → same_point c p ≡ s → same_point d p ≡ t → is_dirty_corner boxes old lines new p ≡ true
    by false t f g = second (not (was_corner old p)) (is_dirty_to_another boxes new p) _ (other c ac ic f)
    by true false f g = second (not (was_corner old p)) (is_dirty_to_another boxes new p) _ (other d ad id g)
    by true true f g = absurd (clash f g)

-- the first two points differ
record HasTwo (points : List Point) : Type 0 where
  one : Point
  other : Point
  rest : List Point
  is : points ≡ one ∷ other ∷ rest
  differ : same_point one other ≡ false

-- corners of a part that stand at points of the box, the first two of which differ, make each corner dirty
part_is_dirty : (boxes : Changed) (box : PlanBox) → boxes.second ≡ Some box
    → (old new : Scene) (lines : List AxialLine) (front part back : List Point)
    → places new.corners ≡ front ++ (part ++ back) → HasTwo part → All (IsIn box) part
    → (p : Point) → is_dirty_corner boxes old lines new p ≡ true
part_is_dirty boxes box b old new lines front part back e two all =
    let in_part = subst (All (IsIn box)) two.is all in
    each_is_dirty boxes box b old new lines two.one two.other (among two.one first) (among two.other second)
    two.differ
    (All-head (IsIn box) two.one (two.other ∷ two.rest) in_part)
    (All-head (IsIn box) two.other two.rest (All-tail (IsIn box) two.one (two.other ∷ two.rest) in_part))
  where
    first : Contains part two.one
    first =
        subst (λ ps. Contains ps two.one) (sym two.is)
        (Contains-get_or (two.one ∷ two.other ∷ two.rest) 0 two.one (omega arith))

    second : Contains part two.other
    second =
        subst (λ ps. Contains ps two.other) (sym two.is)
        (Contains-get_or (two.one ∷ two.other ∷ two.rest) 1 two.one (omega arith))

    among : (q : Point) → Contains part q → Contains (places new.corners) q
    among q i =
        subst (λ ps. Contains ps q) (sym e)
        (Contains-append_right front (part ++ back) q (Contains-append_left part back q i))

-- ---- corners stand at the points of a polygon

-- where an edge begins
abbrev start_of : Segment → Point
start_of e = e.a

-- corners along edges stand where the edges begin
stand_at_starts : (before : Segment) (edges : List Segment) → places (corners_after before edges) ≡ map start_of edges
stand_at_starts before [] = refl
stand_at_starts before (e ∷ edges) = ap (λ r. e.a ∷ r) (stand_at_starts e edges)

-- edges round points begin at them
starts_are : (first : Point) (points : List Point) → map start_of (edges_to first points) ≡ points
unfolding edges_to
starts_are first [] = refl
starts_are first (p ∷ []) = refl
starts_are first (p ∷ q ∷ points) = ap (λ r. p ∷ r) (starts_are first (q ∷ points))

-- a turned corner stands where it stood
turned_places : (corners : List Corner) → places (map turned_corner corners) ≡ places corners
turned_places [] = refl
turned_places (c ∷ corners) = ap (λ r. c.here ∷ r) (turned_places corners)

-- the corners along the edges round points stand at them, in order
places_along : (points : List Point) → places (corners_along (edges_of points)) ≡ points
unfolding edges_to
places_along [] = refl
places_along (p ∷ []) = refl
places_along (p ∷ q ∷ points) =
    stand_at_starts (last_edge (record { a = p; b = q }) (edges_to p (q ∷ points)))
    (record { a = p; b = q } ∷ edges_to p (q ∷ points))
    ∙ starts_are p (p ∷ q ∷ points)

-- the corners of an obstacle stand at its points, whichever way round these go
places_of_obstacle : (o : Obstacle) → places (corners_of_obstacle o) ≡ o.points
unfolding oriented_corners
places_of_obstacle o = by (has_orientation Counterclockwise o.points)
  where
    by : (t : Bool)
        → places (cond t (corners_along (edges_of o.points)) (map turned_corner (corners_along (edges_of o.points))))
        ≡ o.points
    by true = places_along o.points
    by false = turned_places (corners_along (edges_of o.points)) ∙ places_along o.points

-- ---- the first two points of what is added differ

-- no edge of a polygon is nothing
no_repeat : (points : List Point) → is_polygon points ≡ true → has_repeat points ≡ false
no_repeat points h = by (has_repeat points) refl
  where
    by : (t : Bool) → has_repeat points ≡ t → t ≡ false
    by false e = refl
    by true e = grind arith

-- a polygon has at least three points
three_points : (points : List Point) → is_polygon points ≡ true → nat_le 3 (length points) ≡ true
three_points points h = by (nat_le 3 (length points)) refl
  where
    by : (t : Bool) → nat_le 3 (length points) ≡ t → t ≡ true
    by true e = refl
    by false e = grind arith

-- so fewer are no polygon
too_few : {P : Type 0} → false ≡ true → P
too_few e = cc

-- the first two points of a polygon differ
two_of_polygon : (points : List Point) → is_polygon points ≡ true → HasTwo points
unfolding edges_to
two_of_polygon [] h = too_few (three_points [] h)
two_of_polygon (p ∷ []) h = too_few (three_points (p ∷ []) h)
two_of_polygon (p ∷ q ∷ points) h = record {
  one = p;
  other = q;
  rest = points;
  is = refl;
  differ =
      first_fails (same_point p q) (list_any is_nothing (edges_to p (q ∷ points))) (no_repeat (p ∷ q ∷ points) h);
}
  where
    first_fails : (a b : Bool) → (a || b) ≡ false → a ≡ false
    first_fails true b h = cc
    first_fails false b h = refl

-- the ends of a screen of a sound plan differ
two_of_line : (from to : Point) → is_proper_segment from to ≡ true → HasTwo (from ∷ to ∷ [])
two_of_line from to h = record { one = from; other = to; rest = []; is = refl; differ = by (same_point from to) refl }
  where
    by : (t : Bool) → same_point from to ≡ t → t ≡ false
    by false e = refl
    by true e = grind arith

-- ---- what is added or moved

-- an obstacle of a sound plan, all of it in the box after the edit
obstacle_is_dirty : (boxes : Changed) (box : PlanBox) → boxes.second ≡ Some box
    → (old : Scene) (lines : List AxialLine) (new : Plan) → is_sound new ≡ true
    → (before : List Obstacle) (o : Obstacle) (after : List Obstacle)
    → new.obstacles ≡ before ++ o ∷ after → All (IsIn box) o.points
    → (p : Point) → is_dirty_corner boxes old lines (scene_of new) p ≡ true
obstacle_is_dirty boxes box b old lines new sound before o after e all =
    let outer = outer_corners new.outer in
    let ends = flat_map ends_of_screen new.screens in
    part_is_dirty boxes box b old (scene_of new) lines (places (outer ++ flat_map corners_of_obstacle before))
    o.points
    (places (flat_map corners_of_obstacle after ++ ends))
    (ap (λ os. places (outer ++ (flat_map corners_of_obstacle os ++ ends))) e
    ∙ part_in_middle corners_of_obstacle outer ends before o after
    ∙ ap (λ r. places (outer ++ flat_map corners_of_obstacle before)
    ++ (r ++ places (flat_map corners_of_obstacle after ++ ends))) (places_of_obstacle o))
    (two_of_polygon o.points polygon) all
  where
    sound_by_itself : Obstacle → Bool
    sound_by_itself x = is_polygon x.points && lies_within new.outer x.points

    polygon : is_polygon o.points ≡ true
    polygon =
        (and_parts (is_polygon o.points) (lies_within new.outer o.points)
        (and_parts (sound_by_itself o) (list_all sound_by_itself (before ++ after))
        (sym (list_all_middle sound_by_itself before o after)
        ∙ ap (list_all sound_by_itself) (sym e)
        ∙ (parts_of_obstacles new (parts_of_sound new sound).obstacles).polygons)).0).0

-- a screen of a sound plan, both ends in the box after the edit
screen_is_dirty : (boxes : Changed) (box : PlanBox) → boxes.second ≡ Some box → (old : Scene) (lines : List AxialLine)
    (new : Plan) → is_sound new ≡ true → (before : List Screen) (s : Screen) → new.screens ≡ before ++ s ∷ []
    → All (IsIn box) (s.from ∷ s.to ∷ []) → (p : Point) → is_dirty_corner boxes old lines (scene_of new) p ≡ true
screen_is_dirty boxes box b old lines new sound before s e all =
    let outer = outer_corners new.outer in
    let others = flat_map corners_of_obstacle new.obstacles in
    part_is_dirty boxes box b old (scene_of new) lines (places ((outer ++ others) ++ flat_map ends_of_screen before))
    (s.from ∷ s.to ∷ []) []
    (screens_last outer others new.screens
    ∙ ap (λ ss. places ((outer ++ others) ++ (flat_map ends_of_screen ss ++ []))) e
    ∙ part_in_middle ends_of_screen (outer ++ others) [] before s [])
    (two_of_line s.from s.to line) all
  where
    sound_by_itself : Screen → Bool
    sound_by_itself x = is_proper_segment x.from x.to && segment_lies_within new.outer x.from x.to

    line : is_proper_segment s.from s.to ≡ true
    line =
        (and_parts (is_proper_segment s.from s.to) (segment_lies_within new.outer s.from s.to)
        (and_parts (sound_by_itself s) (list_all sound_by_itself (before ++ []))
        (sym (list_all_middle sound_by_itself before s [])
        ∙ ap (list_all sound_by_itself) (sym e)
        ∙ (parts_of_screens new (parts_of_sound new sound).screens).lines)).0).0

-- what is moved has its points moved, where it is the only one of its name
moved_is_dirty : (plan : Plan) (name : List ℕ) (dx dy : ℤ) (box : PlanBox) → is_sound plan ≡ true
    → is_sound (plan_after_edit plan (Move name dx dy)) ≡ true → (boxes : Changed) → boxes.second ≡ Some box
    → box_of_points (map (shifted_point dx dy) (points_named name plan.obstacles)) ≡ Some box
    → (old : Scene) (lines : List AxialLine) (p : Point)
    → is_dirty_corner boxes old lines (scene_of (plan_after_edit plan (Move name dx dy))) p ≡ true
unfolding plan_after_edit
moved_is_dirty plan name dx dy box sound sound_after boxes b e old lines =
    by (list_any (is_obstacle_named name) plan.obstacles) refl
  where
    after : Plan
    after = plan_after_edit plan (Move name dx dy)

    nothing : {P : Type 0} → None ≡ Some box → P
    nothing e = cc

    by : (t : Bool) → list_any (is_obstacle_named name) plan.obstacles ≡ t → (p : Point)
        → is_dirty_corner boxes old lines (scene_of after) p ≡ true
    by true there =
        let s = obstacle_alone plan name sound there in
        obstacle_is_dirty boxes box b old lines after sound_after s.before (shifted_obstacle dx dy s.it) s.after
        (with_single_changed (is_obstacle_named name) (shifted_obstacle dx dy) plan.obstacles s)
        (only_one_has (λ o. All (IsIn box) (map (shifted_point dx dy) o.points)) (is_obstacle_named name)
        plan.obstacles s
        (each_mapped_part (IsIn box) (shifted_point dx dy) (λ o. o.points)
        (filter (is_obstacle_named name) plan.obstacles)
        (held_in (map (shifted_point dx dy) (points_named name plan.obstacles)) box e)))
    by false there =
        λ p. nothing
        (sym (ap (λ os. box_of_points (map (shifted_point dx dy) (flat_map (λ o. o.points) os)))
        (filter_none (is_obstacle_named name) plan.obstacles there)) ∙ e)

-- where an edit that nothing refuses has a box after it, each corner of the new scene is dirty, kind by kind of edit
pub dirty_after_addition : (plan : Plan) (edit : Edit) (box : PlanBox) → is_sound plan ≡ true
    → why_not_edit plan edit ≡ None → (boxes : Changed) → boxes.second ≡ Some box
    → (changed_boxes plan edit).second ≡ Some box → (old : Scene) (lines : List AxialLine) (p : Point)
    → is_dirty_corner boxes old lines (scene_of (plan_after_edit plan edit)) p ≡ true
unfolding changed_boxes plan_after_edit with_item
dirty_after_addition plan (Add name points) box sound accepted boxes b e old lines =
    obstacle_is_dirty boxes box b old lines (plan_after_edit plan (Add name points))
    (edited_is_sound plan (Add name points) sound accepted) plan.obstacles (obstacle name points) [] refl
    (held_in points box e)
dirty_after_addition plan (Remove name) box sound accepted boxes b e old lines = λ p. cc
dirty_after_addition plan (Move name dx dy) box sound accepted boxes b e old lines =
    moved_is_dirty plan name dx dy box sound (edited_is_sound plan (Move name dx dy) sound accepted) boxes b e old
    lines
dirty_after_addition plan (AddScreen name from to) box sound accepted boxes b e old lines =
    screen_is_dirty boxes box b old lines (plan_after_edit plan (AddScreen name from to))
    (edited_is_sound plan (AddScreen name from to) sound accepted) plan.screens (screen name from to) refl
    (held_in (from ∷ to ∷ []) box e)
dirty_after_addition plan (RemoveScreen name) box sound accepted boxes b e old lines = λ p. cc
dirty_after_addition plan (AddRoute name from to) box sound accepted boxes b e old lines = λ p. cc
dirty_after_addition plan (RemoveRoute name) box sound accepted boxes b e old lines = λ p. cc
