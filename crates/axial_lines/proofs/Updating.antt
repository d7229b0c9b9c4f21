-- What code finds after a removal is what the law of removals speaks of.
use Rattle.std.proofs.Common.{◌≡◌, ◌∙◌, Bool, true, false, ◌||◌, not, ℕ, List, filter, map, length, refl, sym, ap, subst}
use Rattle.std.specs.Prelude.{Some, None, IfSome}
use Rattle.std.specs.List.{All, list_all, enumerate_from}
use Rattle.std.proofs.lemmas.List.Elements.{All-filter}
use Rattle.plane_spec.specs.declared.PlanBox.{PlanBox}
use Rattle.plane_spec.specs.declared.Point.{Point}
use Rattle.plane_spec.specs.Lists.{pairs, distinct_by}
use Rattle.plane_spec.specs.Boxes.{does_extent_meet_box}
use Rattle.plan_spec.specs.declared.edit.Changed.{Changed}
use Rattle.plan_spec.specs.Edits.{changed}
use Rattle.plan_spec.specs.Ranges.{IsBoxInRange, AreBoxesInRange}
use Rattle.plan_laws.proofs.Boxes.{edit_boxes_in_range}
use Rattle.sight_core.specs.Scenes.{IsOfSoundPlan}
use Rattle.sight_spec.specs.Scene.{Scene}
use Rattle.sight_spec.specs.Axial.{AxialLine, here_of, line_through, is_seen_pair, same_ends, axial_lines}
use Rattle.sight_spec.specs.Dirty.{was_corner, is_dirty_to_another, is_on_axial_line, is_dirty_line, is_dirty_corner, dirty_corners, corner_point, extent_meets_if_there}
use Rattle.list_laws.specs.Merged.{merged}
use Rattle.list_laws.proofs.Elements.{filter_map_first, filter_same_on, found_among_passing}
use Rattle.list_laws.proofs.Numbers.{OfBoth, each_pair}
use Rattle.dirty_laws.specs.Scenes.{IsEdited, IsRemoved, removal_of}
use Rattle.dirty_laws.proofs.Edited.{removed_in_box}
use Rattle.dirty_laws.proofs.Unboxed.{scene_kept}
use Rattle.extent_laws.specs.Corners.{Pair}
use Rattle.line_laws.specs.Lines.{comes_before, kept_lines, fresh_lines, is_stopped}
use Rattle.line_laws.proofs.Corners.{corners_known}
use Rattle.line_laws.proofs.Laws.{lines_after_removal}
use Rattle.axial_lines.specs.Found.{lines_with, is_wanted}
use Rattle.axial_lines.specs.Removal.{IsGap, IsKnownLine, is_dirty_by, updated}
use Rattle.axial_lines.proofs.Known.{lines_known}

-- ---- dirty corners

-- a corner is dirty by the dirty lines
dirty_by_is : (area : PlanBox) (old : Scene) (lines : List AxialLine) (new : Scene) (p : Point)
    → is_dirty_by area old (filter (is_dirty_line (removal_of area) old) lines) new p
    ≡ is_dirty_corner (removal_of area) old lines new p
unfolding is_dirty_corner
dirty_by_is area old lines new p =
    ap (λ t. not (was_corner old p) || (is_dirty_to_another (removal_of area) new p || t))
    (found_among_passing (is_on_axial_line old p) (is_dirty_line (removal_of area) old) lines)

filter_same : {X : Type 0} (s t : X → Bool) → ((x : X) → s x ≡ t x) → (xs : List X) → filter s xs ≡ filter t xs
filter_same s t h xs = filter_same_on (λ x. s x ≡ t x) s t (λ x e. e) xs (λ k d below. h _)

-- those that are found are the dirty corners
pub dirty_corners_are : (area : PlanBox) (old : Scene) (lines dirty : List AxialLine) (new : Scene)
    (ends : List (ℕ × Point)) → dirty ≡ filter (is_dirty_line (removal_of area) old) lines
    → ends ≡ enumerate_from 0 (map here_of new.corners)
    → filter (λ c. is_dirty_by area old dirty new c.1) ends ≡ dirty_corners (removal_of area) old lines new
dirty_corners_are area old lines dirty new ends d e =
    let found = filter (is_dirty_line (removal_of area) old) lines in
    ap (λ ls. filter (λ c. is_dirty_by area old ls new c.1) ends) d
    ∙ ap (filter (λ c. is_dirty_by area old found new c.1)) e
    ∙ filter_same (λ c. is_dirty_by area old found new c.1) (λ c. is_dirty_corner (removal_of area) old lines new c.1)
    (λ c. dirty_by_is area old lines new c.1) (enumerate_from 0 (map here_of new.corners))

-- ---- fresh lines

-- of numbered corners, dirty lines are those whose extent meets the box
dirty_is_wanted : (area : PlanBox) (scene : Scene) (e : Pair) → OfBoth (λ n. corner_point scene n.0 ≡ n.1) e
    → is_dirty_line (removal_of area) scene (line_through scene e) ≡ is_wanted scene (Some area) e
unfolding is_dirty_line
dirty_is_wanted area scene e h =
    let l = line_through scene e in
    or_nothing (extent_meets_if_there scene l (Some area))
    ∙ ap (λ p. does_extent_meet_box p (corner_point scene e.1.0) l.from l.to area) h.first
    ∙ ap (λ q. does_extent_meet_box e.0.1 q l.from l.to area) h.second
  where
    or_nothing : (t : Bool) → (t || false) ≡ t
    or_nothing true = refl
    or_nothing false = refl

fresh_is : (area : PlanBox) (old : Scene) (lines : List AxialLine) (new : Scene)
    → fresh_lines (removal_of area) old lines new
    ≡ distinct_by same_ends (lines_with new (Some area) (pairs (dirty_corners (removal_of area) old lines new)))
fresh_is area old lines new =
    let ends = dirty_corners (removal_of area) old lines new in
    let seen = filter (is_seen_pair new) (pairs ends) in
    let known = each_pair (λ n. corner_point new n.0 ≡ n.1) ends
    (All-filter (λ c. is_dirty_corner (removal_of area) old lines new c.1) (λ n. corner_point new n.0 ≡ n.1)
    (enumerate_from 0 (map here_of new.corners)) (corners_known new (map here_of new.corners) refl)) in
    ap (distinct_by same_ends)
    (filter_map_first (is_dirty_line (removal_of area) new) (line_through new) seen
    ∙ ap (map (line_through new))
    (filter_same_on (OfBoth (λ n. corner_point new n.0 ≡ n.1))
    (λ e. is_dirty_line (removal_of area) new (line_through new e)) (is_wanted new (Some area))
    (dirty_is_wanted area new) seen
    (All-filter (is_seen_pair new) (OfBoth (λ n. corner_point new n.0 ≡ n.1)) (pairs ends) known)))

-- ---- the lines after a removal

removed : (area : PlanBox) (before after : Scene) → IsEdited before after (removal_of area)
    → IsRemoved area before after
removed area before after e =
    record { plan = e.plan; edit = e.edit; before_is = e.before_is; after_is = e.after_is; boxes_are = sym e.boxes_are }

pub removal_updated : (area : PlanBox) (before after : Scene) (old : List AxialLine) (ends : List (ℕ × Point))
    (start count : ℕ) → IsEdited before after (removal_of area) → old ≡ axial_lines before
    → IsGap area before after start count → ends ≡ dirty_corners (removal_of area) before old after
    → list_all (is_stopped after) (filter (is_seen_pair after) (pairs ends)) ≡ true
    → updated area before after old start count ends ≡ axial_lines after
removal_updated area before after old ends start count r o g e stopped =
    let boxes = removal_of area in
    let lines = axial_lines before in
    let fresh = λ (es : List (ℕ × Point)). distinct_by same_ends (lines_with after (Some area) (pairs es)) in
    let all_stopped = λ (es : List (ℕ × Point)). list_all (is_stopped after) (filter (is_seen_pair after) (pairs es)) in
    let are_stopped : all_stopped (dirty_corners boxes before lines after) ≡ true =
    ap (λ ls. all_stopped (dirty_corners boxes before ls after)) (sym o) ∙ ap all_stopped (sym e) ∙ stopped in
    ap (λ es. merged comes_before (kept_lines boxes before old start count) (fresh es)) e
    ∙ ap (λ ls. merged comes_before (kept_lines boxes before ls start count)
    (fresh (dirty_corners boxes before ls after))) o
    ∙ ap (merged comes_before (kept_lines boxes before lines start count)) (sym (fresh_is area before lines after))
    ∙ ap (λ n. merged comes_before (kept_lines boxes before lines n count) (fresh_lines boxes before lines after))
    (sym g.start_is)
    ∙ ap (λ n. merged comes_before (kept_lines boxes before lines (length g.closes.front) n)
    (fresh_lines boxes before lines after)) (sym g.count_is)
    ∙ sym (lines_after_removal area before after (removed_in_box area before after (removed area before after r))
    g.closes are_stopped)

-- ---- edits

of_sound_plan : (before after : Scene) (boxes : Changed) → IsEdited before after boxes → IsOfSoundPlan before
of_sound_plan before after boxes e = record { plan = e.plan; sound = e.sound; seen = e.before_is }

pub old_lines_known : (before after : Scene) (boxes : Changed) (old : List AxialLine) → IsEdited before after boxes
    → old ≡ axial_lines before → All (IsKnownLine before) old
old_lines_known before after boxes old e o =
    subst (All (IsKnownLine before)) (sym o) (lines_known before (of_sound_plan before after boxes e))

pub old_box_in : (before after : Scene) (boxes : Changed) (area : PlanBox) → IsEdited before after boxes
    → boxes.first ≡ Some area → IsBoxInRange area
old_box_in before after boxes area e h =
    subst (λ o. IfSome o IsBoxInRange) h
    (subst AreBoxesInRange (sym e.boxes_are) (edit_boxes_in_range e.plan e.edit e.sound e.accepted)).first

-- an edit that has a box before it alone
pub edited_once : (before after : Scene) (boxes : Changed) (area : PlanBox) → IsEdited before after boxes
    → boxes.first ≡ Some area → boxes.second ≡ None → IsEdited before after (removal_of area)
edited_once before after boxes area e f s =
    subst (IsEdited before after) (ap (λ b. changed b boxes.second) f ∙ ap (changed (Some area)) s) e

pub lines_unchanged : (before after : Scene) (boxes : Changed) (old : List AxialLine) → IsEdited before after boxes
    → old ≡ axial_lines before → boxes.first ≡ None → boxes.second ≡ None → old ≡ axial_lines after
lines_unchanged before after boxes old e o f s =
    o ∙ ap axial_lines (e.before_is
    ∙ sym (scene_kept e.plan e.edit
    (sym e.boxes_are ∙ ap (λ b. changed b boxes.second) f ∙ ap (λ b. changed None b) s)) ∙ sym e.after_is)
