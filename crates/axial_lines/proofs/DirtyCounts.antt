-- How many corners are dirty after an edit, by its boxes.
use Rattle.std.proofs.Common.{◌≡◌, ◌∙◌, Bool, true, false, ◌&&◌, not, ℤ, List, [], ◌∷◌, filter, map, length, get_or, arith, refl, sym, ap}
use Rattle.std.specs.Prelude.{Some, None}
use Rattle.std.specs.List.{Contains, list_any, enumerate_from}
use Rattle.std.proofs.lemmas.Int.{ints}
use Rattle.std.proofs.lemmas.List.{length-map}
use Rattle.std.proofs.lemmas.List.Elements.{Contains-get_or}
use Rattle.std.proofs.lemmas.List.Folds.{list_any_none}
use Rattle.std.proofs.lemmas.List.FromFn.{length-enumerate_from}
use Rattle.plane_spec.specs.declared.Point.{Point}
use Rattle.plane_spec.specs.declared.PlanBox.{PlanBox}
use Rattle.plane_spec.specs.Vectors.{point, same_point}
use Rattle.plan_spec.specs.declared.edit.Changed.{Changed}
use Rattle.plan_spec.specs.Edits.{changed}
use Rattle.sight_spec.specs.Scene.{Scene}
use Rattle.sight_spec.specs.Axial.{AxialLine, here_of}
use Rattle.sight_spec.specs.Dirty.{was_corner, is_dirty_pair, is_dirty_to_another, is_dirty_line, is_on_axial_line, is_dirty_corner, dirty_corner_count}
use Rattle.list_laws.proofs.Elements.{passed_by_one}
use Rattle.list_laws.proofs.Numbers.{numbered_hold}
use Rattle.list_laws.proofs.Tests.{filter_none, list_any_map}
use Rattle.dirty_laws.specs.Scenes.{IsEdited, removal_of}
use Rattle.dirty_laws.proofs.Edited.{all_dirty_after_addition}
use Rattle.dirty_laws.proofs.Unboxed.{scene_kept}

-- ---- after an addition or a move

all_pass : {X : Type 0} (test : X → Bool) → ((x : X) → test x ≡ true) → (xs : List X) → filter test xs ≡ xs
all_pass test h [] = refl
all_pass test h (x ∷ xs) = rw (h x) (ap (λ r. x ∷ r) (all_pass test h xs))

-- all corners are
pub all_are_dirty : (before after : Scene) (boxes : Changed) (area : PlanBox) (lines : List AxialLine)
    → IsEdited before after boxes → boxes.second ≡ Some area
    → dirty_corner_count boxes before lines after ≡ length after.corners
all_are_dirty before after boxes area lines e s =
    let points = map here_of after.corners in
    ap length (all_pass (λ c. is_dirty_corner boxes before lines after c.1)
    (λ c. all_dirty_after_addition area before after boxes e s lines c.1) (enumerate_from 0 points))
    ∙ length-enumerate_from 0 points ∙ length-map after.corners here_of

-- ---- after a removal

-- as many as by its box
pub by_box : (before after : Scene) (boxes : Changed) (area : PlanBox) (lines : List AxialLine)
    → boxes.first ≡ Some area → boxes.second ≡ None
    → dirty_corner_count (removal_of area) before lines after ≡ dirty_corner_count boxes before lines after
by_box before after boxes area lines f s =
    sym (ap (λ b. dirty_corner_count b before lines after)
    (ap (λ b. changed b boxes.second) f ∙ ap (changed (Some area)) s))

-- ---- after an edit without boxes

module _ (scene : Scene) (lines : List AxialLine) where
  -- where corners stand
  abbrev places : List Point
  places = map here_of scene.corners

  itself : (p : Point) → same_point p p ≡ true
  itself p = by p.x p.y
    where
      by : (x y : ℤ) → same_point (point x y) (point x y) ≡ true
      by x y = grind (arith, ints)

  stood : (p : Point) → Contains places p → was_corner scene p ≡ true
  stood p among =
      sym (list_any_map (λ x. same_point x p) here_of scene.corners)
      ∙ passed_by_one (λ x. same_point x p) places p among (itself p)

  no_pair : (p q : Point) (t : Bool) → (t && is_dirty_pair (changed None None) p q) ≡ false
  unfolding is_dirty_pair
  no_pair p q true = refl
  no_pair p q false = refl

  to_none : (p : Point) → is_dirty_to_another (changed None None) scene p ≡ false
  to_none p =
      list_any_none (λ c. not (same_point c.here p) && is_dirty_pair (changed None None) p c.here) scene.corners
      (λ k d h. no_pair p _ _)

  on_none : (p : Point)
      → list_any (λ l. is_dirty_line (changed None None) scene l && is_on_axial_line scene p l) lines ≡ false
  unfolding is_dirty_line
  on_none p =
      list_any_none (λ l. is_dirty_line (changed None None) scene l && is_on_axial_line scene p l) lines
      (λ k d h. refl)

  clean : (p : Point) → Contains places p → is_dirty_corner (changed None None) scene lines scene p ≡ false
  unfolding is_dirty_corner
  clean p among = rw (stood p among, to_none p, on_none p) refl

  no_corner : dirty_corner_count (changed None None) scene lines scene ≡ 0
  no_corner =
      ap length (filter_none (λ c. is_dirty_corner (changed None None) scene lines scene c.1) (enumerate_from 0 places)
      (list_any_none (λ c. is_dirty_corner (changed None None) scene lines scene c.1) (enumerate_from 0 places)
      (numbered_hold (λ p. is_dirty_corner (changed None None) scene lines scene p ≡ false) 0 places
      (λ k d h. clean (get_or places k d) (Contains-get_or places k d h)))))

-- none is
pub none_is_dirty : (before after : Scene) (boxes : Changed) (lines : List AxialLine) → IsEdited before after boxes
    → boxes.first ≡ None → boxes.second ≡ None → dirty_corner_count boxes before lines after ≡ 0
none_is_dirty before after boxes lines e f s =
    let none : boxes ≡ changed None None = ap (λ b. changed b boxes.second) f ∙ ap (changed None) s in
    let kept : after ≡ before =
    e.after_is ∙ scene_kept e.plan e.edit (sym e.boxes_are ∙ none) ∙ sym e.before_is in
    ap (λ b. dirty_corner_count b before lines after) none
    ∙ ap (λ scene. dirty_corner_count (changed None None) before lines scene) kept ∙ no_corner before lines
