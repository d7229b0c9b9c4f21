-- The laws, of the scenes before and after an edit, from the lemmas on plans and edits.
use Rattle.std.proofs.Common.{◌≡◌, ◌∙◌, true, List, Some, sym, ap}
use Rattle.plane_spec.specs.declared.Point.{Point}
use Rattle.plane_spec.specs.declared.PlanBox.{PlanBox}
use Rattle.plan_spec.specs.declared.edit.Changed.{Changed}
use Rattle.sight_spec.specs.Scene.{Scene}
use Rattle.sight_spec.specs.Axial.{AxialLine}
use Rattle.sight_spec.specs.Dirty.{is_dirty_corner}
use Rattle.dirty_laws.specs.Scenes.{removal_of, IsEdited, IsRemoved, IsWithout, ClosesUp}
use Rattle.dirty_laws.proofs.Removal.{removal_is_without}
use Rattle.dirty_laws.proofs.ClosingUp.{removal_closes_up}
use Rattle.dirty_laws.proofs.Added.{dirty_after_addition}

-- a removal takes away only what lies in its box
pub removed_in_box : (box : PlanBox) (before after : Scene) → IsRemoved box before after → IsWithout box before after
removed_in_box box before after r =
    rw (r.before_is, r.after_is) (removal_is_without r.plan r.edit box r.boxes_are)

-- the corners that it takes out of a sound plan stand together
pub corners_close_up : (box : PlanBox) (before after : Scene) → IsEdited before after (removal_of box)
    → ClosesUp box before after
corners_close_up box before after e =
    rw (e.before_is, e.after_is) (removal_closes_up e.plan e.edit box e.sound (sym e.boxes_are))

-- every corner is dirty after an addition or a move
pub all_dirty_after_addition : (box : PlanBox) (before after : Scene) (boxes : Changed) → IsEdited before after boxes
    → boxes.second ≡ Some box → (lines : List AxialLine) (p : Point)
    → is_dirty_corner boxes before lines after p ≡ true
all_dirty_after_addition box before after boxes e b lines p =
    ap (λ scene. is_dirty_corner boxes before lines scene p) e.after_is
    ∙ dirty_after_addition e.plan e.edit box e.sound e.accepted boxes b
    (ap (λ c. c.second) (sym e.boxes_are) ∙ b) before
    lines p
