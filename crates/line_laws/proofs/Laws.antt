-- The laws, of two scenes of which the second is the first without what lies in a box.
use Rattle.std.proofs.Common.{◌≡◌, true, false, length}
use Rattle.plane_spec.specs.declared.PlanBox.{PlanBox}
use Rattle.sight_spec.specs.Scene.{Scene}
use Rattle.sight_spec.specs.Axial.{axial_lines, line_through}
use Rattle.sight_spec.specs.Dirty.{is_dirty_line}
use Rattle.list_laws.specs.Merged.{merged}
use Rattle.dirty_laws.specs.Scenes.{removal_of, IsWithout, ClosesUp}
use Rattle.dirty_laws.proofs.ClosingUp.{all_met_in}
use Rattle.extent_laws.specs.Corners.{Pair, IsPairOfCorners}
use Rattle.line_laws.specs.Lines.{IsSameLine, kept_lines, fresh_lines, is_stopped, are_fresh_stopped, comes_before}
use Rattle.line_laws.proofs.Without.{clean_line_kept, clean_line_came}
use Rattle.line_laws.proofs.Updated.{lines_updated}

-- an old line that misses the box stays
pub old_line_stays : (box : PlanBox) (old new : Scene) → IsWithout box old new → (e : Pair) → IsPairOfCorners old e
    → is_dirty_line (removal_of box) old (line_through old e) ≡ false → IsSameLine old new e.0.1 e.1.1
old_line_stays box old new less = clean_line_kept box old new less

-- a new line that misses the box and is stopped was an old one
pub new_line_stood : (box : PlanBox) (old new : Scene) → IsWithout box old new → (e : Pair) → IsPairOfCorners new e
    → is_stopped new e ≡ true → is_dirty_line (removal_of box) new (line_through new e) ≡ false
    → IsSameLine old new e.0.1 e.1.1
new_line_stood box old new less = clean_line_came box old new less

-- the axial lines after a removal
pub lines_after_removal : (box : PlanBox) (old new : Scene) → IsWithout box old new → (c : ClosesUp box old new)
    → are_fresh_stopped (removal_of box) old (axial_lines old) new ≡ true
    → axial_lines new ≡ merged comes_before (kept_lines (removal_of box) old (axial_lines old) (length c.front)
    (length c.gone)) (fresh_lines (removal_of box) old (axial_lines old) new)
lines_after_removal box old new less c stopped =
    lines_updated box old new less c.front c.gone c.back c.old_is c.new_is (all_met_in box c.gone c.gone_in) stopped
