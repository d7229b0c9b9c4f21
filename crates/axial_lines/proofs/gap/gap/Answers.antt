use Rattle.std.proofs.Common.{◌≡◌, ◌≤◌, ◌-◌, List, ℕ, length, map}
use Rattle.plane_spec.specs.declared.Corner.{Corner}
use Rattle.sight_spec.specs.Axial.{here_of}
use Rattle.plane_spec.specs.declared.PlanBox.{PlanBox}
use Rattle.dirty_laws.specs.Scenes.{IsEdited, removal_of}
use Rattle.dirty_laws.proofs.Edited.{corners_close_up}
use Rattle.axial_lines.specs.Removal.{AreAlikeBefore, DifferAt, IsGap}
use Rattle.axial_lines.proofs.Gaps.{gap_is}
use Rattle.axial_lines.proofs.gap.gap.Goals as goal

pub returns : goal.returns
returns c = λ area e.
    by area e c.corners-was.result.now c.corners-is.result.now c.saturating_sub.result c.corners-was.ensures.corners
    c.corners-is.ensures.corners c.saturating_sub.ensures c.common_front-start.ensures.alike
    c.common_front-start.ensures.at_most c.common_front-start.ensures.differ
  where
    by : (area : PlanBox) → IsEdited c.args.before.now c.args.after.now (removal_of area)
        → (was is : List Corner) (count : ℕ) → was ≡ c.args.before.now.corners → is ≡ c.args.after.now.corners
        → count ≡ length was - length is
        → AreAlikeBefore c.common_front-start.result (map here_of was) (map here_of is)
        → c.common_front-start.result ≤ length is
        → DifferAt c.common_front-start.result (map here_of was) (map here_of is)
        → IsGap area c.args.before.now c.args.after.now c.common_front-start.result count
    by area edited was is count e f g alike fits differ =
        rw (g, e, f) (gap_is area c.args.before.now c.args.after.now c.common_front-start.result
        (corners_close_up area c.args.before.now c.args.after.now edited)
        (rw (e, f) at alike) (rw f at fits) (rw (e, f) at differ))
