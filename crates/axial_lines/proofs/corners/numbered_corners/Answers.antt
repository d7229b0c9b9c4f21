use Rattle.std.proofs.Common.{subst, sym, ◌∙◌, All}
use Rattle.axial_lines.specs.Found.{IsEndInRange}
use Rattle.axial_lines.proofs.CornerPoints.{ends_in_range, all_numbered}
use Rattle.axial_lines.proofs.corners.numbered_corners.Goals as goal

pub returns-clause-in_range : goal.returns-clause-in_range
returns-clause-in_range c =
    subst (All IsEndInRange)
    (sym (sym (all_numbered c.corners-corners.result.now c.loop-k.ends.items c.loop-k.k c.loop-k-test.false)
    ∙ c.loop-k.invariant))
    (ends_in_range 0 c.corners-corners.result.now c.corners-corners.ensures.in_range)
