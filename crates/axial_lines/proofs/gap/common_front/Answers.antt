use Rattle.std.proofs.Common.{arith, sym}
use Rattle.axial_lines.proofs.Gaps.{alike_next}
use Rattle.axial_lines.proofs.gap.common_front.Goals as goal

pub loop-k-preserved : goal.loop-k-preserved
loop-k-preserved c = (
  alike_next c.args.some.now c.args.others.now c.loop-k.k _ _ c.loop-k-test.true c.if-k-others.true
      (sym c.if-same_point.ensures) c.loop-k.invariant.0,
  omega (arith, c.loop-k-test.true),
  omega (arith, c.if-k-others.true),
)
