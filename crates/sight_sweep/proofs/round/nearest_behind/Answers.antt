use Rattle.std.proofs.Common.{◌∙◌, sym}
use Rattle.sight_sweep.proofs.Leasts.{behind_step, least_whole}
use Rattle.sight_sweep.proofs.round.nearest_behind.Goals as goal

pub loop-k-preserved : goal.loop-k-preserved
loop-k-preserved c =
    behind_step c.args.p c.args.table.now.corners c.args.group.now c.loop-k.k c.corner_at-corner.result
    c.corner.result c.way.result c.loop-k.least c.behind-least.result c.loop-k-test.true c.corner_at-corner.ensures
    c.corner.ensures.corner c.way.ensures.way c.behind-least.ensures
    ∙ c.loop-k.invariant

pub returns : goal.returns
returns c = sym (least_whole _ _ c.loop-k.least c.args.group.now c.loop-k.k c.loop-k-test.false) ∙ c.loop-k.invariant
