use Rattle.std.proofs.Common.{arith}
use Rattle.isovist_core.proofs.Sectors.{reach_last, reach_none}
use Rattle.isovist_core.proofs.runs.reach_on.Goals as goal

pub returns-then-count-gt0 : goal.returns-then-count-gt0
returns-then-count-gt0 c =
    reach_last c.args.runs.now.items c.len-count.result c.index_mut.result.now c.args.to c.if-count-gt0.true
    (omega (arith, c.args.runs.now.ok.0, c.len-count.ensures)) c.index_mut.ensures.value

pub returns-else-count-gt0 : goal.returns-else-count-gt0
returns-else-count-gt0 c =
    reach_none c.args.runs.now.items c.len-count.result c.args.to c.if-count-gt0.false
    (omega (arith, c.args.runs.now.ok.0, c.len-count.ensures))
