use Rattle.std.proofs.Common.{rules}
use Rattle.isovist_core.proofs.Steps.{sum_directed}
use Rattle.isovist_core.proofs.gaps.sum_of.Goals as goal

pub returns-clause-directed : goal.returns-clause-directed
returns-clause-directed c =
    let gap = c.args.gap.now in
    let left = sum_directed gap.from.step gap.to.step c.requires in
    search (rules, left)
