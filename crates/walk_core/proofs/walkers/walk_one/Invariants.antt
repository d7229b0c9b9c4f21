use Rattle.std.proofs.Common.{◌<◌}
use Rattle.walk_core.proofs.Walking.{Walking}
use Rattle.walk_core.proofs.walkers.walk_one.Given as goal

abbrev pub invariant-steps : goal.invariant-steps
invariant-steps l =
    (l.at < l.lists.count)
    × Walking l.lists l.starts l.spec.seed l.walker l.counter l.at l.generator l.fn.visits l.visits
