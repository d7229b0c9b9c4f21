use Rattle.std.specs.Prelude.{◌+◌, ◌*◌}
use Rattle.walk_core.proofs.workers.+fn-walk_all-join+arg2+fn-walk_all-join+arg3+walk_all.Given as goal

abbrev pub decreases-join+arg2 : goal.decreases-join+arg2
decreases-join+arg2 g l = 2 * l.more + 1

abbrev pub decreases-join+arg3 : goal.decreases-join+arg3
decreases-join+arg3 g l = 2 * l.fewer + 1

abbrev pub decreases-walk_all : goal.decreases-walk_all
decreases-walk_all g l = 2 * l.workers
