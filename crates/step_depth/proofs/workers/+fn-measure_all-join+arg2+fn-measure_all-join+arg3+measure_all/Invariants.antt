use Rattle.std.specs.Prelude.{◌+◌, ◌*◌}
use Rattle.step_depth.proofs.workers.+fn-measure_all-join+arg2+fn-measure_all-join+arg3+measure_all.Given as goal

abbrev pub decreases-join+arg2 : goal.decreases-join+arg2
decreases-join+arg2 g l = 2 * l.more + 1

abbrev pub decreases-join+arg3 : goal.decreases-join+arg3
decreases-join+arg3 g l = 2 * l.fewer + 1

abbrev pub decreases-measure_all : goal.decreases-measure_all
decreases-measure_all g l = 2 * l.workers
