use Rattle.sight_sweep.specs.Tables.{AreRanges}
use Rattle.sight_sweep.proofs.around.ranges_of.Given as goal

abbrev pub invariant-loop-k : goal.invariant-loop-k
invariant-loop-k l = AreRanges l.ends l.corners l.k l.ranges.items
