use Rattle.sight_sweep.specs.Tables.{HasEnds}
use Rattle.sight_sweep.proofs.around.line_ends.Given as goal

abbrev pub invariant-loop-k : goal.invariant-loop-k
invariant-loop-k l = HasEnds l.lines l.k l.ends.items
