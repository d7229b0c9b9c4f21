use Rattle.std.specs.Prelude.{All}
use Rattle.sight_sweep.specs.Actives.{IsOf}
use Rattle.sight_sweep.proofs.covers.covers_of.Given as goal

abbrev pub invariant-loop-k : goal.invariant-loop-k
invariant-loop-k l = All (IsOf l.table l.p) l.covers.items
