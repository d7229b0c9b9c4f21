use Rattle.std.proofs.Common.{◌≡◌, ◌++◌}
use Rattle.walk_core.proofs.Bits.{first_words}
use Rattle.walk_core.proofs.neighbours.push_row.Given as goal

abbrev pub invariant-loop-k : goal.invariant-loop-k
invariant-loop-k l = l.near.items ≡ l.fn.near.items ++ first_words l.row l.k
