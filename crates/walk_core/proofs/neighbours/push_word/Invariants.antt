use Rattle.walk_core.proofs.Bits.{Pushing}
use Rattle.walk_core.proofs.neighbours.push_word.Given as goal

abbrev pub invariant-bits : goal.invariant-bits
invariant-bits l = Pushing l.first l.word l.left l.fn.near.items l.near.items

abbrev pub decreases-bits : goal.decreases-bits
decreases-bits l = l.left
