use Rattle.std.proofs.Common.{◌≡◌, take}
use Rattle.std.specs.List.{sum}
use Rattle.walk_table.proofs.visits.sum_of.Given as goal

abbrev pub invariant-visits : goal.invariant-visits
invariant-visits l = l.all ≡ sum (take l.count-index l.visits)
