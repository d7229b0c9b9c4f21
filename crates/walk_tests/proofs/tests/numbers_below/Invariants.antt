use Rattle.std.proofs.Common.{◌<◌, All}
use Rattle.walk_tests.proofs.tests.numbers_below.Given as goal

abbrev pub invariant-loop-number : goal.invariant-loop-number
invariant-loop-number l = All (λ number. number < l.n) l.below.items
