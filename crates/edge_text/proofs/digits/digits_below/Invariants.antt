use Rattle.std.proofs.Common.{◌≡◌, map}
use Rattle.std.specs.Fmt.{decimal}
use Rattle.std.specs.List.{range_with_len}
use Rattle.edge_text.proofs.digits.digits_below.Given as goal

abbrev pub invariant-loop-number : goal.invariant-loop-number
invariant-loop-number l = l.all.items ≡ map decimal (range_with_len 0 l.number)
