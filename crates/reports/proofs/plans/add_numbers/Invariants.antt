use Rattle.std.proofs.Common.{◌≡◌, ◌++◌, drop, map}
use Rattle.std.specs.Fmt.{signed_decimal}
use Rattle.reports.proofs.plans.add_numbers.Given as goal

-- the fields so far, with those of the numbers that are left, are those of all
abbrev pub invariant-numbers : goal.invariant-numbers
invariant-numbers l =
    l.row ++ map signed_decimal (drop l.number-index l.numbers) ≡ l.initial.row ++ map signed_decimal l.numbers
