use Rattle.std.proofs.Common.{◌≡◌, ◌++◌, drop, map}
use Rattle.std.specs.Fmt.{signed_decimal}
use Rattle.plan_text.specs.Printing.{spaced}
use Rattle.plan_text.proofs.printing.put_numbers.Given as goal

-- the text so far, with the numbers that are left, is the text of all
abbrev pub invariant-numbers : goal.invariant-numbers
invariant-numbers l = l.text.items ++ spaced (map signed_decimal (drop l.number-index l.numbers)) ≡ l.initial.text.items ++ spaced (map signed_decimal l.numbers)
