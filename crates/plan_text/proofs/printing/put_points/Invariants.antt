use Rattle.std.proofs.Common.{◌≡◌, ◌++◌, drop, map}
use Rattle.std.specs.Fmt.{signed_decimal}
use Rattle.grammar_spec.specs.Arguments.{numbers_of_points}
use Rattle.plan_text.specs.Printing.{spaced}
use Rattle.plan_text.proofs.printing.put_points.Given as goal

-- the text so far, with the points that are left, is the text of all
abbrev pub invariant-points : goal.invariant-points
invariant-points l = l.text.items ++ spaced (map signed_decimal (numbers_of_points (drop l.point-index l.points))) ≡ l.initial.text.items ++ spaced (map signed_decimal (numbers_of_points l.points))
