use Rattle.std.proofs.Common.{◌≡◌, ◌++◌, drop, map}
use Rattle.std.specs.Fmt.{signed_decimal}
use Rattle.grammar_spec.specs.Arguments.{numbers_of_points}
use Rattle.reports.proofs.plans.add_points.Given as goal

-- the fields so far, with those of the points that are left, are those of all
abbrev pub invariant-points : goal.invariant-points
invariant-points l =
    l.row ++ map signed_decimal (numbers_of_points (drop l.point-index l.points))
    ≡ l.initial.row ++ map signed_decimal (numbers_of_points l.points)
