-- none before the number is open, from where the search began
use Rattle.std.proofs.Common.{◌≡◌}
use Rattle.reports.specs.Rows.{open_points_from}
use Rattle.reports.proofs.open_points.next_open.Given as goal

abbrev pub invariant-numbers : goal.invariant-numbers
invariant-numbers l = open_points_from l.fn.plan l.number ≡ open_points_from l.fn.plan l.fn.from
