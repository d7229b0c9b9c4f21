use Rattle.std.proofs.Common.{◌≡◌, length}
use Rattle.axial_lines.specs.Looks.{AreSeenFrom, more_by}
use Rattle.axial_lines.proofs.views.views_from.Given as goal

abbrev pub invariant-loop-k : goal.invariant-loop-k
invariant-loop-k l =
    (length l.views.items ≡ l.k) × AreSeenFrom l.table l.ends l.views.items × (l.steps ≡ more_by l.k l.fn.steps)
