use Rattle.std.specs.Prelude.{ℕ, Bool, Option, ◌≤◌}
use Rattle.view_laws.specs.declared.view.Arc.{Arc}
use Rattle.view_laws.specs.declared.view.Front.{Front}
use Rattle.sight_sweep.specs.Arcs.{IsArc, start_place}
use Rattle.sight_sweep.specs.Events.{AreEvents}
use Rattle.sight_sweep.specs.LeftOut.{is_set, AreLeftOut}
use Rattle.sight_sweep.specs.Rounds.{IsUnderway}
use Rattle.sight_sweep.specs.Rounds.{IsGoing}
use Rattle.sight_sweep.proofs.round.go_round.Given as goal

abbrev pub invariant-loop-k : goal.invariant-loop-k
invariant-loop-k l = (l.from ≤ l.k)
    × ((arc : Arc) (shown : ℕ → Bool) (before : Option Front) → IsArc arc
    → AreLeftOut l.table l.p arc (is_set l.kept) shown → AreEvents l.table.corners l.p arc shown l.events
    → IsUnderway l.table l.p arc (is_set l.kept) (start_place arc) before l.fn.sectors.items (start_place arc)
    l.fn.active.items
    → IsGoing l.table l.p arc (is_set l.kept) before l.sectors.items l.events l.from l.k l.active.items)
