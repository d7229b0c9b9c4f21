use Rattle.std.specs.Prelude.{ℕ, ◌<◌, ◌≤◌}
use Rattle.std.proofs.Common.{get_or}
use Rattle.sight_sweep.specs.Arcs.{IsLater}
use Rattle.turn_laws.specs.Places.{place_of}
use Rattle.vga_looks.specs.Tables.{way_between}
use Rattle.vga_looks.proofs.Turning.{IsBetween}
use Rattle.vga_looks.proofs.arcs.arc_to.Given as goal

abbrev pub invariant-loop-k : goal.invariant-loop-k
invariant-loop-k l =
    IsLater l.first × IsLater l.last × (place_of l.first ≤ place_of l.last)
    × ((m : ℕ) → m < l.k → IsBetween l.first l.last (way_between l.plan l.i (get_or l.numbers m 0)))
