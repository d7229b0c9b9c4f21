use Rattle.std.specs.Prelude.{◌≡◌, ◌-◌, None, false}
use Rattle.vga_fill.specs.Seats.{IsSeatOf, held_by, view_of}
use Rattle.vga_fill.proofs.Working.{next_row}
use Rattle.fill_tests.proofs.by_hand.finish_all.Given as goal

abbrev pub invariant-claims : goal.invariant-claims
invariant-claims g l =
    IsSeatOf l.fill l.seat × (held_by l.seat ≡ None) × ((view_of l.seat).told ≡ false)
    × ((view_of l.seat).tellings ≡ (view_of l.fn.seat).tellings) × ((view_of l.seat).passes ≡ (view_of l.fn.seat).passes)

abbrev pub decreases-claims : goal.decreases-claims
decreases-claims g l = l.fill.count - next_row (view_of l.seat).rows
