use Rattle.std.specs.Prelude.{◌≡◌, Some}
use Rattle.vga_fill.specs.Seats.{IsSeatOf, count_of, held_by, view_of}
use Rattle.vga_fill.specs.Views.{GoesOn}
use Rattle.vga_fill.proofs.WrittenRows.{AreListedWritten}
use Rattle.vga_fill.proofs.rows.write_dirty.Given as goal

abbrev pub invariant-loop-k : goal.invariant-loop-k
invariant-loop-k l =
    IsSeatOf l.fill l.seat × (held_by l.seat ≡ Some l.row) × GoesOn (view_of l.fn.seat) (view_of l.seat)
    × AreListedWritten (count_of l.fill) (view_of l.seat) l.row l.numbers l.k
