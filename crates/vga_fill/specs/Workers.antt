-- Seats of workers.
use Rattle.std.specs.Prelude.{◌≡◌, ℕ, ◌+◌, ◌≤◌, None, true, false}
use Rattle.vga_fill.specs.declared.fill.Fill.{Fill}
use Rattle.vga_fill.specs.declared.seat.FillSeat.{FillSeat}
use Rattle.vga_fill.specs.Seats.{IsSeatOf, held_by, view_of}

-- the seat can be split for so many workers, of whom each may be told once that no row is left
pub record MayFill (fill : Fill) (workers : ℕ) (seat : FillSeat) : Type 0 where
  pub of : IsSeatOf fill seat
  pub free : held_by seat ≡ None
  pub not_told : (view_of seat).told ≡ false
  pub passes : workers ≤ (view_of seat).passes

-- the workers of the first seat have claimed and finished rows until none was left: they hold none, and have used none
-- but their own passes
pub record HasFilled (fill : Fill) (first : FillSeat) (seat : FillSeat) : Type 0 where
  pub of : IsSeatOf fill seat
  pub free : held_by seat ≡ None
  pub told : (view_of seat).told ≡ true
  pub sum : (view_of seat).tellings + (view_of seat).passes ≡ (view_of first).tellings + (view_of first).passes
