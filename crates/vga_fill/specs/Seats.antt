-- Seats of a fill: what contracts see of them.
use Rattle.std.specs.Prelude.{◌≡◌, ℕ, ◌+◌, ◌^◌, ⊤, Option, Some, true}
use Rattle.vga_fill.specs.declared.claim.Claim.{Claim}
use Rattle.vga_fill.specs.declared.claim.Claim.TheVariants.{Row, Done}
use Rattle.vga_fill.specs.declared.events.View.{View}
use Rattle.vga_fill.specs.declared.events.Task.{Task}
use Rattle.vga_fill.specs.declared.fill.Fill.{Fill}
use Rattle.vga_fill.specs.declared.seat.FillSeat.{FillSeat}

-- what the fill is to do
abbrev pub task_of : Fill → Task
task_of fill = fill.table.shared.key

-- how many nodes its graphs have
abbrev pub count_of : Fill → ℕ
count_of fill = fill.count

-- what the seat knows, and the row that it holds
abbrev pub view_of : FillSeat → View
view_of seat = seat.seat.me.0

abbrev pub held_by : FillSeat → Option ℕ
held_by seat = seat.row

-- the seat is one of the fill
pub record IsSeatOf (fill : Fill) (seat : FillSeat) : Type 0 where
  pub table : seat.seat.table_id ≡ fill.table.shared.table_id
  pub task : seat.seat.me.0.task ≡ Some fill.table.shared.key

-- all rows were claimed by this seat or by seats that it was joined with, and it was told so
pub record IsLast (v : View) : Type 0 where
  pub told : v.told ≡ true
  pub all : v.tellings + v.passes ≡ 2 ^ 63

-- it is so of the row that is claimed, if one is
abbrev pub IfRow : Claim → (ℕ → Type 0) → Type 0
IfRow (Row r) P = P r
IfRow Done P = ⊤

-- it is so where no row is left
abbrev pub IfDone : Claim → Type 0 → Type 0
IfDone (Row r) P = ⊤
IfDone Done P = P
