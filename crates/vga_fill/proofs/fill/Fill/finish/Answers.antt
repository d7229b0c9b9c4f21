use Rattle.vga_fill.proofs.Calls.{keeps_finished}
use Rattle.vga_fill.proofs.fill.Fill.finish.Goals as goal

pub invariant_of-seat : goal.invariant_of-seat
invariant_of-seat c =
    let fill = c.args.self.now in
    let before = c.args.seat.now in
    record {
      slots = before.slots;
      rows = keeps_finished fill.table.shared.key fill.count before.seat.me.0 before.row fill.same c.requires.of.task c.requires.done before.rows;
    }
