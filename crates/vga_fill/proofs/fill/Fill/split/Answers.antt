use Rattle.std.proofs.Common.{arith}
use Rattle.vga_fill.specs.Places.{bit_of}
use Rattle.vga_fill.specs.Graphs.{was_joined, is_to_join}
use Rattle.vga_fill.proofs.Sharing.{split_keeps}
use Rattle.vga_fill.proofs.fill.Fill.split.Goals as goal

pub split_seat-other-requires : goal.split_seat-other-requires
split_seat-other-requires c =
    let fill = c.args.self.now in
    let k = fill.table.shared.key in
    let seat = c.args.seat.seat in
    (c.requires.of.table, rw fill.words (omega arith), λ s holds at. split_keeps k.count (bit_of (was_joined k) k.count) (bit_of (is_to_join k) k.count) s seat.id seat.me.0 at holds)
