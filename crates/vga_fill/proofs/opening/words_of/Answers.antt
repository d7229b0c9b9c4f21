use Rattle.vga_fill.proofs.Opened.{row_added}
use Rattle.vga_fill.proofs.opening.words_of.Goals as goal

pub loop-i-preserved : goal.loop-i-preserved
loop-i-preserved c =
    row_added c.args.graph.now c.loop-i.i c.row.result.now c.row.ensures.bits c.loop-i.words.items c.extend_from_slice.new.self.items
    c.loop-i.invariant c.in_ok-extend_from_slice.ensures.items c.row.ensures.len
