use Rattle.vga_fill.proofs.Edited.{boxes_of_edit}
use Rattle.vga_fill.proofs.rows.fill_row.Goals as goal

pub mend_row-requires-clause-boxes : goal.mend_row-requires-clause-boxes
mend_row-requires-clause-boxes c =
    boxes_of_edit c.args.fill.now.table.shared.key c.args.before.now c.args.after.now c.args.boxes c.requires.old_graph c.requires.after_plan c.requires.edited
