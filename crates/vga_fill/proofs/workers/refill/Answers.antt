use Rattle.std.proofs.Common.{ap, ◌∙◌}
use Rattle.vga_grid.specs.Rows.{graph_of}
use Rattle.vga_fill.proofs.Edited.{boxes_of_edit, same_count}
use Rattle.vga_fill.proofs.workers.refill.Goals as goal

pub new-requires : goal.new-requires
new-requires g c = same_count c.args.before.now c.args.after.now c.args.boxes c.args.old.now c.requires.edited c.requires.old_graph

pub work_all-requires-clause-job : goal.work_all-requires-clause-job
work_all-requires-clause-job g c κs within =
    boxes_of_edit c.in_ok-fill.fill.table.shared.key c.args.before.now c.args.after.now c.args.boxes
    (ap graph_of c.in_ok-fill.ensures.old_graph ∙ c.requires.old_graph) c.in_ok-fill.ensures.after_plan c.requires.edited
