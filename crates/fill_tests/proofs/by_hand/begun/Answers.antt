use Rattle.vga_fill.proofs.Edited.{same_count}
use Rattle.fill_tests.proofs.by_hand.begun.Goals as goal

pub new-requires : goal.new-requires
new-requires g c =
    same_count c.args.before.now c.args.after.now c.args.boxes c.graph_in-old.result c.requires c.graph_in-old.ensures
