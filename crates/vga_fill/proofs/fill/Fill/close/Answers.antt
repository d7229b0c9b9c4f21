use Rattle.std.proofs.Common.{sym, subst, None}
use Rattle.std.specs.Mem.Slots.{slots_items}
use Rattle.std.proofs.lemmas.Result.{IfOk-weaker}
use Rattle.vga_fill.specs.DoneRows.{AreDone}
use Rattle.vga_fill.specs.Graphs.{was_joined, is_to_join}
use Rattle.vga_fill.proofs.Closed.{closed_joined}
use Rattle.vga_fill.proofs.ClosedGraphs.{read_is}
use Rattle.vga_fill.proofs.fill.Fill.close.Goals as goal

pub returns : goal.returns
returns c =
    let fill = c.args.self in
    let k = fill.table.shared.key in
    let seat = c.args.seat.seat in
    let final = c.close_with-closed.ensures.values.2 in
    let words = slots_items c.close_with-closed.result.words in
    let done = subst (λ r. AreDone (was_joined k) (is_to_join k) k.count seat.me.0 r) c.requires.free (c.args.seat.rows k c.requires.of.task).1 in
    let done_here = subst (λ n. AreDone (was_joined k) (is_to_join k) n seat.me.0 None) (sym fill.same) done in
    let told = closed_joined k fill.count seat.id seat.me.0 final.0 words fill.same fill.old_simple final.1.0 final.1.1
    c.requires.last.told c.requires.last.all done_here final.2 in
    IfOk-weaker c.graph_of_closed-graph.result _ _ (λ m. read_is k.after.value words fill.count m fill.new_count told) c.graph_of_closed-graph.ensures
