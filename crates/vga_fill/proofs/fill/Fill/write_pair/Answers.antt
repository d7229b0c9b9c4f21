use Rattle.std.proofs.Common.{◌∙◌}
use Rattle.vga_fill.proofs.Closed.{is_to_join_simple}
use Rattle.vga_fill.proofs.Calls.{both_ones, both_zeros}
use Rattle.vga_fill.proofs.fill.Fill.write_pair.Goals as goal

pub returns-then-joined-clause-wrote : goal.returns-then-joined-clause-wrote
returns-then-joined-clause-wrote c = (both_ones c.args.self.now.count c.args.seat.now.seat.me.0 c.set.new.seat.seat.me.0 c.set-then-joined.new.seat.seat.me.0 c.args.i c.args.j c.set.ensures.view c.set-then-joined.ensures.view).1

pub returns-else-joined-clause-wrote : goal.returns-else-joined-clause-wrote
returns-else-joined-clause-wrote c = (both_zeros c.args.self.now.count c.args.seat.now.seat.me.0 c.clear.new.seat.seat.me.0 c.clear-else-joined.new.seat.seat.me.0 c.args.i c.args.j c.clear.ensures.view c.clear-else-joined.ensures.view).1

pub set-requires-then-joined-clause-new : goal.set-requires-then-joined-clause-new
set-requires-then-joined-clause-new c =
    (is_to_join_simple c.args.self.now.table.shared.key).1 c.args.j c.args.i ∙ (c.requires.new ∙ c.if-joined.true)

pub clear-requires-else-joined-clause-new : goal.clear-requires-else-joined-clause-new
clear-requires-else-joined-clause-new c =
    (is_to_join_simple c.args.self.now.table.shared.key).1 c.args.j c.args.i ∙ (c.requires.new ∙ c.if-joined.false)
