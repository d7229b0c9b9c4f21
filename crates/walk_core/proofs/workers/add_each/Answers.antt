use Rattle.std.proofs.Common.{◌+◌, ◌^◌, ◌<◌, get_or, arith}
use Rattle.walk_core.proofs.Parts.{adding_begins, adding_goes}
use Rattle.walk_core.proofs.workers.add_each.Goals as goal

pub loop-node-init : goal.loop-node-init
loop-node-init c = adding_begins c.args.others.now c.args.visits.now

pub overflow_add-visits : goal.overflow_add-visits
overflow_add-visits c =
    let room : get_or c.args.visits.now c.loop-node.node 0 + get_or c.args.others.now c.loop-node.node 0 < 2 ^ 64 = c.requires.room c.loop-node.node c.loop-node-test.true in
    omega (arith, room, c.loop-node.invariant.kept c.loop-node.node (omega arith))

pub loop-node-preserved : goal.loop-node-preserved
loop-node-preserved c = adding_goes c.loop-node.node c.args.others.now c.args.visits.now c.loop-node.visits c.loop-node-test.true c.loop-node.invariant

pub returns-clause-sums : goal.returns-clause-sums
returns-clause-sums c = λ node lt. c.loop-node.invariant.added node (omega (arith, lt, c.loop-node-test.false)) lt
