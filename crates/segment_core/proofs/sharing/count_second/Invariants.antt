use Rattle.std.proofs.Common.{◌*◌, ◌+◌}
use Rattle.segment_core.specs.Nodes.{counts_apart}
use Rattle.segment_core.specs.Steps.{row_of}
use Rattle.segment_core.proofs.Counting.{Counting}
use Rattle.segment_core.proofs.sharing.count_second.Given as goal

abbrev pub invariant-loop-step : goal.invariant-loop-step
invariant-loop-step l = Counting (counts_apart l.nodes.tails.items l.k l.to l.from) (row_of l.pieces
    (2 * l.k + 1)) l.step-index l.count
