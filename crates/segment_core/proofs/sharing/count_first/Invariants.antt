use Rattle.std.proofs.Common.{◌*◌}
use Rattle.segment_core.specs.Nodes.{counts_at}
use Rattle.segment_core.specs.Steps.{row_of}
use Rattle.segment_core.proofs.Counting.{Counting}
use Rattle.segment_core.proofs.sharing.count_first.Given as goal

abbrev pub invariant-loop-step : goal.invariant-loop-step
invariant-loop-step l = Counting (counts_at l.nodes.tails.items l.k l.from) (row_of l.pieces
    (2 * l.k)) l.step-index l.count
