use Rattle.segment_core.specs.Steps.{row_of}
use Rattle.segment_core.proofs.Easing.{Relaxing}
use Rattle.segment_core.proofs.depths.relax.Given as goal

abbrev pub invariant-loop-next : goal.invariant-loop-next
invariant-loop-next l = Relaxing l.pieces l.step l.next-index
    (row_of l.pieces l.step) l.initial.costs l.costs l.initial.queue l.queue
