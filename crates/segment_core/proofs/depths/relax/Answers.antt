use Rattle.std.proofs.Common.{◌≡◌, ◌≢◌, ◌<◌, ◌≤◌, ◌/◌, ◌+◌, length, get_or, subst}
use Rattle.segment_core.specs.Steps.{cost_at, step_at}
use Rattle.route_spec.specs.Routes.{turn_between}
use Rattle.segment_core.specs.Steps.{row_of}
use Rattle.segment_core.proofs.Easing.{relaxing_same, relaxing_more, row_inside, row_follows, relaxed}
use Rattle.segment_core.proofs.depths.relax.Goals.{then-other-step+in_ok-ease, else-other-step}
use Rattle.segment_core.proofs.depths.relax.Goals as goal

pub ease-requires-clause-other : goal.ease-requires-clause-other
ease-requires-clause-other c =
    rw c.after-next-items.ensures (row_inside c.args.pieces.now c.args.step c.loop-next.next-index (subst
    (λ row. c.loop-next.next-index < length row) c.after-next-items.ensures c.loop-next-test.true))

pub ease-requires-clause-follows : goal.ease-requires-clause-follows
ease-requires-clause-follows c =
    let below = subst (λ row. c.loop-next.next-index < length row) c.after-next-items.ensures c.loop-next-test.true in
    let apart = subst (λ row. get_or row c.loop-next.next-index 0 / 2 ≢ c.args.step / 2) c.after-next-items.ensures
    c.if-other-step.true in
    rw c.after-next-items.ensures (row_follows c.args.pieces.now c.args.step c.loop-next.next-index below apart)

pub loop-next-preserved : goal.loop-next-preserved
loop-next-preserved c =
    let pieces = c.args.pieces.now in
    let step = c.args.step in
    let done = c.loop-next.next-index in
    let row = row_of pieces step in
    elim c.if-other-step.branch [
      | then-other-step+in_ok-ease w ↦
          rw (w.costs-is, w.queue-is)
          (relaxing_more pieces step done row c.args.costs.now c.loop-next.costs c.args.queue.now c.loop-next.queue
          c.loop-next.invariant _ _ w.in_ok-ease.ensures.eases
          (subst (λ r. cost_at w.ease.new.costs (get_or r done 0) ≤ cost_at w.ease.new.costs step + turn_between
          (step_at pieces step) (step_at pieces (get_or r done 0))) c.after-next-items.ensures
          w.in_ok-ease.ensures.eased))
      | else-other-step w ↦
          rw (w.costs-is, w.queue-is)
          (relaxing_same pieces step done row c.args.costs.now c.loop-next.costs c.args.queue.now c.loop-next.queue
          c.loop-next.invariant
          (subst (λ r. get_or r done 0 / 2 ≡ step / 2) c.after-next-items.ensures w.if-other-step.false))
    ]

pub returns-clause-eased : goal.returns-clause-eased
returns-clause-eased c =
    relaxed c.args.pieces.now c.args.step c.args.costs.now c.loop-next.costs c.args.queue.now c.loop-next.queue
    c.loop-next.next-index
    (subst (λ row. length row ≤ c.loop-next.next-index) c.after-next-items.ensures c.loop-next-test.false)
    c.loop-next.invariant
