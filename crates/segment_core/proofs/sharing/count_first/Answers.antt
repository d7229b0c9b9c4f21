use Rattle.std.proofs.Common.{◌<◌, ◌≤◌, ◌*◌, ◌∙◌, ℕ, List, length, get_or, sym, ap, subst, arith}
use Rattle.segment_core.specs.Nodes.{counts_at}
use Rattle.segment_core.specs.Steps.{row_of}
use Rattle.segment_core.proofs.Easing.{row_inside}
use Rattle.segment_core.proofs.Counting.{counting_begins, counting_more, counting_ends, count_at_most, row_at_most}
use Rattle.segment_core.proofs.sharing.count_first.Goals.{then-counts_at, else-counts_at}
use Rattle.segment_core.proofs.sharing.count_first.Goals as goal

pub counts_at-requires-clause-step : goal.counts_at-requires-clause-step
counts_at-requires-clause-step c =
    rw c.after-step-items.ensures
    (row_inside c.args.pieces.now (2 * c.args.k) c.loop-step.step-index (subst (λ
    (row : List ℕ). c.loop-step.step-index < length row) c.after-step-items.ensures c.loop-step-test.true))

pub loop-step-init : goal.loop-step-init
loop-step-init c = counting_begins (counts_at c.args.nodes.now.tails.items c.args.k c.args.from)
    (row_of c.args.pieces.now (2 * c.args.k))

pub loop-step-preserved : goal.loop-step-preserved
loop-step-preserved c =
    let done = c.loop-step.step-index in
    let row = row_of c.args.pieces.now (2 * c.args.k) in
    let test = counts_at c.args.nodes.now.tails.items c.args.k c.args.from in
    let below = subst (λ (row : List ℕ). done < length row) c.after-step-items.ensures c.loop-step-test.true in
    let tested = ap (λ (row : List ℕ). test (get_or row done 0)) (sym c.after-step-items.ensures)
    ∙ sym c.counts_at.ensures in
    elim c.if-counts_at.branch [
      | then-counts_at w ↦ counting_more test row done c.loop-step.count c.if-counts_at.count _ below (tested
          ∙ w.if-counts_at.true) w.count-is c.loop-step.invariant
      | else-counts_at w ↦
          counting_more test row done c.loop-step.count c.if-counts_at.count _ below (tested
          ∙ w.if-counts_at.false) (omega (arith, w.count-is)) c.loop-step.invariant
    ]

pub overflow_add-count : goal.overflow_add-count
overflow_add-count c =
    let below = subst (λ (row : List ℕ). c.loop-step.step-index < length row) c.after-step-items.ensures
    c.loop-step-test.true in
    omega (
      arith,
      below,
      row_at_most c.args.pieces.now
          (2 * c.args.k),
      c.loop-step.invariant.at_most,
      c.requires.in_range.at_most,
    )

pub returns-clause-value : goal.returns-clause-value
returns-clause-value c =
    let all = subst (λ (row : List ℕ). length row ≤ c.loop-step.step-index) c.after-step-items.ensures
    c.loop-step-test.false in
    counting_ends (counts_at c.args.nodes.now.tails.items c.args.k c.args.from) (row_of c.args.pieces.now
    (2 * c.args.k)) c.loop-step.step-index c.loop-step.count all c.loop-step.invariant

pub returns-clause-at_most : goal.returns-clause-at_most
returns-clause-at_most c =
    omega (
      arith,
      returns-clause-value c,
      count_at_most c.args.pieces.now (2 * c.args.k)
          (counts_at c.args.nodes.now.tails.items c.args.k c.args.from) c.requires.in_range.at_most,
    )
