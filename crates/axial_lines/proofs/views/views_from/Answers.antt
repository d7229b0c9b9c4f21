use Rattle.std.proofs.Common.{◌∙◌, ◌+◌, length, arith, ap, sym, subst}
use Rattle.axial_lines.specs.Looks.{AreSeenFrom}
use Rattle.axial_lines.proofs.Looking.{next_counted, some_counted, one_longer, one_view_more}
use Rattle.axial_lines.proofs.views.views_from.Goals as goal

pub returns-in_err-view-clause-at_most : goal.returns-in_err-view-clause-at_most
returns-in_err-view-clause-at_most c =
    some_counted (c.loop-k.k + 1) (length c.args.ends.now) c.args.steps.now c.look.new.steps
    (omega (arith, c.loop-k-test.true))
    (c.look.ensures.counted ∙ next_counted c.loop-k.k c.args.steps.now c.loop-k.steps c.loop-k.invariant.2)

pub returns-in_err-push_view-clause-at_most : goal.returns-in_err-push_view-clause-at_most
returns-in_err-push_view-clause-at_most c =
    some_counted (c.loop-k.k + 1) (length c.args.ends.now) c.args.steps.now c.look.new.steps
    (omega (arith, c.loop-k-test.true))
    (c.look.ensures.counted ∙ next_counted c.loop-k.k c.args.steps.now c.loop-k.steps c.loop-k.invariant.2)

pub loop-k-preserved : goal.loop-k-preserved
loop-k-preserved c =
    let views = c.loop-k.views.items in
    let view = c.in_ok-view.view in
    let pushed = c.in_ok-push_view.ensures in
    let before = c.loop-k.invariant in (
      ap length pushed ∙ one_longer views view c.loop-k.k before.0,
      subst (AreSeenFrom c.args.table.now c.args.ends.now) (sym pushed)
          (one_view_more c.args.table.now c.args.ends.now views view c.loop-k.k before.0 before.1
          (record { is_view = c.in_ok-view.ensures.view; ground = c.in_ok-view.ensures.under })),
      c.look.ensures.counted ∙ next_counted c.loop-k.k c.args.steps.now c.loop-k.steps before.2,
    )
