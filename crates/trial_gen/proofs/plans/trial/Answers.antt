use Rattle.std.proofs.Common.{◌≡◌, ◌++◌, ◌∙◌, ap, refl}
use Rattle.trial_gen.proofs.BoxByBox.{accepted, boxes_from, items_begun, items_ended, items_next, room}
use Rattle.trial_gen.proofs.plans.trial.Goals as goal

pub loop-i-init : goal.loop-i-init
loop-i-init c =
    let same : c.push-2.new.self ≡ room c.root_above-c.result =
    rw (
      c.in_ok-push-2.ensures.ok,
      c.in_ok-push.ensures.ok,
      c.new-items.ensures,
      c.in_ok-square_at.ensures,
      c.grid.ensures,
    ) refl in
    ap (λ items. items ++ boxes_from c.args.n c.root_above-c.result 0) same
    ∙ items_begun c.args.n c.root_above-c.result c.root_above-c.ensures.value

pub loop-i-preserved : goal.loop-i-preserved
loop-i-preserved c =
    let next =
    items_next c.args.n c.root_above-c.result c.loop-i.i c.loop-i.items c.loop-i-test.true c.loop-i.invariant in
    rw (c.in_ok-push-3.ensures.ok, c.in_ok-trial_box.ensures) next

pub returns-clause-accepted : goal.returns-clause-accepted
returns-clause-accepted c =
    accepted c.args.n c.loop-i.items c.requires.some c.requires.few
    (items_ended c.args.n c.root_above-c.result c.loop-i.i c.loop-i.items c.loop-i-test.false c.loop-i.invariant)
