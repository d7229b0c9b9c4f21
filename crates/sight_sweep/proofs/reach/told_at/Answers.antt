use Rattle.std.proofs.Common.{◌∙◌, sym, subst}
use Rattle.sight_sweep.specs.Told.{IsCount}
use Rattle.sight_sweep.proofs.Telling.{told_first, told_from}
use Rattle.sight_sweep.proofs.reach.told_at.Goals as goal

pub returns-then-count-eq0 : goal.returns-then-count-eq0
returns-then-count-eq0 c =
    let count = subst (λ xs. IsCount xs c.args.place c.count_up_to-count.result) c.deref.ensures.value
    c.count_up_to-count.ensures in
    c.told_between.ensures
    ∙ sym (told_first c.args.view.now.before c.args.view.now.sectors.items c.args.place c.count_up_to-count.result
    c.if-count-eq0.true count.beyond)

pub returns : goal.returns
returns c =
    let count = subst (λ xs. IsCount xs c.args.place c.count_up_to-count.result) c.deref.ensures.value
    c.count_up_to-count.ensures in
    c.told_by.ensures
    ∙ sym (told_from c.args.view.now.before c.args.view.now.sectors.items c.args.place c.count_up_to-count.result
    c.index.result.now c.requires.order c.if-count-eq0.false count.within count.reached count.beyond c.index.ensures)
