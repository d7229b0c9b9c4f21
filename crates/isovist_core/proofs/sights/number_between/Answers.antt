use Rattle.std.proofs.Common.{◌∙◌, ap, sym}
use Rattle.sight_spec.specs.Isovist.{sum_of}
use Rattle.turn_laws.specs.Places.{place_of}
use Rattle.view_laws.specs.Views.{number_by, Radial}
use Rattle.isovist_core.proofs.Between.{sum_after, sum_before, told_first, told_after}
use Rattle.isovist_core.proofs.sights.number_between.Goals as goal

pub returns-then-count-eq0 : goal.returns-then-count-eq0
returns-then-count-eq0 c =
    let view = c.args.view.now in
    let gap = c.args.gap.now in
    let between = c.requires.between in
    c.number_of.ensures
    ∙ ap (λ (r : Radial). number_by r.front)
    (sym
    (told_first view.before view.sectors.items gap.from.place gap.to.place (place_of (sum_of gap.from.step gap.to.step))
    c.args.count c.if-count-eq0.true between (sum_after gap c.requires.turned between.forward)
    (sum_before gap c.requires.turned between.forward)))

pub returns : goal.returns
returns c =
    let view = c.args.view.now in
    let gap = c.args.gap.now in
    let between = c.requires.between in
    c.number_after.ensures
    ∙ ap (λ (r : Radial). number_by r.front)
    (sym
    (told_after view.before view.sectors.items gap.from.place gap.to.place (place_of (sum_of gap.from.step gap.to.step))
    c.args.count c.index.result.now c.requires.order c.if-count-eq0.false between
    (sum_after gap c.requires.turned between.forward) (sum_before gap c.requires.turned between.forward)
    c.index.ensures))
