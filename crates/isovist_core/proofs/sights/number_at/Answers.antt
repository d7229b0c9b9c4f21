use Rattle.std.proofs.Common.{◌∙◌, ap, sym, subst}
use Rattle.view_laws.specs.Views.{number_by, Radial}
use Rattle.isovist_core.specs.Shown.{IsCountUpTo}
use Rattle.isovist_core.proofs.Shown.{shown_first, shown_from}
use Rattle.isovist_core.proofs.sights.number_at.Goals as goal

pub returns-then-count-eq0 : goal.returns-then-count-eq0
returns-then-count-eq0 c =
    let view = c.args.view.now in
    let count = c.count_up_to-count.result in
    c.number_of.ensures
    ∙ ap (λ (r : Radial). number_by r.front)
    (sym (shown_first view.before view.sectors.items c.args.place count c.if-count-eq0.true
    (subst (λ xs. IsCountUpTo xs c.args.place count) c.deref.ensures.value c.count_up_to-count.ensures)))

pub returns : goal.returns
returns c =
    let view = c.args.view.now in
    let count = c.count_up_to-count.result in
    c.number_by.ensures
    ∙ ap (λ (r : Radial). number_by r.front)
    (sym (shown_from view.before view.sectors.items c.args.place count c.index.result.now c.requires.order
    c.if-count-eq0.false
    (subst (λ xs. IsCountUpTo xs c.args.place count) c.deref.ensures.value c.count_up_to-count.ensures)
    c.index.ensures))
