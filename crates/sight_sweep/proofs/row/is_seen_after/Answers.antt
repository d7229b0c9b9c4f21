use Rattle.std.proofs.Common.{◌∙◌, ap, sym}
use Rattle.view_laws.specs.Views.{is_seen_by}
use Rattle.sight_sweep.proofs.Counting.{radial_away}
use Rattle.sight_sweep.proofs.Telling.{told_first, told_from}
use Rattle.sight_sweep.proofs.row.is_seen_after.Goals as goal

pub is_seen_by-requires-clause-told_in : goal.is_seen_by-requires-clause-told_in
is_seen_by-requires-clause-told_in c = c.requires.told_in c.told_between.result
    (c.told_between.ensures
    ∙ sym (told_first c.args.view.now.before c.args.view.now.sectors.items c.args.place c.args.count
    c.if-count-eq0.true c.requires.count.beyond))

pub returns-then-count-eq0 : goal.returns-then-count-eq0
returns-then-count-eq0 c = c.is_seen_by.ensures
    ∙ ap (λ r. is_seen_by c.args.begins r c.args.d) (c.told_between.ensures
    ∙ sym (told_first c.args.view.now.before c.args.view.now.sectors.items c.args.place c.args.count
    c.if-count-eq0.true c.requires.count.beyond))

pub is_seen_by-requires-then-place-sector-clause-told_in : goal.is_seen_by-requires-then-place-sector-clause-told_in
is_seen_by-requires-then-place-sector-clause-told_in c = c.requires.told_in c.told_by.result
    (c.told_by.ensures
    ∙ sym (told_from c.args.view.now.before c.args.view.now.sectors.items c.args.place c.args.count
    c.index-sector.result.now c.requires.order c.if-count-eq0.false c.requires.count.within c.requires.count.reached
    c.requires.count.beyond c.index-sector.ensures))

pub returns-then-place-sector : goal.returns-then-place-sector
returns-then-place-sector c = c.is_seen_by-then-place-sector.ensures
    ∙ ap (λ r. is_seen_by c.args.begins r c.args.d) (c.told_by.ensures
    ∙ sym (told_from c.args.view.now.before c.args.view.now.sectors.items c.args.place c.args.count
    c.index-sector.result.now c.requires.order c.if-count-eq0.false c.requires.count.within c.requires.count.reached
    c.requires.count.beyond c.index-sector.ensures))

pub is_seen_by-requires-2-clause-told_in : goal.is_seen_by-requires-2-clause-told_in
is_seen_by-requires-2-clause-told_in c = c.requires.told_in c.told_between-2.result
    (c.told_between-2.ensures
    ∙ sym (radial_away c.index-sector.result.now c.args.place c.if-place-sector.false)
    ∙ sym (told_from c.args.view.now.before c.args.view.now.sectors.items c.args.place c.args.count
    c.index-sector.result.now c.requires.order c.if-count-eq0.false c.requires.count.within c.requires.count.reached
    c.requires.count.beyond c.index-sector.ensures))

pub returns : goal.returns
returns c = c.is_seen_by-2.ensures
    ∙ ap (λ r. is_seen_by c.args.begins r c.args.d) (c.told_between-2.ensures
    ∙ sym (radial_away c.index-sector.result.now c.args.place c.if-place-sector.false)
    ∙ sym (told_from c.args.view.now.before c.args.view.now.sectors.items c.args.place c.args.count
    c.index-sector.result.now c.requires.order c.if-count-eq0.false c.requires.count.within c.requires.count.reached
    c.requires.count.beyond c.index-sector.ensures))
