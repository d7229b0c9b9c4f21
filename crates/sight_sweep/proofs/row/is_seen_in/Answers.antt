use Rattle.std.proofs.Common.{◌∙◌, ap, sym}
use Rattle.view_laws.specs.Views.{is_seen_by}
use Rattle.sight_sweep.proofs.row.is_seen_in.Goals as goal

pub is_seen_by-requires-clause-told_in : goal.is_seen_by-requires-clause-told_in
is_seen_by-requires-clause-told_in c = c.requires.told_in c.told_between.result
    (c.told_between.ensures ∙ sym (c.requires.gap c.args.place c.requires.inside))

pub returns : goal.returns
returns c = c.is_seen_by.ensures
    ∙ ap (λ r. is_seen_by c.args.begins r c.args.d)
    (c.told_between.ensures ∙ sym (c.requires.gap c.args.place c.requires.inside))
