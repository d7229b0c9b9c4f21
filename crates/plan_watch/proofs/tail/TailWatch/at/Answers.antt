use Rattle.std.proofs.Common.{sym, ap, ◌∙◌, ◌∷◌, drop, ◌+◌}
use Rattle.std.proofs.lemmas.List.{drop_more}
use Rattle.std.proofs.lemmas.Option.{get_or_from_slice_get}
use Rattle.plan_watch.proofs.tail.TailWatch.at.Goals as goal

pub returns : goal.returns
returns c =
    drop_more c.args.self.now.notes.items c.args.k c.in-Some.note.now c.requires
    ∙ ap (λ n. n ∷ drop (c.args.k + 1) c.args.self.now.notes.items)
    (get_or_from_slice_get c.args.self.now.notes.items c.args.k c.in-Some.note.now c.in-Some.note.now (sym c.in-Some.ensures) ∙ sym c.copy.ensures)
