use Rattle.std.proofs.Common.{refl}
use Rattle.std.specs.Str.{bytes_eq}
use Rattle.std.proofs.lemmas.List.{map_push}
use Rattle.indexmap.proofs.CallerLemmas.{insert_entry-new}
use Rattle.plan_spec.specs.Plan.{is_route_named}
use Rattle.plan_check.specs.Kept.{route_of_entry}
use Rattle.plan_check.proofs.Kept.{not_named}
use Rattle.plan_check.proofs.draft.Draft.add_route.Goals.{in-Ok, in-Err}
use Rattle.plan_check.proofs.draft.Draft.add_route.Goals as goal

pub returns-clause-ok : goal.returns-clause-ok
returns-clause-ok c =
    let a = c.self.inside in
    let none = not_named route_of_entry (is_route_named c.args.name) c.args.name (λ e. refl) a.routes.entries (rw (← c.self.view_is) at c.requires) in
    let new = insert_entry-new bytes_eq a.routes c.args.name (record { a = c.args.from; b = c.args.to }) none in
    elim c.match-insert.branch [
      | in-Ok w ↦ rw (w.result-is, w.in-Ok.ensures.entries, new, ← c.self.view_is, map_push) refl
      | in-Err w ↦ rw (w.result-is) tt
    ]
