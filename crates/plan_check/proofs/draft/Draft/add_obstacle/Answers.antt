use Rattle.std.proofs.Common.{refl}
use Rattle.std.specs.Str.{bytes_eq}
use Rattle.std.proofs.lemmas.List.{map_push}
use Rattle.indexmap.proofs.CallerLemmas.{insert_entry-new}
use Rattle.plan_spec.specs.Plan.{is_obstacle_named}
use Rattle.plan_check.specs.Kept.{obstacle_of_entry}
use Rattle.plan_check.proofs.Kept.{not_named}
use Rattle.plan_check.proofs.draft.Draft.add_obstacle.Goals as goal

pub returns-in-Ok-clause-ok : goal.returns-in-Ok-clause-ok
returns-in-Ok-clause-ok c =
    let a = c.self.inside in
    let none = not_named obstacle_of_entry (is_obstacle_named c.args.name) c.args.name (λ e. refl) a.obstacles.entries (rw (← c.self.view_is) at c.requires) in
    let new = insert_entry-new bytes_eq a.obstacles c.args.name c.args.points none in
    rw (c.in-Ok.ensures.entries, new, ← c.self.view_is, map_push) refl
