use Rattle.std.proofs.Common.{refl, sym, ◌∙◌}
use Rattle.plan_spec.specs.Plan.{is_route_named}
use Rattle.plan_check.specs.Kept.{route_of_entry}
use Rattle.plan_check.proofs.Kept.{named_is}
use Rattle.plan_check.proofs.draft.Draft.has_route.Goals as goal

pub returns : goal.returns
returns c =
    rw (← c.self.view_is) (c.contains_key.ensures ∙ sym (named_is route_of_entry (is_route_named c.args.name.now) c.args.name.now (λ e. refl) c.self.inside.routes.entries))
