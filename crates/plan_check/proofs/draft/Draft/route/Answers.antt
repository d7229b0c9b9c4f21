use Rattle.std.proofs.Common.{sym}
use Rattle.plan_check.specs.Kept.{route_of_entry}
use Rattle.plan_check.proofs.Kept.{kept_next}
use Rattle.plan_check.proofs.draft.Draft.route.Goals as goal

pub returns : goal.returns
returns c =
    rw (← c.self.view_is, c.make_route.ensures) (kept_next route_of_entry c.self.inside.routes.entries c.args.k (c.in-Some.name.now, c.in-Some.line.now) (sym c.in-Some.ensures.entry))
