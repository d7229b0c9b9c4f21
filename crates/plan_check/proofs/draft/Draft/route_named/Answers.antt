use Rattle.std.proofs.Common.{◌∙◌}
use Rattle.plan_check.proofs.Kept.{route_position}
use Rattle.plan_check.proofs.draft.Draft.route_named.Goals as goal

pub returns : goal.returns
returns c = rw (← c.self.view_is) (c.get_index_of.ensures.index ∙ route_position c.args.name.now c.self.inside.routes.entries)
