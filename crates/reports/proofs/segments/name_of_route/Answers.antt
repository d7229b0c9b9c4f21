use Rattle.std.proofs.Common.{◌∙◌, sym}
use Rattle.reports.proofs.RouteNames.{named}
use Rattle.reports.proofs.segments.name_of_route.Goals as goal

pub returns : goal.returns
returns c = c.copy.ensures ∙ sym (named c.args.plan.now.routes c.args.k c.route.result _ c.route.ensures)
