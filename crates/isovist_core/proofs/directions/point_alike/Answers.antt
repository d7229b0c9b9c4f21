use Rattle.std.proofs.Common.{ap, ◌∙◌}
use Rattle.std.specs.Ordering.{is_eq}
use Rattle.isovist_core.proofs.Sorting.{equal_alike}
use Rattle.isovist_core.proofs.directions.point_alike.Goals as goal

pub returns : goal.returns
returns c = c.is_eq.ensures ∙ ap is_eq c.order_of.ensures ∙ equal_alike c.args.a.now.step c.args.b.now.step
