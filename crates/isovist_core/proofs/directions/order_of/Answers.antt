use Rattle.std.proofs.Common.{◌∙◌}
use Rattle.isovist_core.proofs.Sorting.{place_order}
use Rattle.isovist_core.proofs.directions.order_of.Goals as goal

pub returns : goal.returns
returns c = c.cmp.ensures ∙ place_order c.args.a.now c.args.b.now
