use Rattle.std.proofs.Common.{arith}
use Rattle.std.proofs.lemmas.Grind.{common_steps}
use Rattle.std.proofs.lemmas.List.{get_or_default}
use Rattle.exact_geom.proofs.Edges.{edges_of-next}
use Rattle.exact_geom.proofs.polygons.edge.Goals.{then-k-points, else-k-points}
use Rattle.exact_geom.proofs.polygons.edge.Goals as goal

pub returns-clause-start : goal.returns-clause-start
returns-clause-start c = (c.args.k, c.requires, get_or_default c.args.points.now c.args.k _ _ c.requires)

pub returns-clause-next : goal.returns-clause-next
returns-clause-next c = edges_of-next c.args.points.now c.args.k c.if-k-points.after _ c.requires (elim c.if-k-points.branch [ then-k-points w ↦ grind (arith, common_steps) | else-k-points w ↦ grind (arith, common_steps) ])
