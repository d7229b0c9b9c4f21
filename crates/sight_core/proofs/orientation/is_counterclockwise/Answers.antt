use Rattle.std.proofs.Common.{arith, ◌∙◌}
use Rattle.std.proofs.lemmas.Int.{ints}
use Rattle.sight_core.proofs.Along.{area_next, area_all}
use Rattle.sight_core.proofs.orientation.is_counterclockwise.Goals as goal

pub overflow_add-area : goal.overflow_add-area
overflow_add-area c = omega (arith, ints)

pub loop-k-preserved : goal.loop-k-preserved
loop-k-preserved c =
    let next = area_next _ _ _ _ _ _ c.edge-e.ensures.next c.cross-area.ensures.value c.loop-k.invariant.total in
    record { total = omega (arith, ints, next); within = record { low = omega (arith, ints); high = omega (arith, ints) } }

pub returns : goal.returns
returns c = c.is_positive.ensures ∙ area_all _ c.args.points.now c.loop-k.k c.loop-k-test.false c.loop-k.invariant.total
