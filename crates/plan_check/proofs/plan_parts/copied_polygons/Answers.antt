use Rattle.std.proofs.Common.{◌∙◌}
use Rattle.plan_check.proofs.Tables.{copied_on}
use Rattle.plan_check.proofs.plan_parts.copied_polygons.Goals as goal

pub loop-name-preserved-in-Ok : goal.loop-name-preserved-in-Ok
loop-name-preserved-in-Ok c =
    copied_on c.loop-name.copy c.args.polygons.now.entries c.loop-name.name-iterator c.next.new.self c.insert.new.self.entries c.in-Some.name.now c.copy-in-loop-name.result c.in-Some.points.now _
    c.into_iter-name-iterator.ensures.into_iter_gives.4 c.loop-name.invariant c.in-Some.ensures.steps c.copy-in-loop-name.ensures (c.in_ok-points.ensures ∙ c.as_slice.ensures) c.in-Ok.ensures.entries

pub loop-name-preserved-in-Ok-2 : goal.loop-name-preserved-in-Ok-2
loop-name-preserved-in-Ok-2 c =
    copied_on c.loop-name.copy c.args.polygons.now.entries c.loop-name.name-iterator c.next.new.self c.insert.new.self.entries c.in-Some.name.now c.copy-in-loop-name.result c.in-Some.points.now _
    c.into_iter-name-iterator.ensures.into_iter_gives.4 c.loop-name.invariant c.in-Some.ensures.steps c.copy-in-loop-name.ensures (c.in_ok-points.ensures ∙ c.as_slice.ensures) c.in-Ok.ensures.entries
