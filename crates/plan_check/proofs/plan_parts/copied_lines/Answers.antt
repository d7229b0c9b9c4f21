use Rattle.std.proofs.Common.{refl}
use Rattle.plan_check.proofs.Tables.{copied_on}
use Rattle.plan_check.proofs.plan_parts.copied_lines.Goals as goal

pub loop-name-preserved : goal.loop-name-preserved
loop-name-preserved c =
    copied_on c.loop-name.copy c.args.lines.now.entries c.loop-name.name-iterator c.next.new.self c.insert.new.self.entries c.in-Some.name.now c.copy.result c.in-Some.line.now _
    c.into_iter-name-iterator.ensures.into_iter_gives.4 c.loop-name.invariant c.in-Some.ensures.steps c.copy.ensures (refl) c.in-Ok.ensures.entries
