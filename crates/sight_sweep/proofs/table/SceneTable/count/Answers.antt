use Rattle.std.proofs.Common.{◌≤◌, arith, ap, sym, subst, length}
use Rattle.sight_sweep.proofs.Ends.{few_lines}
use Rattle.sight_sweep.proofs.table.SceneTable.count.Goals as goal

pub overflow_cast-result : goal.overflow_cast-result
overflow_cast-result c =
    let few = few_lines _ c.self.invariant.of_plan in
    let small : length c.self.inside.lines.items ≤ 2048 = subst (λ n. n ≤ 2048)
    (sym (ap length c.self.invariant.lines_are)) few in
    omega (arith, c.len.ensures, small)
