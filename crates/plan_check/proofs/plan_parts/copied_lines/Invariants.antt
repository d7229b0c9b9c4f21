use Rattle.std.specs.Prelude.{◌≡◌, ◌++◌}
use Rattle.plan_check.proofs.plan_parts.copied_lines.Given as goal

abbrev pub invariant-loop-name : goal.invariant-loop-name
invariant-loop-name l = l.copy.entries ++ l.name-iterator ≡ l.lines.entries
