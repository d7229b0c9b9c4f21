use Rattle.std.proofs.Common.{◌≡◌, map, take}
use Rattle.line_graph.specs.Stretches.{stretch_of}
use Rattle.line_graph.proofs.rows.stretches_of.Given as goal

abbrev pub invariant-loop-line : goal.invariant-loop-line
invariant-loop-line l = l.stretches.items ≡ map (stretch_of l.fn.scene) (take l.line-index l.lines)
