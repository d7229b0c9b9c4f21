use Rattle.std.proofs.Common.{◌≡◌, map, take}
use Rattle.line_graph.specs.Extents.{extent_of}
use Rattle.line_graph.proofs.extents.extents_of.Given as goal

abbrev pub invariant-loop-line : goal.invariant-loop-line
invariant-loop-line l = l.list.items ≡ map extent_of (take l.line-index l.lines)
