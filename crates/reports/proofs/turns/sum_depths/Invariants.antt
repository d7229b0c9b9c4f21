use Rattle.std.proofs.Common.{◌≡◌, ◌≤◌, ◌*◌, take}
use Rattle.graph_spec.specs.Graphs.{total_depth}
use Rattle.reports.proofs.turns.sum_depths.Given as goal

abbrev pub invariant-depths : goal.invariant-depths
invariant-depths l = record {
  sum : l.sum ≡ total_depth (take l.depth-index l.depths);
  small : l.sum ≤ l.depth-index * 4294967295;
}
