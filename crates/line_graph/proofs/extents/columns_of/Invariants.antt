use Rattle.std.proofs.Common.{◌≡◌, map, take}
use Rattle.line_graph.proofs.extents.columns_of.Given as goal

abbrev pub invariant-loop-e : goal.invariant-loop-e
invariant-loop-e l = record {
  left : l.left.items ≡ map (λ e. e.left) (take l.e-index l.extents);
  right : l.right.items ≡ map (λ e. e.right) (take l.e-index l.extents);
  below : l.below.items ≡ map (λ e. e.below) (take l.e-index l.extents);
  above : l.above.items ≡ map (λ e. e.above) (take l.e-index l.extents);
}
