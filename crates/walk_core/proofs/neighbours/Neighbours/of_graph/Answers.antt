use Rattle.std.proofs.Common.{◌≡◌, ◌<◌, ◌++◌, ◌∷◌, [], ℕ, length, ap, refl, sym, subst, ◌∙◌, arith}
use Rattle.vga_grid.specs.Rows.{graph_of}
use Rattle.walk_spec.specs.Walks.{neighbours_of}
use Rattle.walk_core.specs.Lists.{AreLists, listed}
use Rattle.walk_core.proofs.Flat.{Making, row_is, making_begins, making_goes, near_in_range, are_lists, listed_is}
use Rattle.walk_core.proofs.neighbours.Neighbours.of_graph.Goals.{After-len-2}
use Rattle.walk_core.proofs.neighbours.Neighbours.of_graph.Goals as goal

pub loop-node-init : goal.loop-node-init
loop-node-init c =
    rw (c.in_ok-push.ensures.items, c.new-near.ensures.items, c.new-firsts.ensures.items) (making_begins (graph_of c.args.graph.now))

pub overflow_cast-len : goal.overflow_cast-len
overflow_cast-len c =
    let g = graph_of c.args.graph.now in
    let is = row_is g c.loop-node.node c.row.result.now c.len-node-end.ensures.simple c.row.ensures.len c.row.ensures.bits in
    let lt : c.loop-node.node < c.args.graph.now.count = omega (arith, c.loop-node-test.true, c.len-node-end.ensures.len) in
    let more = making_goes g c.loop-node.node c.row.result.now c.loop-node.near.items c.loop-node.firsts.items c.push_row.new.near.items
    (c.loop-node.firsts.items ++ length c.push_row.new.near.items ∷ []) c.loop-node.invariant is c.in_ok-push_row.ensures refl in
    let room = near_in_range g c.loop-node.node c.push_row.new.near.items c.len-node-end.ensures.at_most lt more.made in
    omega (arith, room, c.len.ensures)

pub loop-node-preserved : goal.loop-node-preserved
loop-node-preserved c =
    let g = graph_of c.args.graph.now in
    let is = row_is g c.loop-node.node c.row.result.now c.len-node-end.ensures.simple c.row.ensures.len c.row.ensures.bits in
    let len : c.len.result ≡ length c.push_row.new.near.items = omega (arith, c.len.ensures, c.push_row.new.near.ok) in
    making_goes g c.loop-node.node c.row.result.now c.loop-node.near.items c.loop-node.firsts.items c.push_row.new.near.items c.push-in-loop-node.new.self.items
    c.loop-node.invariant is c.in_ok-push_row.ensures (c.in_ok-push-2.ensures.items ∙ ap (λ (n : ℕ). c.loop-node.firsts.items ++ n ∷ []) len)

-- all nodes are done
whole : (c : After-len-2) → Making (graph_of c.args.graph.now) c.args.graph.now.count c.loop-node.near.items c.loop-node.firsts.items
whole c =
    let e : c.loop-node.node ≡ c.args.graph.now.count = omega (arith, c.loop-node-test.false, c.loop-node.auto.node-end, c.len-node-end.ensures.len) in
    subst (λ (n : ℕ). Making (graph_of c.args.graph.now) n c.loop-node.near.items c.loop-node.firsts.items) e c.loop-node.invariant

pub invariant_of-result : goal.invariant_of-result
invariant_of-result c =
    subst (λ (n : ℕ). AreLists (record { count = n; firsts = c.loop-node.firsts.items; near = c.loop-node.near.items })) (sym c.len-2.ensures.len)
    (are_lists (graph_of c.args.graph.now) c.loop-node.near.items c.loop-node.firsts.items c.len-2.ensures.at_most (whole c))

pub returns : goal.returns
returns c = record {
  count = c.len-2.ensures.len;
  listed = λ node lt.
      subst (λ (n : ℕ). listed (record { count = n; firsts = c.loop-node.firsts.items; near = c.loop-node.near.items }) node ≡ neighbours_of (graph_of c.args.graph.now) node) (sym c.len-2.ensures.len)
      (listed_is (graph_of c.args.graph.now) c.loop-node.near.items c.loop-node.firsts.items c.len-2.ensures.at_most (whole c) node lt);
}
