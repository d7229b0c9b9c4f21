use Rattle.std.specs.Prelude.{◌≡◌, ◌<◌, ◌≤◌, length, true, false}
use Rattle.std.proofs.Common.{arith, sym, ◌∙◌}
use Rattle.plan_spec.specs.Grid.{grid_points}
use Rattle.vga_grid.specs.Rows.{graph_of, is_joined}
use Rattle.vga_grid.proofs.Covered.{flag_count, visible_is, joined_more, same_more, rows_ended, graph_is, are_joined}
use Rattle.vga_grid.proofs.naive.graph_naive.Goals.{then-are_visible, else-are_visible, After-are_visible}
use Rattle.vga_grid.proofs.naive.graph_naive.Goals as goal

pub are_visible-requires-clause-flags : goal.are_visible-requires-clause-flags
are_visible-requires-clause-flags c =
    rw (c.deref.ensures.value, c.in_ok-flags.ensures, c.of-grid.ensures.grid)
    (flag_count c.args.plan.now (length (grid_points c.args.plan.now.grid)))

pub loop-j-preserved : goal.loop-j-preserved
loop-j-preserved c =
    let plan = c.args.plan.now in
    let before = c.loop-j.invariant in
    let rises : c.loop-i.i < c.loop-j.j = omega (arith, c.loop-j.auto.j) in
    let count = rw c.of-grid.ensures.grid at c.count-j-end.ensures.count in
    let below : c.loop-j.j < length (grid_points plan.grid) = omega (arith, c.loop-j-test.true, count) in
    let tested = rw (c.requires, c.of-grid.ensures.grid) at c.are_visible.ensures in
    let visible = visible_is plan c.deref.result.now c.loop-i.i c.loop-j.j c.are_visible.result
    (c.deref.ensures.value ∙ c.in_ok-flags.ensures) rises below tested in
    elim c.if-are_visible.branch [
      | then-are_visible w ↦
          let sees = sym visible ∙ w.if-are_visible.true in
          let after = w.join_pair.ensures in
          rw w.graph-is (
            after.count ∙ before.0,
            after.simple,
            λ a b up. joined_more (are_joined plan) c.loop-i.i c.loop-j.j a b rises up
                (is_joined c.loop-j.graph a b) _ sees (before.2 a b up) (after.joined a b),
          )
      | else-are_visible w ↦
          let hidden = sym visible ∙ w.if-are_visible.false in
          rw w.graph-is (
            before.0,
            before.1,
            λ a b up. same_more (are_joined plan) c.loop-i.i c.loop-j.j a b rises up
                (is_joined c.loop-j.graph a b) hidden (before.2 a b up),
          )
    ]

pub returns : goal.returns
returns c =
    let plan = c.args.plan.now in
    let all = c.loop-i.invariant in
    let count = rw c.of-grid.ensures.grid at c.count-i-end.ensures.count in
    let past : length (grid_points plan.grid) ≤ c.loop-i.i = omega (arith, c.loop-i-test.false, count) in
    graph_is plan (graph_of c.loop-i.graph) all.1 all.0
    (λ a b up. all.2 a b up ∙ rows_ended plan c.loop-i.i a b past)
