use Rattle.std.specs.Prelude.{◌≡◌, ◌<◌, ◌≤◌, length}
use Rattle.std.proofs.Common.{arith, sym, ap, subst, ◌∙◌}
use Rattle.plan_spec.specs.Grid.{grid_points}
use Rattle.vga_grid.specs.Rows.{graph_of, is_joined}
use Rattle.vga_grid.proofs.Covered.{flag_count, joined_more, same_more, row_ended, rows_ended, graph_is, are_joined}
use Rattle.vga_looks.proofs.ClosedRows.{closed_row}
use Rattle.vga_looks.proofs.Rows.{none_yet, row_at, row_length}
use Rattle.vga_looks.proofs.looks.graph_by_looks.Goals.{then-index, else-index}
use Rattle.vga_looks.proofs.looks.graph_by_looks.Goals as goal

pub is_open-requires : goal.is_open-requires
is_open-requires c =
    let count = rw c.of.ensures.grid at c.count-count.ensures.count in
    let inside : c.loop-i.i < length (grid_points c.args.plan.now.grid) = omega (arith, c.loop-i-test.true, count) in
    rw (c.in_ok-grid.ensures, flag_count c.args.plan.now (length (grid_points c.args.plan.now.grid))) inside

pub loop-i-init : goal.loop-i-init
loop-i-init c =
    let count = rw c.of.ensures.grid at c.count-count.ensures.count in
    let empty = c.in_ok-graph.ensures in (
      empty.count ∙ count,
      empty.simple,
      λ a b up. empty.none a b ∙ none_yet (are_joined c.args.plan.now a b) a,
    )

pub index-requires : goal.index-requires
index-requires c =
    let plan = c.args.plan.now in
    let count = rw c.of.ensures.grid at c.count-count.ensures.count in
    let below : c.loop-j.j < length (grid_points plan.grid) = omega (arith, c.loop-j-test.true, count) in
    let len = c.in_ok-row.row.ok.0 ∙ ap length c.in_ok-row.ensures.row
    ∙ row_length plan c.loop-i.i (length (grid_points plan.grid)) in
    subst (λ n. c.loop-j.j < n) (sym len) below

pub loop-i-preserved-then-not-is_open : goal.loop-i-preserved-then-not-is_open
loop-i-preserved-then-not-is_open c =
    let before = c.loop-i.invariant in
    let tested = ap (λ g. g.are_open) c.in_ok-grid.ensures in
    let closed = sym c.is_open.ensures ∙ c.if-not-is_open.true in
    (before.0, before.1, λ a b up. before.2 a b up ∙ closed_row c.args.plan.now c.in_ok-grid.grid.are_open c.loop-i.i a b tested closed up)

pub loop-j-preserved : goal.loop-j-preserved
loop-j-preserved c =
    let plan = c.args.plan.now in
    let i = c.loop-i.i in
    let j = c.loop-j.j in
    let before = c.loop-j.invariant in
    let rises : i < j = omega (arith, c.loop-j.auto.j) in
    let count = rw c.of.ensures.grid at c.count-count.ensures.count in
    let below : j < length (grid_points plan.grid) = omega (arith, c.loop-j-test.true, count) in
    let told = rw c.in_ok-row.ensures.row at c.index.ensures in
    let joined : c.index.result.now ≡ are_joined plan i j = told ∙ row_at plan i j (length (grid_points plan.grid)) c.index.result.now rises below in
    elim c.if-index.branch [
      | then-index w ↦
          let after = w.join_pair.ensures in
          rw w.graph-is (
            after.count ∙ before.0,
            after.simple,
            λ a b up. joined_more (are_joined plan) i j a b rises up (is_joined c.loop-j.graph a b) _
                (sym joined ∙ w.if-index.true) (before.2 a b up) (after.joined a b),
          )
      | else-index w ↦
          rw w.graph-is (
            before.0,
            before.1,
            λ a b up. same_more (are_joined plan) i j a b rises up (is_joined c.loop-j.graph a b)
                (sym joined ∙ w.if-index.false) (before.2 a b up),
          )
    ]

pub loop-i-preserved : goal.loop-i-preserved
loop-i-preserved c =
    let plan = c.args.plan.now in
    let before = c.loop-j.invariant in
    let count = rw c.of.ensures.grid at c.count-count.ensures.count in
    let past : length (grid_points plan.grid) ≤ c.loop-j.j = omega (arith, c.loop-j-test.false, count) in
    (before.0, before.1, λ a b up. before.2 a b up ∙ row_ended plan c.loop-i.i c.loop-j.j a b past up)

pub returns : goal.returns
returns c =
    let plan = c.args.plan.now in
    let all = c.loop-i.invariant in
    let count = rw c.of.ensures.grid at c.count-count.ensures.count in
    let past : length (grid_points plan.grid) ≤ c.loop-i.i = omega (arith, c.loop-i-test.false, count) in
    graph_is plan (graph_of c.loop-i.graph) all.1 all.0
    (λ a b up. all.2 a b up ∙ rows_ended plan c.loop-i.i a b past)
