use Rattle.std.proofs.Common.{◌≡◌, ◌∙◌, ◌&&◌, ◌||◌, ◌==◌, ◌<◌, ℕ, sym, ap, subst, length, take, get_or, map, List}
use Rattle.vga_grid.specs.Rows.{graph_of}
use Rattle.line_graph.specs.Extents.{extent_of}
use Rattle.line_graph.specs.declared.extents.Extent.{Extent}
use Rattle.line_graph.specs.Rows.{do_meet_at, has_number, near_below}
use Rattle.line_graph.proofs.Joins.{rows_begun, rows_ended, row_done, near_past, graph_is}
use Rattle.std.proofs.lemmas.List.{length-map}
use Rattle.sight_spec.specs.Axial.{AxialLine, crossing_graph}
use Rattle.std.specs.Prelude.{nat_lt}
use Rattle.line_graph.proofs.rows.join_rows.Goals as goal

-- the near ones, by the lines alone
near_is : (lines : List AxialLine) (extents : List Extent) (i : ℕ) (near : List ℕ) → extents ≡ map extent_of lines
    → near ≡ near_below extents i (length extents) → near ≡ near_below (map extent_of lines) i (length lines)
near_is lines extents i near e h =
    h ∙ ap (λ xs. near_below xs i (length xs)) e
    ∙ ap (λ (n : ℕ). near_below (map extent_of lines) i n) (length-map lines extent_of)

pub loop-i-init : goal.loop-i-init
loop-i-init c = record {
  nodes = c.requires.nodes;
  simple = c.requires.simple;
  joined = λ a b up. c.requires.none a b ∙ rows_begun c.args.lines.now a b;
}

pub loop-i-preserved : goal.loop-i-preserved
loop-i-preserved c =
    let lines = c.args.lines.now in
    let i = c.loop-i.i in
    let before = c.loop-i.invariant in
    let after = c.join_row.ensures in
    let near = near_is lines c.args.extents.now i (take c.gather-count.result c.gather-count.new.near)
    c.requires.extents
    c.gather-count.ensures.near in
    record {
      nodes = after.nodes;
      simple = after.simple;
      joined = λ a b up.
          after.joined a b up
          ∙ ap (λ t. t || (a == i && (has_number (take c.gather-count.result c.gather-count.new.near) b
          && do_meet_at lines i b)))
          (before.joined a b up)
          ∙ ap (λ xs. ((crossing_graph lines).joins a b && nat_lt a i)
          || (a == i && (has_number xs b && do_meet_at lines i b))) near
          ∙ row_done c.args.stretches.now lines c.requires.measured i a b up c.loop-i-test.true;
    }

pub join_row-requires-clause-near_in : goal.join_row-requires-clause-near_in
join_row-requires-clause-near_in c =
    let lines = c.args.lines.now in
    let i = c.loop-i.i in
    let near = near_is lines c.args.extents.now i (take c.gather-count.result c.gather-count.new.near)
    c.requires.extents
    c.gather-count.ensures.near in
    subst (λ xs. (m : ℕ) → m < length xs → (i < get_or xs m 0) × (get_or xs m 0 < length lines)) (sym near)
    (λ m below. near_past (map extent_of lines) i (length lines) m c.loop-i-test.true below)

pub returns : goal.returns
returns c =
    let lines = c.args.lines.now in
    let all = c.loop-i.invariant in
    graph_is lines (graph_of c.loop-i.graph) all.simple all.nodes
    (λ a b up. all.joined a b up ∙ rows_ended lines c.loop-i.i a b c.loop-i-test.false)
