use Rattle.std.proofs.Common.{ap, sym, subst, ◌≡◌, ◌∙◌, ◌∷◌, arith, length}
use Rattle.plan_spec.specs.Grid.{grid_points}
use Rattle.graph_spec.specs.Graphs.{IsSimpleGraph}
use Rattle.vga_grid.specs.Rows.{graph_of}
use Rattle.vga_fill.specs.Places.{size}
use Rattle.vga_fill.proofs.fill.Fill.new.Goals as goal

pub invariant_of-fill : goal.invariant_of-fill
invariant_of-fill c =
    let made = c.in_ok-table.ensures in
    let key = made.5 in
    let first = c.in_ok-words.ensures in
    let old = ap (λ k. k.old.value) key ∙ c.of.ensures in
    let len = ap length (c.deref.ensures.value ∙ first.words_are) in
    let rows : length (0 ∷ first.rows) ≡ size c.args.old.now.count = omega (arith, first.rows_are.fits) in
    record {
      same = c.len-2.ensures.len ∙ (sym c.len.ensures.len ∙ sym (ap (λ k. k.count) key));
      at_most = rw c.len-2.ensures.len c.len-2.ensures.at_most;
      words = made.0 ∙ (len ∙ (rows ∙ sym (ap size c.len-2.ensures.len)));
      slots = made.1;
      old_simple = subst (λ m. IsSimpleGraph (graph_of m)) (sym old) c.len.ensures.simple;
      old_count = ap (λ m. m.count) old ∙ sym c.len-2.ensures.len;
      new_count = ap (λ k. length (grid_points k.after.value.grid)) key ∙ (ap (λ p. length (grid_points p.grid)) c.of-2.ensures ∙ (sym c.requires ∙ sym c.len-2.ensures.len));
    }
