use Rattle.std.specs.Prelude.{IfOk}
use Rattle.std.proofs.Common.{◌≡◌, ℕ, ◌+◌, ◌-◌, ◌++◌, ◌∙◌, ap, subst, arith}
use Rattle.vga_grid.specs.Rows.{graph_of}
use Rattle.graph_spec.specs.Graphs.{measures_of}
use Rattle.step_depth.specs.Reached.{measures_from}
use Rattle.step_depth.proofs.ReachLists.{parts_joined}
use Rattle.step_depth.proofs.workers.+fn-measure_all-join+arg2+fn-measure_all-join+arg3+measure_all.Goals as goal

pub returns : goal.returns
returns g t c =
    let graph = graph_of c.args.graph.now in
    let middle : ℕ = c.args.first + c.share-here.result in
    let left = subst (λ r. IfOk r (λ ms. ms.items ≡ measures_from graph c.args.first (middle - c.args.first))) c.in_ok-measures.was c.join-left.ensures.first in
    let right = subst (λ r. IfOk r (λ ms. ms.items ≡ measures_from graph middle (c.args.end - middle))) c.in_ok-others.was c.join-left.ensures.second in
    let whole = c.in_ok-extend_from_slice.ensures.items ∙ ap (λ xs. c.in_ok-measures.measures.items ++ xs) c.deref.ensures.value in
    parts_joined (measures_of graph) c.args.first middle c.args.end c.in_ok-measures.measures.items c.in_ok-others.others.items c.extend_from_slice.new.self.items
    (omega arith) (omega (arith, c.share-here.ensures, c.requires.order)) left right whole
