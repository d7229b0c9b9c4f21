use Rattle.std.proofs.Common.{◌-◌, ◌∙◌, ap, map}
use Rattle.rayon.proofs.ListFacts.{IfOk-then}
use Rattle.vga_grid.specs.Rows.{graph_of}
use Rattle.step_depth.specs.Measured.{measured}
use Rattle.step_depth.proofs.ReachLists.{measured_row}
use Rattle.step_depth.proofs.workers.measures_between.Goals as goal

pub returns : goal.returns
returns c = IfOk-then c.measure_each.result _ _ c.measure_each.ensures (λ ms e.
    e ∙ ap (map measured) (c.deref.ensures.value ∙ c.in_ok-reaches.ensures)
    ∙ measured_row (graph_of c.args.graph.now) c.args.first (c.args.end - c.args.first))
