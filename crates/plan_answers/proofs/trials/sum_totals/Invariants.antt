use Rattle.std.proofs.Common.{◌≡◌, ◌≤◌, ◌*◌, get_or, take}
use Rattle.std.specs.List.{sum_by}
use Rattle.graph_spec.specs.Graphs.{no_measures}
use Rattle.plan_answers.proofs.trials.sum_totals.Given as goal

abbrev pub invariant-points : goal.invariant-points
invariant-points l = record {
  sum : l.sum ≡ sum_by (λ e. (get_or l.measures e.0 no_measures).total) (take l.point-index l.points);
  small : l.sum ≤ l.point-index * 16777216;
}
