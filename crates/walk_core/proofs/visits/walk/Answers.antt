use Rattle.std.proofs.Common.{◌≡◌, ◌+◌, ◌*◌, ◌<◌, ℕ, All, ◌∙◌, ap, sym, subst}
use Rattle.std.specs.List.{sum}
use Rattle.std.proofs.lemmas.Result.{IfOk-weaker}
use Rattle.vga_grid.specs.Rows.{graph_of}
use Rattle.walk_spec.specs.Walks.{visits_of}
use Rattle.walk_core.specs.Lists.{part_visits}
use Rattle.walk_core.proofs.Totals.{all_visits, sum_of_visits}
use Rattle.walk_core.proofs.visits.walk.Goals as goal

pub walk_all-requires-clause-may : goal.walk_all-requires-clause-may
walk_all-requires-clause-may g c κs within = record {
  some = c.requires.some;
  nodes = subst (λ (n : ℕ). All (λ start. start < n) c.args.starts.now) (sym c.in_ok-lists.ensures.count) c.requires.nodes;
  steps = c.requires.steps;
}

pub returns : goal.returns
returns g c =
    let graph = graph_of c.args.graph.now in
    let starts = c.args.starts.now in
    let spec = c.args.spec.now in
    let lists = c.in_ok-lists.lists in
    let all = all_visits graph lists starts spec c.requires.some c.requires.nodes c.in_ok-lists.ensures.count c.in_ok-lists.ensures.listed in
    record {
      visits = IfOk-weaker c.walk_all.result (λ visits. visits.items ≡ part_visits lists starts spec 0 spec.walkers) (λ visits. visits.items ≡ visits_of graph starts spec)
          (λ visits e. e ∙ all) c.walk_all.ensures;
      sum = IfOk-weaker c.walk_all.result (λ visits. visits.items ≡ part_visits lists starts spec 0 spec.walkers) (λ visits. sum visits.items ≡ spec.walkers * (spec.steps + 1))
          (λ visits e. ap sum (e ∙ all) ∙ sum_of_visits graph starts spec c.requires.some c.requires.nodes) c.walk_all.ensures;
    }
