-- The measures that come from what a node reaches.
use Rattle.std.specs.Prelude.{◌≡◌}
use Rattle.graph_spec.specs.Graphs.{Measures, mean_depth, relative_asymmetry}
use Rattle.step_depth.specs.declared.reach.Reach.{Reach}

-- the measures of a node that reaches so much
abbrev pub measured : Reach → Measures
measured r =
    record {
      connectivity = r.connectivity;
      reached = r.reached;
      total = r.total;
      mean = mean_depth r.reached r.total;
      asymmetry = relative_asymmetry r.reached r.total;
    }

-- they are those of some node: the fractions are those of its total and of how many nodes it reaches
abbrev pub IsMeasured : Measures → Type 0
IsMeasured m = m ≡ measured (record { connectivity = m.connectivity; reached = m.reached; total = m.total })
