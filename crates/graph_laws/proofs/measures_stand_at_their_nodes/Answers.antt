use Rattle.graph_laws.proofs.Bounds.{measures_are_listed, one_measure_each}
use Rattle.graph_laws.proofs.measures_stand_at_their_nodes.Goals as goal

pub returns-clause-one_each : goal.returns-clause-one_each
returns-clause-one_each c = one_measure_each

pub returns-clause-listed : goal.returns-clause-listed
returns-clause-listed c = measures_are_listed
