use Rattle.winding_laws.proofs.Closed.{off_the_edges}
use Rattle.winding_laws.proofs.windings_agree_off_the_edges.Goals as goal

pub returns : goal.returns
returns c = off_the_edges
