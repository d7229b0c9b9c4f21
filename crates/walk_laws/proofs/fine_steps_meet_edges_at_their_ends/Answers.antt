use Rattle.walk_laws.proofs.Law.{steps_meet_at_ends}
use Rattle.walk_laws.proofs.fine_steps_meet_edges_at_their_ends.Goals as goal

pub returns : goal.returns
returns c = steps_meet_at_ends
