use Rattle.round_laws.proofs.HiddenBodies.{all_covered, all_past}
use Rattle.round_laws.proofs.a_hidden_body_may_be_left_out.Goals as goal

pub returns-clause-walls : goal.returns-clause-walls
returns-clause-walls c = all_covered

pub returns-clause-corners : goal.returns-clause-corners
returns-clause-corners c = all_past
