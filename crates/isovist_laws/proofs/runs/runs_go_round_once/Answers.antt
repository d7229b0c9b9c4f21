use Rattle.isovist_laws.proofs.Rounds.{runs_apart}
use Rattle.isovist_laws.proofs.runs.runs_go_round_once.Goals as goal

pub returns : goal.returns
returns c = runs_apart
