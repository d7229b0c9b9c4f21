use Rattle.isovist_laws.proofs.Meetings.{runs_met}
use Rattle.isovist_laws.proofs.runs.a_wall_spans_its_run.Goals as goal

pub returns : goal.returns
returns c = runs_met
