use Rattle.turn_laws.proofs.Together.{spans_just_after}
use Rattle.turn_laws.proofs.one_direction_spans_what_goes_on.Goals as goal

pub returns : goal.returns
returns c = spans_just_after
