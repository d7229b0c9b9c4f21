use Rattle.turn_laws.proofs.Among.{spans_is_among}
use Rattle.turn_laws.proofs.a_blocker_is_spanned_between_its_ends.Goals as goal

pub returns : goal.returns
returns c = spans_is_among
