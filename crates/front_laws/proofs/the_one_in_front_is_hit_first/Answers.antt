use Rattle.front_laws.proofs.InFront.{front_is_before}
use Rattle.front_laws.proofs.the_one_in_front_is_hit_first.Goals as goal

pub returns : goal.returns
returns c = front_is_before
