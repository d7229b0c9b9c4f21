use Rattle.exact_geom.proofs.Lowest.{whole_is_reduced}
use Rattle.exact_geom.proofs.fractions.Frac.whole.Goals as goal

pub invariant_of-result : goal.invariant_of-result
invariant_of-result c = whole_is_reduced _
