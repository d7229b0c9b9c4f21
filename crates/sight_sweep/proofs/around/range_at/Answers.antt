use Rattle.std.proofs.Common.{subst}
use Rattle.sight_sweep.specs.Tables.{IsRangeAt}
use Rattle.sight_sweep.proofs.Ends.{range_is}
use Rattle.sight_sweep.proofs.around.range_at.Goals as goal

pub returns : goal.returns
returns c =
    subst (λ key. IsRangeAt c.args.ends.now key
    (record { from = c.count_below.result; upto = c.count_below-2.result })) c.key_of-key.ensures.value
    (range_is c.args.ends.now c.key_of-key.result c.count_below.result c.count_below-2.result
    c.count_below.ensures.within c.count_below-2.ensures.within
    c.count_below.ensures.below c.count_below-2.ensures.below c.count_below-2.ensures.others)
