use Rattle.std.proofs.Common.{map}
use Rattle.std.proofs.lemmas.List.{map_push, length-map}
use Rattle.isovist_core.specs.Headings.{step_of}
use Rattle.isovist_core.specs.Gaps.{pair_of}
use Rattle.isovist_core.proofs.Lists.{gaps_begin, gaps_step, gaps_end}
use Rattle.isovist_core.proofs.gaps.gaps_between.Goals as goal

pub loop-k-init : goal.loop-k-init
loop-k-init c = rw c.in_ok-gaps.ensures (gaps_begin (map step_of c.args.headings.now))

pub loop-k-preserved : goal.loop-k-preserved
loop-k-preserved c =
    let more = gaps_step (map step_of c.args.headings.now) c.loop-k.k (map pair_of c.loop-k.gaps.items)
    (rw (length-map c.args.headings.now step_of) c.loop-k-test.true) c.loop-k.invariant in
    rw (c.in_ok-push.ensures.items, map_push, c.gap_from.ensures) more

pub returns : goal.returns
returns c =
    gaps_end (map step_of c.args.headings.now) c.loop-k.k (map pair_of c.loop-k.gaps.items)
    (rw (length-map c.args.headings.now step_of) c.loop-k-test.false) c.loop-k.invariant
