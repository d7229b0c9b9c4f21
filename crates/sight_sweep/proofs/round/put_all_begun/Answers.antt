use Rattle.std.proofs.Common.{◌≡◌, ◌<◌, ◌≤◌, rules, get_or, length, take}
use Rattle.std.specs.Prelude.{◌||◌}
use Rattle.sight_sweep.specs.Events.{corner_of}
use Rattle.sight_sweep.specs.LeftOut.{is_set}
use Rattle.sight_sweep.specs.Rounds.{begins_among}
use Rattle.sight_sweep.proofs.Groups.{begun_group_step, begun_group_all, spans_one, spans_group}
use Rattle.sight_sweep.proofs.round.put_all_begun.Goals as goal

pub loop-k-preserved : goal.loop-k-preserved
loop-k-preserved c test way a old new =
    let inside : c.loop-k.k < length c.args.group.now = search rules in
    let corner : c.corner_at.result ≡ corner_of (get_or c.args.group.now c.loop-k.k 0) = search rules in
    let kept = is_set c.args.kept.now in
    begun_group_step c.args.table.now c.args.p kept test c.args.group.now c.loop-k.k c.corner_at.result
    c.put_begun.new.active.items inside corner
    (c.in_ok-put_begun.ensures.put
    (λ n s. test n s || begins_among c.args.p c.args.table.now.corners (take c.loop-k.k c.args.group.now) s) way
    (c.loop-k.invariant test way a old new)
    (spans_group c.args.table.now c.args.p way kept test c.args.group.now c.loop-k.k old new)
    (spans_one c.args.table.now c.args.p way kept c.args.group.now c.loop-k.k c.corner_at.result inside corner new))

pub returns : goal.returns
returns c = record {
  put = λ test way a old new.
      let end : length c.args.group.now ≤ c.loop-k.k = search rules in
      begun_group_all c.args.table.now c.args.p (is_set c.args.kept.now) test c.args.group.now c.loop-k.k
      c.loop-k.active.items end
      (c.loop-k.invariant test way a old new);
}
