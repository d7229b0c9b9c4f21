use Rattle.std.proofs.Common.{◌≡◌, ◌<◌, ◌≤◌, rules, get_or, length, take}
use Rattle.std.specs.Prelude.{◌&&◌, not}
use Rattle.sight_sweep.specs.Events.{corner_of}
use Rattle.sight_sweep.specs.Rounds.{ends_among}
use Rattle.sight_sweep.proofs.Groups.{ended_group_step, ended_group_all}
use Rattle.sight_sweep.proofs.round.take_all_ended.Goals as goal

pub loop-k-preserved : goal.loop-k-preserved
loop-k-preserved c kept test a =
    let inside : c.loop-k.k < length c.args.group.now = search rules in
    let corner : c.corner_at.result ≡ corner_of (get_or c.args.group.now c.loop-k.k 0) = search rules in
    ended_group_step c.args.table.now c.args.p kept test c.args.group.now c.loop-k.k c.corner_at.result
    c.take_ended.new.active.items inside corner
    (c.take_ended.ensures.taken kept
    (λ n s. test n s && not (ends_among c.args.p c.args.table.now.corners (take c.loop-k.k c.args.group.now) s))
    (c.loop-k.invariant kept test a))

pub returns : goal.returns
returns c = record {
  taken = λ kept test a.
      let end : length c.args.group.now ≤ c.loop-k.k = search rules in
      ended_group_all c.args.table.now c.args.p kept test c.args.group.now c.loop-k.k c.loop-k.active.items end
      (c.loop-k.invariant kept test a);
}
