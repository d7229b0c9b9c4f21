use Rattle.std.proofs.Common.{rules, ◌≤◌, length}
use Rattle.sight_sweep.specs.LeftOut.{is_set}
use Rattle.sight_sweep.proofs.Going.{going_begins, going_ends, way_of, starts_before_end}
use Rattle.sight_sweep.proofs.round.go_round.Goals as goal

pub loop-k-init : goal.loop-k-init
loop-k-init c = (
  search rules,
  λ arc shown before is_arc left events u. going_begins c.args.table.now c.args.p arc (is_set c.args.kept.now) shown
      before c.args.sectors.now.items c.args.events.now c.args.active.now.items
      (way_of c.args.table.now c.args.p arc (is_set c.args.kept.now) shown c.args.events.now c.requires.station is_arc
      left events)
      (starts_before_end arc is_arc) u,
)

pub loop-k-preserved : goal.loop-k-preserved
loop-k-preserved c = (
  c.in_ok-from.ensures.next,
  λ arc shown before is_arc left events u. c.in_ok-from.ensures.going arc shown before is_arc left events
      (c.loop-k.invariant.1 arc shown before is_arc left events u),
)

pub returns : goal.returns
returns c = record {
  round = λ arc shown before is_arc left events u.
      let end : length c.args.events.now ≤ c.loop-k.k = search rules in
      going_ends c.args.table.now c.args.p arc (is_set c.args.kept.now) shown before c.loop-k.sectors.items
      c.args.events.now c.loop-k.from c.loop-k.k c.loop-k.active.items
      (way_of c.args.table.now c.args.p arc (is_set c.args.kept.now) shown c.args.events.now c.requires.station is_arc
      left events) end
      (c.loop-k.invariant.1 arc shown before is_arc left events u);
}
