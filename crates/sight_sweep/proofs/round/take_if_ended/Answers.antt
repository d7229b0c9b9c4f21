use Rattle.std.proofs.Common.{◌∙◌, ap, sym}
use Rattle.std.specs.Option.{option_map}
use Rattle.sight_sweep.specs.Actives.{seen}
use Rattle.sight_sweep.proofs.Groups.{ended_now}
use Rattle.sight_sweep.proofs.round.take_if_ended.Goals as goal

pub returns : goal.returns
returns c = record {
  taken = λ kept test a.
      ended_now c.args.table.now c.args.p c.args.v kept test c.take_out.new.active.items c.args.number
      (seen c.in-Some.blocker)
      (sym c.seen.ensures.seen ∙ ap (option_map seen) c.in-Some.is)
      (sym c.same_point.ensures ∙ c.if-not-same_point.false)
      (c.take_out.ensures.taken c.args.table.now c.args.p kept test a);
}
