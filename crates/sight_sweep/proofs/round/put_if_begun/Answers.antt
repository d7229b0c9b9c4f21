use Rattle.std.proofs.Common.{◌≡◌, ◌∙◌, ap, sym, subst}
use Rattle.std.specs.Prelude.{true}
use Rattle.std.specs.Option.{option_map}
use Rattle.std.proofs.lemmas.Result.{on_ok_weaker}
use Rattle.sight_sweep.specs.Actives.{seen, IsActive, beside}
use Rattle.sight_sweep.specs.LeftOut.{is_set}
use Rattle.sight_sweep.proofs.Groups.{begun_now, begun_left_out}
use Rattle.sight_sweep.proofs.round.put_if_begun.Goals as goal

pub returns-then-not-is_set : goal.returns-then-not-is_set
returns-then-not-is_set c = record {
  put = λ test way a old own. begun_left_out c.args.table.now c.args.p c.args.v (is_set c.args.kept.now) test
      c.args.active.now.items c.args.number (sym c.is_set.ensures ∙ c.if-not-is_set.true) a;
}

pub returns : goal.returns
returns c = record {
  put = λ test way a old own.
      let kept = is_set c.args.kept.now in
      let known = sym c.seen.ensures.seen ∙ ap (option_map seen) c.in-Some.is in
      let here = sym c.same_point.ensures ∙ c.if-not-same_point.false in
      let number = c.in-Some.ensures.number in
      let is_kept = sym c.is_set.ensures ∙ c.if-not-is_set.false in
      on_ok_weaker c.put_in.result
      (λ active. begun_now c.args.table.now c.args.p c.args.v kept test c.put_in.new.active.items c.args.number
      (seen c.in-Some.blocker) known here
      (subst (λ n. IsActive c.args.table.now c.args.p kept (beside n test) c.put_in.new.active.items) number active))
      (c.put_in.ensures.put c.args.table.now c.args.p kept test way c.requires.station.walls a c.in-Some.ensures.known
      (subst (λ n. kept n ≡ true) (sym number) is_kept) old (own (seen c.in-Some.blocker) is_kept known here));
}
