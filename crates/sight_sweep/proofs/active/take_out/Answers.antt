use Rattle.std.proofs.Common.{◌∙◌, ◌<◌, ◌≤◌, arith, ap, sym, subst, length, rules}
use Rattle.front_laws.proofs.Tests.{by_lt}
use Rattle.sight_sweep.specs.Actives.{IsActive, without}
use Rattle.sight_sweep.proofs.Actives.{taken, not_there, read_other}
use Rattle.sight_sweep.proofs.active.take_out.Goals as goal

pub returns-then-index-number : goal.returns-then-index-number
returns-then-index-number c = record {
  taken = λ scene p kept test a.
      let same = c.loop-place.invariant.0 in
      let inside : c.loop-place.place < length c.loop-place.active.items = search rules in
      subst (IsActive scene p kept (without c.args.number test)) (sym c.take_out_at.ensures.taken)
      (taken scene p kept test c.loop-place.active.items c.loop-place.place c.args.number c.index.result.now
      (subst (IsActive scene p kept test) (sym same) a) inside
      (ap (λ b. b.number) (sym c.index.ensures) ∙ c.if-index-number.true));
}

pub loop-place-preserved : goal.loop-place-preserved
loop-place-preserved c =
    let inside : c.loop-place.place < length c.loop-place.active.items = search rules in (
      c.loop-place.invariant.0,
      λ k d lt e. by_lt k c.loop-place.place
          (λ below. c.loop-place.invariant.1 k d below e)
          (λ high. c.if-index-number.false
          (ap (λ b. b.number) (c.index.ensures
          ∙ read_other c.loop-place.active.items c.loop-place.place k c.index.result.now d inside high lt) ∙ e)),
    )

pub returns : goal.returns
returns c = record {
  taken = λ scene p kept test a.
      let same = c.loop-place.invariant.0 in
      let end : length c.loop-place.active.items ≤ c.loop-place.place = search rules in
      not_there scene p kept test c.loop-place.active.items c.args.number
      (subst (IsActive scene p kept test) (sym same) a)
      (λ k d lt. c.loop-place.invariant.1 k d (omega (arith, lt, end)));
}
