use Rattle.std.proofs.Common.{◌≡◌, ◌<◌, ◌≤◌, ℕ, arith, subst, length, get_or}
use Rattle.std.specs.Prelude.{true}
use Rattle.front_laws.proofs.Tests.{by_lt}
use Rattle.sight_sweep.specs.LeftOut.{is_set}
use Rattle.sight_sweep.proofs.Actives.{read_other}
use Rattle.sight_sweep.proofs.Telltales.{was_false}
use Rattle.sight_sweep.proofs.hiding.keep_covers.Goals as goal

pub loop-k-preserved : goal.loop-k-preserved
loop-k-preserved c = (
  λ i d lt. by_lt i c.loop-k.k
      (λ low. c.set.ensures.others (get_or c.args.covers.now i d).number (c.loop-k.invariant.0 i d low))
      (λ high. subst (λ b. is_set c.set.new.flags b.number ≡ true)
      (read_other c.args.covers.now c.loop-k.k i c.index-covers-k.result d c.loop-k-test.true high lt)
      c.set.ensures.own),
  λ n h. c.loop-k.invariant.1 n (was_false c.loop-k.kept c.set.new.flags n (c.set.ensures.others n) h),
)

pub returns-clause-covers : goal.returns-clause-covers
returns-clause-covers c k d lt = c.loop-k.invariant.0 k d (chain k (length c.args.covers.now) c.loop-k.k lt
    c.loop-k-test.false)
  where
    chain : (a b c : ℕ) → a < b → b ≤ c → a < c
    chain a b c h k = omega (arith, h, k)

pub returns-clause-others : goal.returns-clause-others
returns-clause-others c n h = c.loop-k.invariant.1 n h
