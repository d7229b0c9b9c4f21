use Rattle.std.proofs.Common.{◌≡◌, ◌∙◌, ◌<◌, ◌≤◌, ℕ, arith, sym, subst, length}
use Rattle.std.specs.Prelude.{false}
use Rattle.front_laws.proofs.Tests.{by_lt}
use Rattle.sight_sweep.specs.LeftOut.{is_set}
use Rattle.sight_sweep.proofs.Leasts.{read_at}
use Rattle.sight_sweep.proofs.hiding.is_any_set.Goals as goal

pub loop-k-preserved : goal.loop-k-preserved
loop-k-preserved c i d lt = by_lt i c.loop-k.k
    (λ low. c.loop-k.invariant i d low)
    (λ high. let same : i ≡ c.loop-k.k = omega (arith, lt, high) in
    subst (λ n. is_set c.args.flags.now n ≡ false)
    (sym (read_at c.args.numbers.now i c.loop-k.k d c.loop-k-test.true same))
    (sym c.is_set.ensures ∙ c.if-is_set.false))

pub returns : goal.returns
returns c h k d lt = c.loop-k.invariant k d (chain k (length c.args.numbers.now) c.loop-k.k lt c.loop-k-test.false)
  where
    chain : (a b c : ℕ) → a < b → b ≤ c → a < c
    chain a b c h k = omega (arith, h, k)
