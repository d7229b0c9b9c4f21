use Rattle.std.proofs.Common.{◌≡◌, ◌∙◌, ◌<◌, ◌≤◌, ℕ, arith, sym, subst, length}
use Rattle.std.specs.Prelude.{true}
use Rattle.front_laws.proofs.Tests.{by_lt}
use Rattle.sight_sweep.specs.Actives.{first_of}
use Rattle.sight_sweep.specs.Events.{way_at, corner_of}
use Rattle.sight_sweep.specs.Rounds.{is_past}
use Rattle.sight_sweep.proofs.Leasts.{read_at}
use Rattle.sight_sweep.proofs.round.are_past.Goals as goal

pub loop-k-preserved : goal.loop-k-preserved
loop-k-preserved c i d lt = by_lt i c.loop-k.k
    (λ low. c.loop-k.invariant i d low)
    (λ high. let same : i ≡ c.loop-k.k = omega (arith, lt, high) in
    subst (λ e. is_past (first_of c.args.active.now) (way_at c.args.p c.args.table.now.corners (corner_of e)) ≡ true)
    (sym (read_at c.args.group.now i c.loop-k.k d c.loop-k-test.true same))
    (subst (λ n. is_past (first_of c.args.active.now) (way_at c.args.p c.args.table.now.corners n) ≡ true)
    c.corner_at.ensures
    (subst (λ v. is_past (first_of c.args.active.now) v ≡ true) c.way.ensures.way
    (sym c.is_past.ensures ∙ c.if-not-is_past.false))))

pub returns : goal.returns
returns c h k d lt = c.loop-k.invariant k d (chain k (length c.args.group.now) c.loop-k.k lt c.loop-k-test.false)
  where
    chain : (a b c : ℕ) → a < b → b ≤ c → a < c
    chain a b c h k = omega (arith, h, k)
