use Rattle.std.proofs.Common.{ℕ, take}
use Rattle.std.specs.Prelude.{Bool, ◌||◌}
use Rattle.plane_spec.specs.declared.Point.{Point}
use Rattle.front_laws.specs.Seen.{Seen}
use Rattle.sight_sweep.specs.Actives.{IsActive, SpansAll}
use Rattle.sight_sweep.specs.LeftOut.{is_set}
use Rattle.sight_sweep.specs.Rounds.{begins_among}
use Rattle.sight_sweep.proofs.round.put_all_begun.Given as goal

abbrev pub invariant-loop-k : goal.invariant-loop-k
invariant-loop-k l = (test : ℕ → Seen → Bool) (way : Point) → IsActive l.table l.p (is_set l.kept) test
    l.fn.active.items
    → SpansAll l.table l.p (is_set l.kept) test way
    → SpansAll l.table l.p (is_set l.kept) (λ n s. begins_among l.p l.table.corners l.group s) way
    → IsActive l.table l.p (is_set l.kept)
    (λ n s. test n s || begins_among l.p l.table.corners (take l.k l.group) s) l.active.items
