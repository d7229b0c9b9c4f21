use Rattle.std.proofs.Common.{ℕ, take}
use Rattle.std.specs.Prelude.{Bool, ◌&&◌, not}
use Rattle.front_laws.specs.Seen.{Seen}
use Rattle.sight_sweep.specs.Actives.{IsActive}
use Rattle.sight_sweep.specs.Rounds.{ends_among}
use Rattle.sight_sweep.proofs.round.take_all_ended.Given as goal

abbrev pub invariant-loop-k : goal.invariant-loop-k
invariant-loop-k l = (kept : ℕ → Bool) (test : ℕ → Seen → Bool) → IsActive l.table l.p kept test l.fn.active.items
    → IsActive l.table l.p kept (λ n s. test n s && not (ends_among l.p l.table.corners (take l.k l.group) s))
    l.active.items
