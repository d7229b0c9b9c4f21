use Rattle.std.proofs.Common.{ℕ}
use Rattle.std.specs.Prelude.{Bool}
use Rattle.front_laws.specs.Seen.{Seen}
use Rattle.sight_sweep.specs.Actives.{IsActive}
use Rattle.sight_sweep.specs.Events.{way_at}
use Rattle.sight_sweep.proofs.Groups.{ended_so_far}
use Rattle.sight_sweep.proofs.round.take_ended.Given as goal

abbrev pub invariant-loop-k : goal.invariant-loop-k
invariant-loop-k l = (kept : ℕ → Bool) (test : ℕ → Seen → Bool) → IsActive l.table l.p kept test l.fn.active.items
    → IsActive l.table l.p kept (ended_so_far (way_at l.p l.table.corners l.corner) l.k l.numbers test) l.active.items
