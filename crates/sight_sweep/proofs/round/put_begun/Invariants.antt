use Rattle.std.proofs.Common.{ℕ}
use Rattle.std.specs.Prelude.{Bool}
use Rattle.plane_spec.specs.declared.Point.{Point}
use Rattle.plane_spec.specs.Vectors.{same_point}
use Rattle.front_laws.specs.Seen.{Seen}
use Rattle.sight_sweep.specs.Actives.{IsActive, SpansAll}
use Rattle.sight_sweep.specs.Events.{way_at}
use Rattle.sight_sweep.specs.LeftOut.{is_set}
use Rattle.sight_sweep.proofs.Groups.{begun_so_far}
use Rattle.sight_sweep.proofs.round.put_begun.Given as goal

abbrev pub invariant-loop-k : goal.invariant-loop-k
invariant-loop-k l = (test : ℕ → Seen → Bool) (way : Point)
    → IsActive l.table l.p (is_set l.kept) test l.fn.active.items
    → SpansAll l.table l.p (is_set l.kept) test way
    → SpansAll l.table l.p (is_set l.kept) (λ n s. same_point s.from (way_at l.p l.table.corners l.corner)) way
    → IsActive l.table l.p (is_set l.kept)
    (begun_so_far (way_at l.p l.table.corners l.corner) l.k l.numbers test) l.active.items
