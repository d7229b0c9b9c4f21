use Rattle.std.proofs.Common.{arith, sym, subst}
use Rattle.std.specs.Prelude.{All}
use Rattle.sight_sweep.specs.Actives.{IsOf}
use Rattle.sight_sweep.proofs.covers.covers_of.Goals as goal

pub loop-k-init : goal.loop-k-init
loop-k-init c = subst (All (IsOf c.args.table.now c.args.p)) (sym c.in_ok-covers.ensures)
    (λ i d lt. absurd (omega (arith, lt)))

pub loop-k-preserved : goal.loop-k-preserved
loop-k-preserved c = c.in_ok-push_cover-2.ensures (c.in_ok-push_cover.ensures c.loop-k.invariant)
