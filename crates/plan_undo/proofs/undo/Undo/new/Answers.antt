use Rattle.std.proofs.Common.{refl}
use Rattle.plan_undo.specs.Ways.{plans_of}
use Rattle.plan_undo.proofs.undo.Undo.new.Goals as goal

pub returns : goal.returns
unfolding plans_of
returns g c = rw (c.in_ok-past.ensures, c.in_ok-next.ensures) refl
