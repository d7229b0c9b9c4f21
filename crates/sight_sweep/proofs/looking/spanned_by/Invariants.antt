use Rattle.sight_sweep.specs.Actives.{IsActive}
use Rattle.sight_sweep.specs.LeftOut.{is_set}
use Rattle.sight_sweep.specs.Rounds.{spanned_so_far}
use Rattle.sight_sweep.proofs.looking.spanned_by.Given as goal

abbrev pub invariant-loop-number : goal.invariant-loop-number
invariant-loop-number l = IsActive l.table l.p (is_set l.kept) (spanned_so_far l.d l.number) l.active.items
