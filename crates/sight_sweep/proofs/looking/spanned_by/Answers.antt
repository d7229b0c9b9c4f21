use Rattle.std.proofs.Common.{◌≤◌, rules, sym, subst, length}
use Rattle.sight_spec.specs.Scene.{blockers_of_scene}
use Rattle.sight_sweep.specs.Actives.{IsActive}
use Rattle.sight_sweep.specs.LeftOut.{is_set}
use Rattle.sight_sweep.specs.Rounds.{spanned_so_far}
use Rattle.sight_sweep.proofs.Beginnings.{spanned_none, spanned_whole}
use Rattle.sight_sweep.proofs.looking.spanned_by.Goals as goal

pub loop-number-init : goal.loop-number-init
loop-number-init c = subst (IsActive c.args.table.now c.args.p (is_set c.args.kept.now) (spanned_so_far c.args.d 0))
    (sym c.in_ok-active.ensures) (spanned_none c.args.table.now c.args.p c.args.d (is_set c.args.kept.now))

pub loop-number-preserved : goal.loop-number-preserved
loop-number-preserved c = c.in_ok-put_if_spanned.ensures c.loop-number.invariant

pub returns : goal.returns
returns c =
    let end : length (blockers_of_scene c.args.table.now) ≤ c.loop-number.number = search rules in
    spanned_whole c.args.table.now c.args.p c.args.d (is_set c.args.kept.now) c.loop-number.number
    c.loop-number.active.items end
    c.loop-number.invariant
