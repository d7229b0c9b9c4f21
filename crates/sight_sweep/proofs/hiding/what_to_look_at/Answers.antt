use Rattle.std.proofs.Common.{subst}
use Rattle.sight_sweep.specs.LeftOut.{is_set, AreLinesHidden, AreCornersHidden, AreCoversKept}
use Rattle.sight_sweep.proofs.Stations.{station_of}
use Rattle.sight_sweep.proofs.LeavingOut.{left_out_of}
use Rattle.sight_sweep.proofs.Telltales.{whole_of, untold_of}
use Rattle.sight_sweep.proofs.hiding.what_to_look_at.Goals as goal

pub returns-clause-left : goal.returns-clause-left
returns-clause-left c =
    let scene = c.args.table.now in
    let p = c.args.p in
    let covers = c.in_ok-covers.covers.items in
    let kept = c.in_ok-kept.kept.items in
    let shown = c.in_ok-shown.shown.items in
    let known = c.in_ok-covers.ensures in
    let own = subst (λ xs. AreCoversKept xs kept) c.deref-2.ensures.value c.in_ok-kept.ensures.covers in
    let lines = subst (λ xs. AreLinesHidden scene p xs kept) c.deref-2.ensures.value c.in_ok-kept.ensures.hidden in
    let corners = subst (λ xs. AreCornersHidden scene p covers xs shown) c.deref-6.ensures.value
    (subst (λ xs. AreCornersHidden scene p xs c.deref-6.result.now shown) c.deref-4.ensures.value
    c.in_ok-shown.ensures) in
    left_out_of scene p c.args.arc (is_set kept) (is_set shown)
    (station_of scene p c.count-count.ensures.of_plan c.requires.p_in)
    (whole_of scene p covers kept known own lines)
    (untold_of scene p covers kept shown known own corners)
