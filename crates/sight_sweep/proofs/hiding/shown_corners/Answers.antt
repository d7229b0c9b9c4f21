use Rattle.std.proofs.Common.{◌+◌, refl, sym, subst}
use Rattle.std.specs.Prelude.{true, false}
use Rattle.front_laws.proofs.Tests.{clash_to}
use Rattle.sight_sweep.specs.LeftOut.{AreCornerFlags}
use Rattle.sight_sweep.proofs.Telltales.{no_corner_flags, one_corner_flag}
use Rattle.sight_sweep.proofs.hiding.shown_corners.Goals.{in-None+in_ok-push-in-None, in-Some+in_ok-push-in-Some}
use Rattle.sight_sweep.proofs.hiding.shown_corners.Goals as goal

pub loop-corner-init : goal.loop-corner-init
loop-corner-init c = subst (AreCornerFlags c.args.table.now c.args.p c.args.covers.now c.args.kept.now 0)
    (sym c.in_ok-shown.ensures)
    (no_corner_flags c.args.table.now c.args.p c.args.covers.now c.args.kept.now)

pub loop-corner-preserved : goal.loop-corner-preserved
loop-corner-preserved c =
    let scene = c.args.table.now in
    let p = c.args.p in
    let covers = c.args.covers.now in
    let kept = c.args.kept.now in
    let corner = c.loop-corner.corner in
    let old = c.loop-corner.shown.items in
    elim c.match-cover_of_corner.branch [
      | in-None+in_ok-push-in-None w ↦
          subst (λ v. AreCornerFlags scene p covers kept (corner + 1) v.items) (sym w.shown-is)
          (subst (AreCornerFlags scene p covers kept (corner + 1)) (sym w.in_ok-push-in-None.ensures.pushed)
          (one_corner_flag scene p covers kept corner old true c.loop-corner.invariant (λ h. clash_to true refl h)))
      | in-Some+in_ok-push-in-Some w ↦
          subst (λ v. AreCornerFlags scene p covers kept (corner + 1) v.items) (sym w.shown-is)
          (subst (AreCornerFlags scene p covers kept (corner + 1)) (sym w.in_ok-push-in-Some.ensures.pushed)
          (one_corner_flag scene p covers kept corner old false c.loop-corner.invariant (λ h. w.in-Some.ensures)))
    ]

pub returns : goal.returns
returns c = c.loop-corner.invariant.hidden
