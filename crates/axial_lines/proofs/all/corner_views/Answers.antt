use Rattle.std.proofs.Common.{◌≡◌, subst}
use Rattle.std.specs.Prelude.{IfOk}
use Rattle.axial_lines.specs.Looks.{HasCountedUpTo, more_by}
use Rattle.axial_lines.proofs.CornerPoints.{as_many}
use Rattle.axial_lines.proofs.all.corner_views.Goals as goal

pub returns-clause-counted : goal.returns-clause-counted
returns-clause-counted c =
    subst (λ n. IfOk c.by_looks.result (λ outlooks. c.by_looks.new.steps ≡ more_by n c.args.steps.now))
    (as_many c.args.scene.now.corners c.in_ok-ends.ends.items c.in_ok-ends.ensures.corners) c.by_looks.ensures.counted

pub returns-clause-at_most : goal.returns-clause-at_most
returns-clause-at_most c =
    subst (λ n. HasCountedUpTo n c.args.steps.now c.by_looks.new.steps)
    (as_many c.args.scene.now.corners c.in_ok-ends.ends.items c.in_ok-ends.ensures.corners) c.by_looks.ensures.at_most
