use Rattle.exact_geom.proofs.Along.{along_reduced}
use Rattle.isovist_core.proofs.triangles.point_at.Goals as goal

pub returns : goal.returns
returns c =
    rw (c.along.ensures.value, c.way_to.ensures.value, c.reduced.ensures.value)
    (along_reduced c.args.p c.args.heading.now.step c.args.hit.now c.requires.positive)
