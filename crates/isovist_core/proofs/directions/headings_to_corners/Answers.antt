use Rattle.isovist_core.proofs.Lists.{vectors_more, vectors_all}
use Rattle.isovist_core.proofs.directions.headings_to_corners.Goals as goal

pub loop-corner-preserved : goal.loop-corner-preserved
loop-corner-preserved c =
    rw (c.in_ok-put_heading.ensures, c.loop-corner.invariant)
    (vectors_more c.args.p c.corners-corners.result.now c.loop-corner.corner-index _ c.loop-corner-test.true)

pub returns-clause-vectors : goal.returns-clause-vectors
returns-clause-vectors c =
    rw c.loop-corner.invariant
    (vectors_all c.args.scene.now c.args.p c.corners-corners.result.now c.loop-corner.corner-index
    c.loop-corner-test.false c.corners-corners.ensures.corners)
