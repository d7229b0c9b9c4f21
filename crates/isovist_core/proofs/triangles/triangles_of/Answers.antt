use Rattle.std.proofs.Common.{refl}
use Rattle.std.proofs.lemmas.List.{map_more, take_all}
use Rattle.isovist_core.specs.Sums.{triangle_of_run}
use Rattle.isovist_core.proofs.triangles.triangles_of.Goals as goal

pub loop-run-preserved : goal.loop-run-preserved
loop-run-preserved c =
    let more = map_more (triangle_of_run c.args.scene.now c.args.p) c.args.runs.now c.loop-run.run-index c.run-item.result
    c.loop-run-test.true in
    rw (c.in_ok-push.ensures.items, c.triangle_of.ensures, c.loop-run.invariant, more, ← c.run-item.is) refl

pub returns : goal.returns
returns c =
    rw (c.loop-run.invariant, take_all c.loop-run.run-index c.args.runs.now c.loop-run-test.false) refl
