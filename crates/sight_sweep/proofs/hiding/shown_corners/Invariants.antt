use Rattle.sight_sweep.specs.LeftOut.{AreCornerFlags}
use Rattle.sight_sweep.proofs.hiding.shown_corners.Given as goal

abbrev pub invariant-loop-corner : goal.invariant-loop-corner
invariant-loop-corner l = AreCornerFlags l.table l.p l.covers l.kept l.corner l.shown.items
