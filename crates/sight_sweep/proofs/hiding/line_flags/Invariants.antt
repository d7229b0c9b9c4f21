use Rattle.sight_sweep.specs.LeftOut.{AreLinesHidden}
use Rattle.sight_sweep.proofs.hiding.line_flags.Given as goal

abbrev pub invariant-loop-pair : goal.invariant-loop-pair
invariant-loop-pair l = AreLinesHidden l.table l.p l.covers l.kept.items
