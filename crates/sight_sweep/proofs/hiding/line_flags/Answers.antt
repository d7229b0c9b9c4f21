use Rattle.std.proofs.Common.{sym, subst}
use Rattle.sight_sweep.specs.LeftOut.{AreLinesHidden}
use Rattle.sight_sweep.proofs.Telltales.{all_lines_kept}
use Rattle.sight_sweep.proofs.hiding.line_flags.Goals as goal

pub loop-pair-init : goal.loop-pair-init
loop-pair-init c = subst (AreLinesHidden c.args.table.now c.args.p c.args.covers.now) (sym c.in_ok-kept.ensures)
    (all_lines_kept c.args.table.now c.args.p c.args.covers.now _)
