use Rattle.std.proofs.Common.{sym, ◌∙◌}
use Rattle.vga_fill.proofs.GridRuns.{run_is_clean}
use Rattle.vga_fill.proofs.runs.misses_run.Goals as goal

pub returns : goal.returns
returns c = λ is.
    let beside = rw (c.place.ensures.place, c.place-2.ensures.place, c.place-3.ensures.place) at c.is_beside_both.ensures in
    run_is_clean c.args.sights.now.plan.value.grid c.requires.rises c.args.boxes c.args.row c.args.from c.args.last c.requires.later c.requires.order c.requires.within
    (sym beside ∙ is)
