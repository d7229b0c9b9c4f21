use Rattle.std.specs.Prelude.{◌≡◌}
use Rattle.sight_sweep.specs.Told.{IsGapOf}
use Rattle.vga_looks.specs.Tables.{seen_later}
use Rattle.vga_looks.proofs.looks.later_in_sight.Given as goal

abbrev pub invariant-loop-earlier : goal.invariant-loop-earlier
invariant-loop-earlier l = l.row.items ≡ seen_later l.plan l.i l._earlier

abbrev pub invariant-loop-j : goal.invariant-loop-j
invariant-loop-j l = (l.row.items ≡ seen_later l.plan l.i l.j) × IsGapOf l.view l.gap
