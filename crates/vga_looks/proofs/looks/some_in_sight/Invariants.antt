use Rattle.std.specs.Prelude.{◌≡◌, map}
use Rattle.std.proofs.Common.{take}
use Rattle.sight_sweep.specs.Told.{IsGapOf}
use Rattle.vga_looks.specs.Tables.{is_seen_later}
use Rattle.vga_looks.proofs.looks.some_in_sight.Given as goal

abbrev pub invariant-loop-k : goal.invariant-loop-k
invariant-loop-k l =
    (l.seen.items ≡ map (is_seen_later l.plan l.i) (take l.k l.numbers)) × IsGapOf l.view l.gap
