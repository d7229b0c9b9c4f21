use Rattle.std.proofs.Common.{◌≡◌, false, take}
use Rattle.dm_io.specs.Lines.{has_newline}
use Rattle.dm_io.proofs.lines.newline_after.Given as goal

abbrev pub invariant-loop-i : goal.invariant-loop-i
invariant-loop-i l = has_newline (take l.i l.bytes) ≡ false
