use Rattle.std.proofs.Common.{◌≡◌, ◌≤◌, ◌-◌, ◌+◌, ℕ, List, false, length, take}
use Rattle.dm_io.specs.Lines.{has_newline}
use Rattle.dm_io.specs.Reader.{bytes_read, limit_of, lines_read, saw_end, waiting}
use Rattle.dm_io.proofs.Skipped.{Skipped}
use Rattle.dm_io.proofs.line_reader.LineReader.next.Given as goal

abbrev pub invariant-pieces : goal.invariant-pieces
invariant-pieces g l =
    let source = g.S.Source in
    record {
      skipped : (gone : List ℕ) × Skipped l.fn.self l.self (source.left l.fn.source) (source.left l.source) l.long gone;
      within : l.seen ≤ length (waiting l.self);
      plain : has_newline (take l.seen (waiting l.self)) ≡ false;
      goes_on : saw_end l.self ≡ false;
      was_open : saw_end l.fn.self ≡ false;
      limit : limit_of l.self ≡ limit_of l.fn.self;
      number : lines_read l.self ≡ lines_read l.fn.self;
      faults_stay : source.faults l.source ≡ source.faults l.fn.source;
    }

abbrev pub decreases-pieces : goal.decreases-pieces
decreases-pieces g l = limit_of l.self - (bytes_read l.self + length (waiting l.self))
