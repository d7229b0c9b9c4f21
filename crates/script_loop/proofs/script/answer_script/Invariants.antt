use Rattle.std.proofs.Common.{◌≡◌, ◌-◌, ◌+◌, ◌≤◌, ℕ, List, length}
use Rattle.dm_io.specs.Reader.{bytes_read, limit_of, waiting}
use Rattle.script_loop.proofs.Reached.{Reached}
use Rattle.script_loop.proofs.script.answer_script.Given as goal

abbrev pub invariant-lines : goal.invariant-lines
invariant-lines g l =
    let left = g.S.Source.left in
    let written = g.O.Sink.written in
    let state = g.A.Answerer.state in
    record {
      reached : (bytes : List ℕ) × (lines : List (List ℕ))
          × Reached g.A.Answerer.step (state l.fn.answerer) (state l.answerer) l.reader (left l.fn.script) (left l.script) (written l.fn.out) (written l.out) l.refused bytes lines;
      limit : limit_of l.reader ≡ l.fn.limit;
      within : bytes_read l.reader + length (waiting l.reader) ≤ l.fn.limit;
      script_faults : g.S.Source.faults l.script ≡ g.S.Source.faults l.fn.script;
      out_faults : g.O.Sink.faults l.out ≡ g.O.Sink.faults l.fn.out;
    }

abbrev pub decreases-lines : goal.decreases-lines
decreases-lines g l = l.fn.limit - bytes_read l.reader
