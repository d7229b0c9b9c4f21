use Rattle.std.proofs.Common.{◌+◌, ◌-◌, length, ap, length-drop, arith}
use Rattle.dm_io.specs.Reader.{waiting}
use Rattle.dm_io.proofs.line_reader.LineReader.next_at_end.Goals as goal

pub invariant_of-self-2-clause-spent : goal.invariant_of-self-2-clause-spent
invariant_of-self-2-clause-spent c =
    let old = c.args.self.now in
    let new = c.show.new.self in
    λ _. omega (arith, ap length c.show.ensures.rest, length-drop new.start new.held.items, length-drop (c.len.result - old.start + 0) (waiting old), length-drop old.start old.held.items, c.len.ensures.value, new.ordered)
