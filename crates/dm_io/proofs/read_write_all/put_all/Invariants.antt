use Rattle.std.proofs.Common.{◌≡◌, ◌≤◌, ◌-◌, length, take}
use Rattle.dm_io.specs.Streams.{appended_to}
use Rattle.dm_io.proofs.read_write_all.put_all.Given as goal

abbrev pub invariant-loop-done : goal.invariant-loop-done
invariant-loop-done g l =
    let sink = g.O.Sink in
    record {
      within : l.done ≤ length l.bytes;
      put : sink.written l.sink ≡ appended_to (sink.written l.fn.sink) (take l.done l.bytes);
      faults_stay : sink.faults l.sink ≡ sink.faults l.fn.sink;
    }

abbrev pub decreases-loop-done : goal.decreases-loop-done
decreases-loop-done g l = length l.bytes - l.done
