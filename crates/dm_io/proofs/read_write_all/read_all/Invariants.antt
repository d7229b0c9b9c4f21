use Rattle.std.proofs.Common.{◌≡◌, ◌≤◌, ◌-◌, ◌+◌, length}
use Rattle.dm_io.specs.Streams.{prepended_to}
use Rattle.dm_io.proofs.read_write_all.read_all.Given as goal

abbrev pub invariant-chunks : goal.invariant-chunks
invariant-chunks g l =
    let source = g.S.Source in
    record {
      within : length l.all.items ≤ l.limit + 1;
      taken : source.left l.fn.source ≡ prepended_to l.all.items (source.left l.source);
      faults_stay : source.faults l.source ≡ source.faults l.fn.source;
    }

abbrev pub decreases-chunks : goal.decreases-chunks
decreases-chunks g l = l.limit + 1 - length l.all.items
