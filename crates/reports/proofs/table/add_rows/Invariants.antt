use Rattle.std.proofs.Common.{◌≡◌, ◌+◌, ◌++◌, length}
use Rattle.dm_io.specs.OutputBuffer.{WritesAndBuffers}
use Rattle.report_spec.specs.Records.{records_bytes}
use Rattle.reports.proofs.table.add_rows.Given as goal

abbrev pub invariant-rows : goal.invariant-rows
invariant-rows g l =
    let sink = g.O.Sink in
    let left = g.R.Rows.left in
    record {
      form : l.writer.form ≡ l.initial.writer.form;
      bytes : WritesAndBuffers (sink.written l.initial.out) (sink.written l.out)
          (l.initial.writer.bytes ++ records_bytes l.initial.writer.form (left l.initial.rows))
          (l.writer.bytes ++ records_bytes l.initial.writer.form (left l.rows));
      faults_stay : sink.faults l.out ≡ sink.faults l.initial.out;
      counted : l.count + length (left l.rows) ≡ length (left l.initial.rows);
    }

abbrev pub decreases-rows : goal.decreases-rows
decreases-rows g l = length (g.R.Rows.left l.rows)
