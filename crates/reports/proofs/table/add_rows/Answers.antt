use Rattle.std.proofs.Common.{◌∙◌, ap, length, arith}
use Rattle.dm_io.proofs.Pieces.{keeps-more, keeps-prefix}
use Rattle.report_spec.specs.Records.{record_bytes, records_bytes}
use Rattle.reports.proofs.RowByRow.{made, on_err-always, part}
use Rattle.reports.proofs.table.add_rows.Goals as goal

pub returns-in_err-more-clause-prefix : goal.returns-in_err-more-clause-prefix
returns-in_err-more-clause-prefix g c =
    on_err-always c.from_residual.result (part _ _ _ _ c.rows.invariant.bytes)

pub returns-in_err-add-clause-prefix : goal.returns-in_err-add-clause-prefix
returns-in_err-add-clause-prefix g c =
    let left = g.R.Rows.left in
    let form = c.args.writer.now.form in
    let row = c.next_row.new.row in
    let first = made (left c.rows.rows) (left c.next_row.new.self) c.in_ok-more.more row c.if-not-more.false
    c.in_ok-more.ensures in
    on_err-always c.from_residual-in_err-add.result
    (keeps-prefix _ _ _ _ c.rows.writer.bytes (record_bytes form row) (records_bytes form (left c.next_row.new.self))
    (rw first.0 at c.rows.invariant.bytes) (rw c.rows.invariant.form at c.in_err-add.ensures.prefix))

pub rows-preserved : goal.rows-preserved
rows-preserved g c =
    let left = g.R.Rows.left in
    let form = c.args.writer.now.form in
    let row = c.next_row.new.row in
    let first = made (left c.rows.rows) (left c.next_row.new.self) c.in_ok-more.more row c.if-not-more.false
    c.in_ok-more.ensures in
    record {
      form = c.in_ok-add.ensures.form ∙ c.rows.invariant.form;
      bytes =
          keeps-more _ _ _ _ c.rows.writer.bytes (record_bytes form row) (records_bytes form (left c.next_row.new.self))
          c.add.new.self.bytes (rw first.0 at c.rows.invariant.bytes)
          (rw c.rows.invariant.form at c.in_ok-add.ensures.all);
      faults_stay = c.in_ok-add.ensures.faults ∙ c.rows.invariant.faults_stay;
      counted = omega (arith, ap length first.0, c.rows.invariant.counted);
    }
