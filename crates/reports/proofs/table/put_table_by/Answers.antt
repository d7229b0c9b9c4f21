use Rattle.std.proofs.Common.{ap, option_map, subst}
use Rattle.std.proofs.lemmas.Result.{on_err_weaker}
use Rattle.dm_io.specs.Streams.{WritesPrefix}
use Rattle.report_spec.specs.Records.{records_bytes}
use Rattle.reports.specs.Rows.{table_by}
use Rattle.reports.proofs.table.put_table_by.Goals as goal

pub returns-clause-prefix : goal.returns-clause-prefix
returns-clause-prefix g c =
    let sink = g.O.Sink in
    let rows = table_by c.args.kind.now (g.R.Rows.left c.args.rows.now) (option_map (λ t. t.now) c.args.total) in
    on_err_weaker c.write_table.result
    (subst (λ form. WritesPrefix (sink.written c.args.out.now) (sink.written c.write_table.new.out)
    (records_bytes form rows))
    (ap (λ w. w.form) c.new-writer.ensures))
    c.write_table.ensures.prefix
