use Rattle.std.proofs.Common.{◌∙◌, ap, subst}
use Rattle.std.proofs.lemmas.Result.{on_err_weaker, on_ok_weaker}
use Rattle.dm_io.specs.Streams.{WritesPrefix, appended_to}
use Rattle.options_spec.specs.declared.options.Form.TheVariants.{Csv}
use Rattle.report_spec.specs.Records.{records_bytes}
use Rattle.report_spec.specs.Tables.{edges_table}
use Rattle.reports.proofs.edges.put_edges_as_csv.Goals as goal

pub returns-clause-all : goal.returns-clause-all
returns-clause-all g c =
    on_ok_weaker c.put_table.result
    (λ all. all ∙ ap (λ edges. appended_to (g.O.Sink.written c.args.out.now) (records_bytes Csv (edges_table edges)))
    c.edges.ensures)
    c.put_table.ensures.all

pub returns-clause-prefix : goal.returns-clause-prefix
returns-clause-prefix g c =
    let sink = g.O.Sink in
    on_err_weaker c.put_table.result
    (subst (λ edges. WritesPrefix (sink.written c.args.out.now) (sink.written c.put_table.new.out)
    (records_bytes Csv (edges_table edges))) c.edges.ensures)
    c.put_table.ensures.prefix
