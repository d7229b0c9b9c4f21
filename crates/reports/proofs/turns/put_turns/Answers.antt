use Rattle.std.proofs.Common.{◌≡◌, ◌∙◌, ap, codes, drop, map, subst}
use Rattle.std.specs.List.{enumerate_from}
use Rattle.std.proofs.lemmas.Result.{on_err_weaker, on_ok_weaker}
use Rattle.dm_io.specs.Streams.{WritesPrefix, appended_to}
use Rattle.report_spec.specs.Records.{records_bytes, table_with_total}
use Rattle.report_spec.specs.Tables.{turn_row, turn_totals, turns_table}
use Rattle.reports.proofs.turns.put_turns.Goals as goal

pub returns-clause-all : goal.returns-clause-all
unfolding turns_table
returns-clause-all g c =
    let last : drop 1 c.make_totals.new.row ≡ turn_totals c.args.depths.now = ap (drop 1) c.in_ok-make_totals.ensures in
    on_ok_weaker c.put_table_with_total.result
    (λ all. all ∙ ap (λ fields. appended_to (g.O.Sink.written c.args.out.now)
    (records_bytes c.args.form (table_with_total (codes "turns") (map turn_row (enumerate_from 0 c.args.depths.now))
    fields))) last)
    c.put_table_with_total.ensures.all

pub returns-clause-prefix : goal.returns-clause-prefix
unfolding turns_table
returns-clause-prefix g c =
    let sink = g.O.Sink in
    let last : drop 1 c.make_totals.new.row ≡ turn_totals c.args.depths.now = ap (drop 1) c.in_ok-make_totals.ensures in
    on_err_weaker c.put_table_with_total.result
    (subst (λ fields. WritesPrefix (sink.written c.args.out.now) (sink.written c.put_table_with_total.new.out)
    (records_bytes c.args.form (table_with_total (codes "turns") (map turn_row (enumerate_from 0 c.args.depths.now))
    fields))) last)
    c.put_table_with_total.ensures.prefix
