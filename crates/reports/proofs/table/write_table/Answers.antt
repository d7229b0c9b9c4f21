use Rattle.std.proofs.Common.{◌≡◌, ◌∙◌, [], ap, length, option_map}
use Rattle.std.proofs.lemmas.Result.{on_err_weaker, on_ok_weaker}
use Rattle.dm_io.proofs.Pieces.{keeps-all, keeps-prefix, keeps_all-prefix}
use Rattle.report_spec.specs.Records.{record_bytes, records_bytes}
use Rattle.reports.specs.Rows.{end, head, table_by, totals}
use Rattle.reports.proofs.RowByRow.{after_head, after_rows, after_total, begun, ended, headed, on_err-always, part, rowed, totalled}
use Rattle.reports.proofs.table.write_table.Goals as goal

pub returns-in_err-add-clause-prefix : goal.returns-in_err-add-clause-prefix
returns-in_err-add-clause-prefix g c =
    let old = g.O.Sink.written c.args.out.now in
    let form = c.args.writer.now.form in
    let kind = c.args.kind.now in
    let rows = g.R.Rows.left c.args.rows.now in
    let total = option_map (λ t. t.now) c.args.total in
    let whole = records_bytes form (table_by kind rows total) in
    on_err-always c.from_residual-in_err-add.result
    (keeps-prefix _ _ _ _ c.args.writer.now.bytes (record_bytes form (head kind)) (after_head form rows total)
    (begun old c.args.writer.now.bytes form kind rows total c.requires.empty)
    (rw c.in_ok-make_head.ensures at c.in_err-add.ensures.prefix))

pub returns-in_err-count-clause-prefix : goal.returns-in_err-count-clause-prefix
returns-in_err-count-clause-prefix g c =
    let old = g.O.Sink.written c.args.out.now in
    let form = c.args.writer.now.form in
    let kind = c.args.kind.now in
    let rows = g.R.Rows.left c.args.rows.now in
    let total = option_map (λ t. t.now) c.args.total in
    let whole = records_bytes form (table_by kind rows total) in
    let begun_with = headed old (g.O.Sink.written c.add.new.out) c.args.writer.now.bytes c.add.new.self.bytes form kind
    rows total
    c.make_head.new.row c.requires.empty c.in_ok-make_head.ensures c.in_ok-add.ensures.all in
    let same = c.in_ok-add.ensures.form in
    on_err-always c.from_residual-in_err-count.result
    (keeps-prefix _ _ _ _ c.add.new.self.bytes (records_bytes form rows) (after_rows form (length rows) total)
    begun_with
    (rw same at c.in_err-count.ensures.prefix))

pub returns-in_err-add_total-clause-prefix : goal.returns-in_err-add_total-clause-prefix
returns-in_err-add_total-clause-prefix g c =
    let old = g.O.Sink.written c.args.out.now in
    let form = c.args.writer.now.form in
    let kind = c.args.kind.now in
    let rows = g.R.Rows.left c.args.rows.now in
    let total = option_map (λ t. t.now) c.args.total in
    let whole = records_bytes form (table_by kind rows total) in
    let begun_with = headed old (g.O.Sink.written c.add.new.out) c.args.writer.now.bytes c.add.new.self.bytes form kind
    rows total
    c.make_head.new.row c.requires.empty c.in_ok-make_head.ensures c.in_ok-add.ensures.all in
    let same = c.in_ok-add.ensures.form in
    let with_rows = rowed old (g.O.Sink.written c.add.new.out) (g.O.Sink.written c.add_rows.new.out) whole
    c.add.new.self.bytes
    c.add_rows.new.writer.bytes form c.add.new.self.form rows total same begun_with c.in_ok-count.ensures.all in
    let same_rows = c.in_ok-count.ensures.form ∙ same in
    on_err-always c.from_residual-in_err-add_total.result
    (keeps-prefix _ _ _ _ c.add_rows.new.writer.bytes (records_bytes form (totals total))
    (after_total form (length rows)) with_rows
    (rw same_rows at c.in_err-add_total.ensures.prefix))

pub returns-in_err-make_end-clause-prefix : goal.returns-in_err-make_end-clause-prefix
returns-in_err-make_end-clause-prefix g c =
    let old = g.O.Sink.written c.args.out.now in
    let form = c.args.writer.now.form in
    let kind = c.args.kind.now in
    let rows = g.R.Rows.left c.args.rows.now in
    let total = option_map (λ t. t.now) c.args.total in
    let whole = records_bytes form (table_by kind rows total) in
    let begun_with = headed old (g.O.Sink.written c.add.new.out) c.args.writer.now.bytes c.add.new.self.bytes form kind
    rows total
    c.make_head.new.row c.requires.empty c.in_ok-make_head.ensures c.in_ok-add.ensures.all in
    let same = c.in_ok-add.ensures.form in
    let with_rows = rowed old (g.O.Sink.written c.add.new.out) (g.O.Sink.written c.add_rows.new.out) whole
    c.add.new.self.bytes
    c.add_rows.new.writer.bytes form c.add.new.self.form rows total same begun_with c.in_ok-count.ensures.all in
    let same_rows = c.in_ok-count.ensures.form ∙ same in
    let with_total = totalled old (g.O.Sink.written c.add_rows.new.out) (g.O.Sink.written c.add_total.new.out) whole
    c.add_rows.new.writer.bytes c.add_total.new.writer.bytes form c.add_rows.new.writer.form (length rows) total
    same_rows
    with_rows c.in_ok-add_total.ensures.all in
    let same_total = c.in_ok-add_total.ensures.form ∙ same_rows in
    on_err-always c.from_residual-in_err-make_end.result (part _ _ _ _ with_total)

pub returns-in_err-add-2-clause-prefix : goal.returns-in_err-add-2-clause-prefix
returns-in_err-add-2-clause-prefix g c =
    let old = g.O.Sink.written c.args.out.now in
    let form = c.args.writer.now.form in
    let kind = c.args.kind.now in
    let rows = g.R.Rows.left c.args.rows.now in
    let total = option_map (λ t. t.now) c.args.total in
    let whole = records_bytes form (table_by kind rows total) in
    let begun_with = headed old (g.O.Sink.written c.add.new.out) c.args.writer.now.bytes c.add.new.self.bytes form kind
    rows total
    c.make_head.new.row c.requires.empty c.in_ok-make_head.ensures c.in_ok-add.ensures.all in
    let same = c.in_ok-add.ensures.form in
    let with_rows = rowed old (g.O.Sink.written c.add.new.out) (g.O.Sink.written c.add_rows.new.out) whole
    c.add.new.self.bytes
    c.add_rows.new.writer.bytes form c.add.new.self.form rows total same begun_with c.in_ok-count.ensures.all in
    let same_rows = c.in_ok-count.ensures.form ∙ same in
    let with_total = totalled old (g.O.Sink.written c.add_rows.new.out) (g.O.Sink.written c.add_total.new.out) whole
    c.add_rows.new.writer.bytes c.add_total.new.writer.bytes form c.add_rows.new.writer.form (length rows) total
    same_rows
    with_rows c.in_ok-add_total.ensures.all in
    let same_total = c.in_ok-add_total.ensures.form ∙ same_rows in
    let last : c.make_end.new.row ≡ end (length rows) = c.in_ok-make_end.ensures ∙ ap end c.in_ok-count.ensures.count in
    on_err-always c.from_residual-in_err-add-2.result
    (keeps-prefix _ _ _ _ c.add_total.new.writer.bytes (record_bytes form (end (length rows))) [] with_total
    (rw (same_total, last) at c.in_err-add-2.ensures.prefix))

pub returns-clause-all : goal.returns-clause-all
returns-clause-all g c =
    let old = g.O.Sink.written c.args.out.now in
    let form = c.args.writer.now.form in
    let kind = c.args.kind.now in
    let rows = g.R.Rows.left c.args.rows.now in
    let total = option_map (λ t. t.now) c.args.total in
    let whole = records_bytes form (table_by kind rows total) in
    let begun_with = headed old (g.O.Sink.written c.add.new.out) c.args.writer.now.bytes c.add.new.self.bytes form kind
    rows total
    c.make_head.new.row c.requires.empty c.in_ok-make_head.ensures c.in_ok-add.ensures.all in
    let same = c.in_ok-add.ensures.form in
    let with_rows = rowed old (g.O.Sink.written c.add.new.out) (g.O.Sink.written c.add_rows.new.out) whole
    c.add.new.self.bytes
    c.add_rows.new.writer.bytes form c.add.new.self.form rows total same begun_with c.in_ok-count.ensures.all in
    let same_rows = c.in_ok-count.ensures.form ∙ same in
    let with_total = totalled old (g.O.Sink.written c.add_rows.new.out) (g.O.Sink.written c.add_total.new.out) whole
    c.add_rows.new.writer.bytes c.add_total.new.writer.bytes form c.add_rows.new.writer.form (length rows) total
    same_rows
    with_rows c.in_ok-add_total.ensures.all in
    let same_total = c.in_ok-add_total.ensures.form ∙ same_rows in
    let last : c.make_end.new.row ≡ end (length rows) = c.in_ok-make_end.ensures ∙ ap end c.in_ok-count.ensures.count in
    let done = ended old (g.O.Sink.written c.add_total.new.out) (g.O.Sink.written c.add-2.new.out) whole
    c.add_total.new.writer.bytes c.add-2.new.self.bytes form c.add_total.new.writer.form (length rows)
    c.make_end.new.row
    same_total last with_total c.in_ok-add-2.ensures.all in
    on_ok_weaker c.flush.result
    (keeps-all old (g.O.Sink.written c.add-2.new.out) (g.O.Sink.written c.flush.new.out) whole c.add-2.new.self.bytes
    done)
    c.flush.ensures.all

pub returns-clause-prefix : goal.returns-clause-prefix
returns-clause-prefix g c =
    let old = g.O.Sink.written c.args.out.now in
    let form = c.args.writer.now.form in
    let kind = c.args.kind.now in
    let rows = g.R.Rows.left c.args.rows.now in
    let total = option_map (λ t. t.now) c.args.total in
    let whole = records_bytes form (table_by kind rows total) in
    let begun_with = headed old (g.O.Sink.written c.add.new.out) c.args.writer.now.bytes c.add.new.self.bytes form kind
    rows total
    c.make_head.new.row c.requires.empty c.in_ok-make_head.ensures c.in_ok-add.ensures.all in
    let same = c.in_ok-add.ensures.form in
    let with_rows = rowed old (g.O.Sink.written c.add.new.out) (g.O.Sink.written c.add_rows.new.out) whole
    c.add.new.self.bytes
    c.add_rows.new.writer.bytes form c.add.new.self.form rows total same begun_with c.in_ok-count.ensures.all in
    let same_rows = c.in_ok-count.ensures.form ∙ same in
    let with_total = totalled old (g.O.Sink.written c.add_rows.new.out) (g.O.Sink.written c.add_total.new.out) whole
    c.add_rows.new.writer.bytes c.add_total.new.writer.bytes form c.add_rows.new.writer.form (length rows) total
    same_rows
    with_rows c.in_ok-add_total.ensures.all in
    let same_total = c.in_ok-add_total.ensures.form ∙ same_rows in
    let last : c.make_end.new.row ≡ end (length rows) = c.in_ok-make_end.ensures ∙ ap end c.in_ok-count.ensures.count in
    let done = ended old (g.O.Sink.written c.add_total.new.out) (g.O.Sink.written c.add-2.new.out) whole
    c.add_total.new.writer.bytes c.add-2.new.self.bytes form c.add_total.new.writer.form (length rows)
    c.make_end.new.row
    same_total last with_total c.in_ok-add-2.ensures.all in
    on_err_weaker c.flush.result
    (keeps_all-prefix old (g.O.Sink.written c.add-2.new.out) (g.O.Sink.written c.flush.new.out) whole
    c.add-2.new.self.bytes done)
    c.flush.ensures.prefix
