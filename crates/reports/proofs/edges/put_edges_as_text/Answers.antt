use Rattle.std.proofs.Common.{◌≡◌, ◌∙◌, ap, codes, length, map, sym}
use Rattle.std.proofs.lemmas.List.{length-map}
use Rattle.std.proofs.lemmas.Result.{on_err_weaker, on_ok_weaker}
use Rattle.dm_io.specs.OutputBuffer.{WritesAndBuffers}
use Rattle.graph_spec.specs.Graphs.{edges_of}
use Rattle.options_spec.specs.declared.options.Form.TheVariants.{Text}
use Rattle.report_spec.specs.Records.{record_bytes, records_bytes, table}
use Rattle.report_spec.specs.Tables.{edge_row}
use Rattle.vga_grid.specs.Rows.{graph_of}
use Rattle.reports.specs.Rows.{end, head}
use Rattle.reports.proofs.InParts.{end_begun, end_put, head_begun, head_put, rows_begun, rows_put}
use Rattle.reports.proofs.RowByRow.{after_head, after_rows, on_err-always, part}
use Rattle.reports.proofs.edges.put_edges_as_text.Goals as goal

pub returns-in_err-put_record-clause-prefix : goal.returns-in_err-put_record-clause-prefix
returns-in_err-put_record-clause-prefix g c =
    let rows = map edge_row (edges_of (graph_of c.args.graph.now)) in
    on_err-always c.from_residual-in_err-put_record.result
    (head_begun _ _ Text (codes "edges") rows (rw c.in_ok-make_head.ensures at c.in_err-put_record.ensures.prefix))

pub returns-in_err-count-clause-prefix : goal.returns-in_err-count-clause-prefix
returns-in_err-count-clause-prefix g c =
    let rows = map edge_row (edges_of (graph_of c.args.graph.now)) in
    let begun =
    head_put _ _ Text (codes "edges") rows (rw c.in_ok-make_head.ensures at c.in_ok-put_record.ensures.all) in
    on_err-always c.from_residual-in_err-count.result
    (rows_begun _ _ _ _ Text rows begun c.in_err-count.ensures.prefix)

pub returns-in_err-make_end-clause-prefix : goal.returns-in_err-make_end-clause-prefix
returns-in_err-make_end-clause-prefix g c =
    let rows = map edge_row (edges_of (graph_of c.args.graph.now)) in
    let begun =
    head_put _ _ Text (codes "edges") rows (rw c.in_ok-make_head.ensures at c.in_ok-put_record.ensures.all) in
    on_err-always c.from_residual-in_err-make_end.result
    (part _ _ _ _ (rows_put _ _ _ _ Text rows begun c.in_ok-count.ensures.all))

pub returns-clause-all : goal.returns-clause-all
returns-clause-all g c =
    let edges = edges_of (graph_of c.args.graph.now) in
    let rows = map edge_row edges in
    let begun =
    head_put _ _ Text (codes "edges") rows (rw c.in_ok-make_head.ensures at c.in_ok-put_record.ensures.all) in
    let with_rows = rows_put _ _ _ _ Text rows begun c.in_ok-count.ensures.all in
    let count : c.in_ok-count.count ≡ length rows = c.in_ok-count.ensures.count ∙ sym (length-map edges edge_row) in
    on_ok_weaker c.put_record-2.result
    (λ put. end_put _ _ _ _ Text (length rows) with_rows (rw (c.in_ok-make_end.ensures, count) at put))
    c.put_record-2.ensures.all

pub returns-clause-prefix : goal.returns-clause-prefix
returns-clause-prefix g c =
    let edges = edges_of (graph_of c.args.graph.now) in
    let rows = map edge_row edges in
    let begun =
    head_put _ _ Text (codes "edges") rows (rw c.in_ok-make_head.ensures at c.in_ok-put_record.ensures.all) in
    let with_rows = rows_put _ _ _ _ Text rows begun c.in_ok-count.ensures.all in
    let count : c.in_ok-count.count ≡ length rows = c.in_ok-count.ensures.count ∙ sym (length-map edges edge_row) in
    on_err_weaker c.put_record-2.result
    (λ put. end_begun _ _ _ _ Text (length rows) with_rows (rw (c.in_ok-make_end.ensures, count) at put))
    c.put_record-2.ensures.prefix
