use Rattle.std.proofs.Common.{◌≡◌, ◌∙◌, ◌∷◌, [], List, ℕ, ap, codes, drop, map, subst}
use Rattle.std.specs.Fmt.{signed_decimal}
use Rattle.std.proofs.lemmas.Result.{on_err_weaker, on_ok_weaker}
use Rattle.dm_io.specs.Streams.{WritesPrefix, appended_to}
use Rattle.report_spec.specs.Records.{records_bytes, table_with_total}
use Rattle.report_spec.specs.Tables.{isovist_table, triangle_row}
use Rattle.reports.proofs.isovists.put_isovist.Goals as goal

pub returns-clause-all : goal.returns-clause-all
unfolding isovist_table
returns-clause-all g c =
    let sums : List (List ℕ) = signed_decimal c.args.seen.now.floor ∷ signed_decimal c.args.seen.now.ceil ∷ [] in
    let last : drop 1 c.make_sums.new.row ≡ sums = ap (drop 1) c.in_ok-make_sums.ensures in
    on_ok_weaker c.put_table_with_total.result
    (λ all. all ∙ ap (λ fields. appended_to (g.O.Sink.written c.args.out.now)
    (records_bytes c.args.form (table_with_total (codes "isovist") (map triangle_row c.triangles-triangles.result.now)
    fields))) last
    ∙ ap (λ triangles. appended_to (g.O.Sink.written c.args.out.now)
    (records_bytes c.args.form (table_with_total (codes "isovist") (map triangle_row triangles) sums)))
    c.triangles-triangles.ensures)
    c.put_table_with_total.ensures.all

pub returns-clause-prefix : goal.returns-clause-prefix
unfolding isovist_table
returns-clause-prefix g c =
    let sink = g.O.Sink in
    let sums : List (List ℕ) = signed_decimal c.args.seen.now.floor ∷ signed_decimal c.args.seen.now.ceil ∷ [] in
    let last : drop 1 c.make_sums.new.row ≡ sums = ap (drop 1) c.in_ok-make_sums.ensures in
    on_err_weaker c.put_table_with_total.result
    (λ prefix. subst (λ triangles. WritesPrefix (sink.written c.args.out.now)
    (sink.written c.put_table_with_total.new.out)
    (records_bytes c.args.form (table_with_total (codes "isovist") (map triangle_row triangles) sums)))
    c.triangles-triangles.ensures
    (subst (λ fields. WritesPrefix (sink.written c.args.out.now) (sink.written c.put_table_with_total.new.out)
    (records_bytes c.args.form (table_with_total (codes "isovist") (map triangle_row c.triangles-triangles.result.now)
    fields))) last prefix))
    c.put_table_with_total.ensures.prefix
