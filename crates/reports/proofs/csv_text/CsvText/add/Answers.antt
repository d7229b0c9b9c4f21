use Rattle.std.proofs.Common.{◌≢◌, ◌∙◌, ◌++◌, ap}
use Rattle.csv.specs.Writing.{writer_setup}
use Rattle.csv.specs.declared.writer.QuoteStyle.TheVariants as style
use Rattle.reports.specs.Gathered.{csv_bytes}
use Rattle.reports.proofs.CsvRecords.{written}
use Rattle.reports.proofs.csv_text.CsvText.add.Goals.{in-Ok, in-Err}
use Rattle.reports.proofs.csv_text.CsvText.add.Goals as goal

pub returns : goal.returns
returns c =
    let kept = c.self.invariant in
    let plain : (writer_setup c.self.inside.writer).style ≢ style.NonNumeric = rw (kept.setup) (λ e. cc e) in
    elim c.match-write_byte_record.branch [
      | in-Ok w ↦
          let more = w.in-Ok.ensures.bytes kept.no_fields kept.nothing_shown plain in
          let text = rw (kept.setup, c.row.ensures.fields) at more in
          rw (w.result-is, w.self-is, ← c.self.view_is)
          (text ∙ ap (λ t. csv_bytes c.self.inside.writer ++ t) (written c.args.row.now c.requires c.row.ensures.plain))
      | in-Err w ↦ rw w.result-is tt
    ]
