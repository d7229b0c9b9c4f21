-- Records that gather before they are put: what a writer of the crate `csv` holds, and what waits in a form.
use Rattle.std.specs.Prelude.{◌≡◌, ℕ, List, ◌++◌, false, true}
use Rattle.std.specs.Global.{Vec}
use Rattle.csv.specs.declared.writer.Writer.{Writer}
use Rattle.csv.specs.Writing.{default_writer, fields_written, has_written, with_flexible, writer_pending, writer_setup, writer_under}
use Rattle.options_spec.specs.declared.options.Form.{Form}
use Rattle.options_spec.specs.declared.options.Form.TheVariants.{Text, Csv}

-- the bytes that the writer has written, some of which it still holds back
abbrev pub csv_bytes : Writer (Vec ℕ) → List ℕ
csv_bytes writer = (writer_under writer).items ++ writer_pending writer

-- it takes records of any lengths, and is inside none
pub record IsBetweenRecords (writer : Writer (Vec ℕ)) : Type 0 where
  pub setup : writer_setup writer ≡ with_flexible default_writer true
  pub no_fields : fields_written writer ≡ 0
  pub nothing_shown : has_written writer ≡ false

-- what waits, by the form: the text, or the records in csv form
abbrev pub waiting_in : Form → List ℕ → List ℕ → List ℕ
waiting_in Text text csv = text
waiting_in Csv text csv = csv

-- records in a form that wait for a sink
pub record Gathered : Type 0 where
  pub form : Form
  pub bytes : List ℕ
