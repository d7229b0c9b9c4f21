use Rattle.std.proofs.Common.{◌∙◌, ap}
use Rattle.csv_laws.specs.Plain.{is_plain}
use Rattle.reports.proofs.PlainFields.{signed_plain}
use Rattle.reports.proofs.record.Record.signed.Goals as goal

pub word-requires : goal.word-requires
word-requires c = ap is_plain (c.as_bytes.ensures.value ∙ c.format.ensures.text) ∙ signed_plain _
