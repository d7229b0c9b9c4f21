use Rattle.std.proofs.Common.{◌∙◌, ap}
use Rattle.csv_laws.specs.Plain.{is_plain}
use Rattle.reports.proofs.PlainFields.{fraction_plain}
use Rattle.reports.proofs.record.Record.fraction.Goals as goal

pub word-requires : goal.word-requires
word-requires c = ap is_plain (c.deref.ensures.0 ∙ c.fraction_text.ensures) ∙ fraction_plain c.args.f
