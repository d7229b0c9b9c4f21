use Rattle.std.proofs.Common.{◌∙◌, ap}
use Rattle.csv_laws.specs.Plain.{is_plain}
use Rattle.csv_laws.proofs.Plain.{name_plain}
use Rattle.reports.proofs.record.Record.name.Goals as goal

pub word-requires : goal.word-requires
word-requires c = ap is_plain c.bytes.ensures.value ∙ name_plain c.args.name.now c.bytes.ensures.named
