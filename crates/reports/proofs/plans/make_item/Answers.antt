use Rattle.std.proofs.Common.{◌∙◌, ap}
use Rattle.csv_laws.specs.Plain.{is_plain}
use Rattle.grammar_spec.specs.PlanText.{word_of_item}
use Rattle.reports.proofs.PlainFields.{keyword_plain}
use Rattle.reports.proofs.plans.make_item.Goals as goal

pub word-requires : goal.word-requires
word-requires c = ap is_plain c.keyword.ensures ∙ keyword_plain (word_of_item c.args.item.now)
