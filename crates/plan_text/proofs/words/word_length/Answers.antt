use Rattle.std.proofs.Common.{rules, sym}
use Rattle.plan_text.proofs.Places.{not_found}
use Rattle.plan_text.proofs.words.word_length.Goals as goal

pub returns-in-None-clause-value : goal.returns-in-None-clause-value
returns-in-None-clause-value c = sym (not_found _ _ (search rules))
