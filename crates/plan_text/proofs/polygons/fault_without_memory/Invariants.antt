use Rattle.std.proofs.Common.{◌≡◌, length, is_some}
use Rattle.text_spec.specs.Words.{words_of}
use Rattle.grammar_spec.specs.Arguments.{numbers_of}
use Rattle.plan_text.proofs.polygons.fault_without_memory.Given as goal

abbrev pub invariant-words : goal.invariant-words
invariant-words l = is_some (numbers_of (words_of l.rest)) ≡ is_some (numbers_of (words_of l.words))

abbrev pub decreases-words : goal.decreases-words
decreases-words l = length l.rest
