use Rattle.std.proofs.Common.{◌≡◌, ◌+◌, ◌≤◌, length}
use Rattle.text_spec.specs.Words.{words_of}
use Rattle.plan_text.proofs.words.count_words.Given as goal

abbrev pub invariant-words : goal.invariant-words
invariant-words l = (l.count + length (words_of l.rest) ≡ length (words_of l.bytes)) × (l.count + length l.rest ≤ length l.bytes)

abbrev pub decreases-words : goal.decreases-words
decreases-words l = length l.rest
