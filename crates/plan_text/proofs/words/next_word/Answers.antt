use Rattle.std.proofs.Common.{rules}
use Rattle.plan_text.proofs.FirstWord.{first_word, no_words}
use Rattle.plan_text.proofs.words.next_word.Goals as goal

pub returns-in_err-start-clause-none : goal.returns-in_err-start-clause-none
returns-in_err-start-clause-none c = let e = no_words c.args.bytes.now (search rules) in search rules

pub returns-clause-word : goal.returns-clause-word
returns-clause-word c =
    let w = first_word c.args.bytes.now _ _ _ (search rules) c.split_at.ensures.back c.word_length.ensures.value in
    rw (c.split_at-2.ensures.front, c.split_at-2.ensures.back) w.0

pub returns-clause-shorter : goal.returns-clause-shorter
returns-clause-shorter c =
    let w = first_word c.args.bytes.now _ _ _ (search rules) c.split_at.ensures.back c.word_length.ensures.value in
    rw c.split_at-2.ensures.back w.1
