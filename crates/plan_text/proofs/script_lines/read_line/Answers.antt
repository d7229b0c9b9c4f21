use Rattle.text_spec.specs.Words.{words_of}
use Rattle.plan_text.proofs.Shifts.{answer_has_shift}
use Rattle.plan_text.proofs.script_lines.read_line.Goals as goal

pub returns-clause-shift : goal.returns-clause-shift
returns-clause-shift c = answer_has_shift c.in_ok-word.word (words_of c.in-Some.rest.now) c.line.result c.line.ensures
