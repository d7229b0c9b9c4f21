use Rattle.std.proofs.Common.{rules, ◌+◌, ◌<◌, length, ap, ◌∙◌, arith}
use Rattle.std.proofs.lemmas.Bool.Decides.{nat_tests}
use Rattle.std.proofs.lemmas.List.{nil_from_length, take_rest, take_all, drop_all}
use Rattle.text_spec.specs.Lines.{lines_of}
use Rattle.plan_text.proofs.FirstLine.{no_lines, line_found, last_line}
use Rattle.plan_text.proofs.words.next_line.Goals as goal

pub returns-then-is_empty-clause-none : goal.returns-then-is_empty-clause-none
returns-then-is_empty-clause-none c = ap lines_of (nil_from_length c.args.bytes.now (grind (arith, nat_tests))) ∙ no_lines

pub returns-in-Some-clause-line : goal.returns-in-Some-clause-line
returns-in-Some-clause-line c =
    rw (take_rest c.args.bytes.now (c.in-Some.end + 1)) (line_found c.args.bytes.now c.in-Some.end (search rules))

pub returns-in-None-clause-line : goal.returns-in-None-clause-line
returns-in-None-clause-line c =
    let bytes = c.args.bytes.now in
    let some : 0 < length bytes = grind (arith, nat_tests) in
    rw (c.split_at.ensures.front, c.split_at.ensures.back, take_all (length bytes) bytes (omega arith), drop_all (length bytes) bytes (omega arith), no_lines)
    (last_line bytes some (search rules))
