-- A reader of lines has read the lines of what was taken: at the beginning, after a line, and where it ends.
use Rattle.std.proofs.Common.{◌≡◌, ◌⊎◌, inl, inr, ◌<◌, ◌≤◌, ◌+◌, ◌-◌, ◌^◌, ℕ, min, true, false, List, [], ◌∷◌, ◌++◌, length, length-append, Option, refl, ap, sym, subst, ◌∙◌, append_assoc, append-nil, arith}
use Rattle.std.specs.List.{slice_split}
use Rattle.std.proofs.lemmas.Bool.{cases_Bool, false≢true}
use Rattle.text_spec.specs.Lines.{is_newline, lines_of, whole_lines_of, without_last}
use Rattle.dm_io.specs.Lines.{has_newline}
use Rattle.dm_io.specs.LinesRead.{AreLines, HasRead}
use Rattle.dm_io.specs.Reader.{Cut, Last, LineRead, NothingAhead, Stopped, ahead, bytes_read, lines_read, saw_end, waiting}
use Rattle.dm_io.specs.Streams.{IsPrefix, IsIfKnown, prepended_to}
use Rattle.dm_io.specs.declared.line_reader.LineReader.{LineReader}
use Rattle.dm_io.proofs.LinesOf.{lines_of-cut, lines_of-last, lines_of-nil, split-cut, split-plain, split-some}
use Rattle.dm_io.proofs.Known.{prepended_to-more, prepended_to-nothing}

-- ---- the whole lines of some bytes

keeps-first : (line : List ℕ) (parts : List (List ℕ)) (first : List ℕ) (rest : List (List ℕ)) → parts ≡ first ∷ rest
    → without_last (line ∷ parts) ≡ line ∷ without_last parts
unfolding without_last
keeps-first line parts first rest e = rw e refl

-- a line, its newline and then other bytes
pub whole_lines_of-cut : (line rest : List ℕ) → has_newline line ≡ false
    → whole_lines_of (line ++ 10 ∷ rest) ≡ line ∷ whole_lines_of rest
whole_lines_of-cut line rest plain =
    let more = split-some rest in
    ap without_last (split-cut line rest plain) ∙ keeps-first line (slice_split is_newline rest) more.0 more.1 more.2

one-part : (part : List ℕ) → without_last (part ∷ []) ≡ []
unfolding without_last
one-part part = refl

-- no line ends among the bytes
pub whole_lines_of-plain : (part : List ℕ) → has_newline part ≡ false → whole_lines_of part ≡ []
whole_lines_of-plain part plain = ap without_last (split-plain part plain) ∙ one-part part

-- ---- bytes that are lines, each with its newline

pub no_lines : AreLines [] []
no_lines = record { all = λ rest. refl; whole = λ rest. refl }

one_more : (bytes line rest : List ℕ) → (bytes ++ (line ++ 10 ∷ [])) ++ rest ≡ bytes ++ (line ++ 10 ∷ rest)
one_more bytes line rest =
    append_assoc bytes (line ++ 10 ∷ []) rest ∙ ap (λ b. bytes ++ b) (append_assoc line (10 ∷ []) rest)

-- a line more
pub line_more : (bytes : List ℕ) (lines : List (List ℕ)) (line : List ℕ) → AreLines bytes lines → has_newline line ≡ false
    → AreLines (bytes ++ (line ++ 10 ∷ [])) (lines ++ line ∷ [])
line_more bytes lines line are plain = record {
  all = λ rest.
      ap lines_of (one_more bytes line rest) ∙ are.all (line ++ 10 ∷ rest) ∙ ap (λ l. lines ++ l) (lines_of-cut line rest plain)
      ∙ sym (append_assoc lines (line ∷ []) (lines_of rest));
  whole = λ rest.
      ap whole_lines_of (one_more bytes line rest) ∙ are.whole (line ++ 10 ∷ rest)
      ∙ ap (λ l. lines ++ l) (whole_lines_of-cut line rest plain) ∙ sym (append_assoc lines (line ∷ []) (whole_lines_of rest));
}

-- and then a last line without a newline
last_more : (bytes : List ℕ) (lines : List (List ℕ)) (line : List ℕ) → AreLines bytes lines → 0 < length line
    → has_newline line ≡ false → lines_of (bytes ++ line) ≡ lines ++ line ∷ []
last_more bytes lines line are some plain = are.all line ∙ ap (λ l. lines ++ l) (lines_of-last line some plain)

-- and then nothing
nothing_more : (bytes : List ℕ) (lines : List (List ℕ)) → AreLines bytes lines → lines_of bytes ≡ lines
nothing_more bytes lines are =
    ap lines_of (sym (append-nil bytes)) ∙ are.all [] ∙ ap (λ l. lines ++ l) lines_of-nil ∙ append-nil lines

-- and then a part of a line
part_more : (bytes : List ℕ) (lines : List (List ℕ)) (part : List ℕ) → AreLines bytes lines → has_newline part ≡ false
    → whole_lines_of (bytes ++ part) ≡ lines
part_more bytes lines part are plain =
    are.whole part ∙ ap (λ l. lines ++ l) (whole_lines_of-plain part plain) ∙ append-nil lines

-- ---- what a reader has read

-- before the first line
pub has_read-start : (reader : LineReader) (source : Option (List ℕ)) → waiting reader ≡ [] → lines_read reader ≡ 0
    → bytes_read reader ≡ 0 → saw_end reader ≡ false → HasRead reader source source [] []
has_read-start reader source none number count open' = record {
  taken = prepended_to-nothing source ∙ ap (λ w. prepended_to w source) (sym none) ∙ prepended_to-nothing (ahead reader source);
  number = number;
  count = count;
  few = omega arith;
  goes_on = λ _. no_lines;
  ended = λ e. absurd (false≢true (sym open' ∙ e));
}

-- after one line more
pub has_read-next : (old new : LineReader) (source middle left : Option (List ℕ)) (bytes : List ℕ) (lines : List (List ℕ))
    (line : List ℕ) → HasRead old source middle bytes lines → LineRead old new middle left line
    → lines_read new ≡ min (lines_read old + 1) (2 ^ 64 - 1) → length lines < 2 ^ 64 - 1
    → (more : List ℕ) × HasRead new source left more (lines ++ line ∷ [])
has_read-next old new source middle left bytes lines line r reads counted low = by reads.ends
  where
    number_is : lines_read new ≡ length (lines ++ line ∷ [])
    number_is = omega (arith, counted, r.number, low, length-append lines (line ∷ []))

    was : AreLines bytes lines
    was = r.goes_on reads.was_open

    by : Cut old new middle left line ⊎ Last old new middle left line
        → (more : List ℕ) × HasRead new source left more (lines ++ line ∷ [])
    by (inl cut) = (
      bytes ++ (line ++ 10 ∷ []),
      record {
        taken = r.taken ∙ ap (prepended_to bytes) cut.bytes ∙ prepended_to-more bytes (line ++ 10 ∷ []) (ahead new left);
        number = number_is;
        count = omega (arith, cut.counted, r.count, length-append bytes (line ++ 10 ∷ []), length-append line (10 ∷ []));
        few = omega (arith, r.few, length-append bytes (line ++ 10 ∷ []), length-append line (10 ∷ []), length-append lines (line ∷ []));
        goes_on = λ _. line_more bytes lines line was reads.plain;
        ended = λ e. absurd (false≢true (sym cut.goes_on ∙ e));
      },
    )
    by (inr last) = (
      bytes ++ line,
      record {
        taken =
            r.taken
            ∙ ap (prepended_to bytes) (last.bytes ∙ ap (prepended_to line) (prepended_to-nothing left ∙ ap (λ w. prepended_to w left) (sym last.nothing_waits)))
            ∙ prepended_to-more bytes line (ahead new left);
        number = number_is;
        count = omega (arith, last.counted, r.count, length-append bytes line);
        few = omega (arith, r.few, last.some, length-append bytes line, length-append lines (line ∷ []));
        goes_on = λ e. absurd (false≢true (sym e ∙ last.ended));
        ended = λ _. (last_more bytes lines line was last.some reads.plain, last.nothing_waits, last.nothing_left);
      },
    )

-- at the end: all was read, and the lines are those of all bytes
pub has_read-end : (old new : LineReader) (source middle left : Option (List ℕ)) (bytes : List ℕ) (lines : List (List ℕ))
    → HasRead old source middle bytes lines → NothingAhead old new middle left
    → IsPrefix source bytes left × IsIfKnown [] middle × (lines_of bytes ≡ lines)
has_read-end old new source middle left bytes lines r nothing =
    let taken =
    r.taken ∙ ap (λ w. prepended_to bytes (prepended_to w middle)) nothing.nothing_waited
    ∙ ap (prepended_to bytes) (sym (prepended_to-nothing middle) ∙ sym nothing.nothing_taken) in
    elim (cases_Bool (saw_end old)) [
      | inl yes' ↦ (taken, (r.ended yes').2, (r.ended yes').0)
      | inr no' ↦ (taken, subst (λ rest. IsIfKnown [] rest) nothing.nothing_taken (nothing.nothing_left no'), nothing_more bytes lines (r.goes_on no'))
    ]

-- where no whole line came: the lines are the whole ones of what was taken
pub has_read-part : (old new : LineReader) (source middle left : Option (List ℕ)) (bytes : List ℕ) (lines : List (List ℕ))
    (part : List ℕ) → HasRead old source middle bytes lines → Stopped old new middle left part
    → IsPrefix source (bytes ++ part) left × (whole_lines_of (bytes ++ part) ≡ lines)
has_read-part old new source middle left bytes lines part r stopped = (
  r.taken ∙ ap (prepended_to bytes) stopped.taken ∙ prepended_to-more bytes part left,
  part_more bytes lines part (r.goes_on stopped.was_open) stopped.plain,
)
