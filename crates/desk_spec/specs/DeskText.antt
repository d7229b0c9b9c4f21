-- The lines of a script at a desk: a few of its own, and those of any script that change the plan or ask for it.
use Rattle.std.specs.Prelude.{ℕ, List, [], ◌&&◌, false, drop, get_or, Option, Some, None, Result, Ok, Err, ℤ, if◌then◌else◌, codes, bytes_eq}
use Rattle.text_spec.specs.Lines.{without_return, is_long}
use Rattle.text_spec.specs.Words.{words_of}
use Rattle.grammar_spec.specs.declared.arguments.Count.TheVariants.{Exactly}
use Rattle.grammar_spec.specs.declared.text_why.TextWhy.{TextWhy}
use Rattle.grammar_spec.specs.declared.text_why.TextWhy.TheVariants.{Long, Kind}
use Rattle.grammar_spec.specs.declared.script_line.Query.{Query}
use Rattle.grammar_spec.specs.declared.script_line.Query.TheVariants.{Plan}
use Rattle.grammar_spec.specs.declared.script_line.Line.{Line}
use Rattle.grammar_spec.specs.declared.script_line.Line.TheVariants.{Blank as BlankLine, Edit as EditLine, Query as QueryLine}
use Rattle.grammar_spec.specs.Arguments.{shape, read_fields, at}
use Rattle.grammar_spec.specs.PlanText.{ok_map}
use Rattle.grammar_spec.specs.ScriptText.{read_script_line}
use Rattle.desk_spec.specs.declared.line.DeskLine.{DeskLine}
use Rattle.desk_spec.specs.declared.line.DeskLine.TheVariants.{Blank, Edit, Undo, Redo, ShowPlan, ShowWatch, Unwatch}

-- ---- the desk's own lines

-- nothing follows the keyword
abbrev pub read_alone : DeskLine → List (List ℕ) → Result DeskLine TextWhy
read_alone line words = ok_map (λ fields. line) (read_fields (shape false (Exactly 0)) words)

-- the number of a watcher follows
abbrev pub read_numbered : (ℤ → DeskLine) → List (List ℕ) → Result DeskLine TextWhy
read_numbered line words = ok_map (λ fields. line (at fields.numbers 0)) (read_fields (shape false (Exactly 1)) words)

-- what the words are read as where they begin one of the desk's own lines, and none where they begin another
unfoldable pub own_line : List (List ℕ) → Option (Result DeskLine TextWhy)
own_line words =
    if bytes_eq (get_or words 0 []) (codes "undo") then Some (read_alone Undo (drop 1 words)) else
    if bytes_eq (get_or words 0 []) (codes "redo") then Some (read_alone Redo (drop 1 words)) else
    if bytes_eq (get_or words 0 []) (codes "unwatch") then Some (read_numbered Unwatch (drop 1 words)) else
    if bytes_eq (get_or words 0 []) (codes "show") && bytes_eq (get_or words 1 []) (codes "watch")
    then Some (read_numbered ShowWatch (drop 2 words))
    else None

-- ---- those of any script

-- of the questions only that for the plan is answered
abbrev pub desk_question : Query → Result DeskLine TextWhy
desk_question Plan = Ok ShowPlan
desk_question _ = Err Kind

-- what was read as the line of any script
abbrev pub of_script : Result Line TextWhy → Result DeskLine TextWhy
of_script (Err why) = Err why
of_script (Ok BlankLine) = Ok Blank
of_script (Ok (EditLine edit)) = Ok (Edit edit)
of_script (Ok (QueryLine query)) = desk_question query

-- ---- all lines

-- one of the desk's own, or any other
abbrev pub own_or_other : Option (Result DeskLine TextWhy) → Result Line TextWhy → Result DeskLine TextWhy
own_or_other (Some own) other = own
own_or_other None other = of_script other

-- a line without its newline and without a carriage return before it
unfoldable pub read_desk_line : List ℕ → Result DeskLine TextWhy
read_desk_line line = own_or_other (own_line (words_of line)) (read_script_line line)

-- a line as it stands before its newline
unfoldable pub read_line_of_desk : List ℕ → Result DeskLine TextWhy
read_line_of_desk line = if is_long line then Err Long else read_desk_line (without_return line)
