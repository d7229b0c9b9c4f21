-- The lines of a script.
use Rattle.std.specs.Prelude.{ℕ, List, [], true, false, ◌==◌, length, drop, get_or, Option, Some, None, Result, Ok}
use Rattle.std.specs.Prelude.{Err, if◌then◌else◌, codes, bytes_eq}
use Rattle.text_spec.specs.Lines.{without_return, is_long}
use Rattle.text_spec.specs.Words.{words_of, are_blank}
use Rattle.plan_spec.specs.declared.edit.Edit.TheVariants.{Add, Remove, Move, AddScreen, RemoveScreen, AddRoute}
use Rattle.plan_spec.specs.declared.edit.Edit.TheVariants.{RemoveRoute}
use Rattle.grammar_spec.specs.declared.arguments.Count.TheVariants.{Exactly, InPairs}
use Rattle.grammar_spec.specs.declared.text_why.TextWhy.{TextWhy}
use Rattle.grammar_spec.specs.declared.text_why.TextWhy.TheVariants.{Long, Kind, Words}
use Rattle.grammar_spec.specs.declared.script_line.ScriptWord.{ScriptWord}
use Rattle.grammar_spec.specs.declared.script_line.ScriptWord.TheVariants.{
  Add as AddWord,
  Addbox as AddboxWord,
  Remove as RemoveWord,
  Move as MoveWord,
  Addscreen as AddscreenWord,
  Removescreen as RemovescreenWord,
  Addroute as AddrouteWord,
  Removeroute as RemoverouteWord,
  Depth as DepthWord,
  Isovist as IsovistWord,
  Turns as TurnsWord,
}
use Rattle.grammar_spec.specs.declared.script_line.Query.{Query}
use Rattle.grammar_spec.specs.declared.script_line.Query.TheVariants.{Edges, Points, Axial, Lines, Segments, Plan}
use Rattle.grammar_spec.specs.declared.script_line.Query.TheVariants.{Depth, Isovist, Turns}
use Rattle.grammar_spec.specs.declared.script_line.Line.{Line}
use Rattle.grammar_spec.specs.declared.script_line.Line.TheVariants.{Blank, Edit as OfEdit, Query as OfQuery}
use Rattle.grammar_spec.specs.Arguments.{Shape, shape, Fields, read_fields, at, point_from, points_of, box_points}
use Rattle.grammar_spec.specs.PlanText.{ok_map}

-- the kind of line that a word begins, or none; `show` stands apart
unfoldable pub script_word : List ℕ → Option ScriptWord
script_word word =
    if bytes_eq word (codes "add") then Some AddWord else
    if bytes_eq word (codes "addbox") then Some AddboxWord else
    if bytes_eq word (codes "remove") then Some RemoveWord else
    if bytes_eq word (codes "move") then Some MoveWord else
    if bytes_eq word (codes "addscreen") then Some AddscreenWord else
    if bytes_eq word (codes "removescreen") then Some RemovescreenWord else
    if bytes_eq word (codes "addroute") then Some AddrouteWord else
    if bytes_eq word (codes "removeroute") then Some RemoverouteWord else
    if bytes_eq word (codes "depth") then Some DepthWord else
    if bytes_eq word (codes "isovist") then Some IsovistWord else
    if bytes_eq word (codes "turns") then Some TurnsWord else None

-- what follows the keyword
abbrev pub script_shape : ScriptWord → Shape
script_shape AddWord = shape true InPairs
script_shape AddboxWord = shape true (Exactly 4)
script_shape RemoveWord = shape true (Exactly 0)
script_shape MoveWord = shape true (Exactly 2)
script_shape AddscreenWord = shape true (Exactly 4)
script_shape RemovescreenWord = shape true (Exactly 0)
script_shape AddrouteWord = shape true (Exactly 4)
script_shape RemoverouteWord = shape true (Exactly 0)
script_shape DepthWord = shape false (Exactly 2)
script_shape IsovistWord = shape false (Exactly 2)
script_shape TurnsWord = shape true (Exactly 0)

-- the edit or question that a line of this kind stands for
unfoldable pub line_of : ScriptWord → Fields → Line
line_of AddWord f = OfEdit (Add f.name (points_of f.numbers))
line_of AddboxWord f = OfEdit (Add f.name (box_points f.numbers))
line_of RemoveWord f = OfEdit (Remove f.name)
line_of MoveWord f = OfEdit (Move f.name (at f.numbers 0) (at f.numbers 1))
line_of AddscreenWord f = OfEdit (AddScreen f.name (point_from f.numbers 0) (point_from f.numbers 2))
line_of RemovescreenWord f = OfEdit (RemoveScreen f.name)
line_of AddrouteWord f = OfEdit (AddRoute f.name (point_from f.numbers 0) (point_from f.numbers 2))
line_of RemoverouteWord f = OfEdit (RemoveRoute f.name)
line_of DepthWord f = OfQuery (Depth (point_from f.numbers 0))
line_of IsovistWord f = OfQuery (Isovist (point_from f.numbers 0))
line_of TurnsWord f = OfQuery (Turns f.name)

-- the table that a word after `show` names, or none
unfoldable pub shown : List ℕ → Option Query
shown word =
    if bytes_eq word (codes "edges") then Some Edges else
    if bytes_eq word (codes "points") then Some Points else
    if bytes_eq word (codes "axial") then Some Axial else
    if bytes_eq word (codes "lines") then Some Lines else
    if bytes_eq word (codes "segments") then Some Segments else
    if bytes_eq word (codes "plan") then Some Plan else None

-- the question for a table, or that no table has this name
abbrev pub read_shown : Option Query → Result Line TextWhy
read_shown None = Err Kind
read_shown (Some query) = Ok (OfQuery query)

-- the words after `show`: their number is tested before the table's name
abbrev pub read_show : List (List ℕ) → Result Line TextWhy
read_show words = if length words == 1 then read_shown (shown (get_or words 0 [])) else Err Words

-- a line of a kind, from the words after its keyword
abbrev pub read_kind : Option ScriptWord → List (List ℕ) → Result Line TextWhy
read_kind None words = Err Kind
read_kind (Some word) words = ok_map (line_of word) (read_fields (script_shape word) words)

-- the words of a line that isn't blank
abbrev pub read_script_words : List (List ℕ) → Result Line TextWhy
read_script_words words =
    if bytes_eq (get_or words 0 []) (codes "show")
    then read_show (drop 1 words)
    else read_kind (script_word (get_or words 0 [])) (drop 1 words)

-- a line without its newline and without a carriage return before it
unfoldable pub read_script_line : List ℕ → Result Line TextWhy
read_script_line line = if are_blank (words_of line) then Ok Blank else read_script_words (words_of line)

-- a line as it stands before its newline
unfoldable pub read_line_of_script : List ℕ → Result Line TextWhy
read_line_of_script line = if is_long line then Err Long else read_script_line (without_return line)
