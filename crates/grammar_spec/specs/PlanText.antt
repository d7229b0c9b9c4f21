-- The text of a plan, read and printed.
use Rattle.std.specs.Prelude.{IsTrue, ℕ, ◌+◌, ◌≤◌, List, [], ◌∷◌, ◌++◌, Bool, true, false, ◌&&◌, ◌==◌, length, map}
use Rattle.std.specs.Prelude.{flat_map, drop, get_or, Option, Some, None, Result, Ok, Err, ℤ, nat_le, nat_abs}
use Rattle.std.specs.Prelude.{if◌then◌else◌, codes, bytes_eq}
use Rattle.std.specs.List.{list_any, list_all, join_with_byte, sum_by}
use Rattle.plane_spec.specs.declared.Point.{Point}
use Rattle.text_spec.specs.declared.numbers.TheConstants.{MAX_NUMBER}
use Rattle.text_spec.specs.Lines.{lines_of, without_return, is_long}
use Rattle.text_spec.specs.Words.{words_of, are_blank}
use Rattle.plan_spec.specs.declared.limits.TheConstants.{MAX_CORNERS}
use Rattle.plan_spec.specs.declared.item.GridSpec.{GridSpec}
use Rattle.plan_spec.specs.declared.item.Item.{Item}
use Rattle.plan_spec.specs.declared.item.Item.TheVariants.{Grid, Outer, Obstacle, Screen, Route}
use Rattle.grammar_spec.specs.declared.arguments.Count.TheVariants.{Exactly, InPairs}
use Rattle.grammar_spec.specs.declared.plan_line.Version.{Version}
use Rattle.grammar_spec.specs.declared.plan_line.Version.TheVariants.{One, Two}
use Rattle.grammar_spec.specs.declared.plan_line.PlanWord.{PlanWord}
use Rattle.grammar_spec.specs.declared.plan_line.PlanWord.TheVariants.{
  Grid as GridWord,
  Outer as OuterWord,
  Outerbox as OuterboxWord,
  Obstacle as ObstacleWord,
  Box as BoxWord,
  Screen as ScreenWord,
  Route as RouteWord,
}
use Rattle.grammar_spec.specs.declared.plan_line.PlanLine.{PlanLine}
use Rattle.grammar_spec.specs.declared.plan_line.PlanLine.TheVariants.{Blank, Header, Item as OfItem}
use Rattle.grammar_spec.specs.declared.text_why.TextWhy.{TextWhy}
use Rattle.grammar_spec.specs.declared.text_why.TextWhy.TheVariants.{Long, Kind}
use Rattle.grammar_spec.specs.Arguments.{Shape, shape, Fields, read_fields, field_words, at, point_from, points_of}
use Rattle.grammar_spec.specs.Arguments.{box_points, numbers_of_points}

-- ---- the kinds of lines

-- the word that begins the lines of a kind
abbrev pub keyword : PlanWord → List ℕ
keyword GridWord = codes "grid"
keyword OuterWord = codes "outer"
keyword OuterboxWord = codes "outerbox"
keyword ObstacleWord = codes "obstacle"
keyword BoxWord = codes "box"
keyword ScreenWord = codes "screen"
keyword RouteWord = codes "route"

-- screens stand in version 2 alone
abbrev pub has_screens : Version → Bool
has_screens One = false
has_screens Two = true

-- the kind of line that a word begins in this version, or none
unfoldable pub plan_word : Version → List ℕ → Option PlanWord
plan_word version word =
    if bytes_eq word (keyword GridWord) then Some GridWord else
    if bytes_eq word (keyword OuterWord) then Some OuterWord else
    if bytes_eq word (keyword OuterboxWord) then Some OuterboxWord else
    if bytes_eq word (keyword ObstacleWord) then Some ObstacleWord else
    if bytes_eq word (keyword BoxWord) then Some BoxWord else
    if bytes_eq word (keyword ScreenWord) && has_screens version then Some ScreenWord else
    if bytes_eq word (keyword RouteWord) then Some RouteWord else None

-- what follows the keyword
abbrev pub shape_of : PlanWord → Shape
shape_of GridWord = shape false (Exactly 5)
shape_of OuterWord = shape false InPairs
shape_of OuterboxWord = shape false (Exactly 4)
shape_of ObstacleWord = shape true InPairs
shape_of BoxWord = shape true (Exactly 4)
shape_of ScreenWord = shape true (Exactly 4)
shape_of RouteWord = shape true (Exactly 4)

-- grid s x0 y0 cols rows
abbrev pub grid_of : List ℤ → GridSpec
grid_of numbers =
    record { step = at numbers 0; x0 = at numbers 1; y0 = at numbers 2; cols = at numbers 3; rows = at numbers 4 }

-- the item that a line of this kind stands for
unfoldable pub item_of : PlanWord → Fields → Item
item_of GridWord f = Grid (grid_of f.numbers)
item_of OuterWord f = Outer (points_of f.numbers)
item_of OuterboxWord f = Outer (box_points f.numbers)
item_of ObstacleWord f = Obstacle f.name (points_of f.numbers)
item_of BoxWord f = Obstacle f.name (box_points f.numbers)
item_of ScreenWord f = Screen f.name (point_from f.numbers 0) (point_from f.numbers 2)
item_of RouteWord f = Route f.name (point_from f.numbers 0) (point_from f.numbers 2)

-- ---- reading a line

-- what is made of what was read; a refusal stays
abbrev pub ok_map : {A B : Type 0} → (A → B) → Result A TextWhy → Result B TextWhy
ok_map f (Ok x) = Ok (f x)
ok_map f (Err why) = Err why

-- the version that a word names
abbrev pub version_of_word : List ℕ → Option Version
version_of_word word =
    if bytes_eq word (codes "1") then Some One else
    if bytes_eq word (codes "2") then Some Two else None

-- the words `plan` and `1`, or `plan` and `2`
abbrev pub version_of : List (List ℕ) → Option Version
version_of words =
    if (length words == 2) && bytes_eq (get_or words 0 []) (codes "plan")
    then version_of_word (get_or words 1 [])
    else None

-- the item of a line of a kind, from the words after its keyword
abbrev pub read_item : Option PlanWord → List (List ℕ) → Result PlanLine TextWhy
read_item None words = Err Kind
read_item (Some word) words = ok_map (λ fields. OfItem (item_of word fields)) (read_fields (shape_of word) words)

-- the header of a version, or that the line is none
abbrev pub read_header : Option Version → Result PlanLine TextWhy
read_header None = Err Kind
read_header (Some version) = Ok (Header version)

-- the words of a line that isn't blank: the header, as long as none came, and then an item
abbrev pub read_plan_words : Option Version → List (List ℕ) → Result PlanLine TextWhy
read_plan_words None words = read_header (version_of words)
read_plan_words (Some version) words = read_item (plan_word version (get_or words 0 [])) (drop 1 words)

-- a line as it stands before its newline, after a header of a version or before any
unfoldable pub read_plan_line : Option Version → List ℕ → Result PlanLine TextWhy
read_plan_line version line =
    if is_long line then Err Long else
    if are_blank (words_of (without_return line)) then Ok Blank
    else read_plan_words version (words_of (without_return line))

-- ---- reading the whole

-- the items, each with the number of its line, or the number of the first line outside the grammar and why it is
abbrev pub PlanReading : Type 0
PlanReading = Result (List (ℕ × Item)) (ℕ × TextWhy)

-- an item before those of the lines after it
abbrev pub item_before : ℕ × Item → PlanReading → PlanReading
item_before item (Ok items) = Ok (item ∷ items)
item_before item (Err fault) = Err fault

-- a line that was read, and then those after it: a refusal ends the reading, and a header holds for all lines after it
abbrev pub read_next : ℕ → Option Version → Result PlanLine TextWhy → (Option Version → PlanReading) → PlanReading
read_next number version (Err why) rest = Err (number, why)
read_next number version (Ok Blank) rest = rest version
read_next number version (Ok (Header found)) rest = rest (Some found)
read_next number version (Ok (OfItem item)) rest = item_before (number, item) (rest version)

-- no lines are left: where no header came, the line of this number is at fault
abbrev pub without_header : Option Version → ℕ → PlanReading
without_header None number = Err (number, Kind)
without_header (Some version) number = Ok []

-- the lines from `number` on, after a header of a version or before any
unfoldable pub read_plan_lines : Option Version → ℕ → List (List ℕ) → PlanReading
read_plan_lines version number [] = without_header version number
read_plan_lines version number (line ∷ lines) =
    read_next number version (read_plan_line version line) (λ next. read_plan_lines next (number + 1) lines)

-- the text of a plan, its lines numbered from 1
unfoldable pub read_plan_text : List ℕ → PlanReading
read_plan_text bytes = read_plan_lines None 1 (lines_of bytes)

-- the items of a reading
abbrev pub items_read : List (ℕ × Item) → List Item
items_read items = map (λ item. item.1) items

-- the lines of the items, and the number of lines plus 1 after them
abbrev pub numbers_read : List ℕ → List (ℕ × Item) → List ℕ
numbers_read bytes items = map (λ item. item.0) items ++ (length (lines_of bytes) + 1) ∷ []

-- ---- printing

-- the keyword that an item is printed by
abbrev pub word_of_item : Item → PlanWord
word_of_item (Grid g) = GridWord
word_of_item (Outer points) = OuterWord
word_of_item (Obstacle name points) = ObstacleWord
word_of_item (Screen name from to) = ScreenWord
word_of_item (Route name from to) = RouteWord

-- a name and numbers as the fields of a line
abbrev pub fields : List ℕ → List ℤ → Fields
fields name numbers = record { name = name; numbers = numbers }

-- what the item's line says after its keyword
abbrev pub fields_of_item : Item → Fields
fields_of_item (Grid g) = fields [] (g.step ∷ g.x0 ∷ g.y0 ∷ g.cols ∷ g.rows ∷ [])
fields_of_item (Outer points) = fields [] (numbers_of_points points)
fields_of_item (Obstacle name points) = fields name (numbers_of_points points)
fields_of_item (Screen name from to) = fields name (from.x ∷ from.y ∷ to.x ∷ to.y ∷ [])
fields_of_item (Route name from to) = fields name (from.x ∷ from.y ∷ to.x ∷ to.y ∷ [])

-- the words of the item's line: polygons by `outer` and `obstacle`
abbrev pub item_words : Item → List (List ℕ)
item_words item = keyword (word_of_item item) ∷ field_words (shape_of (word_of_item item)) (fields_of_item item)

-- the item stands in version 2 alone
abbrev pub is_screen : Item → Bool
is_screen (Screen name from to) = true
is_screen _ = false

-- `plan 2` where an item is a screen, and otherwise `plan 1`
abbrev pub header_words : List Item → List (List ℕ)
header_words items = codes "plan" ∷ (if list_any is_screen items then codes "2" else codes "1") ∷ []

-- the header and then a line for each item
abbrev pub plan_words : List Item → List (List (List ℕ))
plan_words items = header_words items ∷ map item_words items

-- words with single spaces between them, and a newline
abbrev pub ended_line : List (List ℕ) → List ℕ
ended_line words = join_with_byte 32 words ++ 10 ∷ []

-- the text of the items
unfoldable pub plan_text_of : List Item → List ℕ
plan_text_of items = flat_map ended_line (plan_words items)

-- ---- items that can be printed

-- the number is at most so far from 0
abbrev pub is_below : ℕ → ℤ → Bool
is_below most z = nat_le (nat_abs z) most

-- a point whose coordinates have at most six digits
abbrev pub is_short_point : Point → Bool
is_short_point p = is_below 999999 p.x && is_below 999999 p.y

-- 1 to `MAX_CORNERS` points whose coordinates have at most six digits
abbrev pub is_short_list : List Point → Bool
is_short_list points = (nat_le 1 (length points) && nat_le (length points) MAX_CORNERS) && list_all is_short_point points

-- a point whose coordinates have few enough digits
abbrev pub is_number_point : Point → Bool
is_number_point p = is_below MAX_NUMBER p.x && is_below MAX_NUMBER p.y

-- the item's numbers have few digits, and a polygon has few corners
abbrev pub is_printable : Item → Bool
is_printable (Grid g) =
    (is_below MAX_NUMBER g.step && (is_below MAX_NUMBER g.x0 && is_below MAX_NUMBER g.y0))
    && (is_below MAX_NUMBER g.cols && is_below MAX_NUMBER g.rows)
is_printable (Outer points) = is_short_list points
is_printable (Obstacle name points) = is_short_list points
is_printable (Screen name from to) = is_number_point from && is_number_point to
is_printable (Route name from to) = is_number_point from && is_number_point to

-- how many points the item's polygon has, and 0 where it has none
abbrev pub points_in : Item → ℕ
points_in (Grid g) = 0
points_in (Outer points) = length points
points_in (Obstacle name points) = length points
points_in (Screen name from to) = 0
points_in (Route name from to) = 0

-- at most 2000 items, lists of at most 4096 points together, and numbers of few digits: no line is then too long, nor
-- is the text
pub record ArePrintable (items : List Item) : Type 0 where
  pub few : length items ≤ 2000
  pub short : sum_by points_in items ≤ 4096
  pub each : IsTrue (list_all is_printable items)
