-- What lines have in common: a keyword, at most one name, and then numbers.
use Rattle.std.specs.Prelude.{ℕ, ◌+◌, List, [], ◌∷◌, ◌++◌, Bool, true, false, ◌&&◌, ◌==◌, ◌%◌, nat_lt, length, map}
use Rattle.std.specs.Prelude.{Option, Some, None, Result, Ok, Err, ℤ, if◌then◌else◌, get_or, pos}
use Rattle.std.specs.Fmt.{signed_decimal}
use Rattle.plane_spec.specs.declared.Point.{Point}
use Rattle.plane_spec.specs.Vectors.{point}
use Rattle.text_spec.specs.Numbers.{number_of}
use Rattle.text_spec.specs.Names.{is_name}
use Rattle.grammar_spec.specs.declared.arguments.Count.{Count}
use Rattle.grammar_spec.specs.declared.arguments.Count.TheVariants.{Exactly, InPairs}
use Rattle.grammar_spec.specs.declared.text_why.TextWhy.{TextWhy}
use Rattle.grammar_spec.specs.declared.text_why.TextWhy.TheVariants.{Words, Name, Number}

-- whether a name stands after the keyword, and how many numbers follow
pub record Shape : Type 0 where
  pub named : Bool
  pub numbers : Count

-- the shape with these parts
abbrev pub shape : Bool → Count → Shape
shape named numbers = record { named = named; numbers = numbers }

-- what a line says after its keyword; where no name is asked for it is empty
pub record Fields : Type 0 where
  pub name : List ℕ
  pub numbers : List ℤ

-- ---- reading

-- so many numbers are as many as are asked for
abbrev pub is_count : Count → ℕ → Bool
is_count (Exactly wanted) count = count == wanted
is_count InPairs count = nat_lt 0 count && (count % 2 == 0)

-- a number and those after it, where each of their words is one
abbrev pub number_before : Option ℤ → Option (List ℤ) → Option (List ℤ)
number_before None numbers = None
number_before (Some z) None = None
number_before (Some z) (Some numbers) = Some (z ∷ numbers)

-- all of the words as numbers, or none where one of them is no number
unfoldable pub numbers_of : List (List ℕ) → Option (List ℤ)
numbers_of [] = Some []
numbers_of (word ∷ words) = number_before (number_of word) (numbers_of words)

-- the name with the numbers, or that a word is no number
abbrev pub fields_with : List ℕ → Option (List ℤ) → Result Fields TextWhy
fields_with name None = Err Number
fields_with name (Some numbers) = Ok (record { name = name; numbers = numbers })

-- by whether a name is asked for: how many words there are is tested first, then the name, then the numbers
unfoldable pub read_fields_by : Bool → Count → List (List ℕ) → Result Fields TextWhy
read_fields_by false count words =
    if is_count count (length words) then fields_with [] (numbers_of words) else Err Words
read_fields_by true count [] = Err Words
read_fields_by true count (word ∷ words) =
    if is_count count (length words)
    then (if is_name word then fields_with word (numbers_of words) else Err Name)
    else Err Words

-- the words after the keyword, read as a line of this shape
abbrev pub read_fields : Shape → List (List ℕ) → Result Fields TextWhy
read_fields asked words = read_fields_by asked.named asked.numbers words

-- ---- what numbers make

-- the number at a place, counted from 0; there is one at each place that is read, and 0 stands for none
abbrev pub at : List ℤ → ℕ → ℤ
at numbers k = get_or numbers k (pos 0)

-- the point that begins at a place
abbrev pub point_from : List ℤ → ℕ → Point
point_from numbers k = point (at numbers k) (at numbers (k + 1))

-- the numbers two by two as points
unfoldable pub points_of : List ℤ → List Point
points_of [] = []
points_of (x ∷ []) = []
points_of (x ∷ y ∷ numbers) = point x y ∷ points_of numbers

-- the four points of a box from its corners (x0,y0) and (x1,y1)
abbrev pub box_points : List ℤ → List Point
box_points numbers =
    point (at numbers 0) (at numbers 1)
    ∷ point (at numbers 2) (at numbers 1)
    ∷ point (at numbers 2) (at numbers 3)
    ∷ point (at numbers 0) (at numbers 3)
    ∷ []

-- ---- printing

-- the numbers of points, each x before its y
unfoldable pub numbers_of_points : List Point → List ℤ
numbers_of_points [] = []
numbers_of_points (p ∷ points) = p.x ∷ p.y ∷ numbers_of_points points

-- the name as a word, where the line has one
abbrev pub name_words : Bool → List ℕ → List (List ℕ)
name_words false name = []
name_words true name = name ∷ []

-- the words after the keyword that say the fields: the name, and then the numbers in decimal
abbrev pub field_words : Shape → Fields → List (List ℕ)
field_words asked fields = name_words asked.named fields.name ++ map signed_decimal fields.numbers
