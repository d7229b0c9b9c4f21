-- An item that is printed is read again.
use Rattle.std.proofs.Common.{◌≡◌, ℕ, ◌*◌, ◌%◌, ◌^◌, ◌<◌, ◌≤◌, nat_abs, Bool, true, false, cond, ◌&&◌, ◌==◌, nat_le, nat_lt, List, [], ◌∷◌, ◌++◌, length, map, All, Some, Ok, ℤ, refl, ap, arith}
use Rattle.std.specs.Fmt.{signed_decimal}
use Rattle.std.specs.List.{list_all}
use Rattle.std.proofs.lemmas.List.{length-map}
use Rattle.std.proofs.lemmas.List.Elements.{All-nil, All-cons, All-weaker, All-map}
use Rattle.text_spec.specs.Words.{are_blank}
use Rattle.text_spec.specs.Names.{is_name}
use Rattle.plane_spec.specs.declared.Point.{Point}
use Rattle.plan_spec.specs.declared.item.GridSpec.{GridSpec}
use Rattle.plan_spec.specs.declared.item.Item.{Item}
use Rattle.plan_spec.specs.declared.item.Item.TheVariants.{Grid, Outer, Obstacle, Screen, Route}
use Rattle.grammar_spec.specs.declared.arguments.Count.{Count}
use Rattle.grammar_spec.specs.declared.arguments.Count.TheVariants.{InPairs}
use Rattle.grammar_spec.specs.Arguments.{Shape, Fields, is_count, read_fields, read_fields_by, field_words, name_words, points_of, numbers_of_points}
use Rattle.grammar_spec.specs.declared.plan_line.Version.{Version}
use Rattle.grammar_spec.specs.declared.plan_line.PlanWord.{PlanWord}
use Rattle.grammar_spec.specs.declared.plan_line.PlanWord.TheVariants.{Grid as GridWord, Outer as OuterWord, Outerbox as OuterboxWord, Obstacle as ObstacleWord, Box as BoxWord, Screen as ScreenWord, Route as RouteWord}
use Rattle.grammar_spec.specs.declared.plan_line.PlanLine.TheVariants.{Item as OfItem}
use Rattle.grammar_spec.specs.PlanText.{keyword, has_screens, plan_word, shape_of, item_of, read_plan_words, word_of_item, fields_of_item, item_words, is_screen, is_below, is_short_point, is_short_list, is_number_point, is_printable}
use Rattle.plan_text.specs.RoundTrip.{has_name}
use Rattle.plan_text.proofs.PrintedNumbers.{IsNumber, numbers_of_printed}
use Rattle.plan_text.proofs.PrintedWords.{IsInkWord, number_ink, name_ink}

-- a coordinate of at most six digits
abbrev pub IsShortNumber : ℤ → Type 0
IsShortNumber z = nat_abs z < 10 ^ 6

-- the fields are those of a line of the shape
pub record Fits (asked : Shape) (fields : Fields) : Type 0 where
  pub count : is_count asked.numbers (length fields.numbers) ≡ true
  pub numbers : All IsNumber fields.numbers
  pub name : cond asked.named (is_name fields.name ≡ true) (fields.name ≡ [])

-- ---- such fields are read again

read_by : (named : Bool) (count : Count) (name : List ℕ) (numbers : List ℤ) → is_count count (length numbers) ≡ true → All IsNumber numbers →
    cond named (is_name name ≡ true) (name ≡ []) →
    read_fields_by named count (field_words (record { named = named; numbers = count }) (record { name = name; numbers = numbers })) ≡ Ok (record { name = name; numbers = numbers })
unfolding read_fields_by
read_by false count name numbers fits h k = rw (length-map numbers signed_decimal, fits, numbers_of_printed numbers h, k) refl
read_by true count name numbers fits h k = rw (length-map numbers signed_decimal, fits, numbers_of_printed numbers h, k) refl

fields_again : (asked : Shape) (fields : Fields) → Fits asked fields → read_fields asked (field_words asked fields) ≡ Ok fields
fields_again asked fields h = read_by asked.named asked.numbers fields.name fields.numbers h.count h.numbers h.name

points_again : (points : List Point) → points_of (numbers_of_points points) ≡ points
unfolding points_of numbers_of_points
points_again [] = refl
points_again (p ∷ points) = ap (λ t. p ∷ t) (points_again points)

item_again : (item : Item) → item_of (word_of_item item) (fields_of_item item) ≡ item
unfolding item_of
item_again (Grid g) = refl
item_again (Outer points) = ap Outer (points_again points)
item_again (Obstacle name points) = ap (Obstacle name) (points_again points)
item_again (Screen name from to) = refl
item_again (Route name from to) = refl

-- screens are read in this version, if the item is one
abbrev pub Allows : Version → Item → Type 0
Allows version item = is_screen item ≡ true → has_screens version ≡ true

word_again : (version : Version) (item : Item) → Allows version item → plan_word version (keyword (word_of_item item)) ≡ Some (word_of_item item)
unfolding plan_word
word_again version (Grid g) h = refl
word_again version (Outer points) h = refl
word_again version (Obstacle name points) h = refl
word_again version (Screen name from to) h = rw (h refl) refl
word_again version (Route name from to) h = refl

pub item_words_again : (version : Version) (item : Item) → Allows version item → Fits (shape_of (word_of_item item)) (fields_of_item item) →
    read_plan_words (Some version) (item_words item) ≡ Ok (OfItem item)
item_words_again version item allowed fits =
    rw (word_again version item allowed, fields_again (shape_of (word_of_item item)) (fields_of_item item) fits, item_again item) refl

blank_by : (word : PlanWord) (words : List (List ℕ)) → are_blank (keyword word ∷ words) ≡ false
unfolding are_blank
blank_by GridWord words = refl
blank_by OuterWord words = refl
blank_by OuterboxWord words = refl
blank_by ObstacleWord words = refl
blank_by BoxWord words = refl
blank_by ScreenWord words = refl
blank_by RouteWord words = refl

pub item_words_not_blank : (item : Item) → are_blank (item_words item) ≡ false
item_words_not_blank item = blank_by (word_of_item item) (field_words (shape_of (word_of_item item)) (fields_of_item item))

-- ---- the words are printed bytes

keyword_is_name : (word : PlanWord) → is_name (keyword word) ≡ true
keyword_is_name GridWord = refl
keyword_is_name OuterWord = refl
keyword_is_name OuterboxWord = refl
keyword_is_name ObstacleWord = refl
keyword_is_name BoxWord = refl
keyword_is_name ScreenWord = refl
keyword_is_name RouteWord = refl

numbers_ink : (numbers : List ℤ) → All IsNumber numbers → All IsInkWord (map signed_decimal numbers)
numbers_ink numbers h = All-map IsInkWord signed_decimal numbers (All-weaker IsNumber (λ z. IsInkWord (signed_decimal z)) number_ink numbers h)

fields_ink : (named : Bool) (name : List ℕ) (numbers : List ℤ) → All IsNumber numbers → cond named (is_name name ≡ true) (name ≡ []) →
    All IsInkWord (name_words named name ++ map signed_decimal numbers)
fields_ink false name numbers h k = numbers_ink numbers h
fields_ink true name numbers h k = All-cons IsInkWord name (map signed_decimal numbers) (name_ink name k) (numbers_ink numbers h)

pub item_words_ink : (item : Item) → Fits (shape_of (word_of_item item)) (fields_of_item item) → All IsInkWord (item_words item)
item_words_ink item h =
    let asked = shape_of (word_of_item item) in
    let fields = fields_of_item item in
    All-cons IsInkWord (keyword (word_of_item item)) (field_words asked fields) (name_ink (keyword (word_of_item item)) (keyword_is_name (word_of_item item)))
    (fields_ink asked.named fields.name fields.numbers h.numbers h.name)

-- ---- items that can be printed have such fields

pub length_numbers : (points : List Point) → length (numbers_of_points points) ≡ 2 * length points
unfolding numbers_of_points
length_numbers [] = refl
length_numbers (p ∷ points) = omega (arith, length_numbers points)

pub both : (a b : Bool) → (a && b) ≡ true → (a ≡ true) × (b ≡ true)
both a b h = (grind arith, grind arith)

number_below : (z : ℤ) → is_below 999999999 z ≡ true → IsNumber z
number_below z h = let few : nat_abs z ≤ 999999999 = grind arith in omega arith

short_below : (z : ℤ) → is_below 999999 z ≡ true → IsShortNumber z
short_below z h = let few : nat_abs z ≤ 999999 = grind arith in omega arith

pub numbers_short : (points : List Point) → list_all is_short_point points ≡ true → All IsShortNumber (numbers_of_points points)
unfolding numbers_of_points
numbers_short [] h = All-nil IsShortNumber
numbers_short (p ∷ points) h =
    let first = both (is_short_point p) (list_all is_short_point points) h in
    let parts = both (is_below 999999 p.x) (is_below 999999 p.y) first.0 in
    All-cons IsShortNumber p.x (p.y ∷ numbers_of_points points) (short_below p.x parts.0)
    (All-cons IsShortNumber p.y (numbers_of_points points) (short_below p.y parts.1) (numbers_short points first.1))

short_is_number : (z : ℤ) → IsShortNumber z → IsNumber z
short_is_number z h = omega arith

-- what is known of a list that can be printed
pub record IsShortList (points : List Point) : Type 0 where
  pub some : 1 ≤ length points
  pub few : length points ≤ 1024
  pub numbers : All IsShortNumber (numbers_of_points points)

pub short_list : (points : List Point) → is_short_list points ≡ true → IsShortList points
short_list points h =
    let parts = both (nat_le 1 (length points) && nat_le (length points) 1024) (list_all is_short_point points) h in
    let size = both (nat_le 1 (length points)) (nat_le (length points) 1024) parts.0 in
    record {
      some = (let e = size.0 in grind arith);
      few = (let e = size.1 in grind arith);
      numbers = numbers_short points parts.1;
    }

pairs_by : (n half : ℕ) → n ≡ 2 * half → 1 ≤ half → (nat_lt 0 n && (n % 2 == 0)) ≡ true
pairs_by n half e some =
    let even : n % 2 ≡ 0 = omega arith in
    let positive : 0 < n = omega arith in
    grind arith

in_pairs : (points : List Point) → 1 ≤ length points → is_count InPairs (length (numbers_of_points points)) ≡ true
in_pairs points some = pairs_by (length (numbers_of_points points)) (length points) (length_numbers points) some

point_numbers : (p : Point) → is_number_point p ≡ true → IsNumber p.x × IsNumber p.y
point_numbers p h =
    let parts = both (is_below 999999999 p.x) (is_below 999999999 p.y) h in
    (number_below p.x parts.0, number_below p.y parts.1)

ends_numbers : (from to : Point) → (is_number_point from && is_number_point to) ≡ true → All IsNumber (from.x ∷ from.y ∷ to.x ∷ to.y ∷ [])
ends_numbers from to h =
    let parts = both (is_number_point from) (is_number_point to) h in
    let first = point_numbers from parts.0 in
    let second = point_numbers to parts.1 in
    All-cons IsNumber from.x (from.y ∷ to.x ∷ to.y ∷ []) first.0 (All-cons IsNumber from.y (to.x ∷ to.y ∷ []) first.1
    (All-cons IsNumber to.x (to.y ∷ []) second.0 (All-cons IsNumber to.y [] second.1 (All-nil IsNumber))))

grid_numbers : (g : GridSpec) → is_printable (Grid g) ≡ true → All IsNumber (g.step ∷ g.x0 ∷ g.y0 ∷ g.cols ∷ g.rows ∷ [])
grid_numbers g h =
    let parts = both (is_below 999999999 g.step && (is_below 999999999 g.x0 && is_below 999999999 g.y0)) (is_below 999999999 g.cols && is_below 999999999 g.rows) h in
    let first = both (is_below 999999999 g.step) (is_below 999999999 g.x0 && is_below 999999999 g.y0) parts.0 in
    let origin = both (is_below 999999999 g.x0) (is_below 999999999 g.y0) first.1 in
    let size = both (is_below 999999999 g.cols) (is_below 999999999 g.rows) parts.1 in
    All-cons IsNumber g.step (g.x0 ∷ g.y0 ∷ g.cols ∷ g.rows ∷ []) (number_below g.step first.0)
    (All-cons IsNumber g.x0 (g.y0 ∷ g.cols ∷ g.rows ∷ []) (number_below g.x0 origin.0)
    (All-cons IsNumber g.y0 (g.cols ∷ g.rows ∷ []) (number_below g.y0 origin.1)
    (All-cons IsNumber g.cols (g.rows ∷ []) (number_below g.cols size.0)
    (All-cons IsNumber g.rows [] (number_below g.rows size.1) (All-nil IsNumber)))))

pub fits : (item : Item) → is_printable item ≡ true → has_name item ≡ true → Fits (shape_of (word_of_item item)) (fields_of_item item)
fits (Grid g) h k = record { count = refl; numbers = grid_numbers g h; name = refl }
fits (Outer points) h k =
    let short = short_list points h in
    record { count = in_pairs points short.some; numbers = All-weaker IsShortNumber IsNumber short_is_number (numbers_of_points points) short.numbers; name = refl }
fits (Obstacle name points) h k =
    let short = short_list points h in
    record { count = in_pairs points short.some; numbers = All-weaker IsShortNumber IsNumber short_is_number (numbers_of_points points) short.numbers; name = k }
fits (Screen name from to) h k = record { count = refl; numbers = ends_numbers from to h; name = k }
fits (Route name from to) h k = record { count = refl; numbers = ends_numbers from to h; name = k }
