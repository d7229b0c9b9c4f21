-- How long the printed text is.
use Rattle.std.proofs.Common.{◌≡◌, ℕ, suc, ◌+◌, ◌*◌, ◌^◌, ◌<◌, ◌≤◌, nat_abs, Bool, true, false, if◌then◌else◌, codes, List, [], ◌∷◌, length, map, flat_map, All, ℤ, pos, negsuc, refl, arith}
use Rattle.std.specs.Fmt.{signed_decimal}
use Rattle.std.specs.List.{join_with_byte, sum_by, list_all, list_any}
use Rattle.std.proofs.lemmas.Fmt.{length-decimal-le}
use Rattle.std.proofs.lemmas.List.{length-append}
use Rattle.std.proofs.lemmas.List.Elements.{All-head, All-tail}
use Rattle.std.proofs.lemmas.List.Sums.{sum_by-cons}
use Rattle.plane_spec.specs.declared.Point.{Point}
use Rattle.plan_spec.specs.declared.item.Item.{Item}
use Rattle.plan_spec.specs.declared.item.Item.TheVariants.{Grid, Outer, Obstacle, Screen, Route}
use Rattle.grammar_spec.specs.Arguments.{numbers_of_points}
use Rattle.grammar_spec.specs.declared.plan_line.PlanWord.TheVariants.{Grid as GridWord, Outer as OuterWord, Obstacle as ObstacleWord, Screen as ScreenWord, Route as RouteWord}
use Rattle.grammar_spec.specs.PlanText.{keyword, ended_line, header_words, item_words, is_printable, is_screen, points_in, plan_text_of, ArePrintable}
use Rattle.plan_text.specs.RoundTrip.{has_name, HaveNames}
use Rattle.plan_text.proofs.PrintedNumbers.{IsNumber}
use Rattle.plan_text.proofs.PrintedWords.{name_length}
use Rattle.plan_text.proofs.PrintedItems.{both, IsShortList, fits, length_numbers, short_list}

number_length : (digits : ℕ) (z : ℤ) → 0 < digits → digits ≤ 9 → nat_abs z < 10 ^ digits → nat_abs z < 10 ^ 9 → length (signed_decimal z) ≤ digits + 1
number_length digits (pos n) some few small fits = omega (arith, length-decimal-le digits n some small (omega arith))
number_length digits (negsuc n) some few small fits = omega (arith, length-decimal-le digits (suc n) some small (omega arith))

join_length : (word : List ℕ) (words : List (List ℕ)) → length (join_with_byte 32 (word ∷ words)) ≤ length word + 1 + length (join_with_byte 32 words)
join_length word [] = omega arith
join_length word (next ∷ words) = omega (arith, length-append word (32 ∷ join_with_byte 32 (next ∷ words)))

-- numbers of so many digits, each with a sign and a space
numbers_length : (digits : ℕ) (numbers : List ℤ) → 0 < digits → digits ≤ 9 → All (λ z. nat_abs z < 10 ^ digits) numbers → All IsNumber numbers →
    length (join_with_byte 32 (map signed_decimal numbers)) ≤ length numbers * (digits + 2)
numbers_length digits [] some few small fits = omega arith
numbers_length digits (z ∷ numbers) some few small fits =
    let first = number_length digits z some few (All-head (λ y. nat_abs y < 10 ^ digits) z numbers small) (All-head IsNumber z numbers fits) in
    let rest = numbers_length digits numbers some few (All-tail (λ y. nat_abs y < 10 ^ digits) z numbers small) (All-tail IsNumber z numbers fits) in
    let joined = join_length (signed_decimal z) (map signed_decimal numbers) in
    omega arith

points_length : (points : List Point) → IsShortList points → All IsNumber (numbers_of_points points) → length (join_with_byte 32 (map signed_decimal (numbers_of_points points))) ≤ 16 * length points
points_length points short numbers =
    let h = numbers_length 6 (numbers_of_points points) (omega arith) (omega arith) short.numbers numbers in
    omega (arith, length_numbers points)

named_length : (first name : List ℕ) (words : List (List ℕ)) (most : ℕ) → length first ≤ 8 → length name ≤ 32 → length (join_with_byte 32 words) ≤ most →
    length (join_with_byte 32 (first ∷ name ∷ words)) ≤ 42 + most
named_length first name words most h k short =
    let outer = join_length first (name ∷ words) in
    let inner = join_length name words in
    omega arith

ends_length : (first name : List ℕ) (from to : Point) → length first ≤ 8 → length name ≤ 32 → All IsNumber (from.x ∷ from.y ∷ to.x ∷ to.y ∷ []) →
    length (join_with_byte 32 (first ∷ name ∷ map signed_decimal (from.x ∷ from.y ∷ to.x ∷ to.y ∷ []))) ≤ 86
ends_length first name from to h k numbers =
    named_length first name (map signed_decimal (from.x ∷ from.y ∷ to.x ∷ to.y ∷ [])) 44 h k
    (numbers_length 9 (from.x ∷ from.y ∷ to.x ∷ to.y ∷ []) (omega arith) (omega arith) numbers numbers)

-- the line of an item
pub item_length : (item : Item) → is_printable item ≡ true → has_name item ≡ true → length (join_with_byte 32 (item_words item)) ≤ 86 + 16 * points_in item
item_length (Grid g) h k =
    let numbers = g.step ∷ g.x0 ∷ g.y0 ∷ g.cols ∷ g.rows ∷ [] in
    let kept = (fits (Grid g) h k).numbers in
    let short = numbers_length 9 numbers (omega arith) (omega arith) kept kept in
    let joined = join_length (keyword GridWord) (map signed_decimal numbers) in
    omega arith
item_length (Outer points) h k =
    let short = points_length points (short_list points h) (fits (Outer points) h k).numbers in
    let joined = join_length (keyword OuterWord) (map signed_decimal (numbers_of_points points)) in
    omega arith
item_length (Obstacle name points) h k =
    let short = points_length points (short_list points h) (fits (Obstacle name points) h k).numbers in
    let joined = named_length (keyword ObstacleWord) name (map signed_decimal (numbers_of_points points)) (16 * length points) (omega arith) (name_length name k) short in
    omega arith
item_length (Screen name from to) h k = ends_length (keyword ScreenWord) name from to (omega arith) (name_length name k) (fits (Screen name from to) h k).numbers
item_length (Route name from to) h k = ends_length (keyword RouteWord) name from to (omega arith) (name_length name k) (fits (Route name from to) h k).numbers

few_points : (item : Item) → is_printable item ≡ true → points_in item ≤ 1024
few_points (Grid g) h = omega arith
few_points (Outer points) h = (short_list points h).few
few_points (Obstacle name points) h = (short_list points h).few
few_points (Screen name from to) h = omega arith
few_points (Route name from to) h = omega arith

-- no line is too long
pub item_short : (item : Item) → is_printable item ≡ true → has_name item ≡ true → length (join_with_byte 32 (item_words item)) ≤ 20000
item_short item h k = omega (arith, item_length item h k, few_points item h)

lines_length : (items : List Item) → list_all is_printable items ≡ true → list_all has_name items ≡ true →
    length (flat_map ended_line (map item_words items)) ≤ 87 * length items + 16 * sum_by points_in items
lines_length [] h k = omega arith
lines_length (item ∷ items) h k =
    let printable = both (is_printable item) (list_all is_printable items) h in
    let named = both (has_name item) (list_all has_name items) k in
    let first = item_length item printable.0 named.0 in
    let rest = lines_length items printable.1 named.1 in
    let ended = length-append (join_with_byte 32 (item_words item)) (10 ∷ []) in
    let all = length-append (ended_line (item_words item)) (flat_map ended_line (map item_words items)) in
    omega (arith, sum_by-cons points_in item items)

version : Bool → List ℕ
version t = if t then codes "2" else codes "1"

version_length : (t : Bool) → length (version t) ≡ 1
unfolding version
version_length true = refl
version_length false = refl

header_length : (items : List Item) → length (ended_line (header_words items)) ≡ 7
unfolding version
header_length items =
    omega (arith, length-append (join_with_byte 32 (header_words items)) (10 ∷ []), version_length (list_any is_screen items))

-- nor is the text
pub text_short : (items : List Item) → ArePrintable items → HaveNames items → length (plan_text_of items) ≤ 1048576
unfolding plan_text_of
text_short items h k =
    let lines = lines_length items h.each k in
    let few = h.few in
    let short = h.short in
    omega (arith, length-append (ended_line (header_words items)) (flat_map ended_line (map item_words items)), header_length items)
