-- The text of the items is in the grammar, with these items and no others.
use Rattle.std.proofs.Common.{◌≡◌, ℕ, ◌+◌, ◌≤◌, Bool, true, false, if◌then◌else◌, codes, ◌||◌, nat_lt, List, [], ◌∷◌, length, map, All, Option, Some, None, Ok, refl, ◌∙◌, arith}
use Rattle.std.specs.List.{join_with_byte, list_all, list_any}
use Rattle.std.proofs.lemmas.List.Elements.{All-nil, All-cons}
use Rattle.text_spec.specs.Lines.{lines_of, is_long}
use Rattle.text_spec.specs.Words.{are_blank}
use Rattle.plan_spec.specs.declared.item.Item.{Item}
use Rattle.grammar_spec.specs.declared.plan_line.Version.{Version}
use Rattle.grammar_spec.specs.declared.plan_line.Version.TheVariants.{One, Two}
use Rattle.grammar_spec.specs.declared.plan_line.PlanLine.TheVariants.{Header}
use Rattle.grammar_spec.specs.PlanText.{has_screens, read_plan_words, read_plan_line, read_plan_lines, read_plan_text, is_screen, is_printable, item_words, header_words, plan_words, plan_text_of, ArePrintable}
use Rattle.plan_text.specs.RoundTrip.{has_name, HaveNames, numbered, ReadsAgain}
use Rattle.plan_text.proofs.PrintedWords.{IsInkWord, name_ink, words_of_joined, joined_whole, lines_of_printed}
use Rattle.plan_text.proofs.PrintedItems.{both, fits, Allows, item_words_ink, item_words_again, item_words_not_blank}
use Rattle.plan_text.proofs.PrintedLengths.{item_short, text_short}

-- ---- one line

not_long : (n : ℕ) → n ≤ 20000 → nat_lt 20000 n ≡ false
not_long n h = grind arith

line_again : (header : Option Version) (words : List (List ℕ)) → All IsInkWord words → length (join_with_byte 32 words) ≤ 20000 → are_blank words ≡ false →
    read_plan_line header (join_with_byte 32 words) ≡ read_plan_words header words
unfolding read_plan_line
line_again header words ink short some =
    rw (not_long (length (join_with_byte 32 words)) short, joined_whole words ink, words_of_joined words ink, some) refl

-- ---- the items

any_first : (a b : Bool) → a ≡ true → (a || b) ≡ true
any_first true b h = refl
any_first false b h = absurd cc

any_rest : (a b : Bool) → b ≡ true → (a || b) ≡ true
any_rest true b h = refl
any_rest false b h = h

items_again : (version : Version) (number : ℕ) (items : List Item) → list_all is_printable items ≡ true → list_all has_name items ≡ true →
    (list_any is_screen items ≡ true → has_screens version ≡ true) → read_plan_lines (Some version) number (map (join_with_byte 32) (map item_words items)) ≡ Ok (numbered number items)
unfolding read_plan_lines
items_again version number [] h k allowed = refl
items_again version number (item ∷ items) h k allowed =
    let printable = both (is_printable item) (list_all is_printable items) h in
    let named = both (has_name item) (list_all has_name items) k in
    let fields = fits item printable.0 named.0 in
    let allows : Allows version item = λ e. allowed (any_first (is_screen item) (list_any is_screen items) e) in
    rw (
      line_again (Some version) (item_words item) (item_words_ink item fields) (item_short item printable.0 named.0) (item_words_not_blank item),
      item_words_again version item allows fields,
      items_again version (number + 1) items printable.1 named.1 (λ e. allowed (any_rest (is_screen item) (list_any is_screen items) e)),
    )
    refl

-- ---- the header

header_by : Bool → List (List ℕ)
header_by screens = codes "plan" ∷ (if screens then codes "2" else codes "1") ∷ []

version_by : Bool → Version
version_by screens = if screens then Two else One

header_ink : (screens : Bool) → All IsInkWord (header_by screens)
unfolding header_by
header_ink true = All-cons IsInkWord (codes "plan") (codes "2" ∷ []) (name_ink (codes "plan") refl) (All-cons IsInkWord (codes "2") [] (name_ink (codes "2") refl) (All-nil IsInkWord))
header_ink false = All-cons IsInkWord (codes "plan") (codes "1" ∷ []) (name_ink (codes "plan") refl) (All-cons IsInkWord (codes "1") [] (name_ink (codes "1") refl) (All-nil IsInkWord))

header_short : (screens : Bool) → length (join_with_byte 32 (header_by screens)) ≤ 20000
unfolding header_by
header_short true = omega arith
header_short false = omega arith

header_not_blank : (screens : Bool) → are_blank (header_by screens) ≡ false
unfolding header_by are_blank
header_not_blank screens = refl

header_words_again : (screens : Bool) → read_plan_words None (header_by screens) ≡ Ok (Header (version_by screens))
unfolding header_by version_by
header_words_again true = refl
header_words_again false = refl

header_again : (screens : Bool) → read_plan_line None (join_with_byte 32 (header_by screens)) ≡ Ok (Header (version_by screens))
header_again screens = line_again None (header_by screens) (header_ink screens) (header_short screens) (header_not_blank screens) ∙ header_words_again screens

version_allows : (screens : Bool) → screens ≡ true → has_screens (version_by screens) ≡ true
unfolding version_by
version_allows true e = refl
version_allows false e = absurd cc

-- ---- the whole

words_ink : (items : List Item) → list_all is_printable items ≡ true → list_all has_name items ≡ true → All (All IsInkWord) (map item_words items)
words_ink [] h k = All-nil (All IsInkWord)
words_ink (item ∷ items) h k =
    let printable = both (is_printable item) (list_all is_printable items) h in
    let named = both (has_name item) (list_all has_name items) k in
    All-cons (All IsInkWord) (item_words item) (map item_words items) (item_words_ink item (fits item printable.0 named.0)) (words_ink items printable.1 named.1)

text_lines : (items : List Item) → ArePrintable items → HaveNames items → lines_of (plan_text_of items) ≡ map (join_with_byte 32) (plan_words items)
unfolding plan_text_of header_by
text_lines items h k =
    lines_of_printed (plan_words items) (All-cons (All IsInkWord) (header_words items) (map item_words items) (header_ink (list_any is_screen items)) (words_ink items h.each k))

text_again : (items : List Item) → ArePrintable items → HaveNames items → read_plan_text (plan_text_of items) ≡ Ok (numbered 2 items)
unfolding read_plan_text read_plan_lines header_by
text_again items h k =
    let screens = list_any is_screen items in
    rw (text_lines items h k, header_again screens) (items_again (version_by screens) 2 items h.each k (version_allows screens))

lines_short : (items : List Item) → list_all is_printable items ≡ true → list_all has_name items ≡ true → list_any is_long (map (join_with_byte 32) (map item_words items)) ≡ false
lines_short [] h k = refl
lines_short (item ∷ items) h k =
    let printable = both (is_printable item) (list_all is_printable items) h in
    let named = both (has_name item) (list_all has_name items) k in
    rw (not_long (length (join_with_byte 32 (item_words item))) (item_short item printable.0 named.0)) (lines_short items printable.1 named.1)

all_short : (items : List Item) → ArePrintable items → HaveNames items → list_any is_long (lines_of (plan_text_of items)) ≡ false
unfolding header_by
all_short items h k =
    rw (text_lines items h k, not_long (length (join_with_byte 32 (header_words items))) (header_short (list_any is_screen items))) (lines_short items h.each k)

pub reads_again : (items : List Item) → ArePrintable items → HaveNames items → ReadsAgain items
reads_again items h k = record { read = text_again items h k; lines = all_short items h k; length = text_short items h k }
