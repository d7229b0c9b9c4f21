-- What holds of all elements, and how many there are, after lists are filtered, ordered and joined.
use Rattle.std.proofs.Common.{◌≡◌, ◌≤◌, ◌<◌, ◌+◌, ◌*◌, ℕ, Bool, true, false, List, [], ◌∷◌, length, refl, ap, ◌∙◌, arith, inl, inr}
use Rattle.std.specs.Prelude.{All, Contains, Option, Some, None, cond}
use Rattle.std.specs.List.{flat_map, filter_map, cons_option, list_any}
use Rattle.std.proofs.lemmas.List.{length-append}
use Rattle.std.proofs.lemmas.List.Elements.{All-nil, All-cons, All-head, All-tail, All-append}
use Rattle.plane_spec.specs.Lists.{distinct_after, inserted_by, in_order}
use Rattle.graph_laws.proofs.Members.{contains_none, first_or_later}

-- ---- what holds of all

pub found_hold : {X Y : Type 0} (P : X → Type 0) (Q : Y → Type 0) (f : X → Option Y)
    → ((x : X) → P x → (y : Y) → f x ≡ Some y → Q y) → (xs : List X) → All P xs → All Q (filter_map f xs)
found_hold P Q f gives [] all = All-nil Q
found_hold {Y = Y} P Q f gives (x ∷ xs) all =
    by (f x) (gives x (All-head P x xs all)) (found_hold P Q f gives xs (All-tail P x xs all))
  where
    by : (found : Option Y) → ((y : Y) → found ≡ Some y → Q y) → All Q (filter_map f xs)
        → All Q (cons_option found (filter_map f xs))
    by None here rest = rest
    by (Some y) here rest = All-cons Q y (filter_map f xs) (here y refl) rest

inserted_hold : {X : Type 0} (P : X → Type 0) (before : X → X → Bool) (x : X) (ys : List X) → P x → All P ys
    → All P (inserted_by before x ys)
inserted_hold P before x [] here all = All-cons P x [] here all
inserted_hold {X = X} P before x (y ∷ ys) here all =
    by (before y x) (inserted_hold P before x ys here (All-tail P y ys all))
  where
    by : (t : Bool) → All P (inserted_by before x ys)
        → All P (cond t (y ∷ inserted_by before x ys) (x ∷ y ∷ ys))
    by true later = All-cons P y (inserted_by before x ys) (All-head P y ys all) later
    by false later = All-cons P x (y ∷ ys) here all

pub ordered_hold : {X : Type 0} (P : X → Type 0) (before : X → X → Bool) (xs : List X) → All P xs
    → All P (in_order before xs)
ordered_hold P before [] all = All-nil P
ordered_hold P before (x ∷ xs) all =
    inserted_hold P before x (in_order before xs) (All-head P x xs all)
    (ordered_hold P before xs (All-tail P x xs all))

pub joined_hold : {X Y : Type 0} (P : X → Type 0) (Q : Y → Type 0) (f : X → List Y) → ((x : X) → P x → All Q (f x))
    → (xs : List X) → All P xs → All Q (flat_map f xs)
joined_hold P Q f gives [] all = All-nil Q
joined_hold P Q f gives (x ∷ xs) all =
    All-append Q (f x) (flat_map f xs) (gives x (All-head P x xs all))
    (joined_hold P Q f gives xs (All-tail P x xs all))

-- ---- how many there are

one_more : {Y : Type 0} (found : Option Y) (ys : List Y) → length (cons_option found ys) ≤ 1 + length ys
one_more None ys = omega arith
one_more (Some y) ys = omega arith

pub no_more_found : {X Y : Type 0} (f : X → Option Y) (xs : List X) → length (filter_map f xs) ≤ length xs
no_more_found f [] = omega arith
no_more_found f (x ∷ xs) = omega (arith, one_more (f x) (filter_map f xs), no_more_found f xs)

-- where nothing is found at one element, fewer are found
pub fewer_found : {X Y : Type 0} (f : X → Option Y) (xs : List X) (x : X) → Contains xs x → f x ≡ None
    → length (filter_map f xs) < length xs
fewer_found f [] x h none = absurd (contains_none x h)
fewer_found {X} {Y} f (w ∷ xs) x h none = elim (first_or_later w xs x h) [
  | inl first ↦ here (ap f first ∙ none)
  | inr later ↦ omega (arith, one_more (f w) (filter_map f xs), fewer_found f xs x later none)
]
  where
    here : f w ≡ None → length (filter_map f (w ∷ xs)) < length (w ∷ xs)
    here e = omega (arith, ap (λ found. length (cons_option found (filter_map f xs))) e, no_more_found f xs)

pub no_more_distinct : {X : Type 0} (same : X → X → Bool) (seen xs : List X)
    → length (distinct_after same seen xs) ≤ length xs
no_more_distinct same seen [] = omega arith
no_more_distinct {X} same seen (x ∷ xs) = by (list_any (same x) seen) (no_more_distinct same (x ∷ seen) xs)
  where
    by : (t : Bool) → length (distinct_after same (x ∷ seen) xs) ≤ length xs
        → length (cond t (distinct_after same (x ∷ seen) xs) (x ∷ distinct_after same (x ∷ seen) xs)) ≤ length
        (x ∷ xs)
    by true h = omega (arith, h)
    by false h = omega (arith, h)

inserted_length : {X : Type 0} (before : X → X → Bool) (x : X) (ys : List X)
    → length (inserted_by before x ys) ≡ 1 + length ys
inserted_length before x [] = refl
inserted_length {X} before x (y ∷ ys) = by (before y x) (inserted_length before x ys)
  where
    by : (t : Bool) → length (inserted_by before x ys) ≡ 1 + length ys
        → length (cond t (y ∷ inserted_by before x ys) (x ∷ y ∷ ys)) ≡ 1 + length (y ∷ ys)
    by true h = omega (arith, h)
    by false h = omega arith

pub ordered_length : {X : Type 0} (before : X → X → Bool) (xs : List X) → length (in_order before xs) ≡ length xs
ordered_length before [] = refl
ordered_length before (x ∷ xs) =
    omega (arith, inserted_length before x (in_order before xs), ordered_length before xs)

-- lists of so many elements each, joined
pub joined_length : {X Y : Type 0} (P : X → Type 0) (f : X → List Y) (most : ℕ)
    → ((x : X) → P x → length (f x) ≤ most)
    → (xs : List X) → All P xs → length (flat_map f xs) ≤ length xs * most
joined_length P f most few [] all = omega arith
joined_length P f most few (x ∷ xs) all =
    omega (
      arith,
      length-append (f x) (flat_map f xs),
      few x (All-head P x xs all),
      joined_length P f most few xs (All-tail P x xs all),
    )
