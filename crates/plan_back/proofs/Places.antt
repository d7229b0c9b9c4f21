-- Lists with one more element at a place.
use Rattle.std.specs.Prelude.{◌≡◌, ◌≤◌, ℕ, ◌+◌, Bool, true, false, not, ◌&&◌, ◌||◌, List, [], ◌∷◌, ◌++◌, length, map, filter, take, drop, Some}
use Rattle.std.specs.List.{list_all, list_any, sum_by}
use Rattle.std.proofs.Common.{sym, ap, ap₂, ◌∙◌, arith, zero-add}
use Rattle.std.proofs.Math.Bool.{and_comm, or_comm}
use Rattle.std.proofs.Math.Seq.{take-append_seam, drop-append_seam, take-append-add, drop-append-add}
use Rattle.std.proofs.lemmas.Bool.{or_parts}
use Rattle.std.proofs.lemmas.List.{append-nil, append_assoc, take-append-drop, take-append-le, drop-append-le, take-map, drop-map, map-append, length-append}
use Rattle.std.proofs.lemmas.List.Elements.{filter-append}
use Rattle.std.proofs.lemmas.List.Folds.{list_all-append, list_any-append}
use Rattle.std.proofs.lemmas.List.Sums.{sum_by-append, sum_by-cons, sum_by_push}
use Rattle.plan_spec.specs.Accepted.{each_two}
use Rattle.list_laws.proofs.Tests.{list_all_push, list_any_push, list_all_middle, list_any_middle, list_all_agree, filter_not_none}
use Rattle.plan_laws.proofs.Pairs.{each_two_middle, each_two_push}
use Rattle.plan_back.specs.Places.{put_at, first_from}

-- ---- lists that are joined

-- between two lists
pub put_between : {X : Type 0} (before : List X) (x : X) (after : List X) → put_at (length before) x (before ++ after) ≡ before ++ x ∷ after
put_between before x after = ap₂ (λ a b. a ++ x ∷ b) (take-append_seam before after) (drop-append_seam before after)

-- at the end
pub put_last : {X : Type 0} (x : X) (xs : List X) → put_at (length xs) x xs ≡ xs ++ x ∷ []
put_last x xs = ap (put_at (length xs) x) (sym (append-nil xs)) ∙ put_between xs x []

-- in the second of two lists
pub put_behind : {X : Type 0} (xs ys : List X) (k : ℕ) (x : X) → put_at (length xs + k) x (xs ++ ys) ≡ xs ++ put_at k x ys
put_behind xs ys k x =
    ap₂ (λ a b. a ++ x ∷ b) (take-append-add xs ys k) (drop-append-add xs ys k)
    ∙ append_assoc xs (take k ys) (x ∷ drop k ys)

-- in the first of two lists
pub put_before : {X : Type 0} (xs ys : List X) (k : ℕ) (x : X) → k ≤ length xs → put_at k x (xs ++ ys) ≡ put_at k x xs ++ ys
put_before xs ys k x within =
    ap₂ (λ a b. a ++ x ∷ b) (take-append-le k xs ys within) (drop-append-le k xs ys within)
    ∙ sym (append_assoc (take k xs) (x ∷ drop k xs) ys)

-- among what a function gives
pub put_mapped : {X Y : Type 0} (f : X → Y) (xs : List X) (k : ℕ) (x : X) → put_at k (f x) (map f xs) ≡ map f (put_at k x xs)
put_mapped f xs k x =
    ap₂ (λ a b. a ++ f x ∷ b) (take-map f k xs) (drop-map f k xs)
    ∙ sym (map-append f (take k xs) (x ∷ drop k xs))

-- ---- an element in the middle, moved to the end

module _ {X : Type 0} (before : List X) (x : X) (after : List X) where
  pub all_moved : (p : X → Bool) → list_all p (before ++ x ∷ after) ≡ list_all p ((before ++ after) ++ x ∷ [])
  all_moved p =
      list_all_middle p before x after
      ∙ and_comm (p x) (list_all p (before ++ after))
      ∙ sym (list_all_push p (before ++ after) x)

  pub any_moved : (p : X → Bool) → list_any p (before ++ x ∷ after) ≡ list_any p ((before ++ after) ++ x ∷ [])
  any_moved p =
      list_any_middle p before x after
      ∙ or_comm (p x) (list_any p (before ++ after))
      ∙ sym (list_any_push p (before ++ after) x)

  -- a test of two that doesn't ask which is named first
  pub each_two_moved : (r : X → X → Bool) → ((a b : X) → r a b ≡ r b a)
      → each_two r (before ++ x ∷ after) ≡ each_two r ((before ++ after) ++ x ∷ [])
  each_two_moved r turned =
      each_two_middle r before x after
      ∙ ap (λ t. (list_all (λ z. r z x) before && t) && each_two r (before ++ after)) (list_all_agree (r x) (λ z. r z x) (turned x) after)
      ∙ ap (λ t. t && each_two r (before ++ after)) (sym (list_all-append (λ z. r z x) before after))
      ∙ and_comm (list_all (λ z. r z x) (before ++ after)) (each_two r (before ++ after))
      ∙ sym (each_two_push r (before ++ after) x)

  pub length_moved : length (before ++ x ∷ after) ≡ length ((before ++ after) ++ x ∷ [])
  length_moved = omega (arith, length-append before (x ∷ after), length-append (before ++ after) (x ∷ []), length-append before after)

  pub sum_moved : (f : X → ℕ) → sum_by f (before ++ x ∷ after) ≡ sum_by f ((before ++ after) ++ x ∷ [])
  sum_moved f = omega (arith, sum_by-append f before (x ∷ after), sum_by-cons f x after, sum_by_push f (before ++ after) x, sum_by-append f before after)

-- ---- what is put in, found and removed

pub found_where_put : {X : Type 0} (test : X → Bool) (k : ℕ) (x : X) (xs : List X) → test x ≡ true → list_any test (put_at k x xs) ≡ true
found_where_put test k x xs passes = list_any_middle test (take k xs) x (drop k xs) ∙ ap (λ t. t || list_any test (take k xs ++ drop k xs)) passes

pub removed_where_put : {X : Type 0} (test : X → Bool) (k : ℕ) (x : X) (xs : List X) → test x ≡ true → list_any test xs ≡ false
    → filter (λ y. not (test y)) (put_at k x xs) ≡ xs
removed_where_put test k x xs passes none =
    let neither = or_parts (list_any test (take k xs)) (list_any test (drop k xs))
    (sym (list_any-append test (take k xs) (drop k xs)) ∙ ap (list_any test) (take-append-drop k xs) ∙ none) in
    filter-append (λ y. not (test y)) (take k xs) (x ∷ drop k xs)
    ∙ rw (filter_not_none test (take k xs) neither.0, passes, filter_not_none test (drop k xs) neither.1) (take-append-drop k xs)

-- ---- the first that passes

pub first_between : {X : Type 0} (test : X → Bool) (k : ℕ) (before : List X) (it : X) (after : List X)
    → list_any test before ≡ false → test it ≡ true → first_from k test (before ++ it ∷ after) ≡ Some (k + length before, it)
first_between test k [] it after none here = rw here (ap (λ n. Some (n, it)) (omega arith))
first_between test k (x ∷ before) it after none here =
    let neither = or_parts (test x) (list_any test before) none in
    rw neither.0 (first_between test (k + 1) before it after neither.1 here ∙ ap (λ n. Some (n, it)) (omega arith))

-- in a list that begins at the place 0
pub first_found : {X : Type 0} (test : X → Bool) (before : List X) (it : X) (after : List X)
    → list_any test before ≡ false → test it ≡ true → first_from 0 test (before ++ it ∷ after) ≡ Some (length before, it)
first_found test before it after none here =
    first_between test 0 before it after none here ∙ ap (λ n. Some (n, it)) (zero-add (length before))
