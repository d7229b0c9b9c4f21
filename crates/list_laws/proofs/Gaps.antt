-- Numbers and pairs of a list from whose middle a part is gone.
--
-- Of a list xs, ys, zs, numbered from 0, the part ys is gone. The elements of xs keep their numbers, and those of zs
-- have
-- theirs less the length of ys: by recursion on each of the three parts. So the numbered elements of xs, zs are those
-- of
-- xs, ys, zs whose number stays, renumbered. Pairs of elements that a function gives, or that pass a test, are the
-- pairs
-- that it gives both of, or of which both pass it: by recursion on the list, row by row. Both together say that the
-- numbered pairs of xs, zs are those of xs, ys, zs of which both numbers stay, with both renumbered.
use Rattle.std.proofs.Common.{◌≡◌, ◌∙◌, Bool, true, false, ◌&&◌, ℕ, ◌+◌, ◌-◌, ◌≤◌, nat_lt, List, [], ◌∷◌, ◌++◌, map}
use Rattle.std.proofs.Common.{filter}
use Rattle.std.proofs.Common.{length, refl, sym, ap, arith}
use Rattle.std.specs.List.{enumerate_from}
use Rattle.std.proofs.lemmas.List.{map-append}
use Rattle.std.proofs.lemmas.List.Elements.{filter-append}
use Rattle.plane_spec.specs.Lists.{pairs, with_each}
use Rattle.list_laws.specs.Gaps.{stays, closed_up}
use Rattle.list_laws.proofs.Elements.{filter_map_first}

-- ---- pairs

-- a function of both of a pair
abbrev pub on_both : {X Y : Type 0} → (X → Y) → X × X → Y × Y
on_both f e = (f e.0, f e.1)

-- both of a pair pass
abbrev pub hold_both : {X : Type 0} → (X → Bool) → X × X → Bool
hold_both test e = test e.0 && test e.1

-- the pairs of what a function gives
pub pairs_map : {X Y : Type 0} (f : X → Y) (xs : List X) → pairs (map f xs) ≡ map (on_both f) (pairs xs)
pairs_map f [] = refl
pairs_map {X = X} f (x ∷ xs) =
    rw (map-append (on_both f) (map (with_each x) xs) (pairs xs), pairs_map f xs)
    (ap (λ r. r ++ map (on_both f) (pairs xs)) (row xs))
  where
    row : (ys : List X) → map (with_each (f x)) (map f ys) ≡ map (on_both f) (map (with_each x) ys)
    row [] = refl
    row (y ∷ ys) = ap (λ r. with_each (f x) (f y) ∷ r) (row ys)

-- the row of an element that passes
row_in : {X : Type 0} (test : X → Bool) (x : X) (ys : List X) → test x ≡ true
    → filter (hold_both test) (map (with_each x) ys) ≡ map (with_each x) (filter test ys)
row_in test x ys e = filter_map_first (hold_both test) (with_each x) ys ∙ ap (map (with_each x)) (same ys)
  where
    same : (ys : List _) → filter (λ y. test x && test y) ys ≡ filter test ys
    same ys = rw e refl

-- the row of one that fails
row_out : {X : Type 0} (test : X → Bool) (x : X) (ys : List X) → test x ≡ false
    → filter (hold_both test) (map (with_each x) ys) ≡ []
row_out test x [] e = refl
row_out test x (y ∷ ys) e = rw e (row_out test x ys e)

-- the pairs of those that pass
pub pairs_filter : {X : Type 0} (test : X → Bool) (xs : List X)
    → pairs (filter test xs) ≡ filter (hold_both test) (pairs xs)
pairs_filter test [] = refl
pairs_filter test (x ∷ xs) = by (test x) refl (pairs_filter test xs)
  where
    by : (t : Bool) → test x ≡ t → pairs (filter test xs) ≡ filter (hold_both test) (pairs xs)
        → pairs (filter test (x ∷ xs)) ≡ filter (hold_both test) (pairs (x ∷ xs))
    by true e h =
        rw (filter-append (hold_both test) (map (with_each x) xs) (pairs xs), row_in test x xs e, e, h) refl
    by false e h =
        rw (filter-append (hold_both test) (map (with_each x) xs) (pairs xs), row_out test x xs e, e, h) refl

-- ---- numbers

-- the number of a numbered element stays
abbrev pub stays_at : {X : Type 0} → ℕ → ℕ → ℕ × X → Bool
stays_at start count e = stays start count e.0

-- the element with the number that it has when the part is gone
abbrev pub renumbered_at : {X : Type 0} → ℕ → ℕ → ℕ × X → ℕ × X
renumbered_at start count e = (closed_up start count e.0, e.1)

-- two lists joined, numbered
pub enumerate_append : {X : Type 0} (k : ℕ) (xs ys : List X)
    → enumerate_from k (xs ++ ys) ≡ enumerate_from k xs ++ enumerate_from (k + length xs) ys
enumerate_append k [] ys = ap (λ n. enumerate_from n ys) (plus_zero k)
  where
    plus_zero : (k : ℕ) → k ≡ k + 0
    plus_zero k = omega arith
enumerate_append k (x ∷ xs) ys =
    let e : k + 1 + length xs ≡ k + length (x ∷ xs) = omega arith in
    ap (λ r. (k, x) ∷ r) (enumerate_append (k + 1) xs ys
    ∙ ap (λ n. enumerate_from (k + 1) xs ++ enumerate_from n ys) e)

-- in front of the part numbers stay
in_front : {X : Type 0} (start count k : ℕ) (xs : List X) → k + length xs ≤ start
    → map (renumbered_at start count) (filter (stays_at start count) (enumerate_from k xs)) ≡ enumerate_from k xs
in_front start count k [] h = refl
in_front start count k (x ∷ xs) h =
    let low : nat_lt k start ≡ true = grind arith in
    rw (low, low) (ap (λ r. (k, x) ∷ r) (in_front start count (k + 1) xs (omega arith)))

-- in the part they are gone
in_gap : {X : Type 0} (start count k : ℕ) (xs : List X) → start ≤ k → k + length xs ≤ start + count
    → filter (stays_at start count) (enumerate_from k xs) ≡ []
in_gap start count k [] h l = refl
in_gap start count k (x ∷ xs) h l =
    let low : nat_lt k start ≡ false = grind arith in
    let high : nat_lt k (start + count) ≡ true = grind arith in
    rw (low, high) (in_gap start count (k + 1) xs (omega arith) (omega arith))

-- behind the part they are less by its length
behind : {X : Type 0} (start count k j : ℕ) (xs : List X) → start + count ≤ k → k ≡ j + count
    → map (renumbered_at start count) (filter (stays_at start count) (enumerate_from k xs)) ≡ enumerate_from j xs
behind start count k j [] h e = refl
behind start count k j (x ∷ xs) h e =
    let low : nat_lt k start ≡ false = grind arith in
    let high : nat_lt k (start + count) ≡ false = grind arith in
    let same : k - count ≡ j = omega arith in
    rw (low, high, low, same) (ap (λ r. (j, x) ∷ r)
    (behind start count (k + 1) (j + 1) xs (omega arith) (omega arith)))

-- ---- the list xs, ys, zs without ys

module _ {X : Type 0} (xs ys zs : List X) where
  -- an element with its number when ys is gone
  abbrev renumber : ℕ × X → ℕ × X
  renumber = renumbered_at (length xs) (length ys)

  -- an element of xs or zs
  abbrev keeps : ℕ × X → Bool
  keeps = stays_at (length xs) (length ys)

  -- the numbers close up
  pub numbers_close_up : map renumber (filter keeps (enumerate_from 0 (xs ++ (ys ++ zs))))
      ≡ enumerate_from 0 (xs ++ zs)
  numbers_close_up =
      let front = enumerate_from 0 xs in
      let gone = enumerate_from (0 + length xs) ys in
      let back = enumerate_from (0 + length xs + length ys) zs in
      let parts : enumerate_from 0 (xs ++ (ys ++ zs)) ≡ front ++ (gone ++ back) =
      enumerate_append 0 xs (ys ++ zs) ∙ ap (λ r. front ++ r) (enumerate_append (0 + length xs) ys zs) in
      let left : filter keeps (gone ++ back) ≡ filter keeps back =
      filter-append keeps gone back
      ∙ ap (λ r. r ++ filter keeps back)
      (in_gap (length xs) (length ys) (0 + length xs) ys (omega arith) (omega arith)) in
      ap (λ r. map renumber (filter keeps r)) parts
      ∙ ap (map renumber) (filter-append keeps front (gone ++ back) ∙ ap (λ r. filter keeps front ++ r) left)
      ∙ map-append renumber (filter keeps front) (filter keeps back)
      ∙ ap (λ r. r ++ map renumber (filter keeps back)) (in_front (length xs) (length ys) 0 xs (omega arith))
      ∙ ap (λ r. front ++ r)
      (behind (length xs) (length ys) (0 + length xs + length ys) (0 + length xs) zs (omega arith) (omega arith))
      ∙ sym (enumerate_append 0 xs zs)

  -- the pairs of what is left are the pairs of which both stay, with their numbers closed up
  pub pairs_close_up :
      pairs (enumerate_from 0 (xs ++ zs)) ≡ map (on_both renumber)
      (filter (hold_both keeps) (pairs (enumerate_from 0 (xs ++ (ys ++ zs)))))
  pairs_close_up =
      ap pairs (sym numbers_close_up)
      ∙ pairs_map renumber (filter keeps (enumerate_from 0 (xs ++ (ys ++ zs))))
      ∙ ap (map (on_both renumber)) (pairs_filter keeps (enumerate_from 0 (xs ++ (ys ++ zs))))
