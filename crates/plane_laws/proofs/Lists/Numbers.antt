-- The elements of a list by their numbers: of two of them, the one with the smaller number stands before the other.
use Rattle.std.specs.Prelude.{List, [], ◌∷◌, map}
use Rattle.std.specs.List.{enumerate_from}
use Rattle.std.proofs.Common.{ap, arith, inl, inr, ℕ, ◌≡◌, ◌+◌, ◌≤◌, ◌⊎◌, ◌<◌}
use Rattle.plane_spec.specs.Lists.{with_each, pairs}
use Rattle.plane_laws.proofs.Lists.Members.{IsIn, from_append, in_pairs}

-- ---- numbers

number_from : {X : Type 0} (n : ℕ) (xs : List X) (e : ℕ × X) → IsIn (enumerate_from n xs) e → n ≤ e.0
number_from n [] e h = absurd h
number_from n (x ∷ xs) e (inl i) = let f : n ≡ e.0 = ap (λ t. t.0) i in omega (arith, f)
number_from n (x ∷ xs) e (inr h) = let k = number_from (n + 1) xs e h in omega (arith, k)

paired : {X : Type 0} (z : X) (xs : List X) (e : X × X) → IsIn (map (with_each z) xs) e → (z ≡ e.0) × IsIn xs e.1
paired z [] e h = absurd h
paired z (x ∷ xs) e (inl i) = (ap (λ t. t.0) i, inl (ap (λ t. t.1) i))
paired z (x ∷ xs) e (inr h) = let k = paired z xs e h in (k.0, inr k.1)

in_order_of_numbers : {X : Type 0} (n : ℕ) (xs : List X) (e : (ℕ × X) × (ℕ × X))
    → IsIn (pairs (enumerate_from n xs)) e → e.0.0 < e.1.0
in_order_of_numbers n [] e h = absurd h
in_order_of_numbers n (x ∷ xs) e h =
    by_part (from_append (map (with_each (n, x)) (enumerate_from (n + 1) xs)) (pairs (enumerate_from (n + 1) xs)) e h)
    (in_order_of_numbers (n + 1) xs e)
  where
    by_part : IsIn (map (with_each (n, x)) (enumerate_from (n + 1) xs)) e ⊎ IsIn (pairs (enumerate_from (n + 1) xs)) e
        → (IsIn (pairs (enumerate_from (n + 1) xs)) e → e.0.0 < e.1.0) → e.0.0 < e.1.0
    by_part (inl k) again =
        let p = paired (n, x) (enumerate_from (n + 1) xs) e k in
        let first : n ≡ e.0.0 = ap (λ t. t.0) p.0 in
        let second = number_from (n + 1) xs e.1 p.1 in
        omega (arith, first, second)
    by_part (inr k) again = again k

pub number_of : {X : Type 0} (n : ℕ) (xs : List X) (x : X) → IsIn xs x → (i : ℕ) × IsIn (enumerate_from n xs) (i, x)
number_of n [] x h = absurd h
number_of n (y ∷ xs) x (inl e) = (n, inl (ap (λ t. (n, t)) e))
number_of n (y ∷ xs) x (inr h) = let k = number_of (n + 1) xs x h in (k.0, inr k.1)

pub without_number : {X : Type 0} (n : ℕ) (xs : List X) (e : ℕ × X) → IsIn (enumerate_from n xs) e → IsIn xs e.1
without_number n [] e h = absurd h
without_number n (x ∷ xs) e (inl i) = inl (ap (λ t. t.1) i)
without_number n (x ∷ xs) e (inr h) = inr (without_number (n + 1) xs e h)

pub one_edge : {X : Type 0} (n : ℕ) (xs : List X) (i : ℕ) (x y : X) → IsIn (enumerate_from n xs) (i, x)
    → IsIn (enumerate_from n xs) (i, y) → x ≡ y
one_edge {X = X} n xs i x y h k = by_case (in_pairs (enumerate_from n xs) (i, x) (i, y) h k)
  where
    by_case : (◌≡◌ {A = ℕ × X} (i, x) (i, y)) ⊎ (IsIn (pairs (enumerate_from n xs)) ((i, x), (i, y))
        ⊎ IsIn (pairs (enumerate_from n xs)) ((i, y), (i, x))) → x ≡ y
    by_case (inl e) = ap (λ t. t.1) e
    by_case (inr (inl p)) = let l = in_order_of_numbers n xs ((i, x), (i, y)) p in absurd (omega (arith, l))
    by_case (inr (inr p)) = let l = in_order_of_numbers n xs ((i, y), (i, x)) p in absurd (omega (arith, l))

pub two_edges : {X : Type 0} (n : ℕ) (xs : List X) (i j : ℕ) (x y : X) → IsIn (enumerate_from n xs) (i, x)
    → IsIn (enumerate_from n xs) (j, y) → i < j → IsIn (pairs (enumerate_from n xs)) ((i, x), (j, y))
two_edges {X = X} n xs i j x y h k less = by_case (in_pairs (enumerate_from n xs) (i, x) (j, y) h k)
  where
    by_case : (◌≡◌ {A = ℕ × X} (i, x) (j, y)) ⊎ (IsIn (pairs (enumerate_from n xs)) ((i, x), (j, y))
        ⊎ IsIn (pairs (enumerate_from n xs)) ((j, y), (i, x))) → IsIn (pairs (enumerate_from n xs)) ((i, x), (j, y))
    by_case (inl e) = let same : i ≡ j = ap (λ t. t.0) e in absurd (omega (arith, less, same))
    by_case (inr (inl p)) = p
    by_case (inr (inr p)) = let l = in_order_of_numbers n xs ((j, y), (i, x)) p in absurd (omega (arith, l, less))
