-- A list without some of its elements.
--
-- A list is dropped to another one element by element: each is kept or dropped, so lemmas go by recursion on how it
-- was
-- dropped, and no list is cut in parts. What is joined, or given by a function, is dropped accordingly. A test that
-- fails of all that is dropped is passed by some element of the one list exactly where by some of the other.
use Rattle.std.proofs.Common.{◌≡◌, ◌∙◌, Bool, true, false, ◌||◌, List, [], ◌∷◌, ◌++◌, Option, Some, None, refl, ap}
use Rattle.std.proofs.Common.{cond, not, map, filter}
use Rattle.std.specs.List.{All, list_any, filter_map, flat_map, cons_option}
use Rattle.std.proofs.lemmas.List.Elements.{All-cons, All-head, All-tail}
use Rattle.list_laws.specs.Dropped.{Dropped, done, keep, drop}

-- a list is itself with nothing dropped
pub nothing_dropped : {X : Type 0} (P : X → Type 0) (xs : List X) → Dropped P xs xs
nothing_dropped P [] = done
nothing_dropped P (x ∷ xs) = keep x xs xs (nothing_dropped P xs)

-- where P holds of all elements, all may be dropped
pub all_dropped : {X : Type 0} (P : X → Type 0) (xs : List X) → All P xs → Dropped P xs []
all_dropped P [] all = done
all_dropped P (x ∷ xs) all = drop x xs [] (All-head P x xs all) (all_dropped P xs (All-tail P x xs all))

-- two lists joined
pub both_dropped : {X : Type 0} (P : X → Type 0) (xs ys zs ws : List X) → Dropped P xs ys → Dropped P zs ws
    → Dropped P (xs ++ zs) (ys ++ ws)
both_dropped P xs ys zs ws done e = e
both_dropped P xs ys zs ws (keep x us vs d) e = keep x (us ++ zs) (vs ++ ws) (both_dropped P us vs zs ws d e)
both_dropped P xs ys zs ws (drop x us vs p d) e = drop x (us ++ zs) (vs ++ ws) p (both_dropped P us vs zs ws d e)

-- what holds of all elements holds of those that are left
pub left_hold : {X : Type 0} (P Q : X → Type 0) (xs ys : List X) → Dropped P xs ys → All Q xs → All Q ys
left_hold P Q xs ys done all = all
left_hold P Q xs ys (keep x us vs d) all =
    All-cons Q x vs (All-head Q x us all) (left_hold P Q us vs d (All-tail Q x us all))
left_hold P Q xs ys (drop x us vs p d) all = left_hold P Q us vs d (All-tail Q x us all)

-- what holds of all elements is known of each that is dropped
pub known_dropped : {X : Type 0} (P Q R : X → Type 0) → ((x : X) → P x → Q x → R x) → (xs ys : List X)
    → Dropped P xs ys
    → All Q xs → Dropped R xs ys
known_dropped P Q R both xs ys done all = done
known_dropped P Q R both xs ys (keep x us vs d) all =
    keep x us vs (known_dropped P Q R both us vs d (All-tail Q x us all))
known_dropped P Q R both xs ys (drop x us vs p d) all =
    drop x us vs (both x p (All-head Q x us all)) (known_dropped P Q R both us vs d (All-tail Q x us all))

-- what a function gives of the elements, where Q holds of all that it gives of one with P
pub mapped_dropped : {X Y : Type 0} (P : X → Type 0) (Q : Y → Type 0) (f : X → Option Y)
    → ((x : X) → P x → (y : Y) → f x ≡ Some y → Q y) → (xs ys : List X) → Dropped P xs ys
    → Dropped Q (filter_map f xs) (filter_map f ys)
mapped_dropped P Q f gives xs ys done = done
mapped_dropped {Y = Y} P Q f gives xs ys (keep x us vs d) = kept (f x) (mapped_dropped P Q f gives us vs d)
  where
    kept : (o : Option Y) → Dropped Q (filter_map f us) (filter_map f vs)
        → Dropped Q (cons_option o (filter_map f us)) (cons_option o (filter_map f vs))
    kept None e = e
    kept (Some y) e = keep y (filter_map f us) (filter_map f vs) e
mapped_dropped {Y = Y} P Q f gives xs ys (drop x us vs p d) =
    gone (f x) (gives x p) (mapped_dropped P Q f gives us vs d)
  where
    gone : (o : Option Y) → ((y : Y) → o ≡ Some y → Q y) → Dropped Q (filter_map f us) (filter_map f vs)
        → Dropped Q (cons_option o (filter_map f us)) (filter_map f vs)
    gone None h e = e
    gone (Some y) h e = drop y (filter_map f us) (filter_map f vs) (h y refl) e

-- what a function gives of each element
pub each_dropped : {X Y : Type 0} (P : X → Type 0) (Q : Y → Type 0) (f : X → Y) → ((x : X) → P x → Q (f x))
    → (xs ys : List X) → Dropped P xs ys → Dropped Q (map f xs) (map f ys)
each_dropped P Q f gives xs ys done = done
each_dropped P Q f gives xs ys (keep x us vs d) =
    keep (f x) (map f us) (map f vs) (each_dropped P Q f gives us vs d)
each_dropped P Q f gives xs ys (drop x us vs p d) =
    drop (f x) (map f us) (map f vs) (gives x p) (each_dropped P Q f gives us vs d)

-- the lists that a function gives of each element, joined
pub parts_dropped : {X Y : Type 0} (P : X → Type 0) (Q : Y → Type 0) (f : X → List Y) → ((x : X) → P x → All Q (f x))
    → (xs ys : List X) → Dropped P xs ys → Dropped Q (flat_map f xs) (flat_map f ys)
parts_dropped P Q f gives xs ys done = done
parts_dropped P Q f gives xs ys (keep x us vs d) =
    both_dropped Q (f x) (f x) (flat_map f us) (flat_map f vs) (nothing_dropped Q (f x))
    (parts_dropped P Q f gives us vs d)
parts_dropped P Q f gives xs ys (drop x us vs p d) =
    both_dropped Q (f x) [] (flat_map f us) (flat_map f vs) (all_dropped Q (f x) (gives x p))
    (parts_dropped P Q f gives us vs d)

-- a list without those that pass a test
pub passing_dropped : {X : Type 0} (P : X → Type 0) (test : X → Bool) (xs : List X) → All P (filter test xs)
    → Dropped P xs (filter (λ x. not (test x)) xs)
passing_dropped P test [] all = done
passing_dropped {X = X} P test (x ∷ xs) all = by (test x) all (λ h. passing_dropped P test xs h)
  where
    by : (t : Bool) → All P (cond t (x ∷ filter test xs) (filter test xs))
        → (All P (filter test xs) → Dropped P xs (filter (λ x. not (test x)) xs))
        → Dropped P (x ∷ xs) (cond (not t) (x ∷ filter (λ x. not (test x)) xs) (filter (λ x. not (test x)) xs))
    by true all ih =
        drop x xs (filter (λ x. not (test x)) xs) (All-head P x (filter test xs) all)
        (ih (All-tail P x (filter test xs) all))
    by false all ih = keep x xs (filter (λ x. not (test x)) xs) (ih all)

-- a test that fails of all that is dropped
pub found_alike : {X : Type 0} (P : X → Type 0) (test : X → Bool) → ((x : X) → P x → test x ≡ false)
    → (xs ys : List X)
    → Dropped P xs ys → list_any test ys ≡ list_any test xs
found_alike P test fails xs ys done = refl
found_alike P test fails xs ys (keep x us vs d) = ap (λ t. test x || t) (found_alike P test fails us vs d)
found_alike P test fails xs ys (drop x us vs p d) = found_alike P test fails us vs d ∙ gone (test x) (fails x p)
  where
    gone : (t : Bool) → t ≡ false → list_any test us ≡ (t || list_any test us)
    gone true e = cc
    gone false e = refl
