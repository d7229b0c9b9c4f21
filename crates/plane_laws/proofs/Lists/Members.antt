-- The elements of a list, and what passes a test.
use Rattle.std.specs.Prelude.{All, Contains, List, ◌∷◌, Bool, true, ◌||◌, false}
use Rattle.std.proofs.lemmas.List.Elements.{All-cons, All-head, All-tail, All-nil, All-contains_itself}
use Rattle.std.specs.List.{list_all, list_any, flat_map}
use Rattle.std.specs.Prelude.{◌++◌}
use Rattle.std.proofs.Common.{List, ◌≡◌, ◌⊎◌, [], ◌∷◌, Bool, true, inl, inr, subst, refl, ap, map, false, ◌||◌}
use Rattle.std.proofs.Common.{sym, ◌∙◌}
use Rattle.std.proofs.lemmas.Bool.{and_parts, and_from, or_cases}
use Rattle.plane_spec.specs.Lists.{pairs, with_each}

-- x is an element of the list
abbrev pub IsIn : {X : Type 0} → List X → X → Type 0
IsIn [] x = ⊥
IsIn (y ∷ ys) x = (y ≡ x) ⊎ IsIn ys x

-- an element that passes a test
pub record Found {X : Type 0} (test : X → Bool) (xs : List X) : Type 0 where
  pub it : X
  pub is_in : IsIn xs it
  pub passes : test it ≡ true

-- where all pass, each one does
pub each_passes : {X : Type 0} (test : X → Bool) (xs : List X) (x : X) → list_all test xs ≡ true → IsIn xs x
    → test x ≡ true
each_passes test [] x h k = absurd k
each_passes test (y ∷ ys) x h (inl e) = subst (λ t. test t ≡ true) e (and_parts (test y) (list_all test ys) h).0
each_passes test (y ∷ ys) x h (inr k) = each_passes test ys x (and_parts (test y) (list_all test ys) h).1 k

-- where each one passes, all do
pub all_pass : {X : Type 0} (test : X → Bool) (xs : List X) → ((x : X) → IsIn xs x → test x ≡ true)
    → list_all test xs ≡ true
all_pass test [] h = refl
all_pass test (y ∷ ys) h = and_from (test y) (list_all test ys) (h y (inl refl)) (all_pass test ys (λ x k. h x (inr k)))

found_later : {X : Type 0} (test : X → Bool) (y : X) (ys : List X) → Found test ys → Found test (y ∷ ys)
found_later test y ys f = record { it = f.it; is_in = inr f.is_in; passes = f.passes }

-- where any passes, there is one
pub found : {X : Type 0} (test : X → Bool) (xs : List X) → list_any test xs ≡ true → Found test xs
found test [] h = cc
found test (y ∷ ys) h =
    elim (or_cases (test y) (list_any test ys) h) [
      | inl e ↦ record { it = y; is_in = inl refl; passes = e }
      | inr e ↦ found_later test y ys (found test ys e)
    ]

-- a mapped element is in the mapped list
pub mapped : {X Y : Type 0} (f : X → Y) (xs : List X) (x : X) → IsIn xs x → IsIn (map f xs) (f x)
mapped f [] x k = absurd k
mapped f (y ∷ ys) x (inl e) = inl (ap f e)
mapped f (y ∷ ys) x (inr k) = inr (mapped f ys x k)

-- where an element of a mapped list comes from
pub record Source {X Y : Type 0} (f : X → Y) (xs : List X) (y : Y) : Type 0 where
  pub it : X
  pub is_in : IsIn xs it
  pub is : f it ≡ y

source_later : {X Y : Type 0} (f : X → Y) (x : X) (xs : List X) (y : Y) → Source f xs y → Source f (x ∷ xs) y
source_later f x xs y s = record { it = s.it; is_in = inr s.is_in; is = s.is }

pub source : {X Y : Type 0} (f : X → Y) (xs : List X) (y : Y) → IsIn (map f xs) y → Source f xs y
source f [] y k = absurd k
source f (x ∷ xs) y (inl e) = record { it = x; is_in = inl refl; is = e }
source f (x ∷ xs) y (inr k) = source_later f x xs y (source f xs y k)

record BothFail (x y : Bool) : Type 0 where
  first : x ≡ false
  second : y ≡ false

both_fail : (x y : Bool) → (x || y) ≡ false → BothFail x y
both_fail true y h = cc
both_fail false true h = cc
both_fail false false h = record { first = refl; second = refl }

-- where none passes, each one fails
pub each_fails : {X : Type 0} (test : X → Bool) (xs : List X) (x : X) → list_any test xs ≡ false → IsIn xs x
    → test x ≡ false
each_fails test [] x h k = absurd k
each_fails test (y ∷ ys) x h (inl e) = subst (λ t. test t ≡ false) e (both_fail (test y) (list_any test ys) h).first
each_fails test (y ∷ ys) x h (inr k) = each_fails test ys x (both_fail (test y) (list_any test ys) h).second k

-- ---- elements of lists

pub in_left : {X : Type 0} (xs ys : List X) (x : X) → IsIn xs x → IsIn (xs ++ ys) x
in_left [] ys x h = absurd h
in_left (y ∷ xs) ys x (inl e) = inl e
in_left (y ∷ xs) ys x (inr h) = inr (in_left xs ys x h)

pub in_right : {X : Type 0} (xs ys : List X) (x : X) → IsIn ys x → IsIn (xs ++ ys) x
in_right [] ys x h = h
in_right (y ∷ xs) ys x h = inr (in_right xs ys x h)

-- two elements are one, or a pair in one order or the other
pub in_pairs : {X : Type 0} (xs : List X) (x y : X) → IsIn xs x → IsIn xs y
    → (x ≡ y) ⊎ (IsIn (pairs xs) (x, y) ⊎ IsIn (pairs xs) (y, x))
in_pairs [] x y h k = absurd h
in_pairs (z ∷ xs) x y (inl e) (inl f) = inl (sym e ∙ f)
in_pairs (z ∷ xs) x y (inl e) (inr k) =
    inr (inl (in_left (map (with_each z) xs) (pairs xs) (x, y)
    (subst (λ t. IsIn (map (with_each z) xs) (t, y)) e (mapped (with_each z) xs y k))))
in_pairs (z ∷ xs) x y (inr h) (inl f) =
    inr (inr (in_left (map (with_each z) xs) (pairs xs) (y, x)
    (subst (λ t. IsIn (map (with_each z) xs) (t, x)) f (mapped (with_each z) xs x h))))
in_pairs (z ∷ xs) x y (inr h) (inr k) = later (in_pairs xs x y h k)
  where
    later : (x ≡ y) ⊎ (IsIn (pairs xs) (x, y) ⊎ IsIn (pairs xs) (y, x))
        → (x ≡ y) ⊎ (IsIn (pairs (z ∷ xs)) (x, y) ⊎ IsIn (pairs (z ∷ xs)) (y, x))
    later (inl e) = inl e
    later (inr (inl p)) = inr (inl (in_right (map (with_each z) xs) (pairs xs) (x, y) p))
    later (inr (inr p)) = inr (inr (in_right (map (with_each z) xs) (pairs xs) (y, x) p))

pub from_append : {X : Type 0} (xs ys : List X) (x : X) → IsIn (xs ++ ys) x → IsIn xs x ⊎ IsIn ys x
from_append [] ys x h = inr h
from_append (y ∷ xs) ys x (inl e) = inl (inl e)
from_append (y ∷ xs) ys x (inr h) = later (from_append xs ys x h)
  where
    later : IsIn xs x ⊎ IsIn ys x → IsIn (y ∷ xs) x ⊎ IsIn ys x
    later (inl k) = inl (inr k)
    later (inr k) = inr k

-- ---- the words of std

each_in : {X : Type 0} (xs : List X) → All (IsIn xs) xs
each_in [] = All-nil (IsIn [])
each_in {X = X} (x ∷ xs) = All-cons (IsIn (x ∷ xs)) x xs (inl refl) (weaker xs (each_in xs))
  where
    weaker : (ys : List X) → All (IsIn xs) ys → All (IsIn (x ∷ xs)) ys
    weaker [] all = All-nil (IsIn (x ∷ xs))
    weaker (y ∷ ys) all =
        All-cons (IsIn (x ∷ xs)) y ys (inr (All-head (IsIn xs) y ys all)) (weaker ys (All-tail (IsIn xs) y ys all))

pub from_contains : {X : Type 0} (xs : List X) (x : X) → Contains xs x → IsIn xs x
from_contains xs x h = subst (λ t. IsIn xs t) h.2 (each_in xs h.0 x h.1)

pub to_contains : {X : Type 0} (xs : List X) (x : X) → IsIn xs x → Contains xs x
to_contains {X = X} xs x h = each_of (Contains xs) xs x (All-contains_itself xs) h
  where
    each_of : (holds : X → Type 0) (ys : List X) (x : X) → All holds ys → IsIn ys x → holds x
    each_of holds [] x all k = absurd k
    each_of holds (y ∷ ys) x all (inl e) = subst holds e (All-head holds y ys all)
    each_of holds (y ∷ ys) x all (inr k) = each_of holds ys x (All-tail holds y ys all) k

pub in_part : {X Y : Type 0} (f : X → List Y) (xs : List X) (x : X) (y : Y) → IsIn xs x → IsIn (f x) y
    → IsIn (flat_map f xs) y
in_part f [] x y k h = absurd k
in_part f (z ∷ xs) x y (inl e) h = in_left (f z) (flat_map f xs) y (subst (λ t. IsIn (f t) y) (sym e) h)
in_part f (z ∷ xs) x y (inr k) h = in_right (f z) (flat_map f xs) y (in_part f xs x y k h)

-- which part an element stands in
pub record Part {X Y : Type 0} (f : X → List Y) (xs : List X) (y : Y) : Type 0 where
  pub of : X
  pub of_there : IsIn xs of
  pub there : IsIn (f of) y

pub part : {X Y : Type 0} (f : X → List Y) (xs : List X) (y : Y) → IsIn (flat_map f xs) y → Part f xs y
part f [] y k = absurd k
part f (x ∷ xs) y k = elim (from_append (f x) (flat_map f xs) y k) [
  | inl h ↦ record { of = x; of_there = inl refl; there = h }
  | inr h ↦ later (part f xs y h)
]
  where
    later : Part f xs y → Part f (x ∷ xs) y
    later p = record { of = p.of; of_there = inr p.of_there; there = p.there }

pub first_true : (s t : Bool) → s ≡ true → (s || t) ≡ true
first_true s t h = rw h refl

pub second_true : (s t : Bool) → t ≡ true → (s || t) ≡ true
second_true true t h = refl
second_true false t h = h

pub any_by : {X : Type 0} (test : X → Bool) (xs : List X) (x : X) → IsIn xs x → test x ≡ true → list_any test xs ≡ true
any_by test [] x k h = absurd k
any_by test (y ∷ ys) x (inl e) h = first_true (test y) (list_any test ys) (subst (λ t. test t ≡ true) (sym e) h)
any_by test (y ∷ ys) x (inr k) h = second_true (test y) (list_any test ys) (any_by test ys x k h)
