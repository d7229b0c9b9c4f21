-- What holds of elements, of lists joined, mapped or filtered.
use Rattle.std.proofs.Common.{◌≡◌, ◌∙◌, Bool, true, false, cond, ◌&&◌, ◌||◌, List, [], ◌∷◌, ◌++◌, map, filter}
use Rattle.std.proofs.Common.{refl, sym, ap, subst, arith}
use Rattle.std.specs.List.{All, Contains, flat_map, list_any, list_all}
use Rattle.std.proofs.lemmas.Bool.{and_parts}
use Rattle.std.proofs.lemmas.Grind.{common_steps}
use Rattle.std.proofs.lemmas.List.Elements.{All-nil, All-cons, All-head, All-tail, All-map, All-weaker, filter_agree}
use Rattle.std.proofs.lemmas.List.Folds.{list_any-append, list_any_at}

-- ---- elements of a list

-- a test that an element passes is passed by one
pub passed_by_one : {X : Type 0} (test : X → Bool) (xs : List X) (x : X) → Contains xs x → test x ≡ true
    → list_any test xs ≡ true
passed_by_one test xs x (k, below, is) h = list_any_at test xs k x below (subst (λ y. test y ≡ true) (sym is) h)

-- ---- lists joined

-- what holds of both lists joined holds of the first
pub first_part : {X : Type 0} (P : X → Type 0) (xs ys : List X) → All P (xs ++ ys) → All P xs
first_part P [] ys all = All-nil P
first_part P (x ∷ xs) ys all =
    All-cons P x xs (All-head P x (xs ++ ys) all) (first_part P xs ys (All-tail P x (xs ++ ys) all))

-- and of the second
pub second_part : {X : Type 0} (P : X → Type 0) (xs ys : List X) → All P (xs ++ ys) → All P ys
second_part P [] ys all = all
second_part P (x ∷ xs) ys all = second_part P xs ys (All-tail P x (xs ++ ys) all)

-- what holds of the parts joined holds of each part
pub each_part : {X Y : Type 0} (P : Y → Type 0) (f : X → List Y) (xs : List X) → All P (flat_map f xs)
    → All (λ x. All P (f x)) xs
each_part P f [] all = All-nil (λ x. All P (f x))
each_part P f (x ∷ xs) all =
    All-cons (λ y. All P (f y)) x xs (first_part P (f x) (flat_map f xs) all)
    (each_part P f xs (second_part P (f x) (flat_map f xs) all))

-- what holds of what a function gives, known of the elements
pub before_map : {X Y : Type 0} (P : Y → Type 0) (g : X → Y) (xs : List X) → All P (map g xs) → All (λ x. P (g x)) xs
before_map P g [] all = All-nil (λ x. P (g x))
before_map P g (x ∷ xs) all =
    All-cons (λ y. P (g y)) x xs (All-head P (g x) (map g xs) all)
    (before_map P g xs (All-tail P (g x) (map g xs) all))

-- the same of parts whose elements are mapped
pub each_mapped_part : {X Y Z : Type 0} (P : Z → Type 0) (g : Y → Z) (f : X → List Y) (xs : List X)
    → All P (map g (flat_map f xs)) → All (λ x. All P (map g (f x))) xs
each_mapped_part P g f xs all =
    All-weaker (λ x. All (λ y. P (g y)) (f x)) (λ x. All P (map g (f x))) (λ x h. All-map P g (f x) h) xs
    (each_part (λ y. P (g y)) f xs (before_map P g (flat_map f xs) all))

-- what is found among parts joined is found in one of them
pub found_in_part : {X Y : Type 0} (test : Y → Bool) (f : X → List Y) (xs : List X)
    → list_any test (flat_map f xs) ≡ list_any (λ x. list_any test (f x)) xs
found_in_part test f [] = refl
found_in_part test f (x ∷ xs) =
    list_any-append test (f x) (flat_map f xs) ∙ ap (λ t. list_any test (f x) || t) (found_in_part test f xs)

-- ---- lists mapped

-- two functions one after the other
pub map_twice : {X Y Z : Type 0} (g : Y → Z) (f : X → Y) (xs : List X) → map g (map f xs) ≡ map (λ x. g (f x)) xs
map_twice g f [] = refl
map_twice g f (x ∷ xs) = ap (λ r. g (f x) ∷ r) (map_twice g f xs)

-- functions that agree on all elements
pub map_same_on : {X Y : Type 0} (P : X → Type 0) (f g : X → Y) → ((x : X) → P x → f x ≡ g x) → (xs : List X)
    → All P xs → map f xs ≡ map g xs
map_same_on P f g h [] all = refl
map_same_on P f g h (x ∷ xs) all =
    rw (h x (All-head P x xs all), map_same_on P f g h xs (All-tail P x xs all)) refl

-- ---- lists filtered

-- what a function gives is filtered by the test of what it gives
pub filter_map_first : {X Y : Type 0} (test : Y → Bool) (f : X → Y) (xs : List X)
    → filter test (map f xs) ≡ map f (filter (λ x. test (f x)) xs)
filter_map_first test f [] = refl
filter_map_first test f (x ∷ xs) = by (test (f x)) refl (filter_map_first test f xs)
  where
    by : (t : Bool) → test (f x) ≡ t → filter test (map f xs) ≡ map f (filter (λ x. test (f x)) xs)
        → filter test (map f (x ∷ xs)) ≡ map f (filter (λ x. test (f x)) (x ∷ xs))
    by true e h = rw e (ap (λ r. f x ∷ r) h)
    by false e h = rw e h

-- tests that agree on all elements
pub filter_same_on : {X : Type 0} (P : X → Type 0) (p q : X → Bool) → ((x : X) → P x → p x ≡ q x) → (xs : List X)
    → All P xs → filter p xs ≡ filter q xs
filter_same_on P p q h [] all = refl
filter_same_on P p q h (x ∷ xs) all =
    rw (h x (All-head P x xs all), filter_same_on P p q h xs (All-tail P x xs all)) refl

-- two tests one after the other
pub filter_twice : {X : Type 0} (p q : X → Bool) (xs : List X) → filter p (filter q xs) ≡ filter (λ x. q x && p x) xs
filter_twice p q [] = refl
filter_twice p q (x ∷ xs) = by (q x) (p x) refl refl (filter_twice p q xs)
  where
    by : (t u : Bool) → q x ≡ t → p x ≡ u → filter p (filter q xs) ≡ filter (λ x. q x && p x) xs
        → filter p (filter q (x ∷ xs)) ≡ filter (λ x. q x && p x) (x ∷ xs)
    by t u e f ih = grind (arith, common_steps)

-- in either order
pub filter_exchanged : {X : Type 0} (p q : X → Bool) (xs : List X) → filter p (filter q xs) ≡ filter q (filter p xs)
filter_exchanged p q xs =
    filter_twice p q xs
    ∙ filter_agree (λ x. q x && p x) (λ x. p x && q x) (λ x. turned (q x) (p x)) xs
    ∙ sym (filter_twice q p xs)
  where
    turned : (a b : Bool) → (a && b) ≡ (b && a)
    turned a b = grind arith

-- what is found among those that pass
pub found_among_passing : {X : Type 0} (test passes : X → Bool) (xs : List X)
    → list_any test (filter passes xs) ≡ list_any (λ x. passes x && test x) xs
found_among_passing test passes [] = refl
found_among_passing test passes (x ∷ xs) = by (passes x) refl (found_among_passing test passes xs)
  where
    by : (t : Bool) → passes x ≡ t → list_any test (filter passes xs) ≡ list_any (λ x. passes x && test x) xs
        → list_any test (filter passes (x ∷ xs)) ≡ list_any (λ x. passes x && test x) (x ∷ xs)
    by true e ih = rw e (ap (λ t. test x || t) ih)
    by false e ih = rw e ih

-- what holds of those that pass, known of each element if it passes
pub where_passed : {X : Type 0} (P : X → Type 0) (passes : X → Bool) (xs : List X) → All P (filter passes xs)
    → All (λ x. passes x ≡ true → P x) xs
where_passed P passes [] all = All-nil (λ x. passes x ≡ true → P x)
where_passed {X = X} P passes (x ∷ xs) all = by (passes x) refl (where_passed P passes xs) all
  where
    clash : {A : Type 0} → false ≡ true → A
    clash e = cc

    by : (t : Bool) → passes x ≡ t → (All P (filter passes xs) → All (λ x. passes x ≡ true → P x) xs)
        → All P (cond t (x ∷ filter passes xs) (filter passes xs)) → All (λ x. passes x ≡ true → P x) (x ∷ xs)
    by true e ih all =
        All-cons (λ x. passes x ≡ true → P x) x xs (λ _. All-head P x (filter passes xs) all)
        (ih (All-tail P x (filter passes xs) all))
    by false e ih all = All-cons (λ x. passes x ≡ true → P x) x xs (λ h. clash (sym e ∙ h)) (ih all)

-- where the test of all holds, each passes
pub each_passes : {X : Type 0} (test : X → Bool) (xs : List X) → list_all test xs ≡ true → All (λ x. test x ≡ true) xs
each_passes test [] h = All-nil (λ x. test x ≡ true)
each_passes test (x ∷ xs) h =
    let both = and_parts (test x) (list_all test xs) h in
    All-cons (λ x. test x ≡ true) x xs both.0 (each_passes test xs both.1)

-- a test that those that pass another also pass may be asked first
pub implied_first : {X : Type 0} (test implied : X → Bool) (xs : List X)
    → All (λ x. test x ≡ true → implied x ≡ true) xs
    → filter test xs ≡ filter test (filter implied xs)
implied_first test implied [] all = refl
implied_first test implied (x ∷ xs) all =
    by (test x) (implied x) refl refl (All-head (λ x. test x ≡ true → implied x ≡ true) x xs all)
    (implied_first test implied xs (All-tail (λ x. test x ≡ true → implied x ≡ true) x xs all))
  where
    clash : {A : Type 0} → false ≡ true → A
    clash e = cc

    by : (s t : Bool) → test x ≡ s → implied x ≡ t → (test x ≡ true → implied x ≡ true)
        → filter test xs ≡ filter test (filter implied xs)
        → filter test (x ∷ xs) ≡ filter test (filter implied (x ∷ xs))
    by true true d o h ih = rw (d, o, d) (ap (λ r. x ∷ r) ih)
    by true false d o h ih = clash (sym o ∙ h d)
    by false true d o h ih = rw (d, o, d) ih
    by false false d o h ih = rw (d, o) ih
