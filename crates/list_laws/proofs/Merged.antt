-- A list in order is its elements that pass a test, merged with the others.
--
-- In a list in order the head comes before all others. So if it passes, it comes before all of the others that fail,
-- and
-- the merge takes it first; if it fails, likewise from the second list. The rest follows by recursion. Lists in order
-- stay so when they are filtered, when only first elements are kept, and when they are joined to later ones.
use Rattle.std.proofs.Common.{◌≡◌, ◌∙◌, Bool, true, false, cond, not, List, [], ◌∷◌, ◌++◌, map, filter, refl, ap}
use Rattle.std.specs.List.{All, list_any}
use Rattle.std.proofs.lemmas.List.Elements.{All-head, All-tail, All-append, All-filter, All-map}
use Rattle.std.proofs.lemmas.List.Elements.{All-weaker}
use Rattle.plane_spec.specs.Lists.{distinct_after}
use Rattle.list_laws.specs.Orders.{IsBefore, IsRising}
use Rattle.list_laws.specs.Merged.{merged}
use Rattle.list_laws.proofs.Firsts.{firsts_hold}

-- ---- the merge

module _ {X : Type 0} (before : X → X → Bool) where
  -- an element that comes before all of the second list is taken first
  left_first : (x : X) (xs ys : List X) → All (IsBefore before x) ys
      → merged before (x ∷ xs) ys ≡ x ∷ merged before xs ys
  left_first x xs [] all = refl
  left_first x xs (y ∷ ys) all = rw ((All-head (IsBefore before x) y ys all).forth) refl

  -- so is one of the second list that comes before all of the first
  right_first : (x : X) (xs ys : List X) → All (IsBefore before x) xs
      → merged before xs (x ∷ ys) ≡ x ∷ merged before xs ys
  right_first x [] ys all = refl
  right_first x (y ∷ xs) ys all = rw ((All-head (IsBefore before x) y xs all).not_back) refl

  -- what passes and what fails, merged, are the list
  pub rejoined : (passes : X → Bool) (xs : List X) → IsRising before xs
      → merged before (filter passes xs) (filter (λ x. not (passes x)) xs) ≡ xs
  rejoined passes [] h = refl
  rejoined passes (x ∷ xs) h = by (passes x) refl (rejoined passes xs h.1)
    where
      fails : X → Bool
      fails y = not (passes y)

      by : (t : Bool) → passes x ≡ t → merged before (filter passes xs) (filter (λ x. not (passes x)) xs) ≡ xs
          → merged before (filter passes (x ∷ xs)) (filter (λ x. not (passes x)) (x ∷ xs)) ≡ x ∷ xs
      by true e ih =
          rw e
          (left_first x (filter passes xs) (filter (λ x. not (passes x)) xs)
          (All-filter (λ x. not (passes x)) (IsBefore before x) xs h.0)
          ∙ ap (λ r. x ∷ r) ih)
      by false e ih =
          rw e
          (right_first x (filter passes xs) (filter (λ x. not (passes x)) xs)
          (All-filter passes (IsBefore before x) xs h.0)
          ∙ ap (λ r. x ∷ r) ih)

-- ---- lists in order

-- those that pass are in order
pub rising_filter : {X : Type 0} (before : X → X → Bool) (passes : X → Bool) (xs : List X) → IsRising before xs
    → IsRising before (filter passes xs)
rising_filter before passes [] h = tt
rising_filter {X = X} before passes (x ∷ xs) h = by (passes x) (rising_filter before passes xs h.1)
  where
    by : (t : Bool) → IsRising before (filter passes xs)
        → IsRising before (cond t (x ∷ filter passes xs) (filter passes xs))
    by true ih = (All-filter passes (IsBefore before x) xs h.0, ih)
    by false ih = ih

-- those that are like none before them are in order
pub rising_firsts : {X : Type 0} (before same : X → X → Bool) (seen xs : List X) → IsRising before xs
    → IsRising before (distinct_after same seen xs)
rising_firsts before same seen [] h = tt
rising_firsts {X = X} before same seen (x ∷ xs) h =
    by (list_any (same x) seen) (rising_firsts before same (x ∷ seen) xs h.1)
  where
    by : (t : Bool) → IsRising before (distinct_after same (x ∷ seen) xs)
        → IsRising before (cond t (distinct_after same (x ∷ seen) xs) (x ∷ distinct_after same (x ∷ seen) xs))
    by true ih = ih
    by false ih = (firsts_hold (IsBefore before x) same (x ∷ seen) xs h.0, ih)

-- what a function gives is in order, where its elements are so by what it gives
pub rising_map : {X Y : Type 0} (before : Y → Y → Bool) (f : X → Y) (xs : List X)
    → IsRising (λ x y. before (f x) (f y)) xs → IsRising before (map f xs)
rising_map before f [] h = tt
rising_map {X = X} before f (x ∷ xs) h = (
  All-map (IsBefore before (f x)) f xs
      (All-weaker (IsBefore (λ x y. before (f x) (f y)) x) (λ y. IsBefore before (f x) (f y))
      (λ y b. record { forth = b.forth; not_back = b.not_back }) xs h.0),
  rising_map before f xs h.1,
)

-- lists in order, each element of the one before all of the other, are in order when joined
pub rising_append : {X : Type 0} (before : X → X → Bool) (xs ys : List X) → IsRising before xs → IsRising before ys
    → All (λ x. All (IsBefore before x) ys) xs → IsRising before (xs ++ ys)
rising_append before [] ys h k all = k
rising_append {X = X} before (x ∷ xs) ys h k all = (
  All-append (IsBefore before x) xs ys h.0 (All-head (λ x. All (IsBefore before x) ys) x xs all),
  rising_append before xs ys h.1 k (All-tail (λ x. All (IsBefore before x) ys) x xs all),
)
