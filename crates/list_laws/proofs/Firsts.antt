-- The elements that are like none before them, split by a test that is the same of like elements.
--
-- Whether an element is left out depends on whether a like one stands before it. Where like elements pass a test
-- alike, an
-- element that passes it is like one before it exactly where it is like one before it that passes. So the first
-- elements
-- that pass are the first ones of those that pass. Two tests of likeness that agree on all elements of a list give
-- the
-- same first ones.
--
-- Then two lists of candidates are compared, before a change and after it. Of the old ones those that are seen count,
-- and
-- are clean or not; of the new ones those that stay and are seen, and are clean or not. If the same are seen and
-- clean in
-- both, and like ones of these are alike in both, then the first ones that are clean are the same in both; the others
-- among the new are the first ones of those that aren't clean.
use Rattle.std.proofs.Common.{◌≡◌, ◌∙◌, Bool, true, false, cond, not, ◌&&◌, ◌||◌, List, [], ◌∷◌, map, filter}
use Rattle.std.proofs.Common.{refl, sym, ap}
use Rattle.std.specs.List.{All, list_any}
use Rattle.std.proofs.lemmas.List.Elements.{All-nil, All-cons, All-head, All-tail, All-filter, filter_passes}
use Rattle.plane_spec.specs.Lists.{distinct_after, distinct_by}
use Rattle.list_laws.proofs.Tests.{list_any_map}
use Rattle.list_laws.proofs.Elements.{filter_same_on, filter_twice}

-- ---- first elements

-- what holds of all holds of the first ones
pub firsts_hold : {X : Type 0} (P : X → Type 0) (same : X → X → Bool) (seen xs : List X) → All P xs
    → All P (distinct_after same seen xs)
firsts_hold P same seen [] all = All-nil P
firsts_hold {X = X} P same seen (x ∷ xs) all =
    by (list_any (same x) seen) (firsts_hold P same (x ∷ seen) xs (All-tail P x xs all))
  where
    by : (t : Bool) → All P (distinct_after same (x ∷ seen) xs)
        → All P (cond t (distinct_after same (x ∷ seen) xs) (x ∷ distinct_after same (x ∷ seen) xs))
    by true ih = ih
    by false ih = All-cons P x (distinct_after same (x ∷ seen) xs) (All-head P x xs all) ih

-- the first ones of what a function gives, by what it gives
pub firsts_map : {X Y : Type 0} (same : Y → Y → Bool) (f : X → Y) (seen xs : List X)
    → distinct_after same (map f seen) (map f xs) ≡ map f (distinct_after (λ x y. same (f x) (f y)) seen xs)
firsts_map same f seen [] = refl
firsts_map same f seen (x ∷ xs) = by (list_any (λ y. same (f x) (f y)) seen) refl (firsts_map same f (x ∷ seen) xs)
  where
    by : (u : Bool) → list_any (λ y. same (f x) (f y)) seen ≡ u
        → distinct_after same (map f (x ∷ seen))
        (map f xs) ≡ map f (distinct_after (λ x y. same (f x) (f y)) (x ∷ seen) xs)
        → distinct_after same (map f seen)
        (map f (x ∷ xs)) ≡ map f (distinct_after (λ x y. same (f x) (f y)) seen (x ∷ xs))
    by true e h = rw (list_any_map (same (f x)) f seen, e) h
    by false e h = rw (list_any_map (same (f x)) f seen, e) (ap (λ r. f x ∷ r) h)

-- ---- split by a test

-- `V` holds of the elements, and like ones pass `test` alike
module _ {X : Type 0} (V : X → Type 0) (same : X → X → Bool) (test : X → Bool)
    (alike : (x y : X) → V x → V y → same x y ≡ true → test y ≡ test x) where
  -- an element that passes is like one of those seen exactly where it is like one of them that passes
  seen_same : (x : X) (seen : List X) → V x → All V seen → test x ≡ true
      → list_any (same x) (filter test seen) ≡ list_any (same x) seen
  seen_same x [] vx vs h = refl
  seen_same x (y ∷ ys) vx vs h =
      by (test y) (same x y) refl refl (alike x y vx (All-head V y ys vs)) (seen_same x ys vx (All-tail V y ys vs) h)
    where
      by : (t u : Bool) → test y ≡ t → same x y ≡ u → (same x y ≡ true → test y ≡ test x)
          → list_any (same x) (filter test ys) ≡ list_any (same x) ys
          → list_any (same x) (filter test (y ∷ ys)) ≡ list_any (same x) (y ∷ ys)
      by true u e f k ih = rw e (ap (λ t. same x y || t) ih)
      by false true e f k ih = absurd (no (sym e ∙ k f ∙ h))
        where
          no : false ≡ true → ⊥
          no g = cc
      by false false e f k ih = rw (e, f) ih

  -- one element more, by whether it passes and whether it is like one before it
  step : (x : X) (seen xs : List X) (t u : Bool) → V x → All V seen → test x ≡ t → list_any (same x) seen ≡ u
      → filter test (distinct_after same (x ∷ seen) xs) ≡ distinct_after same (filter test (x ∷ seen)) (filter test xs)
      → filter test (distinct_after same seen (x ∷ xs)) ≡ distinct_after same (filter test seen) (filter test (x ∷ xs))
  step x seen xs true true vx vs e f ih = rw (e, f, seen_same x seen vx vs e ∙ f) (rw e at ih)
  step x seen xs true false vx vs e f ih = rw (f, e, seen_same x seen vx vs e ∙ f) (ap (λ r. x ∷ r) (rw e at ih))
  step x seen xs false true vx vs e f ih = rw (e, f) (rw e at ih)
  step x seen xs false false vx vs e f ih = rw (f, e) (rw e at ih)

  -- the same after some that were seen
  split_after : (seen xs : List X) → All V seen → All V xs
      → filter test (distinct_after same seen xs) ≡ distinct_after same (filter test seen) (filter test xs)
  split_after seen [] vs all = refl
  split_after seen (x ∷ xs) vs all =
      let vx = All-head V x xs all in
      step x seen xs (test x) (list_any (same x) seen) vx vs refl refl
      (split_after (x ∷ seen) xs (All-cons V x seen vx vs) (All-tail V x xs all))

  -- the first ones that pass are the first ones of those that pass
  pub split : (xs : List X) → All V xs → filter test (distinct_by same xs) ≡ distinct_by same (filter test xs)
  split xs all = split_after [] xs (All-nil V) all

  -- where some element passes, one of the first ones does
  pub first_passes : (xs : List X) → All V xs → list_any test xs ≡ true → list_any test (distinct_by same xs) ≡ true
  first_passes xs all h =
      any_left test (distinct_by same xs) ∙ ap is_some_left (split xs all) ∙ first_left (filter test xs)
      ∙ sym (any_left test xs) ∙ h
    where
      is_some_left : List X → Bool
      is_some_left [] = false
      is_some_left (x ∷ xs) = true

      first_left : (xs : List X) → is_some_left (distinct_by same xs) ≡ is_some_left xs
      first_left [] = refl
      first_left (x ∷ xs) = refl

      any_left : (passes : X → Bool) (xs : List X) → list_any passes xs ≡ is_some_left (filter passes xs)
      any_left passes [] = refl
      any_left passes (x ∷ xs) = by_test (passes x) refl (any_left passes xs)
        where
          by_test : (t : Bool) → passes x ≡ t → list_any passes xs ≡ is_some_left (filter passes xs)
              → list_any passes (x ∷ xs) ≡ is_some_left (filter passes (x ∷ xs))
          by_test true e ih = rw e refl
          by_test false e ih = rw e ih

-- ---- two tests of likeness

-- they agree on the elements with `C`
module _ {X : Type 0} (C : X → Type 0) (old new : X → X → Bool)
    (agree : (x y : X) → C x → C y → old x y ≡ new x y) where
  -- an element is like one of those seen, by either test
  any_agrees : (x : X) (seen : List X) → C x → All C seen → list_any (old x) seen ≡ list_any (new x) seen
  any_agrees x [] h all = refl
  any_agrees x (y ∷ seen) h all =
      ap (λ t. t || list_any (old x) seen) (agree x y h (All-head C y seen all))
      ∙ ap (λ t. new x y || t) (any_agrees x seen h (All-tail C y seen all))

  -- the first ones by either test
  pub firsts_agree_on : (seen xs : List X) → All C seen → All C xs
      → distinct_after old seen xs ≡ distinct_after new seen xs
  firsts_agree_on seen [] before all = refl
  firsts_agree_on seen (x ∷ xs) before all =
      let here = All-head C x xs all in
      let ih = firsts_agree_on (x ∷ seen) xs (All-cons C x seen here before) (All-tail C x xs all) in
      rw (any_agrees x seen here before, ih) refl

-- ---- candidates before and after a change

-- `sees` and `clean` are of the old candidates, `sees'` and `clean'` of the new ones; `stays` is true of those in
-- both
module _ {X : Type 0} (W : X → Type 0) (stays sees clean sees' clean' : X → Bool) (same same' : X → X → Bool)
    (kept : (x : X) → W x → (stays x && (sees' x && clean' x)) ≡ (sees x && clean x))
    (alike : (x y : X) → W x → W y → sees x ≡ true → sees y ≡ true → same x y ≡ true → clean y ≡ clean x)
    (alike' : (x y : X) → W x → W y → sees' x ≡ true → sees' y ≡ true → same' x y ≡ true → clean' y ≡ clean' x)
    (agree : (x y : X) → W x → W y → (sees x && clean x) ≡ true → (sees y && clean y) ≡ true → same' x y ≡ same x y)
  where
    -- a candidate that passes a test
    record Passes (test : X → Bool) (x : X) : Type 0 where
      valid : W x
      passes : test x ≡ true

    -- those that pass
    passing : (test : X → Bool) (xs : List X) → All W xs → All (Passes test) (filter test xs)
    passing test xs all =
        λ k d h. record { valid = All-filter test W xs all k d h; passes = filter_passes test xs k d h }

    -- the clean ones are the same before and after
    pub clean_ones_stay : (xs : List X) → All W xs
        → filter clean' (distinct_by same' (filter sees' (filter stays xs))) ≡ filter clean (distinct_by same (filter sees xs))
    clean_ones_stay xs all =
        let in_sight : X → Bool = λ x. sees x && clean x in
        split (Passes sees') same' clean' (λ x y v w e. alike' x y v.valid w.valid v.passes w.passes e)
        (filter sees' (filter stays xs)) (passing sees' (filter stays xs) (All-filter stays W xs all))
        ∙ ap (distinct_by same')
        (filter_twice clean' sees' (filter stays xs)
        ∙ filter_twice (λ x. sees' x && clean' x) stays xs
        ∙ filter_same_on W _ _ kept xs all)
        ∙ firsts_agree_on (Passes in_sight) same' same (λ x y v w. agree x y v.valid w.valid v.passes w.passes) []
        (filter in_sight xs) (All-nil (Passes in_sight)) (passing in_sight xs all)
        ∙ ap (distinct_by same) (sym (filter_twice clean sees xs))
        ∙ sym (split (Passes sees) same clean (λ x y v w e. alike x y v.valid w.valid v.passes w.passes e)
        (filter sees xs)
        (passing sees xs all))

    -- the others are the first ones of those that aren't clean
    pub others_are_fresh : (xs : List X) → All W xs
        → filter (λ x. not (clean' x)) (distinct_by same' (filter sees' (filter stays xs)))
        ≡ distinct_by same' (filter (λ x. not (clean' x)) (filter sees' (filter stays xs)))
    others_are_fresh xs all =
        split (Passes sees') same' (λ x. not (clean' x))
        (λ x y v w e. ap not (alike' x y v.valid w.valid v.passes w.passes e)) (filter sees' (filter stays xs))
        (passing sees' (filter stays xs) (All-filter stays W xs all))
