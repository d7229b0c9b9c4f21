-- The first elements of those that tie, in order: by insertion, and by a stable sort without its repeats.
--
-- A list in which each element comes before all after it is told by which element of it, if any, ties with each value.
-- In the elements that are like none before them, put in order, it is the first one of the list that ties with the
-- value. A stable sort keeps the order of those that tie; so it is the same one in the sorted list without repeats.
use Rattle.std.proofs.Common.{◌≡◌, ◌∙◌, suc, ◌+◌, Bool, true, false, cond, not, ◌&&◌, List, [], ◌∷◌, map, filter, get_or}
use Rattle.std.proofs.Common.{refl, sym, ap, subst, arith}
use Rattle.std.specs.List.{All, list_any, dedup_from, dedup}
use Rattle.std.specs.List.Sorted.{ties, IsSortedBy}
use Rattle.std.specs.Cmp.{IsStrictWeakOrder}
use Rattle.std.proofs.lemmas.Bool.{and_parts, not-true, both_ways, or_parts}
use Rattle.std.proofs.lemmas.List.Elements.{All-nil, All-cons, All-head, All-tail, All-map, All-weaker, All-filter, filter_passes}
use Rattle.std.proofs.lemmas.List.Sorted.{sorted_far}
use Rattle.plane_spec.specs.Lists.{distinct_after, distinct_by, inserted_by, in_order}
use Rattle.list_laws.specs.Orders.{IsBefore, IsRising, IsWeakOrder}
use Rattle.list_laws.proofs.Firsts.{split, firsts_hold}
use Rattle.list_laws.proofs.Elements.{filter_same_on}

-- no element comes before one that stands before it
abbrev pub IsLevel : {X : Type 0} → (X → X → Bool) → List X → Type 0
IsLevel before [] = Unit {0}
IsLevel before (x ∷ xs) = All (λ y. before y x ≡ false) xs × IsLevel before xs

-- a list that a sort left is level
pub level_from_sorted : {X : Type 0} (lt : X → X → Bool) → IsStrictWeakOrder lt → (xs : List X) → IsSortedBy lt xs
    → IsLevel lt xs
level_from_sorted lt o [] up = tt
level_from_sorted lt o (x ∷ xs) up = (
  λ k d h. sorted_far lt o (x ∷ xs) up 0 (suc k) d (omega arith) (omega arith),
  level_from_sorted lt o xs
      (λ k d l h. let e : suc k + 1 ≡ suc (k + 1) = omega arith in
      subst (λ m. lt (get_or (x ∷ xs) m d) (get_or xs k d) ≡ false) e (up (suc k) d (omega arith) (omega arith))),
)

-- what a function gives is level, where its elements are so by what it gives
pub level_map : {X Y : Type 0} (before : Y → Y → Bool) (f : X → Y) (xs : List X)
    → IsLevel (λ x y. before (f x) (f y)) xs → IsLevel before (map f xs)
level_map before f [] h = tt
level_map before f (x ∷ xs) h = (All-map (λ y. before y (f x) ≡ false) f xs h.0, level_map before f xs h.1)

-- repeats left out of what a function gives
pub dedup_map : {X Y : Type 0} (same : Y → Y → Bool) (f : X → Y) (xs : List X)
    → map f (dedup (λ x y. same (f x) (f y)) xs) ≡ dedup same (map f xs)
dedup_map same f [] = refl
dedup_map {X = X} same f (x ∷ xs) = from x xs
  where
    from : (k : X) (xs : List X) → map f (dedup_from (λ x y. same (f x) (f y)) k xs) ≡ dedup_from same (f k) (map f xs)
    from k [] = refl
    from k (x ∷ xs) = by (same (f x) (f k)) refl (from k xs) (from x xs)
      where
        by : (t : Bool) → same (f x) (f k) ≡ t
            → map f (dedup_from (λ x y. same (f x) (f y)) k xs) ≡ dedup_from same (f k) (map f xs)
            → map f (dedup_from (λ x y. same (f x) (f y)) x xs) ≡ dedup_from same (f x) (map f xs)
            → map f (dedup_from (λ x y. same (f x) (f y)) k (x ∷ xs)) ≡ dedup_from same (f k) (map f (x ∷ xs))
        by true e kept other = rw e kept
        by false e kept other = rw e (ap (λ r. f k ∷ r) other)

agree_false : (a b : Bool) → (a ≡ false → b ≡ false) → (b ≡ false → a ≡ false) → a ≡ b
agree_false false b there back = sym (there refl)
agree_false true false there back = back refl
agree_false true true there back = refl

clash : {A : Type 0} → (t : Bool) → t ≡ false → t ≡ true → A
clash t h k = absurd (both_ways t h k)

-- the first element alone
abbrev pub front : {X : Type 0} → List X → List X
front [] = []
front (x ∷ xs) = x ∷ []

-- ---- ties

module _ {X : Type 0} (Q : X → Type 0) (before : X → X → Bool) (o : IsWeakOrder Q before) where
  record Neither (x y : X) : Type 0 where
    forth : before x y ≡ false
    back : before y x ≡ false

  tied : (x y : X) → ties before x y ≡ true → Neither x y
  tied x y h =
      let parts = and_parts (not (before x y)) (not (before y x)) h in
      record { forth = not-true (before x y) parts.0; back = not-true (before y x) parts.1 }

  ties_from : (x y : X) → Neither x y → ties before x y ≡ true
  ties_from x y n = rw (n.forth, n.back) refl

  symmetric : (x y : X) → ties before x y ≡ true → ties before y x ≡ true
  symmetric x y h = let n = tied x y h in ties_from y x (record { forth = n.back; back = n.forth })

  turned : (x y : X) → ties before x y ≡ ties before y x
  turned x y = by (before x y) (before y x)
    where
      by : (t u : Bool) → (not t && not u) ≡ (not u && not t)
      by true true = refl
      by true false = refl
      by false true = refl
      by false false = refl

  -- of elements of which none comes before the next, the first doesn't come before the last
  chain : (x y z : X) → Q x → Q y → Q z → before x y ≡ false → before y z ≡ false → before x z ≡ false
  chain x y z qx qy qz h k = by (before x z) refl
    where
      by : (t : Bool) → before x z ≡ t → t ≡ false
      by false e = refl
      by true e = clash (before x y) h (o.through x z y qx qz qy e k)

  -- what ties with one that a third ties with
  joined : (x y z : X) → Q x → Q y → Q z → ties before x y ≡ true → ties before x z ≡ true → ties before z y ≡ true
  joined x y z qx qy qz h k =
      let n = tied x y h in
      let m = tied x z k in
      ties_from z y (record { forth = chain z x y qz qx qy m.back n.forth; back = chain y x z qy qx qz n.back m.forth })

  -- elements that tie tie with the same
  alike : (z x y : X) → Q z → Q x → Q y → ties before x y ≡ true → ties before z y ≡ ties before z x
  alike z x y qz qx qy h =
      let n = tied x y h in
      let forth : before z y ≡ before z x = agree_false (before z y) (before z x)
      (λ e. chain z y x qz qy qx e n.back) (λ e. chain z x y qz qx qy e n.forth) in
      let back : before y z ≡ before x z = agree_false (before y z) (before x z)
      (λ e. chain x y z qx qy qz n.forth e) (λ e. chain y x z qy qx qz n.back e) in
      rw (forth, back) refl

  itself : (x : X) → ties before x x ≡ true
  itself x = by (before x x) refl
    where
      by : (t : Bool) → before x x ≡ t → ties before x x ≡ true
      by false e = rw e refl
      by true e = clash (before x x) (o.one_way x x e) e

  -- what comes before one that none after it comes before, comes before all of these
  before_all : (x y : X) (ys : List X) → Q x → Q y → All Q ys → before x y ≡ true → All (λ z. before z y ≡ false) ys
      → All (IsBefore before x) (y ∷ ys)
  before_all x y ys qx qy qs h none =
      All-cons (IsBefore before x) y ys (record { forth = h; not_back = o.one_way x y h }) later
    where
      later : All (IsBefore before x) ys
      later k d l =
          let e = o.through x y (get_or ys k d) qx qy (qs k d l) h (none k d l) in
          record { forth = e; not_back = o.one_way x (get_or ys k d) e }

  -- in a level list what doesn't tie with the element before it comes after it, and so do all later ones
  level_before : (k y : X) (ys : List X) → Q k → Q y → All Q ys → IsLevel before (k ∷ y ∷ ys) → ties before y k ≡ false
      → All (IsBefore before k) (y ∷ ys)
  level_before k y ys qk qy qs level apart = before_all k y ys qk qy qs (first (before k y) refl) level.1.0
    where
      first : (t : Bool) → before k y ≡ t → t ≡ true
      first true f = refl
      first false f =
          clash (ties before y k) apart
          (ties_from y k (record { forth = All-head (λ y. before y k ≡ false) y ys level.0; back = f }))

  not_tied : (x y : X) → IsBefore before x y → ties before x y ≡ false
  not_tied x y b = rw b.forth refl

  -- nothing ties with what comes before all
  none_ties : (x : X) (ys : List X) → All (IsBefore before x) ys → filter (ties before x) ys ≡ []
  none_ties x [] all = refl
  none_ties x (y ∷ ys) all =
      rw (not_tied x y (All-head (IsBefore before x) y ys all))
      (none_ties x ys (All-tail (IsBefore before x) y ys all))

  -- ---- lists in order are told by what ties

  one_ties : (x : X) (xs : List X) → All (IsBefore before x) xs → filter (ties before x) (x ∷ xs) ≡ x ∷ []
  one_ties x xs all = rw (itself x) (ap (λ r. x ∷ r) (none_ties x xs all))

  -- lists in order of which the same elements tie with each value are one list
  pub same_rising : (xs ys : List X) → All Q xs → All Q ys → IsRising before xs → IsRising before ys
      → ((x : X) → Q x → filter (ties before x) xs ≡ filter (ties before x) ys) → xs ≡ ys
  same_rising [] [] qs ps up rise same = refl
  same_rising [] (y ∷ ys) qs ps up rise same =
      let e : [] ≡ y ∷ [] = same y (All-head Q y ys ps) ∙ one_ties y ys rise.0 in cc
  same_rising (x ∷ xs) [] qs ps up rise same =
      let e : x ∷ [] ≡ [] = sym (one_ties x xs up.0) ∙ same x (All-head Q x xs qs) in cc
  same_rising (x ∷ xs) (y ∷ ys) qs ps up rise same =
      by (before x y) (before y x) refl refl
      (λ e. same_rising xs ys (All-tail Q x xs qs) (All-tail Q y ys ps) up.1 rise.1 (rest e))
    where
      qx : Q x
      qx = All-head Q x xs qs

      qy : Q y
      qy = All-head Q y ys ps

      at_x : filter (ties before x) (y ∷ ys) ≡ x ∷ []
      at_x = sym (same x qx) ∙ one_ties x xs up.0

      at_y : filter (ties before y) (x ∷ xs) ≡ y ∷ []
      at_y = same y qy ∙ one_ties y ys rise.0

      heads : ties before x y ≡ true → x ≡ y
      heads e = let f : y ∷ filter (ties before x) ys ≡ x ∷ [] = rw e at at_x in cc

      rest : x ≡ y → (z : X) → Q z → filter (ties before z) xs ≡ filter (ties before z) ys
      rest e z qz = cut (ties before z x) refl (same z qz)
        where
          cut : (t : Bool) → ties before z x ≡ t → filter (ties before z) (x ∷ xs) ≡ filter (ties before z) (y ∷ ys)
              → filter (ties before z) xs ≡ filter (ties before z) ys
          cut true f g = let h : x ∷ filter (ties before z) xs ≡ y ∷ filter (ties before z) ys = rw (f, ap (ties before z) (sym e) ∙ f) at g in cc
          cut false f g = rw (f, ap (ties before z) (sym e) ∙ f) at g

      by : (t u : Bool) → before x y ≡ t → before y x ≡ u → (x ≡ y → xs ≡ ys) → x ∷ xs ≡ y ∷ ys
      by true u e f tails =
          let g : filter (ties before x) (y ∷ ys) ≡ [] = none_ties x (y ∷ ys)
          (before_all x y ys qx qy (All-tail Q y ys ps) e (λ k d l. (rise.0 k d l).not_back)) in
          let h : [] ≡ x ∷ [] = sym g ∙ at_x in cc
      by false true e f tails =
          let g : filter (ties before y) (x ∷ xs) ≡ [] = none_ties y (x ∷ xs)
          (before_all y x xs qy qx (All-tail Q x xs qs) f (λ k d l. (up.0 k d l).not_back)) in
          let h : [] ≡ y ∷ [] = sym g ∙ at_y in cc
      by false false e f tails =
          let same_head : x ≡ y = heads (ties_from x y (record { forth = e; back = f })) in
          let same_tail = tails same_head in
          cc

  -- ---- insertion

  holds_inserted : (P : X → Type 0) (x : X) (ys : List X) → P x → All P ys → All P (inserted_by before x ys)
  holds_inserted P x [] px all = All-cons P x [] px all
  holds_inserted P x (y ∷ ys) px all =
      by (before y x) (holds_inserted P x ys px (All-tail P y ys all))
    where
      by : (t : Bool) → All P (inserted_by before x ys)
          → All P (cond t (y ∷ inserted_by before x ys) (x ∷ y ∷ ys))
      by true ih = All-cons P y (inserted_by before x ys) (All-head P y ys all) ih
      by false ih = All-cons P x (y ∷ ys) px all

  pub holds_in_order : (P : X → Type 0) (xs : List X) → All P xs → All P (in_order before xs)
  holds_in_order P [] all = all
  holds_in_order P (x ∷ xs) all =
      holds_inserted P x (in_order before xs) (All-head P x xs all) (holds_in_order P xs (All-tail P x xs all))

  -- an element put into a list in order, where none ties with it
  rising_inserted : (x : X) (ys : List X) → Q x → All Q ys → All (λ y. ties before y x ≡ false) ys
      → IsRising before ys → IsRising before (inserted_by before x ys)
  rising_inserted x [] qx qs apart up = (All-nil (IsBefore before x), tt)
  rising_inserted x (y ∷ ys) qx qs apart up =
      by (before y x) (before x y) refl refl
      (rising_inserted x ys qx (All-tail Q y ys qs) (All-tail (λ y. ties before y x ≡ false) y ys apart) up.1)
    where
      by : (t u : Bool) → before y x ≡ t → before x y ≡ u → IsRising before (inserted_by before x ys)
          → IsRising before (cond (before y x) (y ∷ inserted_by before x ys) (x ∷ y ∷ ys))
      by true u e f ih =
          rw e
          (holds_inserted (IsBefore before y) x ys (record { forth = e; not_back = o.one_way y x e }) up.0, ih)
      by false true e f ih =
          rw e
          (before_all x y ys qx (All-head Q y ys qs) (All-tail Q y ys qs) f (λ k d l. (up.0 k d l).not_back), up)
      by false false e f ih =
          clash (ties before y x) (All-head (λ y. ties before y x ≡ false) y ys apart)
          (ties_from y x (record { forth = e; back = f }))

  -- no two elements tie
  abbrev AreApart : List X → Type 0
  AreApart [] = Unit {0}
  AreApart (x ∷ xs) = All (λ y. ties before y x ≡ false) xs × AreApart xs

  pub rising_in_order : (xs : List X) → All Q xs → AreApart xs → IsRising before (in_order before xs)
  rising_in_order [] qs apart = tt
  rising_in_order (x ∷ xs) qs apart =
      let rest = All-tail Q x xs qs in
      rising_inserted x (in_order before xs) (All-head Q x xs qs) (holds_in_order Q xs rest)
      (holds_in_order (λ y. ties before y x ≡ false) xs apart.0) (rising_in_order xs rest apart.1)

  -- what is kept ties with nothing before it
  unlike_seen : (seen xs : List X) → All (λ y. list_any (ties before y) seen ≡ false) (distinct_after (ties before) seen xs)
  unlike_seen seen [] = All-nil (λ y. list_any (ties before y) seen ≡ false)
  unlike_seen seen (x ∷ xs) =
      by (list_any (ties before x) seen) refl
      (All-weaker (λ y. list_any (ties before y) (x ∷ seen) ≡ false) (λ y. list_any (ties before y) seen ≡ false)
      (λ y h. (or_parts (ties before y x) (list_any (ties before y) seen) h).1)
      (distinct_after (ties before) (x ∷ seen) xs) (unlike_seen (x ∷ seen) xs))
    where
      by : (t : Bool) → list_any (ties before x) seen ≡ t
          → All (λ y. list_any (ties before y) seen ≡ false) (distinct_after (ties before) (x ∷ seen) xs)
          → All (λ y. list_any (ties before y) seen ≡ false)
          (cond t (distinct_after (ties before) (x ∷ seen) xs) (x ∷ distinct_after (ties before) (x ∷ seen) xs))
      by true e rest = rest
      by false e rest =
          All-cons (λ y. list_any (ties before y) seen ≡ false) x (distinct_after (ties before) (x ∷ seen) xs) e rest

  apart_after : (seen xs : List X) → AreApart (distinct_after (ties before) seen xs)
  apart_after seen [] = tt
  apart_after seen (x ∷ xs) = by (list_any (ties before x) seen) (apart_after (x ∷ seen) xs)
    where
      by : (t : Bool) → AreApart (distinct_after (ties before) (x ∷ seen) xs)
          → AreApart (cond t (distinct_after (ties before) (x ∷ seen) xs) (x ∷ distinct_after (ties before) (x ∷ seen) xs))
      by true rest = rest
      by false rest = (
        All-weaker (λ y. list_any (ties before y) (x ∷ seen) ≡ false) (λ y. ties before y x ≡ false)
            (λ y h. (or_parts (ties before y x) (list_any (ties before y) seen) h).0)
            (distinct_after (ties before) (x ∷ seen) xs) (unlike_seen (x ∷ seen) xs),
        rest,
      )

  -- the first elements, in order, are in order
  pub firsts_rise : (xs : List X) → All Q xs → IsRising before (in_order before (distinct_by (ties before) xs))
  firsts_rise xs qs =
      rising_in_order (distinct_by (ties before) xs) (firsts_hold Q (ties before) [] xs qs) (apart_after [] xs)

  -- ---- what ties with a value

  module _ (x : X) (qx : Q x) where
    -- of elements that are put in order those that tie stay as they stood
    ties_inserted : (y : X) (ys : List X) → Q y → All Q ys
        → filter (ties before x) (inserted_by before y ys) ≡ filter (ties before x) (y ∷ ys)
    ties_inserted y [] qy qs = refl
    ties_inserted y (z ∷ ys) qy qs =
        by (before z y) (ties before x y) (ties before x z) refl refl refl (ties_inserted y ys qy (All-tail Q z ys qs))
      where
        by : (t u v : Bool) → before z y ≡ t → ties before x y ≡ u → ties before x z ≡ v
            → filter (ties before x) (inserted_by before y ys) ≡ filter (ties before x) (y ∷ ys)
            → filter (ties before x) (inserted_by before y (z ∷ ys)) ≡ filter (ties before x) (y ∷ z ∷ ys)
        by false u v e f g ih = rw e refl
        by true true true e f g ih =
            clash (before z y) ((tied z y (joined x y z qx qy (All-head Q z ys qs) f g)).forth) e
        by true true false e f g ih = let h = rw f at ih in rw (e, g, f) h
        by true false true e f g ih = let h = rw f at ih in rw (e, g, f) (ap (λ r. z ∷ r) h)
        by true false false e f g ih = let h = rw f at ih in rw (e, g, f) h

    pub ties_in_order : (ys : List X) → All Q ys
        → filter (ties before x) (in_order before ys) ≡ filter (ties before x) ys
    ties_in_order [] qs = refl
    ties_in_order (y ∷ ys) qs =
        let rest = All-tail Q y ys qs in
        ties_inserted y (in_order before ys) (All-head Q y ys qs) (holds_in_order Q ys rest)
        ∙ by (ties before x y) (ties_in_order ys rest)
      where
        by : (t : Bool) → filter (ties before x) (in_order before ys) ≡ filter (ties before x) ys
            → cond t (y ∷ filter (ties before x) (in_order before ys)) (filter (ties before x) (in_order before ys))
            ≡ cond t (y ∷ filter (ties before x) ys) (filter (ties before x) ys)
        by true ih = ap (λ r. y ∷ r) ih
        by false ih = ih

    -- where all tie, only the first is like none before it
    none_more : (y : X) (seen ys : List X) → Q y → ties before x y ≡ true → All Q ys
        → All (λ z. ties before x z ≡ true) ys → distinct_after (ties before) (y ∷ seen) ys ≡ []
    none_more y seen [] qy h qs all = refl
    none_more y seen (z ∷ ys) qy h qs all =
        let qz = All-head Q z ys qs in
        let k = All-head (λ z. ties before x z ≡ true) z ys all in
        rw (joined x y z qx qy qz h k)
        (none_more z (y ∷ seen) ys qz k (All-tail Q z ys qs) (All-tail (λ z. ties before x z ≡ true) z ys all))

    only_first : (ys : List X) → All Q ys → All (λ z. ties before x z ≡ true) ys
        → distinct_by (ties before) ys ≡ front ys
    only_first [] qs all = refl
    only_first (y ∷ ys) qs all =
        ap (λ r. y ∷ r)
        (none_more y [] ys (All-head Q y ys qs) (All-head (λ z. ties before x z ≡ true) y ys all) (All-tail Q y ys qs)
        (All-tail (λ z. ties before x z ≡ true) y ys all))

    -- of the first elements, in order, the first one of the list that ties
    pub ties_in_firsts : (ys : List X) → All Q ys
        → filter (ties before x) (in_order before (distinct_by (ties before) ys)) ≡ front (filter (ties before x) ys)
    ties_in_firsts ys qs =
        ties_in_order (distinct_by (ties before) ys) (firsts_hold Q (ties before) [] ys qs)
        ∙ split Q (ties before) (ties before x) (λ y z qy qz h. alike x y z qx qy qz h) ys qs
        ∙ only_first (filter (ties before x) ys) (All-filter (ties before x) Q ys qs) (filter_passes (ties before x) ys)

    -- of a level list without repeats, too
    ties_deduped_from : (k : X) (ys : List X) → Q k → All Q ys → IsLevel before (k ∷ ys)
        → filter (ties before x) (dedup_from (ties before) k ys) ≡ front (filter (ties before x) (k ∷ ys))
    ties_deduped_from k [] qk qs level = by (ties before x k)
      where
        by : (t : Bool) → cond t (k ∷ []) [] ≡ front (cond t (k ∷ []) [])
        by true = refl
        by false = refl
    ties_deduped_from k (y ∷ ys) qk qs level =
        by (ties before y k) (ties before x k) refl refl
        (λ h. ties_deduped_from k ys qk rest (All-tail (λ y. before y k ≡ false) y ys level.0, level.1.1))
        (λ h. ties_deduped_from y ys qy rest level.1)
      where
        rest : All Q ys
        rest = All-tail Q y ys qs

        qy : Q y
        qy = All-head Q y ys qs

        after : ties before y k ≡ false → All (IsBefore before k) (y ∷ ys)
        after e = level_before k y ys qk qy rest level e

        unlike_later : ties before x k ≡ true → All (IsBefore before k) (y ∷ ys) → filter (ties before x) (y ∷ ys) ≡ []
        unlike_later f all =
            filter_same_on Q (ties before x) (ties before k)
            (λ z qz. turned x z ∙ sym (alike z x k qz qx qk f) ∙ turned z k) (y ∷ ys) qs
            ∙ none_ties k (y ∷ ys) all

        by : (t u : Bool) → ties before y k ≡ t → ties before x k ≡ u
            → (t ≡ true
            → filter (ties before x) (dedup_from (ties before) k ys) ≡ front (filter (ties before x) (k ∷ ys)))
            → (t ≡ false
            → filter (ties before x) (dedup_from (ties before) y ys) ≡ front (filter (ties before x) (y ∷ ys)))
            → filter (ties before x) (dedup_from (ties before) k (y ∷ ys)) ≡ front (filter (ties before x) (k ∷ y ∷ ys))
        by true true e f kept other = let h = rw f at (kept refl) in rw (e, f) h
        by true false e f kept other =
            let h = rw f at (kept refl) in
            let g : ties before x y ≡ false = alike x k y qx qk qy (symmetric y k e) ∙ f in
            rw (e, f, g) h
        by false true e f kept other =
            let none : filter (ties before x) (y ∷ ys) ≡ [] = unlike_later f (after e) in
            rw (e, f) (ap (λ r. k ∷ r) (other refl ∙ ap front none))
        by false false e f kept other = rw (e, f) (other refl)

    pub ties_deduped : (ys : List X) → All Q ys → IsLevel before ys
        → filter (ties before x) (dedup (ties before) ys) ≡ front (filter (ties before x) ys)
    ties_deduped [] qs level = refl
    ties_deduped (y ∷ ys) qs level = ties_deduped_from y ys (All-head Q y ys qs) (All-tail Q y ys qs) level

  -- ---- a level list without repeats is in order

  holds_deduped_from : (P : X → Type 0) (k : X) (ys : List X) → P k → All P ys → All P (dedup_from (ties before) k ys)
  holds_deduped_from P k [] pk all = All-cons P k [] pk all
  holds_deduped_from P k (y ∷ ys) pk all =
      by (ties before y k) (holds_deduped_from P k ys pk (All-tail P y ys all))
      (holds_deduped_from P y ys (All-head P y ys all) (All-tail P y ys all))
    where
      by : (t : Bool) → All P (dedup_from (ties before) k ys) → All P (dedup_from (ties before) y ys)
          → All P (cond t (dedup_from (ties before) k ys) (k ∷ dedup_from (ties before) y ys))
      by true kept other = kept
      by false kept other = All-cons P k (dedup_from (ties before) y ys) pk other

  pub holds_deduped : (P : X → Type 0) (ys : List X) → All P ys → All P (dedup (ties before) ys)
  holds_deduped P [] all = all
  holds_deduped P (y ∷ ys) all = holds_deduped_from P y ys (All-head P y ys all) (All-tail P y ys all)

  rising_deduped_from : (k : X) (ys : List X) → Q k → All Q ys → IsLevel before (k ∷ ys)
      → IsRising before (dedup_from (ties before) k ys)
  rising_deduped_from k [] qk qs level = (All-nil (IsBefore before k), tt)
  rising_deduped_from k (y ∷ ys) qk qs level =
      by (ties before y k) refl
      (rising_deduped_from k ys qk rest (All-tail (λ y. before y k ≡ false) y ys level.0, level.1.1))
      (rising_deduped_from y ys qy rest level.1)
    where
      rest : All Q ys
      rest = All-tail Q y ys qs

      qy : Q y
      qy = All-head Q y ys qs

      after : ties before y k ≡ false → All (IsBefore before k) (y ∷ ys)
      after e = level_before k y ys qk qy rest level e

      by : (t : Bool) → ties before y k ≡ t → IsRising before (dedup_from (ties before) k ys)
          → IsRising before (dedup_from (ties before) y ys)
          → IsRising before (cond t (dedup_from (ties before) k ys) (k ∷ dedup_from (ties before) y ys))
      by true e kept other = kept
      by false e kept other = (
        holds_deduped_from (IsBefore before k) y ys (All-head (IsBefore before k) y ys (after e))
            (All-tail (IsBefore before k) y ys (after e)),
        other,
      )

  pub rising_deduped : (ys : List X) → All Q ys → IsLevel before ys → IsRising before (dedup (ties before) ys)
  rising_deduped [] qs level = tt
  rising_deduped (y ∷ ys) qs level = rising_deduped_from y ys (All-head Q y ys qs) (All-tail Q y ys qs) level

  -- ---- a stable sort

  -- what a stable sort leaves, without repeats, is the first elements in order
  pub sorted_firsts : (xs ys : List X) → All Q xs → All Q ys → IsLevel before ys
      → ((x : X) → Q x → filter (ties before x) ys ≡ filter (ties before x) xs)
      → dedup (ties before) ys ≡ in_order before (distinct_by (ties before) xs)
  sorted_firsts xs ys qs ps level stable =
      same_rising (dedup (ties before) ys) (in_order before (distinct_by (ties before) xs))
      (holds_deduped Q ys ps) (holds_in_order Q (distinct_by (ties before) xs) (firsts_hold Q (ties before) [] xs qs))
      (rising_deduped ys ps level) (firsts_rise xs qs)
      (λ x qx. ties_deduped x qx ys ps level ∙ ap front (stable x qx) ∙ sym (ties_in_firsts x qx xs qs))
