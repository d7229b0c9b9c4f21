-- The first of the least of a list, with and without some of its elements.
--
-- The least is found by going through the list with the best so far: an element that comes before it takes its place.
-- Take
-- the way with an element y and the way without it. As long as y is best, what the way without has as its best isn't
-- before y. So an element that comes before y comes before that too, by the order's second law, and takes the place
-- on
-- both ways, which are one from there on. If none comes, the way with y ends in y. So where the least is not y,
-- leaving y
-- out keeps it; and where the least of the others comes before y, y doesn't take its place. By recursion on how a
-- list
-- was dropped both hold for all that is dropped.
use Rattle.std.proofs.Common.{◌≡◌, ◌∙◌, Bool, true, false, cond, not, List, [], ◌∷◌, Option, Some, None}
use Rattle.std.proofs.Common.{refl, sym, ap, subst, arith}
use Rattle.std.specs.List.{All, best_of}
use Rattle.std.specs.Option.{IfSome}
use Rattle.std.proofs.lemmas.List.Elements.{All-head, All-tail}
use Rattle.plane_spec.specs.Lists.{min_by}
use Rattle.list_laws.specs.Dropped.{Dropped, done, keep, drop}
use Rattle.list_laws.specs.Orders.{IsWeakOrder}
use Rattle.list_laws.proofs.Dropped.{left_hold}

-- ---- the best so far

-- the better of the best so far and the next element
abbrev better : {X : Type 0} → (X → X → Bool) → Option X → X → Option X
better before None x = Some x
better before (Some b) x = cond (before x b) (Some x) (Some b)

-- the best of the list, from a best so far
abbrev least_from : {X : Type 0} → (X → X → Bool) → Option X → List X → Option X
least_from before b [] = b
least_from before b (x ∷ xs) = least_from before (better before b x) xs

-- the least of a list is its best from none: first from an element on
best_from : {X : Type 0} (before : X → X → Bool) (b : X) (xs : List X)
    → Some (best_of before b xs) ≡ least_from before (Some b) xs
best_from before b [] = refl
best_from before b (x ∷ xs) =
    best_from before (cond (before x b) x b) xs ∙ ap (λ c. least_from before c xs) (some_cond (before x b))
  where
    some_cond : (t : Bool) → Some (cond t x b) ≡ cond t (Some x) (Some b)
    some_cond true = refl
    some_cond false = refl

-- the least of a list is its best from none
from_none : {X : Type 0} (before : X → X → Bool) (xs : List X) → min_by before xs ≡ least_from before None xs
from_none before [] = refl
from_none before (x ∷ xs) = best_from before x xs

-- the best so far isn't before y
abbrev is_under : {X : Type 0} → (X → X → Bool) → X → Option X → Bool
is_under before y None = true
is_under before y (Some b) = not (before b y)

module _ {X : Type 0} (Q : X → Type 0) (before : X → X → Bool) (laws : IsWeakOrder Q before) where
  -- what holds of the best and of an element holds of the better of them
  better_has : (b : Option X) (y : X) → IfSome b Q → Q y → IfSome (better before b y) Q
  better_has None y i j = j
  better_has (Some b) y i j = by (before y b)
    where
      by : (t : Bool) → IfSome (cond t (Some y) (Some b)) Q
      by true = j
      by false = i

  -- ---- the way with y and the way without it

  -- what comes before y takes the place on both ways
  same_step : (y z : X) (b : Option X) → Q y → Q z → IfSome b Q → is_under before y b ≡ true → before z y ≡ true
      → better before b z ≡ Some z
  same_step y z None qy qz qb u h = refl
  same_step y z (Some b) qy qz qb u h = rw (laws.through z y b qz qy qb h (not_false (before b y) u)) refl
    where
      not_false : (t : Bool) → not t ≡ true → t ≡ false
      not_false t h = grind arith

  -- what doesn't come before y leaves y best, and the other way's best not before it
  still_under : (y z : X) (b : Option X) → is_under before y b ≡ true → before z y ≡ false
      → is_under before y (better before b z) ≡ true
  still_under y z None u h = ap not h
  still_under y z (Some b) u h = by (before z b)
    where
      by : (t : Bool) → is_under before y (cond t (Some z) (Some b)) ≡ true
      by true = ap not h
      by false = u

  -- where the way with y ends in m, of which C holds as it doesn't of y, the way without y does
  lower : (C : X → Type 0) (y m : X) (b : Option X) (zs : List X) → Q y → IfSome b Q → All Q zs → (C y → ⊥) → C m
      → is_under before y b ≡ true → least_from before (Some y) zs ≡ Some m → least_from before b zs ≡ Some m
  lower C y m b [] qy qb qs bad good u h = absurd (bad (subst C (sym (some_is y m h)) good))
    where
      some_is : (y m : X) → Some y ≡ Some m → y ≡ m
      some_is y m h = cc
  lower C y m b (z ∷ zs) qy qb qs bad good u h =
      by (before z y) refl h (λ c qc v g. lower C y m c zs qy qc (All-tail Q z zs qs) bad good v g)
    where
      by : (t : Bool) → before z y ≡ t → least_from before (cond t (Some z) (Some y)) zs ≡ Some m
          → ((c : Option X) → IfSome c Q → is_under before y c ≡ true → least_from before (Some y) zs ≡ Some m
          → least_from before c zs ≡ Some m) → least_from before (better before b z) zs ≡ Some m
      by true e g ih = rw (same_step y z b qy (All-head Q z zs qs) qb u e) g
      by false e g ih =
          ih (better before b z) (better_has b z qb (All-head Q z zs qs)) (still_under y z b u e) g

  -- where the way without y ends in m, which comes before y, the way with y does
  raise : (y m : X) (b : Option X) (zs : List X) → Q y → IfSome b Q → All Q zs → before m y ≡ true
      → is_under before y b ≡ true → least_from before b zs ≡ Some m → least_from before (Some y) zs ≡ Some m
  raise y m b [] qy qb qs more u h = absurd (clash b h u)
    where
      clash : (b : Option X) → b ≡ Some m → is_under before y b ≡ true → ⊥
      clash b e u = two (before m y) more (rw e at u)
        where
          two : (t : Bool) → t ≡ true → not t ≡ true → ⊥
          two true h k = cc
          two false h k = cc
  raise y m b (z ∷ zs) qy qb qs more u h =
      by (before z y) refl (λ c qc v g. raise y m c zs qy qc (All-tail Q z zs qs) more v g)
    where
      by : (t : Bool) → before z y ≡ t
          → ((c : Option X) → IfSome c Q → is_under before y c ≡ true → least_from before c zs ≡ Some m
          → least_from before (Some y) zs ≡ Some m) → least_from before (cond t (Some z) (Some y)) zs ≡ Some m
      by true e ih = rw (same_step y z b qy (All-head Q z zs qs) qb u e) at h
      by false e ih =
          ih (better before b z) (better_has b z qb (All-head Q z zs qs)) (still_under y z b u e) h

  -- y takes the place or doesn't
  took : {P : Type 0} (b : Option X) (y : X) → (better before b y ≡ b → P)
      → (better before b y ≡ Some y → is_under before y b ≡ true → P) → P
  took None y f g = g refl refl
  took {P} (Some b) y f g = by (before y b) refl f g
    where
      by : (t : Bool) → before y b ≡ t → (cond t (Some y) (Some b) ≡ Some b → P)
          → (cond t (Some y) (Some b) ≡ Some y → is_under before y (Some b) ≡ true → P) → P
      by true e f g = g refl (ap not (laws.one_way y b e))
      by false e f g = f refl

  -- ---- with all that is dropped

  -- from any best so far, the least stays where it is of another kind than what is dropped
  without_from : (P C : X → Type 0) → ((y : X) → P y → C y → ⊥) → (m : X) (b : Option X) (xs ys : List X)
      → Dropped P xs ys → IfSome b Q → All Q xs → C m → least_from before b xs ≡ Some m
      → least_from before b ys ≡ Some m
  without_from P C bad m b xs ys done qb qs good h = h
  without_from P C bad m b xs ys (keep x us vs d) qb qs good h =
      without_from P C bad m (better before b x) us vs d (better_has b x qb (All-head Q x us qs)) (All-tail Q x us qs)
      good h
  without_from P C bad m b xs ys (drop x us vs p d) qb qs good h =
      let here = All-head Q x us qs in
      let later = All-tail Q x us qs in
      let rest = without_from P C bad m (better before b x) us vs d (better_has b x qb here) later good h in
      took b x (λ e. rw e at rest)
      (λ e u. lower C x m b vs here qb (left_hold P Q us vs d later) (bad x p) good u (rw e at rest))

  -- from any best so far, the least of those that are left is that of all, where it comes before what is dropped
  with_from : (P : X → Type 0) (m : X) → ((y : X) → P y → Q y → before m y ≡ true) → (b : Option X) (xs ys : List X)
      → Dropped P xs ys → IfSome b Q → All Q xs → least_from before b ys ≡ Some m → least_from before b xs ≡ Some m
  with_from P m more b xs ys done qb qs h = h
  with_from P m more b xs ys (keep x us vs d) qb qs h =
      with_from P m more (better before b x) us vs d (better_has b x qb (All-head Q x us qs)) (All-tail Q x us qs) h
  with_from P m more b xs ys (drop x us vs p d) qb qs h =
      let here = All-head Q x us qs in
      let later = All-tail Q x us qs in
      with_from P m more (better before b x) us vs d (better_has b x qb here) later
      (took b x (λ e. rw e h)
      (λ e u. rw e (raise x m b vs here qb (left_hold P Q us vs d later) (more x p here) u h)))

  -- the least stays where C holds of it, as it does of nothing that is dropped
  pub least_without : (P C : X → Type 0) → ((y : X) → P y → C y → ⊥) → (m : X) (xs ys : List X) → Dropped P xs ys
      → All Q xs → C m → min_by before xs ≡ Some m → min_by before ys ≡ Some m
  least_without P C bad m xs ys d qs good h =
      from_none before ys ∙ without_from P C bad m None xs ys d tt qs good (sym (from_none before xs) ∙ h)

  -- the least of those that are left is that of all, where it comes before all that is dropped
  pub least_with : (P : X → Type 0) (m : X) → ((y : X) → P y → Q y → before m y ≡ true) → (xs ys : List X)
      → Dropped P xs ys → All Q xs → min_by before ys ≡ Some m → min_by before xs ≡ Some m
  least_with P m more xs ys d qs h =
      from_none before xs ∙ with_from P m more None xs ys d tt qs (sym (from_none before ys) ∙ h)

-- where a list has no least, what is left of it has none
pub none_without : {X : Type 0} (P : X → Type 0) (before : X → X → Bool) (xs ys : List X) → Dropped P xs ys
    → min_by before xs ≡ None → min_by before ys ≡ None
none_without P before xs ys done h = refl
none_without P before xs ys (keep x us vs d) h = cc
none_without P before xs ys (drop x us vs p d) h = cc

-- what holds of all elements holds of the least
pub least_has : {X : Type 0} (P : X → Type 0) (before : X → X → Bool) (xs : List X) → All P xs
    → IfSome (min_by before xs) P
least_has P before [] all = tt
least_has {X = X} P before (x ∷ xs) all = best x xs (All-head P x xs all) (All-tail P x xs all)
  where
    best : (b : X) (zs : List X) → P b → All P zs → P (best_of before b zs)
    best b [] i all = i
    best b (z ∷ zs) i all = best (cond (before z b) z b) zs (by (before z b)) (All-tail P z zs all)
      where
        by : (t : Bool) → P (cond t z b)
        by true = All-head P z zs all
        by false = i
