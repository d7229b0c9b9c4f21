-- Cuts found one after the other, each put in its place, are the cuts of the route.
--
-- Cuts are ordered by their values, since their denominators are positive. Where no two of them have one value, it
-- doesn't matter in which order they are put in; and one is left out exactly where one before it has its value.
use Rattle.std.proofs.Common.{◌≡◌, ◌<◌, ◌≤◌, ℕ, zero, suc, ℤ, pos, ◌*ℤ◌, ◌≤ℤ◌, ◌<ℤ◌, Bool, true, false, cond, ◌||◌, List, [], ◌∷◌, length, get_or, refl, sym, ap, ◌∙◌, subst, arith}
use Rattle.std.specs.Prelude.{All, int_lt, ◌&&◌, nat_lt, not}
use Rattle.std.specs.Ordering.{int_eq}
use Rattle.std.specs.List.{list_any, insert}
use Rattle.std.specs.List.Sorted.{IsPartitionPoint, IsPartitionedBy}
use Rattle.std.proofs.lemmas.Bool.{ltb-true, ltb-false}
use Rattle.std.proofs.lemmas.Int.{ints}
use Rattle.std.proofs.lemmas.List.Elements.{All-nil, All-cons, All-head, All-tail}
use Rattle.int_laws.proofs.Tests.{tested_less, tested_equal, not_less}
use Rattle.plane_spec.specs.Fractions.{Fraction, is_before, same_value}
use Rattle.plane_spec.specs.Lists.{distinct_after, distinct_by, inserted_by, in_order}
use Rattle.list_laws.specs.Orders.{IsBefore, IsRising}
use Rattle.list_laws.proofs.Firsts.{firsts_hold}
use Rattle.exact_geom.proofs.RPointOrder.{before_transitive, before_follows}
use Rattle.route_laws.specs.Bounds.{IsCut}
use Rattle.segment_core.specs.Cuts.{with_cut}

-- ---- two cuts

pub over_positive : (t : Fraction) → IsCut t → pos 1 ≤ℤ t.den
over_positive t h = let a = h.ahead in let b = h.before in omega (arith, ints)

one_way : (x y : Fraction) → is_before x y ≡ true → is_before y x ≡ false
one_way x y h =
    let less = tested_less (x.num *ℤ y.den) (y.num *ℤ x.den) h in
    not_less (y.num *ℤ x.den) (x.num *ℤ y.den) (omega (arith, ints, less))

before_of : (x y : Fraction) → is_before x y ≡ true → IsBefore is_before x y
before_of x y h = record { forth = h; not_back = one_way x y h }

differ : (a b : ℤ) → a <ℤ b → int_eq a b ≡ false
differ a b h = grind (arith, ints)

differ_back : (a b : ℤ) → a <ℤ b → int_eq b a ≡ false
differ_back a b h = grind (arith, ints)

-- what comes before has another value
other_value : (x y : Fraction) → is_before x y ≡ true → same_value x y ≡ false
other_value x y h = differ (x.num *ℤ y.den) (y.num *ℤ x.den) (tested_less _ _ h)

other_value_back : (x y : Fraction) → is_before x y ≡ true → same_value y x ≡ false
other_value_back x y h = differ_back (x.num *ℤ y.den) (y.num *ℤ x.den) (tested_less _ _ h)

third : (a b : ℤ) → int_eq a b ≡ false → int_lt b a ≡ false → int_lt a b ≡ true
third a b g h = grind (arith, ints)

-- of two values one comes before
or_before : (x y : Fraction) → same_value x y ≡ false → is_before y x ≡ false → is_before x y ≡ true
or_before x y g h = third (x.num *ℤ y.den) (y.num *ℤ x.den) g h

through : (x y z : Fraction) → IsCut x → IsCut y → IsCut z → is_before x y ≡ true → is_before y z ≡ true
    → is_before x z ≡ true
through x y z x_is y_is z_is h k = before_transitive x y z (over_positive x x_is) (over_positive y y_is)
    (over_positive z z_is) h k

-- x comes before y, and y before all of these: x has none of their values, and comes before them
none_after : (x y : Fraction) (ts : List Fraction) → IsCut x → IsCut y → All IsCut ts → is_before x y ≡ true
    → All (IsBefore is_before y) ts → list_any (same_value x) ts ≡ false
none_after x y [] x_is y_is all h after = refl
none_after x y (t ∷ ts) x_is y_is all h after =
    ap (λ b. b || list_any (same_value x) ts)
    (other_value x t (through x y t x_is y_is (All-head IsCut t ts all) h (All-head
    (IsBefore is_before y) t ts after).forth))
    ∙ none_after x y ts x_is y_is (All-tail IsCut t ts all) h (All-tail (IsBefore is_before y) t ts after)

all_after : (x y : Fraction) (ts : List Fraction) → IsCut x → IsCut y → All IsCut ts → is_before x y ≡ true
    → All (IsBefore is_before y) ts → All (IsBefore is_before x) ts
all_after x y [] x_is y_is all h after = All-nil (IsBefore is_before x)
all_after x y (t ∷ ts) x_is y_is all h after =
    All-cons (IsBefore is_before x) t ts
    (before_of x t (through x y t x_is y_is (All-head IsCut t ts all) h (All-head
    (IsBefore is_before y) t ts after).forth))
    (all_after x y ts x_is y_is (All-tail IsCut t ts all) h (All-tail (IsBefore is_before y) t ts after))

-- ---- the place of a cut

pub rising_parted : (x : Fraction) (ts : List Fraction) → IsCut x → All IsCut ts → IsRising is_before ts
    → IsPartitionedBy (λ t. is_before t x) ts
rising_parted x [] x_is all rising i j d low high h = absurd (omega (arith, high))
rising_parted x (y ∷ ts) x_is all rising zero zero d low high h = h
rising_parted x (y ∷ ts) x_is all rising zero (suc j) d low high h =
    let there : j < length ts = omega (arith, high) in
    through y (get_or ts j d) x (All-head IsCut y ts all) (All-tail IsCut y ts all j d there) x_is
    (rising.0 j d there).forth h
rising_parted x (y ∷ ts) x_is all rising (suc i) zero d low high h = absurd (omega (arith, low))
rising_parted x (y ∷ ts) x_is all rising (suc i) (suc j) d low high h =
    rising_parted x ts x_is (All-tail IsCut y ts all) rising.1 i j d (omega (arith, low)) (omega (arith, high)) h

abbrev IsPlace : Fraction → List Fraction → ℕ → Type 0
IsPlace x ts i = IsPartitionPoint (λ t. is_before t x ≡ true) (λ t. is_before t x ≡ false) ts i

later_place : (x y : Fraction) (ts : List Fraction) (i : ℕ) → IsPlace x (y ∷ ts) (suc i) → IsPlace x ts i
later_place x y ts i h = (
  λ k d low high. h.0 (suc k) d (omega arith) (omega (arith, high)),
  λ k d low high. h.1 (suc k) d (omega (arith, low)) (omega (arith, high)),
)

pub inserted_at : (x : Fraction) (ts : List Fraction) (i : ℕ) → i ≤ length ts → IsPlace x ts i
    → insert ts i x ≡ inserted_by is_before x ts
inserted_at x [] zero below h = refl
inserted_at x [] (suc i) below h = absurd (omega (arith, below))
inserted_at x (y ∷ ts) zero below h = rw (h.1 0 y (omega arith) (omega arith)) refl
inserted_at x (y ∷ ts) (suc i) below h =
    rw (h.0 0 y (omega arith) (omega arith))
    (ap (λ r. y ∷ r) (inserted_at x ts i (omega (arith, below)) (later_place x y ts i h)))

-- the cut at the place is the only one that may have the same value
same_at : (x : Fraction) (ts : List Fraction) (i : ℕ) → IsCut x → All IsCut ts → IsRising is_before ts → IsPlace x ts i
    → i < length ts → list_any (same_value x) ts ≡ same_value x (get_or ts i x)
same_at x [] i x_is all rising h below = absurd (omega (arith, below))
same_at x (y ∷ ts) zero x_is all rising h below = by (same_value x y) refl
  where
    by : (b : Bool) → same_value x y ≡ b → same_value x y || list_any (same_value x) ts ≡ same_value x y
    by true e = rw e refl
    by false e =
        let before = or_before x y e (h.1 0 y (omega arith) (omega arith)) in
        rw e (none_after x y ts x_is (All-head IsCut y ts all) (All-tail IsCut y ts all) before rising.0)
same_at x (y ∷ ts) (suc i) x_is all rising h below =
    ap (λ b. b || list_any (same_value x) ts) (other_value_back y x (h.0 0 y (omega arith) (omega arith)))
    ∙ same_at x ts i x_is (All-tail IsCut y ts all) rising.1 (later_place x y ts i h) (omega (arith, below))

none_before : (x : Fraction) (ts : List Fraction) (i : ℕ) → IsPlace x ts i → length ts ≤ i
    → list_any (same_value x) ts ≡ false
none_before x [] i h above = refl
none_before x (y ∷ ts) zero h above = absurd (omega (arith, above))
none_before x (y ∷ ts) (suc i) h above =
    ap (λ b. b || list_any (same_value x) ts) (other_value_back y x (h.0 0 y (omega arith) (omega arith)))
    ∙ none_before x ts i (later_place x y ts i h) (omega (arith, above))

pub found_at : (x : Fraction) (ts : List Fraction) (i : ℕ) → IsCut x → All IsCut ts → IsRising is_before ts
    → IsPlace x ts i
    → (nat_lt i (length ts) && same_value x (get_or ts i x)) ≡ list_any (same_value x) ts
found_at x ts i x_is all rising h = by (nat_lt i (length ts)) (ltb-true i (length ts)) (ltb-false i (length ts))
  where
    by : (b : Bool) → (b ≡ true → i < length ts) → (b ≡ false → length ts ≤ i)
        → (b && same_value x (get_or ts i x)) ≡ list_any (same_value x) ts
    by true below above = sym (same_at x ts i x_is all rising h (below refl))
    by false below above = sym (none_before x ts i h (above refl))

-- ---- cuts with one more

inserted_hold : (P : Fraction → Type 0) (x : Fraction) (ts : List Fraction) → P x → All P ts
    → All P (inserted_by is_before x ts)
inserted_hold P x [] here all = All-cons P x [] here all
inserted_hold P x (y ∷ ts) here all = by (is_before y x) (inserted_hold P x ts here (All-tail P y ts all))
  where
    by : (b : Bool) → All P (inserted_by is_before x ts) → All P (cond b (y ∷ inserted_by is_before x ts) (x ∷ y ∷ ts))
    by true later = All-cons P y (inserted_by is_before x ts) (All-head P y ts all) later
    by false later = All-cons P x (y ∷ ts) here all

neither_first : (a b : Bool) → a || b ≡ false → a ≡ false
neither_first true b h = h
neither_first false b h = refl

neither_second : (a b : Bool) → a || b ≡ false → b ≡ false
neither_second true b h = cc
neither_second false b h = h

inserted_rising : (x : Fraction) (ts : List Fraction) → IsCut x → All IsCut ts → IsRising is_before ts
    → list_any (same_value x) ts ≡ false → IsRising is_before (inserted_by is_before x ts)
inserted_rising x [] x_is all rising none = (All-nil (IsBefore is_before x), tt)
inserted_rising x (y ∷ ts) x_is all rising none =
    by (is_before y x) refl
    (inserted_rising x ts x_is (All-tail IsCut y ts all) rising.1 (neither_second (same_value x y) (list_any
    (same_value x) ts) none))
  where
    by : (b : Bool) → is_before y x ≡ b → IsRising is_before (inserted_by is_before x ts)
        → IsRising is_before (cond b (y ∷ inserted_by is_before x ts) (x ∷ y ∷ ts))
    by true e later = (inserted_hold (IsBefore is_before y) x ts (before_of y x e) rising.0, later)
    by false e later =
        let before = or_before x y (neither_first (same_value x y) (list_any (same_value x) ts) none) e in (
          All-cons (IsBefore is_before x) y ts (before_of x y before)
              (all_after x y ts x_is (All-head IsCut y ts all) (All-tail IsCut y ts all) before rising.0),
          rising,
        )

pub with_cut_hold : (x : Fraction) (ts : List Fraction) → IsCut x → All IsCut ts → All IsCut (with_cut x ts)
with_cut_hold x ts x_is all = by (list_any (same_value x) ts)
  where
    by : (b : Bool) → All IsCut (cond b ts (inserted_by is_before x ts))
    by true = all
    by false = inserted_hold IsCut x ts x_is all

pub with_cut_rising : (x : Fraction) (ts : List Fraction) → IsCut x → All IsCut ts → IsRising is_before ts
    → IsRising is_before (with_cut x ts)
with_cut_rising x ts x_is all rising = by (list_any (same_value x) ts) refl
  where
    by : (b : Bool) → list_any (same_value x) ts ≡ b → IsRising is_before (cond b ts (inserted_by is_before x ts))
    by true e = rising
    by false e = inserted_rising x ts x_is all rising e

-- what stands at the place decides whether the cut is put in there
pub put_in : (x : Fraction) (ts : List Fraction) (i : ℕ) → IsCut x → All IsCut ts → IsRising is_before ts
    → i ≤ length ts
    → IsPlace x ts i → (nat_lt i (length ts) && same_value x (get_or ts i x)) ≡ false → insert ts i x ≡ with_cut x ts
put_in x ts i x_is all rising below h other =
    inserted_at x ts i below h
    ∙ ap (λ b. cond b ts (inserted_by is_before x ts)) (sym other ∙ found_at x ts i x_is all rising h)

pub left_out : (x : Fraction) (ts : List Fraction) (i : ℕ) → IsCut x → All IsCut ts → IsRising is_before ts
    → IsPlace x ts i → (nat_lt i (length ts) && same_value x (get_or ts i x)) ≡ true → ts ≡ with_cut x ts
left_out x ts i x_is all rising h same =
    ap (λ b. cond b ts (inserted_by is_before x ts)) (sym same ∙ found_at x ts i x_is all rising h)

-- ---- the order in which cuts are put in

swapped_less : (x y : Fraction) (ts : List Fraction) → IsCut x → IsCut y → All IsCut ts → is_before x y ≡ true
    → inserted_by is_before x (inserted_by is_before y ts) ≡ inserted_by is_before y (inserted_by is_before x ts)
swapped_less x y [] x_is y_is all h = rw (h, one_way x y h) refl
swapped_less x y (z ∷ ts) x_is y_is all h =
    by (is_before z x) (is_before z y) refl refl (swapped_less x y ts x_is y_is (All-tail IsCut z ts all) h)
  where
    z_is : IsCut z
    z_is = All-head IsCut z ts all

    by : (a b : Bool) → is_before z x ≡ a → is_before z y ≡ b
        → inserted_by is_before x (inserted_by is_before y ts) ≡ inserted_by is_before y (inserted_by is_before x ts)
        → inserted_by is_before x (cond b (z ∷ inserted_by is_before y ts) (y ∷ z ∷ ts))
        ≡ inserted_by is_before y (cond a (z ∷ inserted_by is_before x ts) (x ∷ z ∷ ts))
    by true true e f later = rw (e, f) (ap (λ r. z ∷ r) later)
    by true false e f later = let g = sym f ∙ through z x y z_is x_is y_is e h in cc
    by false true e f later = rw (e, h, f) refl
    by false false e f later = rw (one_way x y h, h, f) refl

swapped : (x y : Fraction) (ts : List Fraction) → IsCut x → IsCut y → All IsCut ts → same_value y x ≡ false
    → inserted_by is_before y (inserted_by is_before x ts) ≡ inserted_by is_before x (inserted_by is_before y ts)
swapped x y ts x_is y_is all h = by (is_before x y) refl
  where
    by : (b : Bool) → is_before x y ≡ b
        → inserted_by is_before y (inserted_by is_before x ts) ≡ inserted_by is_before x (inserted_by is_before y ts)
    by true e = sym (swapped_less x y ts x_is y_is all e)
    by false e = swapped_less y x ts y_is x_is all (or_before y x h e)

-- all of a list, whatever their values, put in one after the other
abbrev put_all : List Fraction → List Fraction → List Fraction
put_all now [] = now
put_all now (t ∷ ts) = put_all (inserted_by is_before t now) ts

put_last : (x : Fraction) (ts now : List Fraction) → IsCut x → All IsCut ts → All IsCut now
    → All (λ t. same_value t x ≡ false) ts → put_all (inserted_by is_before x now) ts
    ≡ inserted_by is_before x (put_all now ts)
put_last x [] now x_is all now_all apart = refl
put_last x (t ∷ ts) now x_is all now_all apart =
    let t_is = All-head IsCut t ts all in
    ap (λ r. put_all r ts) (swapped x t now x_is t_is now_all (All-head (λ t. same_value t x ≡ false) t ts apart))
    ∙ put_last x ts (inserted_by is_before t now) x_is (All-tail IsCut t ts all)
    (inserted_hold IsCut t now t_is now_all)
    (All-tail (λ t. same_value t x ≡ false) t ts apart)

abbrev IsFresh : List Fraction → Fraction → Type 0
IsFresh seen t = list_any (same_value t) seen ≡ false

-- distinct ones have none of the values before them
fresh : (seen ts : List Fraction) → All (λ t. list_any (same_value t) seen ≡ false) (distinct_after same_value seen ts)
fresh seen [] = All-nil (λ t. list_any (same_value t) seen ≡ false)
fresh seen (x ∷ ts) = by (list_any (same_value x) seen) refl (weaker (distinct_after same_value (x ∷ seen) ts)
    (fresh (x ∷ seen) ts))
  where
    weaker : (ds : List Fraction) → All (λ t. same_value t x || list_any (same_value t) seen ≡ false) ds
        → All (IsFresh seen) ds
    weaker ds h = λ k d below. neither_second (same_value (get_or ds k d) x) (list_any (same_value
        (get_or ds k d)) seen) (h k d below)

    by : (b : Bool) → list_any (same_value x) seen ≡ b → All (IsFresh seen) (distinct_after same_value (x ∷ seen) ts)
        → All (IsFresh seen) (cond b (distinct_after same_value (x ∷ seen) ts) (x ∷ distinct_after same_value
        (x ∷ seen) ts))
    by true e later = later
    by false e later = All-cons (IsFresh seen) x (distinct_after same_value (x ∷ seen) ts) e later

apart_from : (x : Fraction) (seen ts : List Fraction)
    → All (λ t. same_value t x ≡ false) (distinct_after same_value (x ∷ seen) ts)
apart_from x seen ts = λ k d below.
    let ds = distinct_after same_value (x ∷ seen) ts in
    neither_first (same_value (get_or ds k d) x) (list_any (same_value (get_or ds k d)) seen) (fresh
    (x ∷ seen) ts k d below)

ordered : (seen ts : List Fraction) → All IsCut ts
    → put_all [] (distinct_after same_value seen ts) ≡ in_order is_before (distinct_after same_value seen ts)
ordered seen [] all = refl
ordered seen (x ∷ ts) all = by (list_any (same_value x) seen) (ordered (x ∷ seen) ts (All-tail IsCut x ts all))
  where
    put : put_all (x ∷ []) (distinct_after same_value (x ∷ seen) ts)
        ≡ inserted_by is_before x (put_all [] (distinct_after same_value (x ∷ seen) ts))
    put =
        put_last x (distinct_after same_value (x ∷ seen) ts) [] (All-head IsCut x ts all)
        (firsts_hold IsCut same_value (x ∷ seen) ts (All-tail IsCut x ts all)) (All-nil IsCut) (apart_from x seen ts)

    by : (b : Bool)
        → put_all [] (distinct_after same_value (x ∷ seen) ts)
        ≡ in_order is_before (distinct_after same_value (x ∷ seen) ts)
        → put_all [] (cond b (distinct_after same_value (x ∷ seen) ts) (x ∷ distinct_after same_value (x ∷ seen) ts))
        ≡ in_order is_before (cond b (distinct_after same_value (x ∷ seen) ts) (x ∷ distinct_after same_value
        (x ∷ seen) ts))
    by true later = later
    by false later = put ∙ ap (inserted_by is_before x) later

-- ---- cuts that are left out

-- two tests that agree are alike
alike : (a b : Bool) → (a ≡ true → b ≡ true) → (b ≡ true → a ≡ true) → a ≡ b
alike true b g h = sym (g refl)
alike false true g h = h refl
alike false false g h = refl

not_before : (x y : Fraction) → same_value y x ≡ true → is_before x y ≡ false
not_before x y h =
    let e = tested_equal (y.num *ℤ x.den) (x.num *ℤ y.den) h in
    not_less (x.num *ℤ y.den) (y.num *ℤ x.den) (omega (arith, ints, e))

not_after : (x y : Fraction) → same_value y x ≡ true → is_before y x ≡ false
not_after x y h =
    let e = tested_equal (y.num *ℤ x.den) (x.num *ℤ y.den) h in
    not_less (y.num *ℤ x.den) (x.num *ℤ y.den) (omega (arith, ints, e))

equal_by : (a b : ℤ) → int_eq a b ≡ (not (int_lt a b) && not (int_lt b a))
equal_by a b = grind (arith, ints)

-- x and y of one value: z has the value of both or of neither
same_of_same : (x y z : Fraction) → IsCut x → IsCut y → IsCut z → same_value y x ≡ true
    → same_value x z ≡ same_value y z
same_of_same x y z x_is y_is z_is h =
    let x_up = over_positive x x_is in
    let y_up = over_positive y y_is in
    let z_up = over_positive z z_is in
    let first : is_before x z ≡ is_before y z =
    alike (is_before x z) (is_before y z) (before_follows x y z x_up y_up z_up (not_before x y h))
    (before_follows y x z y_up x_up z_up (not_after x y h)) in
    let second : is_before z x ≡ is_before z y =
    alike (is_before z x) (is_before z y) (after x y x_is y_is (not_after x y h)) (after y x y_is x_is
    (not_before x y h)) in
    equal_by (x.num *ℤ z.den) (z.num *ℤ x.den) ∙ ap (λ b. not b && not (is_before z x)) first
    ∙ ap (λ b. not (is_before y z) && not b) second ∙ sym (equal_by (y.num *ℤ z.den) (z.num *ℤ y.den))
  where
    -- what comes before one comes before what isn't before that
    after : (p q : Fraction) → IsCut p → IsCut q → is_before q p ≡ false → is_before z p ≡ true → is_before z q ≡ true
    after p q p_is q_is fails holds = by (is_before z q) refl
      where
        by : (b : Bool) → is_before z q ≡ b → is_before z q ≡ true
        by true e = e
        by false e =
            let g = before_follows z q p (over_positive z z_is) (over_positive q q_is) (over_positive p p_is) e holds in
            let never = sym fails ∙ g in cc

any_of_same : (x y : Fraction) (ts : List Fraction) → IsCut x → IsCut y → All IsCut ts → same_value y x ≡ true
    → list_any (same_value x) ts ≡ list_any (same_value y) ts
any_of_same x y [] x_is y_is all h = refl
any_of_same x y (t ∷ ts) x_is y_is all h =
    ap (λ b. b || list_any (same_value x) ts) (same_of_same x y t x_is y_is (All-head IsCut t ts all) h)
    ∙ ap (λ b. same_value y t || b) (any_of_same x y ts x_is y_is (All-tail IsCut t ts all) h)

any_inserted : (p : Fraction → Bool) (x : Fraction) (ts : List Fraction)
    → list_any p (inserted_by is_before x ts) ≡ (p x || list_any p ts)
any_inserted p x [] = refl
any_inserted p x (y ∷ ts) = by (is_before y x) (any_inserted p x ts)
  where
    exchanged : (a b c : Bool) → (a || (b || c)) ≡ (b || (a || c))
    exchanged true true c = refl
    exchanged true false c = refl
    exchanged false b c = refl

    by : (b : Bool) → list_any p (inserted_by is_before x ts) ≡ (p x || list_any p ts)
        → list_any p (cond b (y ∷ inserted_by is_before x ts) (x ∷ y ∷ ts)) ≡ (p x || (p y || list_any p ts))
    by true later = ap (λ b. p y || b) later ∙ exchanged (p y) (p x) (list_any p ts)
    by false later = refl

-- all cuts of a list put in one after the other
abbrev pub with_cuts : List Fraction → List Fraction → List Fraction
with_cuts now [] = now
with_cuts now (t ∷ ts) = with_cuts (with_cut t now) ts

-- the cuts so far have the values that were seen
abbrev HaveValuesOf : List Fraction → List Fraction → Type 0
HaveValuesOf seen now = (y : Fraction) → IsCut y → list_any (same_value y) seen ≡ list_any (same_value y) now

with_cuts_are : (ts seen now : List Fraction) → All IsCut ts → All IsCut now → HaveValuesOf seen now
    → with_cuts now ts ≡ put_all now (distinct_after same_value seen ts)
with_cuts_are [] seen now all now_all values = refl
with_cuts_are (x ∷ ts) seen now all now_all values =
    by (list_any (same_value x) now) refl (with_cuts_are ts (x ∷ seen) now (All-tail IsCut x ts all) now_all)
    (with_cuts_are ts (x ∷ seen) (inserted_by is_before x now) (All-tail IsCut x ts all)
    (inserted_hold IsCut x now (All-head IsCut x ts all) now_all))
  where
    x_is : IsCut x
    x_is = All-head IsCut x ts all

    repeated : list_any (same_value x) now ≡ true → HaveValuesOf (x ∷ seen) now
    repeated e y y_is = again (same_value y x) refl
      where
        again : (b : Bool) → same_value y x ≡ b → (b || list_any (same_value y) seen) ≡ list_any (same_value y) now
        again true f = sym e ∙ any_of_same x y now x_is y_is now_all f
        again false f = values y y_is

    added : HaveValuesOf (x ∷ seen) (inserted_by is_before x now)
    added y y_is = ap (λ b. same_value y x || b) (values y y_is) ∙ sym (any_inserted (same_value y) x now)

    by : (b : Bool) → list_any (same_value x) now ≡ b
        → (HaveValuesOf (x ∷ seen) now → with_cuts now ts ≡ put_all now (distinct_after same_value (x ∷ seen) ts))
        → (HaveValuesOf (x ∷ seen) (inserted_by is_before x now)
        → with_cuts (inserted_by is_before x now) ts
        ≡ put_all (inserted_by is_before x now) (distinct_after same_value (x ∷ seen) ts))
        → with_cuts (cond b now (inserted_by is_before x now)) ts
        ≡ put_all now (cond (list_any (same_value x) seen) (distinct_after same_value (x ∷ seen) ts)
        (x ∷ distinct_after same_value (x ∷ seen) ts))
    by true e without with = rw (values x x_is ∙ e) (without (repeated e))
    by false e without with = rw (values x x_is ∙ e) (with added)

-- ---- all cuts

-- the cuts so far are in order, and with those that are still to be found they are all
pub record Cutting (now rest all : List Fraction) : Type 0 where
  pub rising : IsRising is_before now
  pub cuts : All IsCut now
  pub left : with_cuts now rest ≡ with_cuts [] all

pub cutting_begins : (all : List Fraction) → Cutting [] all all
cutting_begins all = record { rising = tt; cuts = All-nil IsCut; left = refl }

pub cutting_more : (now rest all new : List Fraction) (t : Fraction) → IsCut t → Cutting now (t ∷ rest) all
    → new ≡ with_cut t now
    → Cutting new rest all
cutting_more now rest all new t t_is h is = record {
  rising = subst (IsRising is_before) (sym is) (with_cut_rising t now t_is h.cuts h.rising);
  cuts = subst (All IsCut) (sym is) (with_cut_hold t now t_is h.cuts);
  left = ap (λ ts. with_cuts ts rest) is ∙ h.left;
}

pub cutting_ends : (now all : List Fraction) → All IsCut all → Cutting now [] all
    → now ≡ in_order is_before (distinct_by same_value all)
cutting_ends now all are h =
    h.left ∙ with_cuts_are all [] [] are (All-nil IsCut) (λ y y_is. refl) ∙ ordered [] all are
