-- Tests of numbers and what follows from tests that are composed, in words that the laws of the sweep share.
use Rattle.std.proofs.Common.{◌≡◌, ℕ, ◌<◌, ◌≤◌, ℤ, neg_ℤ, ◌-ℤ◌, ◌<ℤ◌, ◌≤ℤ◌, [], ◌∷◌, pos, arith, sym, subst, refl, ap}
use Rattle.std.proofs.Common.{zero, suc, List, length, get_or, ◌==◌}
use Rattle.std.proofs.lemmas.Int.{ints, by_lt_z}
use Rattle.std.specs.Ordering.{int_eq}
use Rattle.std.specs.Prelude.{◌&&◌, ◌||◌, ◌==◌, true, int_lt, nat_lt, false, Bool, not, Some, None, map, Option}
use Rattle.front_laws.specs.Seen.{Seen}

-- ---- tests of integers

pub tested_zero : (z : ℤ) → int_eq z (pos 0) ≡ true → z ≡ pos 0
tested_zero z h = grind (arith, ints)

pub zero_tested : (z : ℤ) → z ≡ pos 0 → int_eq z (pos 0) ≡ true
zero_tested z h = grind (arith, ints)

pub negative_tested : (z : ℤ) → z <ℤ pos 0 → int_lt z (pos 0) ≡ true
negative_tested z h = grind (arith, ints)

pub tested_negative : (z : ℤ) → int_lt z (pos 0) ≡ true → z <ℤ pos 0
tested_negative z h = omega (arith, ints, h)

pub same_tested : (z : ℤ) → int_eq z z ≡ true
same_tested z = grind (arith, ints)

-- ---- integers

pub one_at_least : (z : ℤ) → pos 0 <ℤ z → pos 1 ≤ℤ z
one_at_least z h = omega (arith, ints, h)

pub not_below : (z : ℤ) → pos 0 <ℤ z → pos 0 ≤ℤ z
not_below z h = omega (arith, ints, h)

pub not_above : (z : ℤ) → z <ℤ pos 0 → z ≤ℤ pos 0
not_above z h = omega (arith, ints, h)

pub at_most_of_less : (x y : ℤ) → x <ℤ y → x ≤ℤ y
at_most_of_less x y h = omega (arith, ints, h)

pub at_most_itself : (z : ℤ) → z ≤ℤ z
at_most_itself z = omega (arith, ints)

pub zero_between : (z : ℤ) → pos 0 ≤ℤ z → z ≤ℤ pos 0 → z ≡ pos 0
zero_between z h k = omega (arith, ints, h, k)

pub no_difference : (x y : ℤ) → x ≡ y → x -ℤ y ≡ pos 0
no_difference x y h = omega (arith, ints, h)

pub positive_as : (y z : ℤ) → y ≡ z → pos 0 <ℤ z → pos 0 <ℤ y
positive_as y z e h = subst (λ t. pos 0 <ℤ t) (sym e) h

pub turned_up : (x y : ℤ) → y ≡ neg_ℤ x → x <ℤ pos 0 → pos 0 ≤ℤ y
turned_up x y e h = omega (arith, ints, e, h)

-- ---- tests of naturals

pub number_less_tested : (m n : ℕ) → m < n → nat_lt m n ≡ true
number_less_tested m n h = grind arith

pub number_not_less : (m n : ℕ) → n ≤ m → nat_lt m n ≡ false
number_not_less m n h = grind arith

pub tested_number_less : (m n : ℕ) → nat_lt m n ≡ true → m < n
tested_number_less m n h = grind arith

pub tested_number_not_less : (m n : ℕ) → nat_lt m n ≡ false → n ≤ m
tested_number_not_less m n h = grind arith

pub tested_same_number : (m n : ℕ) → (m == n) ≡ true → m ≡ n
tested_same_number m n h = grind arith

pub own_number : (n : ℕ) → (n == n) ≡ true
own_number n = grind arith

pub own_number_or : (n : ℕ) (b : Bool) → ((n == n) || b) ≡ true
own_number_or n b = grind arith

pub never_equal : (m n : ℕ) → m < n → m ≡ n → ⊥
never_equal m n h e = omega (arith, h, e)

pub number_between : (m n : ℕ) → m ≤ n → n ≤ m → m ≡ n
number_between m n h k = omega (arith, h, k)

pub by_lt : {P : Type 0} (m n : ℕ) → (m < n → P) → (n ≤ m → P) → P
by_lt m n f g = by_lt_z (pos m) (pos n) (λ h. f (omega (arith, ints, h))) (λ h. g (omega (arith, ints, h)))

-- ---- composed tests

pub by_cases : {P : Type 0} (b : Bool) → (b ≡ true → P) → (b ≡ false → P) → P
by_cases true t f = t refl
by_cases false t f = f refl

pub both_of : (a b : Bool) → (a && b) ≡ true → (a ≡ true) × (b ≡ true)
both_of true b h = (refl, h)
both_of false b h = grind arith

pub both_true : (a b : Bool) → a ≡ true → b ≡ true → (a && b) ≡ true
both_true a b h k = grind arith

pub all_three : (a b c : Bool) → a ≡ true → b ≡ true → c ≡ true → (a && (b && c)) ≡ true
all_three a b c h k j = grind arith

pub other_of_both : (a b : Bool) → a ≡ true → (a && b) ≡ false → b ≡ false
other_of_both a b h k = grind arith

pub either_first : (a b : Bool) → a ≡ true → (a || b) ≡ true
either_first a b h = grind arith

pub either_second : (a b : Bool) → b ≡ true → (a || b) ≡ true
either_second a b h = grind arith

pub other_of_either : (a b : Bool) → a ≡ false → (a || b) ≡ true → b ≡ true
other_of_either a b h k = grind arith

pub neither : (a b : Bool) → a ≡ false → b ≡ false → (a || b) ≡ false
neither a b h k = grind arith

pub neither_first : (a b : Bool) → (a || b) ≡ false → a ≡ false
neither_first a b h = grind arith

pub neither_second : (a b : Bool) → (a || b) ≡ false → b ≡ false
neither_second a b h = grind arith

pub neither_of : (a b : Bool) → (a || b) ≡ false → (a ≡ false) × (b ≡ false)
neither_of false b h = (refl, h)
neither_of true b h = absurd (grind arith)

pub tested_not : (a : Bool) → not a ≡ true → a ≡ false
tested_not a h = grind arith

pub guarded : (m a b : Bool) → (m ≡ true → a ≡ b) → (m && a) ≡ (m && b)
guarded true a b f = f refl
guarded false a b f = refl

-- ---- what can't be

pub never : false ≡ true → ⊥
never h = grind arith

pub clash : (b : Bool) → b ≡ true → b ≡ false → ⊥
clash b h k = grind arith

pub clash_back : (b : Bool) → b ≡ false → b ≡ true → ⊥
clash_back b h k = grind arith

pub clash_to : {P : Type 0} (b : Bool) → b ≡ true → b ≡ false → P
clash_to b h k = absurd (clash b h k)

-- ---- lists and options

pub some_same : {X : Type 0} (x y : X) → Some x ≡ Some y → x ≡ y
some_same x y h = ap (λ o. elim o [ Some z ↦ z | None ↦ x ]) h

pub mapped_at : {X Y : Type 0} (f : X → Y) (xs : List X) (k : ℕ) (d : X) (e : Y) → k < length xs
    → get_or (map f xs) k e ≡ f (get_or xs k d)
mapped_at f [] k d e lt = absurd (omega arith)
mapped_at f (x ∷ xs) zero d e lt = refl
mapped_at f (x ∷ xs) (suc k) d e lt = mapped_at f xs k d e (omega arith)

pub none_some : {P : Type 0} (s : Seen) → None ≡ Some s → P
none_some s e = absurd (false_true (ap has_some e))
  where
    has_some : Option Seen → Bool
    has_some None = false
    has_some (Some s) = true

    false_true : has_some None ≡ has_some (Some s) → ⊥
    false_true h = never h
