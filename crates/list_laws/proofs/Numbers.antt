-- What is known of the numbered elements of a list, and of their pairs.
--
-- What holds of all elements holds of them whatever their numbers, and of both of each pair. Where a part ys of xs,
-- ys, zs
-- is gone, the numbers that don't stay are those of ys, so what holds of all of ys holds of their elements. Pairs
-- stand in
-- the order of their numbers: in a row the second number grows, and each row begins with a larger number than the
-- last.
use Rattle.std.proofs.Common.{◌≡◌, Bool, true, false, ◌&&◌, ◌||◌, ℕ, ◌+◌, ◌<◌, ◌≤◌, nat_lt, ◌==◌, List, [], ◌∷◌, ◌++◌}
use Rattle.std.proofs.Common.{map}
use Rattle.std.proofs.Common.{length, sym, ap, subst, arith, ◌∙◌}
use Rattle.std.specs.List.{All, enumerate_from}
use Rattle.std.proofs.lemmas.List.Elements.{All-nil, All-cons, All-head, All-tail, All-append, All-map, All-weaker}
use Rattle.plane_spec.specs.Lists.{pairs, with_each}
use Rattle.list_laws.specs.Gaps.{stays}
use Rattle.list_laws.specs.Orders.{IsBefore, IsRising}
use Rattle.list_laws.proofs.Gaps.{stays_at, enumerate_append}
use Rattle.list_laws.proofs.Merged.{rising_append}

-- ---- numbers and pairs

-- it holds of both
pub record OfBoth {X : Type 0} (P : X → Type 0) (e : X × X) : Type 0 where
  pub first : P e.0
  pub second : P e.1

-- what holds of all elements holds of both of each pair
pub each_pair : {X : Type 0} (P : X → Type 0) (xs : List X) → All P xs → All (OfBoth P) (pairs xs)
each_pair P [] all = All-nil (OfBoth P)
each_pair {X = X} P (x ∷ xs) all =
    All-append (OfBoth P) (map (with_each x) xs) (pairs xs) (row xs (All-head P x xs all) (All-tail P x xs all))
    (each_pair P xs (All-tail P x xs all))
  where
    row : (ys : List X) → P x → All P ys → All (OfBoth P) (map (with_each x) ys)
    row ys h all =
        All-map (OfBoth P) (with_each x) ys
        (All-weaker P (λ y. OfBoth P (with_each x y)) (λ y k. record { first = h; second = k }) ys all)

-- what holds of all elements holds of them whatever their numbers
pub numbered_hold : {X : Type 0} (P : X → Type 0) (k : ℕ) (xs : List X) → All P xs
    → All (λ n. P n.1) (enumerate_from k xs)
numbered_hold P k [] all = All-nil (λ n. P n.1)
numbered_hold P k (x ∷ xs) all =
    All-cons (λ n. P n.1) (k, x) (enumerate_from (k + 1) xs) (All-head P x xs all)
    (numbered_hold P (k + 1) xs (All-tail P x xs all))

-- ---- numbers of what is gone

-- it holds of the element if its number doesn't stay
abbrev HoldsIfGone : {X : Type 0} → ℕ → ℕ → (X → Type 0) → ℕ × X → Type 0
HoldsIfGone start count P n = stays_at start count n ≡ false → P n.1

-- a test doesn't both pass and fail
clash : (t : Bool) → t ≡ true → t ≡ false → ⊥
clash true h k = cc
clash false h k = cc

-- in front of the part all stay
stay_in_front : {X : Type 0} (P : X → Type 0) (start count k : ℕ) (xs : List X) → k + length xs ≤ start
    → All (HoldsIfGone start count P) (enumerate_from k xs)
stay_in_front P start count k [] h = All-nil (HoldsIfGone start count P)
stay_in_front P start count k (x ∷ xs) h =
    All-cons (HoldsIfGone start count P) (k, x) (enumerate_from (k + 1) xs)
    (λ e. never (P x) k start count e (omega arith)) (stay_in_front P start count (k + 1) xs (omega arith))
  where
    never : (Q : Type 0) (k start count : ℕ) → stays start count k ≡ false → k < start → Q
    never Q k start count e h = absurd (clash (nat_lt k start) (grind arith) (grind arith))

-- behind it too
stay_behind : {X : Type 0} (P : X → Type 0) (start count k : ℕ) (xs : List X) → start + count ≤ k
    → All (HoldsIfGone start count P) (enumerate_from k xs)
stay_behind P start count k [] h = All-nil (HoldsIfGone start count P)
stay_behind P start count k (x ∷ xs) h =
    All-cons (HoldsIfGone start count P) (k, x) (enumerate_from (k + 1) xs) (λ e. never (P x) k start count e h)
    (stay_behind P start count (k + 1) xs (omega arith))
  where
    never : (Q : Type 0) (k start count : ℕ) → stays start count k ≡ false → start + count ≤ k → Q
    never Q k start count e h = absurd (clash (nat_lt k (start + count)) (grind arith) (grind arith))

-- what holds of the part holds of each element whose number doesn't stay
pub gone_known : {X : Type 0} (P : X → Type 0) (front gone back : List X) → All P gone
    → All (HoldsIfGone (length front) (length gone) P) (enumerate_from 0 (front ++ (gone ++ back)))
gone_known P front gone back all =
    let start = length front in
    let count = length gone in
    let a = enumerate_from 0 front in
    let b = enumerate_from (0 + start) gone in
    let c = enumerate_from (0 + start + count) back in
    let parts : enumerate_from 0 (front ++ (gone ++ back)) ≡ a ++ (b ++ c) =
    enumerate_append 0 front (gone ++ back) ∙ ap (λ r. a ++ r) (enumerate_append (0 + start) gone back) in
    subst (All (HoldsIfGone start count P)) (sym parts)
    (All-append (HoldsIfGone start count P) a (b ++ c) (stay_in_front P start count 0 front (omega arith))
    (All-append (HoldsIfGone start count P) b c
    (All-weaker (λ n. P n.1) (HoldsIfGone start count P) (λ n h e. h) b (numbered_hold P (0 + start) gone all))
    (stay_behind P start count (0 + start + count) back (omega arith))))

-- ---- pairs in order

-- by the first number, and then by the second
abbrev pub pair_before : {X : Type 0} → (ℕ × X) × (ℕ × X) → (ℕ × X) × (ℕ × X) → Bool
pair_before e f = nat_lt e.0.0 f.0.0 || ((e.0.0 == f.0.0) && nat_lt e.1.0 f.1.0)

-- elements numbered from n on have numbers of at least k
numbered_from : {X : Type 0} (k n : ℕ) (xs : List X) → k ≤ n → All (λ m. k ≤ m.0) (enumerate_from n xs)
numbered_from k n [] h = All-nil (λ m. k ≤ m.0)
numbered_from k n (x ∷ xs) h =
    All-cons (λ m. k ≤ m.0) (n, x) (enumerate_from (n + 1) xs) h (numbered_from k (n + 1) xs (omega arith))

-- a row is in order
row_rising : {X : Type 0} (k n : ℕ) (x : X) (xs : List X)
    → IsRising pair_before (map (with_each (k, x)) (enumerate_from n xs))
row_rising k n x [] = tt
row_rising k n x (y ∷ ys) = (
  All-map (IsBefore pair_before ((k, x), (n, y))) (with_each (k, x)) (enumerate_from (n + 1) ys)
      (All-weaker (λ m. n + 1 ≤ m.0) (λ m. IsBefore pair_before ((k, x), (n, y)) ((k, x), m))
      (λ m h. record { forth = later k n m.0 h; not_back = not_later k n m.0 h }) (enumerate_from (n + 1) ys)
      (numbered_from (n + 1) (n + 1) ys (omega arith))),
  row_rising k (n + 1) x ys,
)
  where
    later : (k n m : ℕ) → n + 1 ≤ m → (nat_lt k k || ((k == k) && nat_lt n m)) ≡ true
    later k n m h = grind arith

    not_later : (k n m : ℕ) → n + 1 ≤ m → (nat_lt k k || ((k == k) && nat_lt m n)) ≡ false
    not_later k n m h = grind arith

-- each pair comes before those of rows of larger numbers
rows_after : {X : Type 0} (k : ℕ) (e : (ℕ × X) × (ℕ × X)) → e.0.0 < k → (xs : List X) (n : ℕ) → k ≤ n
    → All (IsBefore pair_before e) (pairs (enumerate_from n xs))
rows_after k e h xs n l =
    All-weaker (OfBoth (λ m. n ≤ m.0)) (IsBefore pair_before e)
    (λ g i. let less = smaller e.0.0 k n g.0.0 h l i.first in
    record { forth = later e.0.0 g.0.0 e.1.0 g.1.0 less; not_back = not_later e.0.0 g.0.0 e.1.0 g.1.0 less })
    (pairs (enumerate_from n xs)) (each_pair (λ m. n ≤ m.0) (enumerate_from n xs)
    (numbered_from n n xs (omega arith)))
  where
    smaller : (a k n b : ℕ) → a < k → k ≤ n → n ≤ b → a < b
    smaller a k n b h l i = omega arith

    later : (a b c d : ℕ) → a < b → (nat_lt a b || ((a == b) && nat_lt c d)) ≡ true
    later a b c d h = grind arith

    not_later : (a b c d : ℕ) → a < b → (nat_lt b a || ((b == a) && nat_lt d c)) ≡ false
    not_later a b c d h = grind arith

-- the pairs of numbered elements are in order
pub pairs_rising : {X : Type 0} (k : ℕ) (xs : List X) → IsRising pair_before (pairs (enumerate_from k xs))
pairs_rising k [] = tt
pairs_rising {X = X} k (x ∷ xs) =
    let rest = enumerate_from (k + 1) xs in
    rising_append pair_before (map (with_each (k, x)) rest) (pairs rest) (row_rising k (k + 1) x xs)
    (pairs_rising (k + 1) xs)
    (All-map (λ e. All (IsBefore pair_before e) (pairs rest)) (with_each (k, x)) rest (each rest))
  where
    each : (ms : List (ℕ × X))
        → All (λ m. All (IsBefore pair_before ((k, x), m)) (pairs (enumerate_from (k + 1) xs))) ms
    each [] = All-nil (λ m. All (IsBefore pair_before ((k, x), m)) (pairs (enumerate_from (k + 1) xs)))
    each (m ∷ ms) =
        All-cons (λ m. All (IsBefore pair_before ((k, x), m)) (pairs (enumerate_from (k + 1) xs))) m ms
        (rows_after (k + 1) ((k, x), m) (omega arith) xs (k + 1) (omega arith)) (each ms)
