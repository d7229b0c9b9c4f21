-- Lists: pairs after an element came or went, and an element that passes a test.
use Rattle.std.proofs.Common.{◌≡◌, ℕ, ◌+◌, ◌-◌, ◌<◌, ◌≤◌, arith, sym, subst, List, [], ◌∷◌, length, get_or, ◌≢◌, zero}
use Rattle.std.proofs.Common.{suc, ap}
use Rattle.std.proofs.lemmas.List.Edits.{get_or-insert_at, get_or-insert_below, get_or-insert_above, length-insert}
use Rattle.std.proofs.lemmas.List.Edits.{get_or-remove_below, get_or-remove_above, length-remove}
use Rattle.std.specs.List.{list_any}
use Rattle.std.specs.Prelude.{◌||◌, AllPairs, insert, remove, Bool, true}
use Rattle.int_laws.proofs.Tests.{agree}
use Rattle.front_laws.proofs.Tests.{by_lt, either_second, by_cases, other_of_either}

pub AllPairs-insert : {X : Type 0} (R : X → X → Type 0) (xs : List X) (i : ℕ) (y : X) → AllPairs R xs → i ≤ length xs
    → ((k : ℕ) (d : X) → k < i → R (get_or xs k d) y)
    → ((k : ℕ) (d : X) → i ≤ k → k < length xs → R y (get_or xs k d))
    → AllPairs R (insert xs i y)
AllPairs-insert {X} R xs i y pairs inside before after a b d lt within =
    by_lt b i
    (λ b_low. subst (λ t. R t (get_or (insert xs i y) b d))
    (sym (get_or-insert_below xs i y d a (omega arith) inside))
    (subst (λ t. R (get_or xs a d) t) (sym (get_or-insert_below xs i y d b b_low inside))
    (pairs a b d lt (omega arith))))
    (λ b_high. by_lt i b
    (λ i_low. let n = b - 1 in let e : n + 1 ≡ b = omega arith in
    let b_is : get_or (insert xs i y) b d
    ≡ get_or xs n d = subst (λ t. get_or (insert xs i y) t d ≡ get_or xs n d) e
    (get_or-insert_above xs i y d n (omega arith) inside) in
    let n_in : n < length xs = within_is (length-insert xs i y inside) within e in
    subst (λ t. R (get_or (insert xs i y) a d) t) (sym b_is) (rest n n_in (omega arith) (omega arith)))
    (λ i_high. let e : b ≡ i = omega arith in
    subst (λ t. R (get_or (insert xs i y) a d) (get_or (insert xs i y) t d)) (sym e)
    (subst (λ t. R (get_or (insert xs i y) a d) t) (sym (get_or-insert_at xs i y d inside))
    (subst (λ t. R t y) (sym (get_or-insert_below xs i y d a (omega arith) inside))
    (before a d (omega arith))))))
  where
    within_is : {m n k l : ℕ} → m ≡ k + 1 → l < m → n + 1 ≡ l → n < k
    within_is {m} {n} {k} {l} e f g = omega arith

    rest : (n : ℕ) → n < length xs → i ≤ n → a < n + 1 → R (get_or (insert xs i y) a d) (get_or xs n d)
    rest n n_in low lower = by_lt a i
        (λ a_low. subst (λ t. R t (get_or xs n d)) (sym (get_or-insert_below xs i y d a a_low inside))
        (pairs a n d (omega arith) n_in))
        (λ a_high. by_lt i a
        (λ i_low. let m = a - 1 in let e : m + 1 ≡ a = omega arith in
        let a_is : get_or (insert xs i y) a d
        ≡ get_or xs m d = subst (λ t. get_or (insert xs i y) t d ≡ get_or xs m d) e
        (get_or-insert_above xs i y d m (omega arith) inside) in
        subst (λ t. R t (get_or xs n d)) (sym a_is) (pairs m n d (omega arith) n_in))
        (λ i_high. let e : a ≡ i = omega arith in
        subst (λ t. R (get_or (insert xs i y) t d) (get_or xs n d)) (sym e)
        (subst (λ t. R t (get_or xs n d)) (sym (get_or-insert_at xs i y d inside)) (after n d low n_in))))

pub AllPairs-remove : {X : Type 0} (R : X → X → Type 0) (xs : List X) (i : ℕ) → AllPairs R xs → i < length xs
    → AllPairs R (remove xs i)
AllPairs-remove {X} R xs i pairs inside a b d lt within =
    let n_in : length (remove xs i) + 1 ≡ length xs = length-remove_is xs i inside in
    by_lt b i
    (λ b_low. subst (λ t. R t (get_or (remove xs i) b d)) (sym (get_or-remove_below xs i d a (omega arith) inside))
    (subst (λ t. R (get_or xs a d) t) (sym (get_or-remove_below xs i d b b_low inside))
    (pairs a b d lt (omega arith))))
    (λ b_high. subst (λ t. R (get_or (remove xs i) a d) t) (sym (get_or-remove_above xs i d b b_high inside))
    (by_lt a i
    (λ a_low. subst (λ t. R t (get_or xs (b + 1) d)) (sym (get_or-remove_below xs i d a a_low inside))
    (pairs a (b + 1) d (omega arith) (omega arith)))
    (λ a_high. subst (λ t. R t (get_or xs (b + 1) d)) (sym (get_or-remove_above xs i d a a_high inside))
    (pairs (a + 1) (b + 1) d (omega arith) (omega arith)))))
  where
    length-remove_is : (xs : List X) (i : ℕ) → i < length xs → length (remove xs i) + 1 ≡ length xs
    length-remove_is xs i h = omega (arith, length-remove xs i h)

pub record HasPassing {X : Type 0} (test : X → Bool) (xs : List X) (d : X) : Type 0 where
  pub place : ℕ
  pub within : place < length xs
  pub holds : test (get_or xs place d) ≡ true

pub any_at : {X : Type 0} (test : X → Bool) (xs : List X) (d : X) → HasPassing test xs d → list_any test xs ≡ true
any_at {X} test xs d s = at xs s.place s.within s.holds
  where
    at : (ys : List X) (k : ℕ) → k < length ys → test (get_or ys k d) ≡ true → list_any test ys ≡ true
    at [] k lt h = absurd (omega arith)
    at (y ∷ ys) zero lt h = ap (λ t. t || list_any test ys) h
    at (y ∷ ys) (suc k) lt h = either_second (test y) (list_any test ys) (at ys k (omega arith) h)

pub some_of : {X : Type 0} (test : X → Bool) (xs : List X) (d : X) → list_any test xs ≡ true → HasPassing test xs d
some_of test [] d h = absurd (grind arith)
some_of {X} test (x ∷ xs) d h = by_cases (test x)
    (λ k. record { place = 0; within = omega arith; holds = k })
    (λ k. let rest = some_of test xs d (other_of_either (test x) (list_any test xs) k h) in
    record { place = suc rest.place; within = within_suc rest.place rest.within; holds = rest.holds })
  where
    within_suc : (k : ℕ) → k < length xs → suc k < length (x ∷ xs)
    within_suc k h = omega arith

-- a test of a whole list, by its elements
pub any_is : {X : Type 0} (test : X → Bool) (xs : List X) (d : X) (r : Bool) → (HasPassing test xs d → r ≡ true)
    → (r ≡ true → HasPassing test xs d) → list_any test xs ≡ r
any_is test xs d r f g = agree (list_any test xs) r (λ h. f (some_of test xs d h)) (λ h. any_at test xs d (g h))

pub by_same : {P : Type 0} (j k : ℕ) → (j ≡ k → P) → (j ≢ k → P) → P
by_same j k f g = by_lt j k (λ lt. g (λ e. omega (arith, lt, e)))
    (λ le. by_lt k j (λ lt. g (λ e. omega (arith, lt, e))) (λ ge. f (omega (arith, le, ge))))
