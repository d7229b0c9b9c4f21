-- What the calls of a fill ask of the rule and of a seat.
use Rattle.std.proofs.Common.{◌≡◌, ℕ, zero, suc, ◌+◌, ◌-◌, ◌<◌, ◌≤◌, nat_lt, ◌%◌, ◌^◌, ◌&&◌, ◌||◌, ◌==◌, Bool, true, false, true≢false, refl, sym, ap, ◌∙◌, subst, arith, slice_index, slice_set, bit_and, bit_or, Option, Some, None, w64, IfSome, ◌⊎◌, inl, inr}
use Rattle.std.specs.Int.{bit_at}
use Rattle.std.proofs.lemmas.Nat.Bits.{bit_at-pow_same, bit_at-pow_other, bit_at_not}
use Rattle.std.proofs.Math.Pow.{pow-lt}
use mathlib.Core.Option.{some}
use Rattle.std.proofs.lemmas.Bool.{cases_eq, ne_eqb, lt-ltb, le-ltb}
use mathlib.Core.Logic.{dite}
use native.Mathlib.Decide.{ℕ_discrete}
use lib.ListN.{get_elem?}
use Rattle.atomic_table.specs.Table.{State}
use Rattle.vga_fill.specs.declared.events.View.{View}
use Rattle.vga_fill.specs.declared.events.Task.{Task}
use Rattle.vga_fill.specs.Places.{word_of, digit, bit_of}
use Rattle.vga_fill.specs.Views.{times, wrote, has, GoesOn, with_ones, with_zeros, left_of, right_of, both_of, claimed, claimed_by}
use Rattle.vga_fill.specs.Graphs.{was_joined, is_to_join, Rule}
use Rattle.vga_fill.specs.DoneRows.{IsDone, AreDone, WroteBoth, KeepsRows}
use Rattle.vga_fill.proofs.Keeping.{set_keeps, clear_keeps}
use Rattle.vga_fill.proofs.Sharing.{times_append, has_append}
use Rattle.vga_fill.proofs.WordPlaces.{bit_of_place, word_within}

-- ---- the masks of one place

one_place : (f : ℕ → ℕ → Bool) (n i j : ℕ) → i < n → j < n → f i j ≡ true → (b : ℕ) → b < 64 → bit_at (2 ^ (j % 64)) b ≡ 1 → bit_of f n (word_of n i j) b ≡ 1
one_place f n i j h k one b bn e =
    dite (ℕ_discrete b (j % 64))
    (λ q. subst (λ (z : ℕ). bit_of f n (word_of n i j) z ≡ 1) (sym q) (bit_of_place f n i j h k ∙ ap digit one))
    (λ ne. absurd (zero_one _ (bit_at-pow_other (j % 64) b ne) e))
  where
    zero_one : (x : ℕ) → x ≡ 0 → x ≡ 1 → ⊥
    zero_one x a b = omega arith

no_place : (f : ℕ → ℕ → Bool) (n i j : ℕ) → i < n → j < n → f i j ≡ false → (b : ℕ) → b < 64 → bit_at (2 ^ 64 - 1 - 2 ^ (j % 64)) b ≡ 0 → bit_of f n (word_of n i j) b ≡ 0
no_place f n i j h k none b bn e =
    dite (ℕ_discrete b (j % 64))
    (λ q. subst (λ (z : ℕ). bit_of f n (word_of n i j) z ≡ 0) (sym q) (bit_of_place f n i j h k ∙ ap digit none))
    (λ ne. absurd (none_left _ _ (bit_at_not w64 (2 ^ (j % 64)) b (pow-lt (bit_within j)) bn) (bit_at-pow_other (j % 64) b ne) e))
  where
    bit_within : (x : ℕ) → x % 64 < 64
    bit_within x = omega arith

    none_left : (x y : ℕ) → x ≡ 1 - y → y ≡ 0 → x ≡ 0 → ⊥
    none_left x y a b c = omega arith

pub set_allows : (k : Task) (n id : ℕ) (v : View) (i j w m : ℕ) → n ≡ k.count → i < n → j < n → w ≡ word_of n i j → m ≡ 2 ^ (j % 64) → is_to_join k i j ≡ true
    → (s : State (Unit {0}) View) → get_elem? s.views id ≡ some v → Rule k s
    → Rule k (record { words = slice_set s.words w (bit_or (slice_index s.words w) m); homes = s.homes; views = slice_set s.views id (with_ones v w m) })
set_allows k n id v i j w m same h l ew em one s at holds =
    let hk : i < k.count = omega (arith, same, h) in
    let lk : j < k.count = omega (arith, same, l) in
    let ek : w ≡ word_of k.count i j = ew ∙ ap (λ z. word_of z i j) same in
    rw (em, ek) (set_keeps k.count (bit_of (was_joined k) k.count) (bit_of (is_to_join k) k.count) s id (word_of k.count i j) (2 ^ (j % 64)) v at (omega arith) (word_within k.count i j hk lk) (one_place (is_to_join k) k.count i j hk lk one) holds)

pub clear_allows : (k : Task) (n id : ℕ) (v : View) (i j w m : ℕ) → n ≡ k.count → i < n → j < n → w ≡ word_of n i j → m ≡ 2 ^ 64 - 1 - 2 ^ (j % 64) → is_to_join k i j ≡ false
    → (s : State (Unit {0}) View) → get_elem? s.views id ≡ some v → Rule k s
    → Rule k (record { words = slice_set s.words w (bit_and (slice_index s.words w) m); homes = s.homes; views = slice_set s.views id (with_zeros v w m) })
clear_allows k n id v i j w m same h l ew em none s at holds =
    let hk : i < k.count = omega (arith, same, h) in
    let lk : j < k.count = omega (arith, same, l) in
    let ek : w ≡ word_of k.count i j = ew ∙ ap (λ z. word_of z i j) same in
    rw (em, ek) (clear_keeps k.count (bit_of (was_joined k) k.count) (bit_of (is_to_join k) k.count) s id (word_of k.count i j) (2 ^ 64 - 1 - 2 ^ (j % 64)) v at (omega arith) (word_within k.count i j hk lk) (no_place (is_to_join k) k.count i j hk lk none) holds)

-- ---- the rows that are done

done_more : (old new : ℕ → ℕ → Bool) (n : ℕ) (v v' : View) (held : Option ℕ) → v'.rows ≡ v.rows → ((u b : ℕ) → wrote v u b ≡ true → wrote v' u b ≡ true) → AreDone old new n v held → AreDone old new n v' held
done_more old new n v v' held rows more done row has_row free j h k differ =
    let d = done row (subst (λ z. 0 < times row z) rows has_row) free j h k differ in
    (more (word_of n row j) (j % 64) d.0, more (word_of n j row) (row % 64) d.1)

more_head : (a c d : Bool) → (c || d) ≡ true → ((a || c) || d) ≡ true
more_head true c d e = refl
more_head false c d e = e

more_middle : (p a q : Bool) → (p || q) ≡ true → (p || (a || q)) ≡ true
more_middle true a q e = refl
more_middle false true q e = refl
more_middle false false q e = e

pub ones_more : (v : View) (w m u b : ℕ) → wrote v u b ≡ true → wrote (with_ones v w m) u b ≡ true
ones_more v w m u b e = more_head ((w == u) && (bit_at m b == 1)) (has 1 u b v.ones) (has 0 u b v.zeros) e

pub zeros_more : (v : View) (w m u b : ℕ) → wrote v u b ≡ true → wrote (with_zeros v w m) u b ≡ true
zeros_more v w m u b e = more_middle (has 1 u b v.ones) ((w == u) && (bit_at m b == 0)) (has 0 u b v.zeros) e

pub done_ones : (old new : ℕ → ℕ → Bool) (n : ℕ) (v : View) (w m : ℕ) (held : Option ℕ) → AreDone old new n v held → AreDone old new n (with_ones v w m) held
done_ones old new n v w m held done = done_more old new n v (with_ones v w m) held refl (ones_more v w m) done

pub done_zeros : (old new : ℕ → ℕ → Bool) (n : ℕ) (v : View) (w m : ℕ) (held : Option ℕ) → AreDone old new n v held → AreDone old new n (with_zeros v w m) held
done_zeros old new n v w m held done = done_more old new n v (with_zeros v w m) held refl (zeros_more v w m) done

-- the row that was held is done too
pub done_finished : (old new : ℕ → ℕ → Bool) (n : ℕ) (v : View) (held : Option ℕ) → AreDone old new n v held → IfSome held (λ row. IsDone old new n v row) → AreDone old new n v None
done_finished old new n v None done last row has_row free = done row has_row free
done_finished old new n v (Some r) done last row has_row free = dite (ℕ_discrete r row) (λ e. subst (IsDone old new n v) e last) (λ ne. done row has_row (λ e. ne (some_same e)))
  where
    some_same : {x y : ℕ} → Some x ≡ Some y → x ≡ y
    some_same e = grind arith

pub done_left : (old new : ℕ → ℕ → Bool) (n : ℕ) (v : View) (held : Option ℕ) → AreDone old new n v held → AreDone old new n (left_of v) held
done_left old new n v held done = done_more old new n v (left_of v) held refl (λ u b e. e) done

pub done_right : (old new : ℕ → ℕ → Bool) (n : ℕ) (v : View) (held : Option ℕ) → AreDone old new n (right_of v) held
done_right old new n v held row has_row free = absurd (omega (arith, has_row))

first_or : (a b c d : Bool) → (a || c) ≡ true → ((a || b) || (c || d)) ≡ true
first_or true b c d e = refl
first_or false true c d e = refl
first_or false false true d e = refl
first_or false false false d e = absurd (true≢false (sym e))

second_or : (a b c d : Bool) → (b || d) ≡ true → ((a || b) || (c || d)) ≡ true
second_or true b c d e = refl
second_or false true c d e = refl
second_or false false true d e = refl
second_or false false false d e = e

both_first : (v w : View) (u b : ℕ) → wrote v u b ≡ true → wrote (both_of v w) u b ≡ true
both_first v w u b e = (λ k. has_append 1 u b v.ones w.ones k || has_append 0 u b v.zeros w.zeros k) ∙ first_or (has 1 u b v.ones) (has 1 u b w.ones) (has 0 u b v.zeros) (has 0 u b w.zeros) e

both_second : (v w : View) (u b : ℕ) → wrote w u b ≡ true → wrote (both_of v w) u b ≡ true
both_second v w u b e = (λ k. has_append 1 u b v.ones w.ones k || has_append 0 u b v.zeros w.zeros k) ∙ second_or (has 1 u b v.ones) (has 1 u b w.ones) (has 0 u b v.zeros) (has 0 u b w.zeros) e

pub done_both : (old new : ℕ → ℕ → Bool) (n : ℕ) (v w : View) → AreDone old new n v None → AreDone old new n w None → AreDone old new n (both_of v w) None
done_both old new n v w dv dw row has_row free j h k differ =
    elim (some_times (times row v.rows) (times row w.rows) (omega (arith, has_row, times_append row v.rows w.rows))) [
      | inl p ↦ let d = dv row p free j h k differ in (both_first v w (word_of n row j) (j % 64) d.0, both_first v w (word_of n j row) (row % 64) d.1)
      | inr p ↦ let d = dw row p free j h k differ in (both_second v w (word_of n row j) (j % 64) d.0, both_second v w (word_of n j row) (row % 64) d.1)
    ]
  where
    some_times : (a b : ℕ) → 0 < a + b → (0 < a) ⊎ (0 < b)
    some_times zero b h = inr (omega (arith, h))
    some_times (suc a) b h = inl (omega arith)

-- ---- a pair, at both places

pow_one : (x : ℕ) → bit_at (2 ^ x) x ≡ 1
pow_one x = bit_at-pow_same x

test_true : (x y : ℕ) → x ≡ y → (x == y) ≡ true
test_true x y e = grind arith

ones_here : (v : View) (w x : ℕ) → wrote (with_ones v w (2 ^ x)) w x ≡ true
ones_here v w x = rw (test_true w w refl, test_true (bit_at (2 ^ x) x) 1 (bit_at-pow_same x)) refl

zeros_here : (v : View) (w x : ℕ) → x < 64 → wrote (with_zeros v w (2 ^ 64 - 1 - 2 ^ x)) w x ≡ true
zeros_here v w x h = rw (test_true w w refl, test_true (bit_at (2 ^ 64 - 1 - 2 ^ x) x) 0 (lost _ _ (bit_at_not w64 (2 ^ x) x (pow-lt h) h) (bit_at-pow_same x))) (or_end (has 1 w x v.ones))
  where
    lost : (x y : ℕ) → x ≡ 1 - y → y ≡ 1 → x ≡ 0
    lost x y a b = omega arith

    or_end : (a : Bool) → (a || true) ≡ true
    or_end true = refl
    or_end false = refl

pub ones_go : (v : View) (w m : ℕ) → GoesOn v (with_ones v w m)
ones_go v w m = record { task = refl; count = refl; rows = refl; told = refl; tellings = refl; passes = refl; writes = ones_more v w m }

pub zeros_go : (v : View) (w m : ℕ) → GoesOn v (with_zeros v w m)
zeros_go v w m = record { task = refl; count = refl; rows = refl; told = refl; tellings = refl; passes = refl; writes = zeros_more v w m }

pub goes_on_trans : (u v w : View) → GoesOn u v → GoesOn v w → GoesOn u w
goes_on_trans u v w a b = record { task = b.task ∙ a.task; count = b.count ∙ a.count; rows = b.rows ∙ a.rows; told = b.told ∙ a.told; tellings = b.tellings ∙ a.tellings; passes = b.passes ∙ a.passes; writes = λ x y e. b.writes x y (a.writes x y e) }

pub both_ones : (n : ℕ) (u v w : View) (i j : ℕ) → v ≡ with_ones u (word_of n i j) (2 ^ (j % 64)) → w ≡ with_ones v (word_of n j i) (2 ^ (i % 64)) → GoesOn u w × WroteBoth n w i j
both_ones n u v w i j e f =
    let a : GoesOn u v = subst (GoesOn u) (sym e) (ones_go u (word_of n i j) (2 ^ (j % 64))) in
    let b : GoesOn v w = subst (GoesOn v) (sym f) (ones_go v (word_of n j i) (2 ^ (i % 64))) in (
      goes_on_trans u v w a b,
      (
        b.writes (word_of n i j) (j % 64) (subst (λ z. wrote z (word_of n i j) (j % 64) ≡ true) (sym e) (ones_here u (word_of n i j) (j % 64))),
        subst (λ z. wrote z (word_of n j i) (i % 64) ≡ true) (sym f) (ones_here v (word_of n j i) (i % 64)),
      ),
    )

pub both_zeros : (n : ℕ) (u v w : View) (i j : ℕ) → v ≡ with_zeros u (word_of n i j) (2 ^ 64 - 1 - 2 ^ (j % 64)) → w ≡ with_zeros v (word_of n j i) (2 ^ 64 - 1 - 2 ^ (i % 64)) → GoesOn u w × WroteBoth n w i j
both_zeros n u v w i j e f =
    let a : GoesOn u v = subst (GoesOn u) (sym e) (zeros_go u (word_of n i j) (2 ^ 64 - 1 - 2 ^ (j % 64))) in
    let b : GoesOn v w = subst (GoesOn v) (sym f) (zeros_go v (word_of n j i) (2 ^ 64 - 1 - 2 ^ (i % 64))) in (
      goes_on_trans u v w a b,
      (
        b.writes (word_of n i j) (j % 64) (subst (λ z. wrote z (word_of n i j) (j % 64) ≡ true) (sym e) (zeros_here u (word_of n i j) (j % 64) (omega arith))),
        subst (λ z. wrote z (word_of n j i) (i % 64) ≡ true) (sym f) (zeros_here v (word_of n j i) (i % 64) (omega arith)),
      ),
    )

-- ---- what a seat's type keeps

none_some : {x : ℕ} → None ≡ Some x → ⊥
none_some e = grind arith

-- more places are written
pub keeps_more : (v w : View) (held : Option ℕ) → GoesOn v w → KeepsRows v held → KeepsRows w held
keeps_more v w held on keeps k e =
    let d = keeps k (sym on.task ∙ e) in
    (on.count ∙ d.0, done_more (was_joined k) (is_to_join k) k.count v w held on.rows on.writes d.1)

-- a row is claimed, and held
pub keeps_claimed : (v : View) (c : ℕ) (held : Option ℕ) → held ≡ None → KeepsRows v held → KeepsRows (claimed_by true v c) (Some c)
keeps_claimed v c held free keeps k e =
    let d = keeps k e in (
      d.0,
      λ row has_row other. elim (cases_eq c row) [
        | inl same ↦ absurd (other (ap Some same))
        | inr apart ↦
            let before = rw (ne_eqb c row apart) at has_row in
            d.1 row (omega (arith, before)) (λ held_too. none_some (sym free ∙ held_too))
      ],
    )

-- none is left
pub keeps_told : (v : View) (c : ℕ) (held : Option ℕ) → KeepsRows v held → KeepsRows (claimed_by false v c) held
keeps_told v c held keeps k e = keeps k e

-- the row that was held is done
pub keeps_finished : (k : Task) (n : ℕ) (v : View) (held : Option ℕ) → n ≡ k.count → v.task ≡ Some k
    → IfSome held (λ r. IsDone (was_joined k) (is_to_join k) n v r) → KeepsRows v held → KeepsRows v None
keeps_finished k n v held count task done keeps other e =
    let d = keeps other e in
    let same : k ≡ other = some_same (sym task ∙ e) in
    let here : IfSome held (λ r. IsDone (was_joined other) (is_to_join other) other.count v r)
    = subst (λ t. IfSome held (λ r. IsDone (was_joined t) (is_to_join t) t.count v r)) same
    (subst (λ m. IfSome held (λ r. IsDone (was_joined k) (is_to_join k) m v r)) count done) in
    (d.0, done_finished (was_joined other) (is_to_join other) other.count v held d.1 here)
  where
    some_same : {x y : Task} → Some x ≡ Some y → x ≡ y
    some_same e = grind arith

-- what a claim below the count tells
pub claimed_at : (v : View) (found n : ℕ) → v.count ≡ n → found < n → claimed v found ≡ claimed_by true v found
claimed_at v found n count below = ap (λ t. claimed_by t v found) (ap (nat_lt found) count ∙ lt-ltb found n below)

pub claimed_past : (v : View) (found n : ℕ) → v.count ≡ n → n ≤ found → claimed v found ≡ claimed_by false v found
claimed_past v found n count past = ap (λ t. claimed_by t v found) (ap (nat_lt found) count ∙ le-ltb found n past)
