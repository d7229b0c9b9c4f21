-- The nodes of the bits of words and rows.
use Rattle.std.specs.Prelude.{not}
use Rattle.std.proofs.Common.{◌≡◌, ◌≢◌, ℕ, zero, suc, ◌+◌, ◌-◌, ◌*◌, ◌/◌, ◌%◌, ◌<◌, ◌≤◌, Bool, true, false, ◌&&◌, cond, eqb, List, [], ◌∷◌, ◌++◌, get_or, refl, sym, ap, ◌∙◌, arith}
use Rattle.std.specs.List.{filter, range_with_len}
use Rattle.std.proofs.lemmas.Bool.{eq-eqb, ne_eqb}
use Rattle.std.proofs.lemmas.List.{append_assoc, append-nil}
use Rattle.std.proofs.lemmas.Nat.Bits.{bit_at-zero}
use Rattle.vga_grid.specs.Rows.{bit_of}
use Rattle.vga_grid.specs.Sets.{is_set}
use Rattle.vga_grid.proofs.EdgeLists.{filter_none}
use Rattle.walk_core.specs.Lists.{nodes_of_word}

-- ---- filters of numbers in a row
pub filter_same : (p q : ℕ → Bool) (a n : ℕ) → ((x : ℕ) → a ≤ x → x < a + n → p x ≡ q x) → filter p (range_with_len a n) ≡ filter q (range_with_len a n)
filter_same p q a zero h = refl
filter_same p q a (suc n) h =
    let r = filter_same p q (a + 1) n (λ x lo hi. h x (omega arith) (omega arith)) in
    rw (h a (omega arith) (omega arith), r) refl

pub filter_split : (p : ℕ → Bool) (a m n : ℕ) → filter p (range_with_len a (m + n)) ≡ filter p (range_with_len a m) ++ filter p (range_with_len (a + m) n)
filter_split p a zero n =
    let x : zero + n ≡ n = omega arith in
    let y : a + zero ≡ a = omega arith in
    rw (x, y) refl
filter_split p a (suc m) n =
    let x : suc m + n ≡ suc (m + n) = omega arith in
    let y : a + 1 + m ≡ a + suc m = omega arith in
    let r = filter_split p (a + 1) m n in
    rw x (both (p a) (filter p (range_with_len (a + 1) (m + n))) (filter p (range_with_len (a + 1) m)) (filter p (range_with_len (a + suc m) n)) (rw y at r))
  where
    both : (b : Bool) (xs ys zs : List ℕ) → xs ≡ ys ++ zs → cond b (a ∷ xs) xs ≡ cond b (a ∷ ys) ys ++ zs
    both true xs ys zs e = ap (λ l. a ∷ l) e
    both false xs ys zs e = e

-- the first number that passes one test is all that it has beyond the other
least_first : (p q : ℕ → Bool) (a b n : ℕ) → b < n → ((i : ℕ) → i < b → p (a + i) ≡ false) → p (a + b) ≡ true
    → ((i : ℕ) → i < n → i ≢ b → q (a + i) ≡ p (a + i)) → q (a + b) ≡ false
    → filter p (range_with_len a n) ≡ (a + b) ∷ filter q (range_with_len a n)
least_first p q a b zero lt none here same gone = absurd (omega arith)
least_first p q a zero (suc n) lt none here same gone =
    let z : a + zero ≡ a = omega arith in
    let h = rw z at here in
    let g = rw z at gone in
    let r = filter_same p q (a + 1) n (λ x lo hi.
    let w : a + (x - a) ≡ x = omega arith in
    sym (rw w at (same (x - a) (omega arith) (λ e. omega arith)))) in
    rw (z, h, g, r) refl
least_first p q a (suc b) (suc n) lt none here same gone =
    let z : a + 0 ≡ a = omega arith in
    let f = rw z at (none 0 (omega arith)) in
    let g = rw z at (same 0 (omega arith) (λ e. omega arith)) in
    let s : a + 1 + b ≡ a + suc b = omega arith in
    let r = least_first p q (a + 1) b n (omega arith)
    (λ i l. let w : a + (i + 1) ≡ a + 1 + i = omega arith in rw w at (none (i + 1) (omega arith)))
    (rw s here)
    (λ i l ne. let w : a + (i + 1) ≡ a + 1 + i = omega arith in rw w at (same (i + 1) (omega arith) (λ e. ne (omega arith))))
    (rw s gone) in
    rw (g, f) (rw s at r)

-- ---- a word
no_part : (first n : ℕ) → filter (λ node. is_set 0 (node - first)) (range_with_len first n) ≡ []
no_part first n = filter_none (λ node. is_set 0 (node - first)) first n (λ k lo hi. rw (bit_at-zero (k - first)) refl)

no_nodes : (first : ℕ) → nodes_of_word first 0 ≡ []
unfolding nodes_of_word
no_nodes first = no_part first 64

-- what is left of a word when its lowest bit is cleared
module _ (first word bit rest n : ℕ) (lt : bit < n) (here : is_set word bit ≡ true) (least : (i : ℕ) → i < bit → is_set word i ≡ false)
    (bits : (i : ℕ) → i < n → is_set rest i ≡ (is_set word i && not (eqb i bit))) where
  kept : (i : ℕ) → i < n → i ≢ bit → is_set rest i ≡ is_set word i
  kept i l ne = let f = bits i l in let e = ne_eqb i bit ne in grind (arith, f, e)

  gone : is_set rest bit ≡ false
  gone = let f = bits bit lt in let e = eq-eqb bit bit refl in grind (arith, f, e)

  next_part : filter (λ node. is_set word (node - first)) (range_with_len first n)
      ≡ (first + bit) ∷ filter (λ node. is_set rest (node - first)) (range_with_len first n)
  next_part =
      least_first (λ node. is_set word (node - first)) (λ node. is_set rest (node - first)) first bit n lt
      (λ i l. let w : first + i - first ≡ i = omega arith in rw w (least i l))
      (let w : first + bit - first ≡ bit = omega arith in rw w here)
      (λ i l ne. let w : first + i - first ≡ i = omega arith in rw w (kept i l ne))
      (let w : first + bit - first ≡ bit = omega arith in rw w gone)

next_node : (first word bit rest : ℕ) → bit < 64 → is_set word bit ≡ true → ((i : ℕ) → i < bit → is_set word i ≡ false)
    → ((i : ℕ) → i < 64 → is_set rest i ≡ (is_set word i && not (eqb i bit)))
    → nodes_of_word first word ≡ (first + bit) ∷ nodes_of_word first rest
unfolding nodes_of_word
next_node first word bit rest lt here least bits = next_part first word bit rest 64 lt here least bits

-- so far these nodes were added, and those of `left` are still to come
pub record Pushing (first word left : ℕ) (before now : List ℕ) : Type 0 where
  pub all : now ++ nodes_of_word first left ≡ before ++ nodes_of_word first word

pub pushing_goes : (first word left bit rest : ℕ) (before now after : List ℕ) → Pushing first word left before now
    → bit < 64 → is_set left bit ≡ true → ((i : ℕ) → i < bit → is_set left i ≡ false)
    → ((i : ℕ) → i < 64 → is_set rest i ≡ (is_set left i && not (eqb i bit)))
    → after ≡ now ++ (first + bit) ∷ []
    → Pushing first word rest before after
pushing_goes first word left bit rest before now after i lt here least bits e = record {
  all = ap (λ xs. xs ++ nodes_of_word first rest) e ∙ append_assoc now ((first + bit) ∷ []) (nodes_of_word first rest)
      ∙ ap (λ xs. now ++ xs) (sym (next_node first left bit rest lt here least bits)) ∙ i.all;
}

pub pushing_ends : (first word left : ℕ) (before now : List ℕ) → Pushing first word left before now → left ≡ 0 → now ≡ before ++ nodes_of_word first word
pushing_ends first word left before now i z =
    sym (append-nil now) ∙ ap (λ xs. now ++ xs) (sym (ap (nodes_of_word first) z ∙ no_nodes first)) ∙ i.all

-- ---- a row
-- the nodes of the first k words
abbrev pub first_words : List ℕ → ℕ → List ℕ
first_words row k = filter (bit_of row) (range_with_len 0 (64 * k))

word_part : (row : List ℕ) (k n : ℕ) → n ≡ 64
    → first_words row (k + 1) ≡ first_words row k ++ filter (λ node. is_set (get_or row k 0) (node - 64 * k)) (range_with_len (64 * k) n)
word_part row k n e =
    let m : 64 * (k + 1) ≡ 64 * k + n = omega (arith, e) in
    let z : 0 + 64 * k ≡ 64 * k = omega arith in
    let s = filter_split (bit_of row) 0 (64 * k) n in
    let w = filter_same (bit_of row) (λ node. is_set (get_or row k 0) (node - 64 * k)) (64 * k) n (λ x lo hi.
    let q : x / 64 ≡ k = omega (arith, e) in
    let r : x % 64 ≡ x - 64 * k = omega (arith, e) in
    rw (q, r) refl) in
    rw m ((rw z at s) ∙ ap (λ xs. first_words row k ++ xs) w)

pub word_more : (row : List ℕ) (k : ℕ) → first_words row (k + 1) ≡ first_words row k ++ nodes_of_word (64 * k) (get_or row k 0)
unfolding nodes_of_word
word_more row k = word_part row k 64 refl

pub row_goes : (row before now after : List ℕ) (k : ℕ) → now ≡ before ++ first_words row k
    → after ≡ now ++ nodes_of_word (64 * k) (get_or row k 0) → after ≡ before ++ first_words row (k + 1)
row_goes row before now after k e f =
    f ∙ ap (λ xs. xs ++ nodes_of_word (64 * k) (get_or row k 0)) e
    ∙ append_assoc before (first_words row k) (nodes_of_word (64 * k) (get_or row k 0))
    ∙ ap (λ xs. before ++ xs) (sym (word_more row k))
