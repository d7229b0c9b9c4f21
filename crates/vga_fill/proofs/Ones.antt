-- The places of one word of a row, from one on: those that are 1.
use Rattle.std.specs.Prelude.{◌≡◌, ℕ, ◌+◌, ◌-◌, ◌*◌, ◌/◌, ◌%◌, ◌<◌, ◌≤◌, ◌&&◌, ◌==◌, Bool, true, false, not, List, nat_lt, slice_index}
use Rattle.std.proofs.Common.{refl, sym, ap, ◌∙◌, inl, inr, arith, true≢false}
use Rattle.std.proofs.lemmas.Bool.{cases_lt, lt-ltb, le-ltb}
use Rattle.std.proofs.lemmas.Nat.Bits.{bit_at-zero}
use Rattle.vga_grid.specs.Rows.{width}
use Rattle.vga_grid.specs.Sets.{is_set}
use Rattle.vga_fill.specs.Places.{word_of}
use Rattle.vga_fill.specs.Graphs.{is_one}

and_true : (t : Bool) → (t && true) ≡ t
and_true true = refl
and_true false = refl

and_false : (t : Bool) → (t && false) ≡ false
and_false true = refl
and_false false = refl

module _ (words : List ℕ) (n i j rest : ℕ)
    (from : (b : ℕ) → b < 64 → is_set rest b ≡ (is_set (slice_index words (word_of n i j)) b && not (nat_lt b (j % 64)))) where
  -- a place of the same word, from this one on
  same_word : (k : ℕ) → j ≤ k → k < j - j % 64 + 64 → is_one words n i k ≡ is_set rest (k % 64)
  same_word k low high =
      let word : k / 64 ≡ j / 64 = omega (arith, low, high) in
      let past : j % 64 ≤ k % 64 = omega (arith, low, high) in
      ap (λ (q : ℕ). is_set (slice_index words (1 + i * width n + q)) (k % 64)) word
      ∙ sym (from (k % 64) (omega arith)
      ∙ (ap (λ t. is_set (slice_index words (word_of n i j)) (k % 64) && not t) (le-ltb (k % 64) (j % 64) past)
      ∙ and_true (is_set (slice_index words (word_of n i j)) (k % 64))))

  -- no bit is left: so are none of the word's places
  pub none_left : rest ≡ 0 → (k : ℕ) → j ≤ k → k < j - j % 64 + 64 → is_one words n i k ≡ false
  none_left empty k low high =
      same_word k low high ∙ (ap (λ (x : ℕ). is_set x (k % 64)) empty ∙ ap (λ x. x == 1) (bit_at-zero (k % 64)))

  module _ (b : ℕ) (small : b < 64) (here : is_set rest b ≡ true) (least : (c : ℕ) → c < b → is_set rest c ≡ false) where
    -- the lowest bit that is left isn't below this place
    not_before : j % 64 ≤ b
    not_before = elim (cases_lt b (j % 64)) [
      | inr past ↦ past
      | inl below ↦
          let off : is_set rest b ≡ false
          = from b small
          ∙ (ap (λ t. is_set (slice_index words (word_of n i j)) b && not t) (lt-ltb b (j % 64) below)
          ∙ and_false (is_set (slice_index words (word_of n i j)) b)) in
          absurd (true≢false (sym here ∙ off))
    ]

    pub first_at : (j ≤ j - j % 64 + b) × (is_one words n i (j - j % 64 + b) ≡ true)
    first_at =
        let at : j ≤ j - j % 64 + b = omega (arith, not_before) in
        let bit : (j - j % 64 + b) % 64 ≡ b = omega (arith, small) in
        (at, same_word (j - j % 64 + b) at (omega (arith, small)) ∙ (ap (is_set rest) bit ∙ here))

    pub none_before : (k : ℕ) → j ≤ k → k < j - j % 64 + b → is_one words n i k ≡ false
    none_before k low high =
        let bit : k % 64 < b = omega (arith, low, high, small) in
        same_word k low (omega (arith, high, small)) ∙ least (k % 64) bit
