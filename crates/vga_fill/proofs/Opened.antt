-- A fill begins under the rule.
use Rattle.std.proofs.Common.{◌≡◌, ℕ, zero, suc, ◌+◌, ◌-◌, ◌*◌, ◌/◌, ◌%◌, ◌<◌, ◌^◌, ◌&&◌, ◌==◌, nat_lt, List, [], ◌∷◌, ◌++◌, length, Bool, true, false, true≢false, cond, refl, sym, ap, ◌∙◌, inl, inr, arith, slice_index, get_or, suc-mul}
use Rattle.std.specs.Int.{bit_at}
use Rattle.std.proofs.lemmas.Bool.{cases_lt}
use Rattle.std.proofs.lemmas.List.{length-append, get_or_append_left, get_or-append_right}
use Rattle.std.proofs.lemmas.Nat.{div-mul-add, mod-mul-add}
use Rattle.std.proofs.lemmas.Nat.Bits.{bit_at-lt}
use mathlib.Core.Option.{some, some-injective, some-ne-none}
use lib.ListN.{get_elem?}
use Rattle.atomic_table.specs.Table.{opening}
use Rattle.vga_grid.specs.Rows.{width, bit_in, is_joined, Matrix}
use Rattle.vga_grid.specs.Rows.{bit_of as bit_of_row}
use Rattle.vga_fill.specs.declared.events.View.{View}
use Rattle.vga_fill.specs.declared.events.Task.{Task}
use Rattle.vga_fill.specs.Places.{digit, bit_of}
use Rattle.vga_fill.specs.Views.{wrote, first_view}
use Rattle.vga_fill.specs.Graphs.{was_joined, AreRowsOf, AreFirstWords, Rule}

only : (v y : View) (i : ℕ) → get_elem? (v ∷ []) i ≡ some y → v ≡ y
only v y zero e = some-injective v y e
only v y (suc i) e = absurd (some-ne-none y (sym e))

no_row : (row n x : ℕ) → x ≡ 0 → x ≡ cond (nat_lt row 0 && nat_lt row n) 1 0
no_row row n x e = grind arith

later : (words : List ℕ) (w : ℕ) → 0 < w → slice_index (0 ∷ words) w ≡ slice_index words (w - 1)
later words zero h = absurd (omega (arith, h))
later words (suc w) h = let e : suc w - 1 ≡ w = omega arith in ap (λ z. get_or words z 0) (sym e)

pub opens : (k : Task) (words : List ℕ) → k.count < 2 ^ 32 → AreRowsOf (was_joined k) k.count words → Rule k (opening (0 ∷ words) [] (first_view k))
opens k words small are = record {
  words = omega (arith, are.fits);
  shows = record {
    either = λ w b some_w wn bn. inr (ap (λ z. bit_at z b) (later words w some_w) ∙ (are.bits (w - 1) b (omega (arith, some_w, wn)) bn ∙ ap (λ z. bit_of (was_joined k) k.count z b) (omega (arith, some_w))));
    written = λ id v at w b some_w wn bn e. absurd (true≢false (sym e ∙ ap (λ z. wrote z w b) (sym (only (first_view k) v id at))));
  };
  counts = record {
    small = small;
    rows = λ row. no_row row k.count _ refl;
    told = λ id v at e. absurd (true≢false (sym e ∙ ap (λ z. z.told) (sym (only (first_view k) v id at))));
    tellings = omega arith;
    total = refl;
    held = λ id v at e. absurd (omega (arith, e, ap (λ z. length z.rows) (only (first_view k) v id at)));
  };
}

-- ---- the rows of the graph, one after another

-- no claims, and the first rows
pub record HasRows (m : Matrix) (count : ℕ) (words : List ℕ) : Type 0 where
  pub rows : List ℕ
  pub words_are : words ≡ 0 ∷ rows
  pub fits : length rows ≡ count * width m.count
  pub bits : (w b : ℕ) → w < count * width m.count → b < 64 → bit_at (slice_index rows w) b ≡ bit_of (is_joined m) m.count (w + 1) b

pub no_rows : (m : Matrix) → HasRows m 0 (0 ∷ [])
no_rows m = record { rows = []; words_are = refl; fits = omega arith; bits = λ w b wn bn. absurd (omega (arith, wn)) }

pub all_rows : (m : Matrix) (words : List ℕ) → HasRows m m.count words → AreFirstWords m words
all_rows m words has = record { rows = has.rows; words_are = has.words_are; rows_are = record { fits = has.fits; bits = has.bits } }

-- a bit of a row tells whether its nodes are joined
digit_is : (x : ℕ) (t : Bool) → x < 2 → (x == 1) ≡ t → x ≡ digit t
digit_is zero t h e = ap digit e
digit_is (suc zero) t h e = ap digit e
digit_is (suc (suc x)) t h e = absurd (omega (arith, h))

joined_within : (m : Matrix) (i j : ℕ) → ((nat_lt i m.count && nat_lt j m.count) && is_joined m i j) ≡ is_joined m i j
unfolding is_joined
joined_within m i j = twice (nat_lt i m.count && nat_lt j m.count) (bit_in m.words m.count i j)
  where
    twice : (a b : Bool) → (a && (a && b)) ≡ (a && b)
    twice true b = refl
    twice false b = refl

module _ (m : Matrix) (i : ℕ) (row : List ℕ) (bits : (j : ℕ) → bit_of_row row j ≡ is_joined m i j) where
  -- word q of the row
  row_bits : (q b : ℕ) → b < 64 → bit_at (slice_index row q) b ≡ digit (is_joined m i (q * 64 + b))
  row_bits q b bn =
      let d : (q * 64 + b) / 64 ≡ q = div-mul-add q 64 b bn in
      let r : (q * 64 + b) % 64 ≡ b = mod-mul-add q 64 b bn in
      digit_is (bit_at (slice_index row q) b) (is_joined m i (q * 64 + b)) (bit_at-lt (slice_index row q) b)
      (ap (λ (z : ℕ). bit_at (slice_index row z) b == 1) (sym d)
      ∙ (ap (λ (z : ℕ). bit_at (slice_index row ((q * 64 + b) / 64)) z == 1) (sym r) ∙ bits (q * 64 + b)))

  place_bits : (q b : ℕ) → q < width m.count → bit_of (is_joined m) m.count (i * width m.count + q + 1) b ≡ digit (is_joined m i (q * 64 + b))
  unfolding bit_of
  place_bits q b qn =
      let e : i * width m.count + q + 1 - 1 ≡ i * width m.count + q = omega arith in
      let d : (i * width m.count + q + 1 - 1) / width m.count ≡ i = ap (λ z. z / width m.count) e ∙ div-mul-add i (width m.count) q qn in
      let r : (i * width m.count + q + 1 - 1) % width m.count ≡ q = ap (λ z. z % width m.count) e ∙ mod-mul-add i (width m.count) q qn in
      rw (d, r) (ap digit (joined_within m i (q * 64 + b)))

  pub row_added : (words words' : List ℕ) → HasRows m i words → words' ≡ words ++ row → length row ≡ width m.count → HasRows m (i + 1) words'
  row_added words words' has made len = record {
    rows = has.rows ++ row;
    words_are = made ∙ ap (λ z. z ++ row) has.words_are;
    fits = length-append has.rows row ∙ omega (arith, has.fits, len, suc-mul i (width m.count));
    bits = λ w b wn bn. elim (cases_lt w (i * width m.count)) [
      | inl less ↦
          ap (λ z. bit_at z b) (get_or_append_left has.rows row 0 w (omega (arith, less, has.fits))) ∙ has.bits w b less bn
      | inr more ↦
          let q : ℕ = w - i * width m.count in
          let qn : q < width m.count = omega (arith, wn, more, suc-mul i (width m.count)) in
          let w_is : i * width m.count + q ≡ w = omega (arith, more) in
          ap (λ z. bit_at z b) (get_or-append_right has.rows row (i * width m.count) w 0 has.fits more)
          ∙ (row_bits q b bn ∙ (sym (place_bits q b qn) ∙ ap (λ z. bit_of (is_joined m) m.count (z + 1) b) w_is))
    ];
  }
