-- Places of a table of bits.
use Rattle.std.proofs.Common.{◌≡◌, ℕ, suc, ◌+◌, ◌-◌, ◌*◌, ◌/◌, ◌<◌, ◌≤◌, ◌%◌, ◌&&◌, nat_lt, Bool, true, refl, ap, ◌∙◌, arith, mul-le-mul_right, suc-mul}
use Rattle.std.proofs.lemmas.Nat.{div-mul-add, mod-mul-add, div-add-mod'}
use Rattle.vga_grid.specs.Rows.{width}
use Rattle.vga_fill.specs.Places.{size, word_of, digit, bit_of}

stride_over : (n j : ℕ) → j < n → j / 64 < width n
stride_over n j h = omega arith

row_part : (n i j : ℕ) → j < n → (word_of n i j - 1) / width n ≡ i
row_part n i j h = let e : word_of n i j - 1 ≡ i * width n + j / 64 = omega arith in ap (λ z. z / width n) e ∙ div-mul-add i (width n) (j / 64) (stride_over n j h)

column_part : (n i j : ℕ) → j < n → (word_of n i j - 1) % width n * 64 + j % 64 ≡ j
column_part n i j h =
    let e : word_of n i j - 1 ≡ i * width n + j / 64 = omega arith in
    let m : (word_of n i j - 1) % width n ≡ j / 64 = ap (λ z. z % width n) e ∙ mod-mul-add i (width n) (j / 64) (stride_over n j h) in
    ap (λ z. z * 64 + j % 64) m ∙ div-add-mod' j 64

both_below : (n i j : ℕ) → i < n → j < n → (nat_lt i n && nat_lt j n) ≡ true
both_below n i j h k = grind arith

-- what stands at the place (i, j)
pub bit_of_place : (f : ℕ → ℕ → Bool) (n i j : ℕ) → i < n → j < n → bit_of f n (word_of n i j) (j % 64) ≡ digit (f i j)
unfolding bit_of
bit_of_place f n i j h k = rw (row_part n i j k, column_part n i j k, both_below n i j h k) refl

-- the words of a row lie within the table
pub word_within : (n i j : ℕ) → i < n → j < n → word_of n i j < size n
word_within n i j h k = let m : suc i * width n ≤ n * width n = mul-le-mul_right (width n) (omega (arith, h)) in omega (arith, stride_over n j k, m, suc-mul i (width n))
