-- Rows of bits, one after another.
use Rattle.std.specs.Prelude.{nat_lt}
use Rattle.std.proofs.Common.{◌≡◌, ◌≢◌, ℕ, zero, suc, ◌+◌, ◌-◌, ◌*◌, ◌/◌, ◌%◌, ◌^◌, ◌<◌, ◌≤◌, Bool, true, false, ◌&&◌, ◌||◌, eqb, List, [], ◌∷◌, length, get_or, set, take, drop, replicate, refl, sym, ap, ◌∙◌, inl, inr, arith}
use Rattle.std.proofs.lemmas.Bool.{cases_eq, eq-eqb, ne_eqb, cases_lt, lt-ltb, le-ltb, ltb-true, and_parts}
use Rattle.std.proofs.lemmas.List.{length-replicate, length-take, get_or-set_same, get_or-set_other, get_or-take, get_or-drop}
use Rattle.std.proofs.lemmas.Nat.{mul-add-lt, same_from_place}
use Rattle.std.proofs.lemmas.Nat.Bits.{bit_at_set_same, bit_at_set_other, bit_at-zero}
use Rattle.std.specs.Int.{bit_at, w64}
use Rattle.std.specs.Int.Bits.{bit_or}
use Rattle.graph_spec.specs.Graphs.{IsSimpleGraph}
use Rattle.vga_grid.specs.declared.limits.TheConstants.{MAX_NODES}
use Rattle.vga_grid.specs.Rows.{Matrix, width, bit_of, bit_in, is_joined, graph_of, is_pair, AreRows}

-- the word x with bit j % 64 set
abbrev pub with_bit : ℕ → ℕ → ℕ
with_bit x j = bit_or x (1 * 2 ^ (j % 64) % 2 ^ 64)

bit_same : (x j b : ℕ) → b % 64 ≡ j % 64 → bit_at (with_bit x j) (b % 64) ≡ 1
bit_same x j b e = rw e (bit_at_set_same w64 x (j % 64) (omega arith))

bit_other : (x j b : ℕ) → b % 64 ≢ j % 64 → bit_at (with_bit x j) (b % 64) ≡ bit_at x (b % 64)
bit_other x j b ne = bit_at_set_other w64 x (j % 64) (omega arith) (b % 64) ne

bit_step : (x j b : ℕ) → b / 64 ≡ j / 64 → eqb (bit_at (with_bit x j) (b % 64)) 1 ≡ (eqb (bit_at x (b % 64)) 1 || eqb b j)
bit_step x j b q = elim (cases_eq (b % 64) (j % 64)) [
  | inl e ↦ let s : b ≡ j = omega arith in let f = bit_same x j b e in rw (f, eq-eqb b j s) (grind arith)
  | inr ne ↦ let s : b ≢ j = λ h. ne (ap (λ (v : ℕ). v % 64) h) in let f = bit_other x j b ne in rw (f, ne_eqb b j s) (grind arith)
]

pub set_word : (ws : List ℕ) (w i j a b : ℕ) → j / 64 < w → b / 64 < w → i * w + j / 64 < length ws
    → eqb (bit_at (get_or (set ws (i * w + j / 64) (with_bit (get_or ws (i * w + j / 64) 0) j)) (a * w + b / 64) 0) (b % 64)) 1
    ≡ (eqb (bit_at (get_or ws (a * w + b / 64) 0) (b % 64)) 1 || (eqb a i && eqb b j))
set_word ws w i j a b jw bw within =
    let y : ℕ = with_bit (get_or ws (i * w + j / 64) 0) j in
    elim (cases_eq (a * w + b / 64) (i * w + j / 64)) [
      | inl e ↦
          let s = same_from_place a (b / 64) i (j / 64) w bw jw e in
          let r : get_or (set ws (i * w + j / 64) y) (a * w + b / 64) 0 ≡ y = rw e (get_or-set_same ws (i * w + j / 64) y 0 within) in
          let t = bit_step (get_or ws (i * w + j / 64) 0) j b s.1 in
          let o : get_or ws (a * w + b / 64) 0 ≡ get_or ws (i * w + j / 64) 0 = ap (λ (k : ℕ). get_or ws k 0) e in
          rw (r, o, t, eq-eqb a i s.0) refl
      | inr ne ↦
          let r = get_or-set_other ws (i * w + j / 64) (a * w + b / 64) y 0 ne in
          rw r (elim (cases_eq a i) [
            | inl ea ↦ let nb : b ≢ j = λ h. ne (rw (ea, h) refl) in rw (ne_eqb b j nb) (grind arith)
            | inr na ↦ rw (ne_eqb a i na) (grind arith)
          ])
    ]

pub in_width : (n j : ℕ) → j < n → j / 64 < width n
in_width n j h = omega arith

pub place_in : (n i j : ℕ) → i < n → j < n → i * width n + j / 64 < n * width n
place_in n i j hi hj = grind (arith, mul-add-lt i (width n) (j / 64) n hi (in_width n j hj))

pub set_pair_bit : (ws : List ℕ) (n i j a b : ℕ) → length ws ≡ n * width n → i < n → j < n → b / 64 < width n
    → bit_in (set ws (i * width n + j / 64) (with_bit (get_or ws (i * width n + j / 64) 0) j)) n a b ≡ (bit_in ws n a b || (eqb a i && eqb b j))
set_pair_bit ws n i j a b l hi hj hb =
    let p = place_in n i j hi hj in
    set_word ws (width n) i j a b (in_width n j hj) hb (omega arith)

pub joined_here : (n : ℕ) (ws : List ℕ) (i j : ℕ) → i < n → j < n → is_joined (record { count = n; words = ws }) i j ≡ bit_in ws n i j
unfolding is_joined
joined_here n ws i j hi hj = rw (lt-ltb i n hi, lt-ltb j n hj) refl

pub joined_left : (n : ℕ) (ws : List ℕ) (i j : ℕ) → n ≤ i → is_joined (record { count = n; words = ws }) i j ≡ false
unfolding is_joined
joined_left n ws i j h = rw (le-ltb i n h) refl

pub joined_right : (n : ℕ) (ws : List ℕ) (i j : ℕ) → n ≤ j → is_joined (record { count = n; words = ws }) i j ≡ false
unfolding is_joined
joined_right n ws i j h = rw (le-ltb j n h) (grind arith)

pub on_nodes : (n : ℕ) (ws : List ℕ) (i j : ℕ) → is_joined (record { count = n; words = ws }) i j ≡ true
    → (i < n) × (j < n)
unfolding is_joined
on_nodes n ws i j joined =
    let both = and_parts (nat_lt i n) (nat_lt j n) (and_parts (nat_lt i n && nat_lt j n) (bit_in ws n i j) joined).0 in
    (ltb-true i n both.0, ltb-true j n both.1)

-- ---- no edge
pub no_bit : (m k b : ℕ) → eqb (bit_at (get_or (replicate m 0) k 0) b) 1 ≡ false
no_bit zero k b = rw (bit_at-zero b) refl
no_bit (suc m) zero b = rw (bit_at-zero b) refl
no_bit (suc m) (suc k) b = no_bit m k b

pub none_joined : (n m i j : ℕ) → is_joined (record { count = n; words = replicate m 0 }) i j ≡ false
unfolding is_joined
none_joined n m i j = rw (no_bit m (i * width n + j / 64) (j % 64)) (grind arith)

pub no_edges : (n : ℕ) → n ≤ MAX_NODES → AreRows (record { count = n; words = replicate (n * width n) 0 })
no_edges n small = record {
  at_most = small;
  simple = record {
    symmetric = λ i j. none_joined n (n * width n) i j ∙ sym (none_joined n (n * width n) j i);
    loopless = λ i. none_joined n (n * width n) i i;
    on_nodes = λ i j. on_nodes n (replicate (n * width n) 0) i j;
  };
  sized = length-replicate (n * width n) 0;
  unused = λ i j _ _. no_bit (n * width n) (i * width n + j / 64) (j % 64);
}

-- ---- one pair more
or_or : (x p q : Bool) → ((x || p) || q) ≡ (x || (p || q))
or_or true p q = refl
or_or false p q = refl

pub two_bits : (x y z : Bool) (p q : Bool) → y ≡ (x || p) → z ≡ (y || q) → z ≡ (x || (p || q))
two_bits x y z p q h k = k ∙ ap (λ v. v || q) h ∙ or_or x p q

is_pair-left : (i j a b n : ℕ) → i < n → j < n → n ≤ a → is_pair i j a b ≡ false
is_pair-left i j a b n hi hj h =
    let x : a ≢ i = omega arith in
    let y : a ≢ j = omega arith in
    rw (ne_eqb a i x, ne_eqb a j y) refl

flip : (p q r s : Bool) → ((p && q) || (r && s)) ≡ ((s && r) || (q && p))
flip true true r true = grind arith
flip true true r false = grind arith
flip true false r true = grind arith
flip true false r false = grind arith
flip false q true true = grind arith
flip false q true false = grind arith
flip false q false true = grind arith
flip false q false false = grind arith

pub is_pair-flip : (i j a b : ℕ) → is_pair i j a b ≡ is_pair i j b a
is_pair-flip i j a b = flip (eqb a i) (eqb b j) (eqb a j) (eqb b i)

is_pair-right : (i j a b n : ℕ) → i < n → j < n → n ≤ b → is_pair i j a b ≡ false
is_pair-right i j a b n hi hj h = is_pair-flip i j a b ∙ is_pair-left i j b a n hi hj h

is_pair-same : (i j a : ℕ) → i ≢ j → is_pair i j a a ≡ false
is_pair-same i j a ne = elim (cases_eq a i) [
  | inl e ↦ let n : a ≢ j = λ h. ne (sym e ∙ h) in rw (ne_eqb a j n) (grind arith)
  | inr n ↦ rw (ne_eqb a i n) (grind arith)
]

module _ (n i j : ℕ) (old new : List ℕ) (hi : i < n) (hj : j < n)
    (bits : (a b : ℕ) → b / 64 < width n → bit_in new n a b ≡ (bit_in old n a b || is_pair i j a b)) where
  pub joined_pair : (a b : ℕ) → is_joined (record { count = n; words = new }) a b ≡ (is_joined (record { count = n; words = old }) a b || is_pair i j a b)
  joined_pair a b = elim (cases_lt a n) [
    | inl ha ↦ elim (cases_lt b n) [
      | inl hb ↦ rw (joined_here n new a b ha hb, joined_here n old a b ha hb) (bits a b (in_width n b hb))
      | inr nb ↦ rw (joined_right n new a b nb, joined_right n old a b nb) (sym (is_pair-right i j a b n hi hj nb))
    ]
    | inr na ↦ rw (joined_left n new a b na, joined_left n old a b na) (sym (is_pair-left i j a b n hi hj na))
  ]

  pub still_rows : i ≢ j → length new ≡ length old → AreRows (record { count = n; words = old }) → AreRows (record { count = n; words = new })
  still_rows ne l g = record {
    at_most = g.at_most;
    simple = record {
      symmetric = λ a b. joined_pair a b ∙ ap (λ v. v || is_pair i j a b) (g.simple.symmetric a b) ∙ ap (λ v. is_joined (record { count = n; words = old }) b a || v) (is_pair-flip i j a b) ∙ sym (joined_pair b a);
      loopless = λ a. joined_pair a a ∙ ap (λ v. v || is_pair i j a a) (g.simple.loopless a) ∙ is_pair-same i j a ne;
      on_nodes = λ a b. on_nodes n new a b;
    };
    sized = l ∙ g.sized;
    unused = λ a b h w. bits a b w ∙ ap (λ v. v || is_pair i j a b) (g.unused a b h w) ∙ is_pair-right i j a b n hi hj h;
  }

-- ---- one row
get_or-past : (ws : List ℕ) (k : ℕ) → length ws ≤ k → get_or ws k 0 ≡ 0
get_or-past [] k h = refl
get_or-past (w ∷ ws) zero h = absurd (omega arith)
get_or-past (w ∷ ws) (suc k) h = get_or-past ws k (omega arith)

pub past_words : (ws : List ℕ) (v : ℕ) → length ws ≤ v / 64 → bit_of ws v ≡ false
past_words ws v h = rw (get_or-past ws (v / 64) h, bit_at-zero (v % 64)) refl

row_bit : (ws : List ℕ) (n i j len at : ℕ) → len ≡ width n → at ≡ i * width n → j / 64 < width n → bit_of (take (at + len - at) (drop at ws)) j ≡ bit_in ws n i j
row_bit ws n i j len at el ea h =
    let k : j / 64 < at + len - at = omega (arith, h) in
    rw (get_or-take (at + len - at) (drop at ws) (j / 64) 0 k, get_or-drop at ws (j / 64) 0, ea) refl

pub row_joined : (ws : List ℕ) (n i j len at : ℕ) → len ≡ width n → at ≡ i * width n → i < n → AreRows (record { count = n; words = ws })
    → bit_of (take (at + len - at) (drop at ws)) j ≡ is_joined (record { count = n; words = ws }) i j
row_joined ws n i j len at el ea hi rows = elim (cases_lt j n) [
  | inl hj ↦ row_bit ws n i j len at el ea (in_width n j hj) ∙ sym (joined_here n ws i j hi hj)
  | inr nj ↦ elim (cases_lt (j / 64) (width n)) [
    | inl hw ↦ row_bit ws n i j len at el ea hw ∙ rows.unused i j nj hw ∙ sym (joined_right n ws i j nj)
    | inr nw ↦ past_words (take (at + len - at) (drop at ws)) j (omega (arith, length-take (at + len - at) (drop at ws), nw)) ∙ sym (joined_right n ws i j nj)
  ]
]
