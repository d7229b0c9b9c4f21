-- How many bits of a row are set from a place on.
use Rattle.std.specs.Prelude.{not}
use Rattle.std.proofs.Common.{◌≡◌, ℕ, zero, suc, ◌+◌, ◌-◌, ◌*◌, ◌/◌, ◌%◌, ◌^◌, ◌<◌, ◌≤◌, Bool, true, false, ◌&&◌, cond, ltb, List, ◌++◌, length, get_or, map, refl, sym, ap, ◌∙◌, inl, inr, arith}
use Rattle.std.proofs.lemmas.Bool.{cases_lt, lt-ltb, le-ltb}
use Rattle.std.proofs.lemmas.List.{length-map, length-append}
use Rattle.std.proofs.lemmas.List.Sums.{sum_by-cons, length-filter}
use Rattle.std.specs.Int.RustNames.{count_ones}
use Rattle.std.specs.List.{sum_by, count_by, range_with_len, filter}
use Rattle.graph_spec.specs.Graphs.{Graph, IsSimpleGraph, edges_of}
use Rattle.graph_laws.proofs.SameGraphs.{joins_no_other}
use Rattle.vga_grid.specs.Rows.{width, bit_of}
use Rattle.vga_grid.specs.Sets.{is_set}
use Rattle.vga_grid.specs.Edges.{row_from, rows_from}
use Rattle.vga_grid.proofs.Words.{place_bit}
use Rattle.vga_grid.proofs.Counting.{word_ones, sum_split, sum_shift, sum_none}
use Rattle.vga_grid.proofs.EdgeLists.{rows_step}

pub count_same : (p q : ℕ → Bool) (a n : ℕ) → ((x : ℕ) → a ≤ x → x < a + n → p x ≡ q x) → count_by p (range_with_len a n) ≡ count_by q (range_with_len a n)
count_same p q a zero e = refl
count_same p q a (suc n) e =
    let r = count_same p q (a + 1) n (λ x lo hi. e x (omega arith) (omega arith)) in
    let here : ◌≡◌ {A = ℕ} (cond (p a) 1 0) (cond (q a) 1 0) = ap (λ t. cond t 1 0) (e a (omega arith) (omega arith)) in
    let f = sum_by-cons (λ x. cond (p x) 1 0) a (range_with_len (a + 1) n) in
    let g = sum_by-cons (λ x. cond (q x) 1 0) a (range_with_len (a + 1) n) in
    omega (arith, r, here, f, g)

-- the bits of word k from bit b on
pub part_count : (ws : List ℕ) (k b c h : ℕ) → b + c ≡ 64 → h < 2 ^ (b + c) → ((i : ℕ) → i < 64 → is_set h i ≡ (is_set (get_or ws k 0) i && not (ltb i b)))
    → count_ones h ≡ count_by (bit_of ws) (range_with_len (64 * k + b) c)
part_count ws k b c h whole fits is =
    let all = word_ones (b + c) h fits in
    let cut = sum_split (λ x. cond (is_set h x) 1 0) 0 b c in
    let low = sum_none (λ x. cond (is_set h x) 1 0) 0 b (λ x lo hi. ap (λ t. cond t 1 0) (is x (omega arith) ∙ ap (λ y. is_set (get_or ws k 0) x && not y) (lt-ltb x b (omega arith)) ∙ and_false (is_set (get_or ws k 0) x))) in
    let high = count_same (is_set h) (λ x. bit_of ws (x + 64 * k)) (0 + b) c (λ x lo hi.
    let q : 64 * k + x ≡ x + 64 * k = omega arith in
    is x (omega arith) ∙ ap (λ y. is_set (get_or ws k 0) x && not y) (le-ltb x b (omega arith)) ∙ and_true (is_set (get_or ws k 0) x) ∙ sym (place_bit ws k x (omega arith)) ∙ ap (bit_of ws) q) in
    let shift = sum_shift (λ x. cond (bit_of ws x) 1 0) (0 + b) (64 * k) c in
    let at : 0 + b + 64 * k ≡ 64 * k + b = omega arith in
    all ∙ omega (arith, cut, low) ∙ high ∙ sym shift ∙ ap (λ (a : ℕ). count_by (bit_of ws) (range_with_len a c)) at
  where
    and_true : (x : Bool) → (x && true) ≡ x
    and_true true = refl
    and_true false = refl

    and_false : (x : Bool) → (x && false) ≡ false
    and_false true = refl
    and_false false = refl

pub whole_count : (ws : List ℕ) (k c : ℕ) → 0 + c ≡ 64 → get_or ws k 0 < 2 ^ (0 + c) → count_ones (get_or ws k 0) ≡ count_by (bit_of ws) (range_with_len (64 * k) c)
whole_count ws k c e fits =
    let z : 64 * k + 0 ≡ 64 * k = omega arith in
    part_count ws k 0 c (get_or ws k 0) e fits (λ i h. let f = le-ltb i 0 (omega arith) in sym (ap (λ y. is_set (get_or ws k 0) i && not y) f ∙ and_true (is_set (get_or ws k 0) i)))
    ∙ ap (λ (a : ℕ). count_by (bit_of ws) (range_with_len a c)) z
  where
    and_true : (x : Bool) → (x && true) ≡ x
    and_true true = refl
    and_true false = refl

pub words_more : (ws : List ℕ) (from k sum x c : ℕ) → from ≤ k → c ≡ 64 → sum ≡ count_by (bit_of ws) (range_with_len (64 * from) (64 * k - 64 * from)) → x ≡ count_by (bit_of ws) (range_with_len (64 * k) c)
    → sum + x ≡ count_by (bit_of ws) (range_with_len (64 * from) (64 * (k + 1) - 64 * from))
words_more ws from k sum x c le whole done here =
    let s = sum_split (λ v. cond (bit_of ws v) 1 0) (64 * from) (64 * k - 64 * from) c in
    let p : 64 * from + (64 * k - 64 * from) ≡ 64 * k = omega arith in
    let q : 64 * k - 64 * from + c ≡ 64 * (k + 1) - 64 * from = omega arith in
    let t = rw p at s in
    omega (arith, done, here, t) ∙ ap (λ (n : ℕ). count_by (bit_of ws) (range_with_len (64 * from) n)) q

pub from_count : (ws : List ℕ) (from x y c : ℕ) → from / 64 < length ws → from % 64 + c ≡ 64 → x ≡ count_by (bit_of ws) (range_with_len (64 * (from / 64) + from % 64) c)
    → y ≡ count_by (bit_of ws) (range_with_len (64 * (from / 64 + 1)) (64 * length ws - 64 * (from / 64 + 1))) → x + y ≡ count_by (bit_of ws) (range_with_len from (64 * length ws - from))
from_count ws from x y c lt whole first later =
    let s = sum_split (λ v. cond (bit_of ws v) 1 0) from c (64 * length ws - 64 * (from / 64 + 1)) in
    let p : 64 * (from / 64) + from % 64 ≡ from = omega arith in
    let q : from + c ≡ 64 * (from / 64 + 1) = omega arith in
    let r : c + (64 * length ws - 64 * (from / 64 + 1)) ≡ 64 * length ws - from = omega arith in
    let t = rw q at s in
    let u = rw p at first in
    omega (arith, t, u, later) ∙ ap (λ (n : ℕ). count_by (bit_of ws) (range_with_len from n)) r

-- ---- the edges of one row more
pub row_more : (g : Graph) (simple : IsSimpleGraph g) (ws : List ℕ) (i count x : ℕ) → i < g.count → length ws ≡ width g.count → ((v : ℕ) → bit_of ws v ≡ g.joins i v)
    → x ≡ count_by (bit_of ws) (range_with_len (i + 1) (64 * length ws - (i + 1))) → count + length (rows_from g i) ≡ length (edges_of g) → count + x + length (rows_from g (i + 1)) ≡ length (edges_of g)
row_more g simple ws i count x lt len bits is h =
    let n : 64 * length ws - (i + 1) ≡ (g.count - (i + 1)) + (64 * length ws - g.count) = omega arith in
    let at : i + 1 + (g.count - (i + 1)) ≡ g.count = omega arith in
    let s = sum_split (λ v. cond (bit_of ws v) 1 0) (i + 1) (g.count - (i + 1)) (64 * length ws - g.count) in
    let z = sum_none (λ v. cond (bit_of ws v) 1 0) (i + 1 + (g.count - (i + 1))) (64 * length ws - g.count) (λ v lo hi. ap (λ t. cond t 1 0) (bits v ∙ joins_no_other g simple i v (omega arith))) in
    let same = count_same (bit_of ws) (g.joins i) (i + 1) (g.count - (i + 1)) (λ v lo hi. bits v) in
    let f = length-filter (g.joins i) (range_with_len (i + 1) (g.count - (i + 1))) in
    let m = length-map {B = ℕ × ℕ} (filter (g.joins i) (range_with_len (i + 1) (g.count - (i + 1)))) (λ (b : ℕ). (i, b)) in
    let a = length-append (row_from g i (i + 1)) (rows_from g (i + 1)) in
    let r : length (rows_from g i) ≡ length (row_from g i (i + 1) ++ rows_from g (i + 1)) = ap (λ (xs : List (ℕ × ℕ)). length xs) (rows_step g i lt) in
    let x2 : x ≡ count_by (bit_of ws) (range_with_len (i + 1) ((g.count - (i + 1)) + (64 * length ws - g.count))) = is ∙ ap (λ (k : ℕ). count_by (bit_of ws) (range_with_len (i + 1) k)) n in
    omega (arith, x2, s, z, same, f, m, a, r, h)
