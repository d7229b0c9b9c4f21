-- The edges of a graph as a list, and how many they are.
use Rattle.std.proofs.Common.{◌≡◌, ℕ, zero, suc, ◌+◌, ◌*◌, ◌-◌, ◌<◌, ◌≤◌, Bool, true, false, List, [], ◌∷◌, ◌++◌, map, refl, sym, ap, ◌∙◌, arith, add-zero, zero-add, length, inl, inr}
use Rattle.std.proofs.lemmas.Bool.{cases_lt, cond_both}
use Rattle.std.proofs.lemmas.List.{length-map, length-append}
use Rattle.std.proofs.lemmas.List.Elements.{filter-append}
use Rattle.std.proofs.Math.Nat.{mul-le-mul_left}
use Rattle.std.specs.List.{filter, flat_map, range_with_len}
use Rattle.plane_spec.specs.Lists.{pairs, with_each}
use Rattle.graph_spec.specs.Graphs.{Graph, IsSimpleGraph, is_edge, nodes, edges_of}
use Rattle.graph_laws.proofs.Agreeing.{filter_map_turned}
use Rattle.graph_laws.proofs.SameGraphs.{joins_no_other}
use Rattle.vga_grid.specs.Edges.{row_from, rows_from, edges_left}

-- nothing is kept
pub filter_none : (p : ℕ → Bool) (a n : ℕ) → ((k : ℕ) → a ≤ k → k < a + n → p k ≡ false) → filter p (range_with_len a n) ≡ []
filter_none p a zero h = refl
filter_none p a (suc n) h = rw (h a (omega arith) (omega arith)) (filter_none p (a + 1) n (λ k lo hi. h k (omega arith) (omega arith)))

-- the first that is kept comes after d others
pub filter_first : (p : ℕ → Bool) (a d n : ℕ) → ((k : ℕ) → a ≤ k → k < a + d → p k ≡ false) → p (a + d) ≡ true
    → filter p (range_with_len a (d + suc n)) ≡ (a + d) ∷ filter p (range_with_len (a + d + 1) n)
filter_first p a zero n h y = let here : p a ≡ true = rw add-zero at y in rw (zero-add (suc n), add-zero, here) refl
filter_first p a (suc d) n h y =
    let none : p a ≡ false = h a (omega arith) (omega arith) in
    let sum : a + 1 + d ≡ a + suc d = omega arith in
    let size : suc d + suc n ≡ suc (d + suc n) = omega arith in
    let rest = filter_first p (a + 1) d n (λ k lo hi. h k (omega arith) (omega arith)) (rw sum y) in
    rw (size, none) (rw sum at rest)

-- ---- the edges that are left
range_split : (c j b : ℕ) → j ≤ b → b < c → c - j ≡ (b - j) + suc (c - (b + 1))
range_split c j b lo hi = omega arith

pub rows_step : (g : Graph) (i : ℕ) → i < g.count → rows_from g i ≡ row_from g i (i + 1) ++ rows_from g (i + 1)
rows_step g i h =
    let e : g.count - i ≡ suc (g.count - (i + 1)) = omega arith in
    rw e refl

rows_past : (g : Graph) (i : ℕ) → g.count ≤ i → rows_from g i ≡ []
rows_past g i h = let e : g.count - i ≡ 0 = omega arith in rw e refl

-- the pairs of numbers that an edge joins, row by row
listed_by_rows : (g : Graph) (a n : ℕ) → a + n ≡ g.count
    → filter (is_edge g) (pairs (range_with_len a n)) ≡ flat_map (λ i. row_from g i (i + 1)) (range_with_len a n)
listed_by_rows g a zero all = refl
listed_by_rows g a (suc n) all =
    let later = range_with_len (a + 1) n in
    let count : g.count - (a + 1) ≡ n = omega (arith, all) in
    filter-append (is_edge g) (map (with_each a) later) (pairs later)
    ∙ ap (λ es. es ++ filter (is_edge g) (pairs later)) (filter_map_turned (with_each a) (is_edge g) later)
    ∙ ap (λ (k : ℕ). map (with_each a) (filter (g.joins a) (range_with_len (a + 1) k)) ++ filter (is_edge g) (pairs later)) (sym count)
    ∙ ap (λ es. row_from g a (a + 1) ++ es) (listed_by_rows g (a + 1) n (omega (arith, all)))

pub edges_by_rows : (g : Graph) → edges_of g ≡ rows_from g 0
unfolding edges_of
edges_by_rows g =
    let all : g.count - 0 ≡ g.count = omega arith in
    listed_by_rows g 0 g.count (omega arith)
    ∙ ap (λ (n : ℕ). flat_map (λ i. row_from g i (i + 1)) (range_with_len 0 n)) (sym all)

pub left_end : (g : Graph) (simple : IsSimpleGraph g) (i j : ℕ) → g.count ≤ i → edges_left g i j ≡ []
unfolding edges_left
left_end g simple i j h =
    let none = filter_none (g.joins i) j (g.count - j) (λ k lo hi. simple.symmetric i k ∙ joins_no_other g simple k i h) in
    rw (none, rows_past g (i + 1) (omega arith)) refl

pub left_first : (g : Graph) (simple : IsSimpleGraph g) → edges_left g 0 1 ≡ edges_of g
unfolding edges_left
left_first g simple = elim (cases_lt 0 g.count) [
  | inl h ↦ sym (edges_by_rows g ∙ rows_step g 0 h)
  | inr h ↦ left_end g simple 0 1 h ∙ sym (edges_by_rows g ∙ rows_past g 0 h)
]

pub left_next_row : (g : Graph) (simple : IsSimpleGraph g) (i j : ℕ) → ((k : ℕ) → j ≤ k → k < g.count → g.joins i k ≡ false) → edges_left g i j ≡ edges_left g (i + 1) (i + 1 + 1)
unfolding edges_left
left_next_row g simple i j h =
    let none = filter_none (g.joins i) j (g.count - j) (λ k lo hi. h k lo (omega arith)) in
    rw none (elim (cases_lt (i + 1) g.count) [
      | inl a ↦ rows_step g (i + 1) a
      | inr a ↦ rows_past g (i + 1) a ∙ sym (left_end g simple (i + 1) (i + 1 + 1) a)
    ])

pub left_found : (g : Graph) (i j b : ℕ) → j ≤ b → b < g.count → g.joins i b ≡ true → ((k : ℕ) → j ≤ k → k < b → g.joins i k ≡ false) → edges_left g i j ≡ (i, b) ∷ edges_left g i (b + 1)
unfolding edges_left
left_found g i j b lo hi hit none =
    let e : j + (b - j) ≡ b = omega arith in
    let f = filter_first (g.joins i) j (b - j) (g.count - (b + 1)) (λ k l u. none k l (omega arith)) (rw e hit) in
    rw (range_split g.count j b lo hi, f, e) refl

-- ---- how many edges there are at most
range_length : (a n : ℕ) → length (range_with_len a n) ≡ n
range_length a zero = refl
range_length a (suc n) = ap suc (range_length (a + 1) n)

filter_short : (p : ℕ → Bool) (xs : List ℕ) → length (filter p xs) ≤ length xs
filter_short p [] = omega arith
filter_short p (x ∷ xs) = cond_both (p x) (x ∷ filter p xs) (filter p xs) (λ (ys : List ℕ). length ys ≤ suc (length xs)) (λ _. omega (arith, filter_short p xs)) (λ _. omega (arith, filter_short p xs))

rows_short : (g : Graph) (i k : ℕ) → length (flat_map (λ a. row_from g a (a + 1)) (range_with_len i k)) ≤ k * g.count
rows_short g i zero = omega arith
rows_short g i (suc k) =
    let rest = rows_short g (i + 1) k in
    let f = filter_short (g.joins i) (range_with_len (i + 1) (g.count - (i + 1))) in
    let l = range_length (i + 1) (g.count - (i + 1)) in
    let m = length-map {B = ℕ × ℕ} (filter (g.joins i) (range_with_len (i + 1) (g.count - (i + 1)))) (λ (b : ℕ). (i, b)) in
    let s = length-append (row_from g i (i + 1)) (flat_map (λ a. row_from g a (a + 1)) (range_with_len (i + 1) k)) in
    omega (arith, rest, f, l, m, s)

pub edges_short : (g : Graph) → g.count ≤ 16384 → length (edges_of g) ≤ 268435456
edges_short g h =
    let s = rows_short g 0 (g.count - 0) in
    let z : g.count - 0 ≡ g.count = omega arith in
    let q : (g.count - 0) * g.count ≡ g.count * g.count = ap (λ (k : ℕ). k * g.count) z in
    let a = mul-le-mul_left g.count h in
    omega (arith, s, q, a, ap (λ (es : List (ℕ × ℕ)). length es) (edges_by_rows g))

pub end_inside : (g : Graph) (simple : IsSimpleGraph g) (i j : ℕ) → g.joins i j ≡ true → j < g.count
end_inside g simple i j e = elim (cases_lt j g.count) [
  | inl lt ↦ lt
  | inr ge ↦ let f = joins_no_other g simple i j ge in absurd (grind (arith, e, f))
]
