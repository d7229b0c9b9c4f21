-- The neighbours of all nodes in one list.
use Rattle.std.proofs.Common.{◌≡◌, ℕ, zero, suc, ◌+◌, ◌-◌, ◌*◌, ◌^◌, ◌<◌, ◌≤◌, Bool, true, false, cond, List, [], ◌∷◌, ◌++◌, All, length, get_or, map, refl, sym, ap, ◌∙◌, arith, subst}
use Rattle.std.specs.List.{filter, flat_map, range_with_len}
use Rattle.std.proofs.lemmas.List.{append_assoc, append-nil, take_at, drop_at, length-append}
use Rattle.std.proofs.lemmas.List.Elements.{All-append, All-nil, All-cons, All-filter}
use Rattle.std.proofs.lemmas.List.Concat.{flat_map-append}
use Rattle.std.proofs.lemmas.List.FromFn.{length-map-range_with_len, get_or-map-range_with_len, map-range_with_len_more}
use Rattle.graph_spec.specs.Graphs.{Graph, IsSimpleGraph}
use Rattle.vga_grid.specs.Rows.{bit_of, width}
use Rattle.vga_grid.proofs.EdgeLists.{filter_none}
use Rattle.walk_spec.specs.Walks.{neighbours_of}
use Rattle.walk_core.specs.Lists.{Lists, AreLists, listed, nodes_of_row}
use Rattle.walk_core.proofs.Bits.{filter_same, filter_split}

-- ---- a row holds the neighbours of its node
pub row_is : (g : Graph) (i : ℕ) (row : List ℕ) → IsSimpleGraph g → length row ≡ width g.count → ((j : ℕ) → bit_of row j ≡ g.joins i j)
    → nodes_of_row row ≡ neighbours_of g i
row_is g i row simple sized bits =
    let e : 64 * length row ≡ g.count + (64 * length row - g.count) = omega (arith, sized) in
    let s = filter_split (bit_of row) 0 g.count (64 * length row - g.count) in
    let none = filter_none (bit_of row) (0 + g.count) (64 * length row - g.count) (λ k lo hi. bits k ∙ not_joined k (omega (arith, lo))) in
    let same = filter_same (bit_of row) (g.joins i) 0 g.count (λ x lo hi. bits x) in
    ap (λ (n : ℕ). filter (bit_of row) (range_with_len 0 n)) e ∙ s ∙ ap (λ xs. filter (bit_of row) (range_with_len 0 g.count) ++ xs) none
    ∙ append-nil (filter (bit_of row) (range_with_len 0 g.count)) ∙ same
  where
    not_joined : (k : ℕ) → g.count ≤ k → g.joins i k ≡ false
    not_joined k ge = by (g.joins i k) refl
      where
        by : (b : Bool) → g.joins i k ≡ b → g.joins i k ≡ false
        by false e = e
        by true e = let f = simple.on_nodes i k e in absurd (omega (arith, f.1, ge))

-- ---- neighbours are nodes, and not too many
below : (a n m : ℕ) → a + n ≤ m → All (λ v. v < m) (range_with_len a n)
below a zero m h = All-nil (λ v. v < m)
below a (suc n) m h = All-cons (λ v. v < m) a (range_with_len (a + 1) n) (omega (arith, h)) (below (a + 1) n m (omega (arith, h)))

all_below : (p : ℕ → Bool) (a n m : ℕ) → a + n ≤ m → All (λ v. v < m) (filter p (range_with_len a n))
all_below p a n m h = All-filter p (λ v. v < m) (range_with_len a n) (below a n m h)

pub neighbours_below : (g : Graph) (i : ℕ) → All (λ v. v < g.count) (neighbours_of g i)
neighbours_below g i = all_below (g.joins i) 0 g.count g.count (omega arith)

filter_short : (p : ℕ → Bool) (a n : ℕ) → length (filter p (range_with_len a n)) ≤ n
filter_short p a zero = omega arith
filter_short p a (suc n) = by (p a) (filter p (range_with_len (a + 1) n)) (filter_short p (a + 1) n)
  where
    by : (b : Bool) (xs : List ℕ) → length xs ≤ n → length (cond b (a ∷ xs) xs) ≤ suc n
    by true xs h = omega (arith, h)
    by false xs h = omega (arith, h)

-- ---- those of the first nodes, one after another
abbrev pub all_near : Graph → ℕ → List ℕ
all_near g n = flat_map (neighbours_of g) (range_with_len 0 n)

abbrev pub firsts_of : Graph → ℕ → List ℕ
firsts_of g n = map (λ i. length (all_near g i)) (range_with_len 0 n)

-- the lists of the first nodes are made
pub record Making (g : Graph) (n : ℕ) (near firsts : List ℕ) : Type 0 where
  pub made : near ≡ all_near g n
  pub placed : firsts ≡ firsts_of g (n + 1)

range_split : (a m n : ℕ) → range_with_len a (m + n) ≡ range_with_len a m ++ range_with_len (a + m) n
range_split a zero n =
    let x : zero + n ≡ n = omega arith in
    let y : a + zero ≡ a = omega arith in
    rw (x, y) refl
range_split a (suc m) n =
    let x : suc m + n ≡ suc (m + n) = omega arith in
    let y : a + 1 + m ≡ a + suc m = omega arith in
    let r = range_split (a + 1) m n in
    rw x (ap (λ xs. a ∷ xs) (rw y at r))

near_split : (g : Graph) (m n : ℕ) → all_near g (m + n) ≡ all_near g m ++ flat_map (neighbours_of g) (range_with_len m n)
near_split g m n =
    let z : 0 + m ≡ m = omega arith in
    let s = range_split 0 m n in
    ap (flat_map (neighbours_of g)) (rw z at s) ∙ flat_map-append (neighbours_of g) (range_with_len 0 m) (range_with_len m n)

pub near_next : (g : Graph) (n : ℕ) → all_near g (n + 1) ≡ all_near g n ++ neighbours_of g n
near_next g n = near_split g n 1 ∙ ap (λ xs. all_near g n ++ xs) (append-nil (neighbours_of g n))

pub near_short : (g : Graph) (n : ℕ) → g.count ≤ 16384 → length (all_near g n) ≤ n * 16384
near_short g zero h = omega arith
near_short g (suc n) h =
    let e : suc n ≡ n + 1 = omega arith in
    let len = ap length (near_next g n) ∙ length-append (all_near g n) (neighbours_of g n) in
    let few = filter_short (g.joins n) 0 g.count in
    subst (λ (k : ℕ). length (all_near g k) ≤ k * 16384) (sym e) (omega (arith, len, few, near_short g n h, h))

near_below : (g : Graph) (n : ℕ) → All (λ v. v < g.count) (all_near g n)
near_below g zero = All-nil (λ v. v < g.count)
near_below g (suc n) =
    let e : suc n ≡ n + 1 = omega arith in
    let both = All-append (λ v. v < g.count) (all_near g n) (neighbours_of g n) (near_below g n) (neighbours_below g n) in
    subst (λ (k : ℕ). All (λ v. v < g.count) (all_near g k)) (sym e) (subst (λ (xs : List ℕ). All (λ v. v < g.count) xs) (sym (near_next g n)) both)

pub making_begins : (g : Graph) → Making g 0 [] (0 ∷ [])
making_begins g = record { made = refl; placed = refl }

pub making_goes : (g : Graph) (n : ℕ) (row near firsts now after : List ℕ) → Making g n near firsts → nodes_of_row row ≡ neighbours_of g n
    → now ≡ near ++ nodes_of_row row → after ≡ firsts ++ length now ∷ [] → Making g (n + 1) now after
making_goes g n row near firsts now after m is pushed put =
    let made : now ≡ all_near g (n + 1) = pushed ∙ ap (λ xs. xs ++ nodes_of_row row) m.made ∙ ap (λ xs. all_near g n ++ xs) is ∙ sym (near_next g n) in
    record {
      made = made;
      placed = put ∙ ap (λ xs. xs ++ length now ∷ []) m.placed ∙ ap (λ xs. firsts_of g (n + 1) ++ length xs ∷ []) made
          ∙ sym (map-range_with_len_more (λ i. length (all_near g i)) 0 (n + 1) (n + 1) (omega arith));
    }

pub near_in_range : (g : Graph) (n : ℕ) (near : List ℕ) → g.count ≤ 16384 → n < g.count → near ≡ all_near g (n + 1) → length near < 2 ^ 32
near_in_range g n near h lt e = omega (arith, ap length e, near_short g (n + 1) h, lt, h)

-- ---- all are made
module _ (g : Graph) (near firsts : List ℕ) (few : g.count ≤ 16384) (m : Making g g.count near firsts) where
  lists : Lists
  lists = record { count = g.count; firsts = firsts; near = near }

  first_is : (i : ℕ) → i ≤ g.count → get_or firsts i 0 ≡ length (all_near g i)
  first_is i le = ap (λ xs. get_or xs i 0) m.placed ∙ get_or-map-range_with_len (λ k. length (all_near g k)) 0 (g.count + 1) i i 0 (omega (arith, le)) (omega arith)

  next_len : (i : ℕ) → length (all_near g (i + 1)) ≡ length (all_near g i) + length (neighbours_of g i)
  next_len i = ap length (near_next g i) ∙ length-append (all_near g i) (neighbours_of g i)

  within : (i : ℕ) → i ≤ g.count → length (all_near g i) ≤ length near
  within i le =
      let e : g.count ≡ i + (g.count - i) = omega (arith, le) in
      let s = ap (λ (n : ℕ). length (all_near g n)) e ∙ ap length (near_split g i (g.count - i)) ∙ length-append (all_near g i) (flat_map (neighbours_of g) (range_with_len i (g.count - i))) in
      omega (arith, s, ap length m.made)

  pub are_lists : AreLists (record { count = g.count; firsts = firsts; near = near })
  are_lists = record {
    sized = ap length m.placed ∙ length-map-range_with_len (λ i. length (all_near g i)) 0 (g.count + 1);
    order = λ i lt. omega (arith, first_is i (omega arith), first_is (i + 1) (omega arith), next_len i);
    within = λ i le. omega (arith, first_is i le, within i le);
    short = omega (arith, ap length m.made, near_short g g.count few, few);
    nodes = subst (λ (xs : List ℕ). All (λ v. v < g.count) xs) (sym m.made) (near_below g g.count);
  }

  pub listed_is : (i : ℕ) → i < g.count → listed (record { count = g.count; firsts = firsts; near = near }) i ≡ neighbours_of g i
  unfolding listed
  listed_is i lt =
      let a = first_is i (omega arith) in
      let b = first_is (i + 1) (omega arith) ∙ next_len i in
      let rest : List ℕ = flat_map (neighbours_of g) (range_with_len (i + 1) (g.count - (i + 1))) in
      let e : g.count ≡ i + 1 + (g.count - (i + 1)) = omega (arith, lt) in
      let whole : near ≡ all_near g i ++ (neighbours_of g i ++ rest) =
      m.made ∙ ap (all_near g) e ∙ near_split g (i + 1) (g.count - (i + 1)) ∙ ap (λ xs. xs ++ rest) (near_next g i)
      ∙ append_assoc (all_near g i) (neighbours_of g i) rest in
      let n : length (all_near g i) + length (neighbours_of g i) - length (all_near g i) ≡ length (neighbours_of g i) = omega arith in
      rw (a, b, whole, n, drop_at (all_near g i) (neighbours_of g i ++ rest) (length (all_near g i)) refl) (take_at (neighbours_of g i) rest (length (neighbours_of g i)) refl)
