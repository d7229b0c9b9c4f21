-- The graph, row by row: of each row the pairs that are near are looked at, and those that meet are joined.
use Rattle.std.proofs.Common.{◌≡◌, ◌≢◌, refl, sym, ap, ◌∙◌, subst, arith, ℕ, zero, suc, ◌+◌, ◌-◌, ◌<◌, ◌≤◌, Bool, true, false, List, [], ◌∷◌, ◌++◌, length, map, take, get_or, inl, inr, ◌⊎◌, pos}
use Rattle.std.specs.Prelude.{All, ◌&&◌, ◌||◌, ◌==◌, not, nat_lt, filter, if◌then◌else◌}
use Rattle.std.specs.List.{range_with_len}
use Rattle.std.proofs.lemmas.Bool.{cases_Bool, cases_eq, cases_lt, eq-eqb, ne_eqb, lt-ltb, le-ltb}
use Rattle.std.proofs.lemmas.List.{get_or-map, get_or_default, take_more, length-map}
use Rattle.std.proofs.lemmas.List.Elements.{filter-append, All-filter, All-get_or}
use Rattle.std.proofs.lemmas.List.Folds.{list_any-append}
use Rattle.graph_spec.specs.Graphs.{Graph, IsSimpleGraph}
use Rattle.graph_laws.proofs.Agreeing.{all_in_range}
use Rattle.graph_laws.proofs.SameGraphs.{same_simple_graphs}
use Rattle.map_laws.proofs.SimpleGraphs.{crossing_graph_is_simple}
use Rattle.sight_spec.specs.Scene.{Scene}
use Rattle.sight_spec.specs.Axial.{AxialLine, IsLineOf, crossing_graph, line_of_number, no_line}
use Rattle.sight_core.specs.Scenes.{IsOfSoundPlan}
use Rattle.vga_grid.specs.Rows.{is_pair}
use Rattle.meet_laws.specs.Stretches.{Stretch}
use Rattle.line_graph.specs.declared.extents.Extent.{Extent}
use Rattle.line_graph.specs.Extents.{extent_of, are_near}
use Rattle.line_graph.specs.Measured.{IsMeasured}
use Rattle.line_graph.specs.Rows.{AreColumns, AreMeasured, are_near_at, do_meet_at, has_number, near_below, no_extent}
use Rattle.line_graph.specs.Stretches.{stretch_of}
use Rattle.line_graph.proofs.Apart.{apart_dont_meet}
use Rattle.line_graph.proofs.Lines.{line_is_through}
use Rattle.line_graph.proofs.Stretches.{line_is_measured}

-- ---- stretches of lines

pub all_measured : (scene : Scene) (lines : List AxialLine) → IsOfSoundPlan scene → All (IsLineOf scene) lines
    → AreMeasured (map (stretch_of scene) lines) lines
all_measured scene lines sound all = record {
  sized = length-map lines (stretch_of scene);
  each = λ k s l below s_is l_is.
      let of_scene = All-get_or (IsLineOf scene) lines k l below all in
      let line : get_or lines k l ≡ l = sym l_is in
      let stretch : s ≡ stretch_of scene l =
      s_is ∙ get_or-map (stretch_of scene) lines k l s below ∙ ap (stretch_of scene) line in
      subst (λ z. IsMeasured z l) (sym stretch)
      (line_is_measured scene l sound (line_is_through scene sound l (subst (IsLineOf scene) line of_scene)));
}

-- ---- numbers in a range

range_push : (a n : ℕ) → range_with_len a (n + 1) ≡ range_with_len a n ++ (a + n) ∷ []
range_push a zero = ap (λ x. x ∷ []) (omega arith)
range_push a (suc n) =
    ap (range_with_len a) (flipped n)
    ∙ ap (λ r. a ∷ r) (range_push (a + 1) n ∙ ap (λ x. range_with_len (a + 1) n ++ x ∷ []) (moved a n))
  where
    flipped : (n : ℕ) → suc n + 1 ≡ suc (n + 1)
    flipped n = omega arith

    moved : (a n : ℕ) → a + 1 + n ≡ a + suc n
    moved a n = omega arith

filter_one : {X : Type 0} (p : X → Bool) (x : X) → filter p (x ∷ []) ≡ (if p x then x ∷ [] else [])
filter_one p x = refl

-- ---- the near ones of a row

-- one more number is looked at
pub filter_more : (test : ℕ → Bool) (i j : ℕ) → i < j
    → filter test (range_with_len (i + 1) (j + 1 - (i + 1)))
    ≡ filter test (range_with_len (i + 1) (j - (i + 1))) ++ (if test j then j ∷ [] else [])
filter_more test i j rises =
    let left = j - (i + 1) in
    ap (λ n. filter test (range_with_len (i + 1) n)) (one_longer i j rises)
    ∙ ap (filter test) (range_push (i + 1) left)
    ∙ filter-append test (range_with_len (i + 1) left) ((i + 1 + left) ∷ [])
    ∙ ap (λ k. filter test (range_with_len (i + 1) left) ++ (if test k then k ∷ [] else [])) (last i j rises)
  where
    one_longer : (i j : ℕ) → i < j → j + 1 - (i + 1) ≡ j - (i + 1) + 1
    one_longer i j rises = omega arith

    last : (i j : ℕ) → i < j → i + 1 + (j - (i + 1)) ≡ j
    last i j rises = omega arith

-- before the first number none is listed
pub filter_begun : (test : ℕ → Bool) (i : ℕ) → filter test (range_with_len (i + 1) (i + 1 - (i + 1))) ≡ []
filter_begun test i = ap (λ n. filter test (range_with_len (i + 1) n)) (none i)
  where
    none : (i : ℕ) → i + 1 - (i + 1) ≡ 0
    none i = omega arith

-- the extent of a number, by its sides
pub extent_by_sides : (left right below above : List ℕ) (extents : List Extent)
    → AreColumns left right below above extents → (j : ℕ) → j < length extents
    → record { left = get_or left j 0; right = get_or right j 0; below = get_or below j 0; above = get_or above j 0 }
    ≡ get_or extents j no_extent
extent_by_sides left right below above extents h j below_end =
    rw (
      h.left,
      h.right,
      h.below,
      h.above,
      get_or-map (λ e. e.left) extents j no_extent 0 below_end,
      get_or-map (λ e. e.right) extents j no_extent 0 below_end,
      get_or-map (λ e. e.below) extents j no_extent 0 below_end,
      get_or-map (λ e. e.above) extents j no_extent 0 below_end,
    ) refl

-- what stands at the front after one more
pub front_more : (near after : List ℕ) (count j : ℕ) (hit : Bool) (front : List ℕ) → take count near ≡ front
    → take count after ≡ take count near → take (count + 1) after ≡ take count near ++ j ∷ []
    → take (count + (if hit then 1 else 0)) after ≡ front ++ (if hit then j ∷ [] else [])
front_more near after count j true front e f g = g ∙ ap (λ r. r ++ j ∷ []) e
front_more near after count j false front e f g =
    ap (λ n. take n after) (same count) ∙ f ∙ e ∙ sym (nothing front)
  where
    same : (n : ℕ) → n + 0 ≡ n
    same n = omega arith

    nothing : (xs : List ℕ) → xs ++ [] ≡ xs
    nothing [] = refl
    nothing (x ∷ xs) = ap (λ r. x ∷ r) (nothing xs)

-- ---- which numbers are listed

-- one more number in front
listed_more : (test : ℕ → Bool) (a n b : ℕ)
    → has_number (filter test (range_with_len (a + 1) n)) b
    ≡ ((not (nat_lt b (a + 1)) && nat_lt b (a + 1 + n)) && test b)
    → has_number (filter test (range_with_len a (suc n))) b ≡ ((not (nat_lt b a) && nat_lt b (a + suc n)) && test b)
listed_more test a n b rest = elim (cases_eq a b) [
  | inl same ↦ with_here (test a) refl same
  | inr apart ↦ with_there (test a) apart
]
  where
    others : Bool
    others = has_number (filter test (range_with_len (a + 1) n)) b

    or_false : (t : Bool) → t || false ≡ t
    or_false true = refl
    or_false false = refl

    here : (t : Bool) → test a ≡ t → a ≡ b
        → (t || others) ≡ ((not (nat_lt b a) && nat_lt b (a + suc n)) && test b)
    here t e same =
        let past : others ≡ false = rest ∙ rw (lt-ltb b (a + 1) (omega (arith, same))) refl in
        let tested : test b ≡ t = sym (ap test same) ∙ e in
        rw (past, le-ltb b a (omega (arith, same)), lt-ltb b (a + suc n) (omega (arith, same)), tested) (or_false t)

    same_end : a + 1 + n ≡ a + suc n
    same_end = omega arith

    same_low : a ≢ b → not (nat_lt b (a + 1)) ≡ not (nat_lt b a)
    same_low apart = elim (cases_lt b a) [
      | inl less ↦ rw (lt-ltb b a less, lt-ltb b (a + 1) (omega (arith, less))) refl
      | inr more ↦ rw (le-ltb b a more, le-ltb b (a + 1) (omega (arith, more, apart))) refl
    ]

    there : a ≢ b → others ≡ ((not (nat_lt b a) && nat_lt b (a + suc n)) && test b)
    there apart =
        rest ∙ ap (λ t. (t && nat_lt b (a + 1 + n)) && test b) (same_low apart)
        ∙ ap (λ (k : ℕ). (not (nat_lt b a) && nat_lt b k) && test b) same_end

    with_here : (t : Bool) → test a ≡ t → a ≡ b
        → has_number
        (if t then a ∷ filter test (range_with_len (a + 1) n) else filter test (range_with_len (a + 1) n)) b
        ≡ ((not (nat_lt b a) && nat_lt b (a + suc n)) && test b)
    with_here true e same = ap (λ t. t || others) (eq-eqb a b same) ∙ here true e same
    with_here false e same = here false e same

    with_there : (t : Bool) → a ≢ b
        → has_number
        (if t then a ∷ filter test (range_with_len (a + 1) n) else filter test (range_with_len (a + 1) n)) b
        ≡ ((not (nat_lt b a) && nat_lt b (a + suc n)) && test b)
    with_there true apart = ap (λ t. t || others) (ne_eqb a b apart) ∙ there apart
    with_there false apart = there apart

-- a number is among those that pass if it is in the range and passes
listed : (test : ℕ → Bool) (a n b : ℕ)
    → has_number (filter test (range_with_len a n)) b ≡ ((not (nat_lt b a) && nat_lt b (a + n)) && test b)
listed test a zero b = elim (cases_lt b a) [
  | inl less ↦ rw (lt-ltb b a less) refl
  | inr more ↦ rw (le-ltb b a more, le-ltb b (a + 0) (omega (arith, more))) refl
]
listed test a (suc n) b = listed_more test a n b (listed test (a + 1) n b)

-- of the numbers after i, the near ones are listed
pub near_listed : (extents : List Extent) (i n b : ℕ) → i < b → i < n
    → has_number (near_below extents i n) b ≡ (nat_lt b n && are_near_at extents i b)
near_listed extents i n b above within =
    listed (are_near_at extents i) (i + 1) (n - (i + 1)) b
    ∙ ap (λ t. (not t && nat_lt b (i + 1 + (n - (i + 1)))) && are_near_at extents i b) (le-ltb b (i + 1) (omega arith))
    ∙ ap (λ k. nat_lt b k && are_near_at extents i b) (last i n within)
  where
    last : (i n : ℕ) → i < n → i + 1 + (n - (i + 1)) ≡ n
    last i n within = omega arith

-- a number that is listed comes after i, and below the end
record IsPast (i n k : ℕ) : Type 0 where
  after : i < k
  before : k < n

pub near_past : (extents : List Extent) (i n m : ℕ) → i < n → m < length (near_below extents i n)
    → (i < get_or (near_below extents i n) m 0) × (get_or (near_below extents i n) m 0 < n)
near_past extents i n m within below =
    let all = All-filter (are_near_at extents i) (IsPast i n) (range_with_len (i + 1) (n - (i + 1)))
    (all_in_range (IsPast i n) (i + 1) (n - (i + 1))
    (λ k low high. record { after = omega arith; before = omega (arith, high, within) })) in
    let here = All-get_or (IsPast i n) (near_below extents i n) m 0 below all in
    (here.after, here.before)

-- ---- one more of a row

pub has_more : (near : List ℕ) (m k b : ℕ) → m < length near → k ≡ get_or near m 0
    → has_number (take (m + 1) near) b ≡ (has_number (take m near) b || (k == b))
has_more near m k b below here =
    ap (λ xs. has_number xs b) (take_more near m 0 below ∙ ap (λ z. take m near ++ z ∷ []) (sym here))
    ∙ list_any-append (λ n. n == b) (take m near) (k ∷ [])
    ∙ ap (λ t. has_number (take m near) b || t) (or_nothing (k == b))
  where
    or_nothing : (t : Bool) → t || false ≡ t
    or_nothing true = refl
    or_nothing false = refl

-- k is joined to i, or not, and is then one of those looked at
module _ (meets : ℕ → Bool) (i k a b : ℕ) (rises : i < k) (up : a < b) where
  turned_pair : (a == k && b == i) ≡ false
  turned_pair = elim (cases_eq a k) [
    | inl e ↦ let n : b ≢ i = λ f. omega (arith, e, f, rises, up) in rw (ne_eqb b i n) (and_false (a == k))
    | inr n ↦ rw (ne_eqb a k n) refl
  ]
    where
      and_false : (t : Bool) → t && false ≡ false
      and_false true = refl
      and_false false = refl

  pub joined_more : (before now first was : Bool) → meets k ≡ true → was ≡ (before || (a == i && (first && meets b)))
      → now ≡ (was || is_pair i k a b)
      → now ≡ (before || (a == i && ((first || (k == b)) && meets b)))
  joined_more before now first was hit was_is now_is = elim (cases_eq k b) [
    | inl same ↦
        let met : meets b ≡ true = sym (ap meets same) ∙ hit in
        now_is ∙ rw (was_is, turned_pair, met, eq-eqb k b same, eq-eqb b k (sym same)) (all before first (a == i))
    | inr apart ↦
        now_is
        ∙ rw (was_is, turned_pair, ne_eqb k b apart, ne_eqb b k (λ e. apart (sym e)))
        (none before first (a == i) (meets b))
  ]
    where
      all : (before first here : Bool)
          → ((before || (here && (first && true))) || ((here && true) || false))
          ≡ (before || (here && ((first || true) && true)))
      all true first here = refl
      all false true true = refl
      all false true false = refl
      all false false true = refl
      all false false false = refl

      none : (before first here met : Bool)
          → ((before || (here && (first && met))) || ((here && false) || false))
          ≡ (before || (here && ((first || false) && met)))
      none true first here met = refl
      none false true true true = refl
      none false true true false = refl
      none false true false met = refl
      none false false true met = refl
      none false false false met = refl

  pub passed_more : (before first was : Bool) → meets k ≡ false → was ≡ (before || (a == i && (first && meets b)))
      → was ≡ (before || (a == i && ((first || (k == b)) && meets b)))
  passed_more before first was miss was_is = elim (cases_eq k b) [
    | inl same ↦
        let missed : meets b ≡ false = sym (ap meets same) ∙ miss in
        was_is ∙ rw missed (none first (a == i) (k == b))
    | inr apart ↦ was_is ∙ rw (ne_eqb k b apart) (same first)
  ]
    where
      and_false : (t : Bool) → t && false ≡ false
      and_false true = refl
      and_false false = refl

      none : (first here new : Bool)
          → (before || (here && (first && false))) ≡ (before || (here && ((first || new) && false)))
      none first here new = ap (λ t. before || (here && t)) (and_false first ∙ sym (and_false (first || new)))

      same : (first : Bool) → (before || (a == i && (first && meets b)))
          ≡ (before || (a == i && ((first || false) && meets b)))
      same true = refl
      same false = refl

-- ---- the rows of the graph

-- two lines that aren't near don't meet
near_first : (stretches : List Stretch) (lines : List AxialLine) → AreMeasured stretches lines → (i j : ℕ)
    → i < length lines → j < length lines
    → are_near_at (map extent_of lines) i j ≡ false → do_meet_at lines i j ≡ false
near_first stretches lines measured i j i_in j_in apart =
    apart_dont_meet (stretch_at i) (stretch_at j) (line_of_number lines i) (line_of_number lines j)
    (measured_at i i_in) (measured_at j j_in)
    (ap (λ e. are_near e (extent_of (line_of_number lines j))) (extent_at i i_in)
    ∙ ap (are_near (get_or (map extent_of lines) i no_extent)) (extent_at j j_in)
    ∙ apart)
  where
    none : Stretch
    none = get_or stretches 0 (record {
      p = record { x = pos 0; y = pos 0 };
      d = record { x = pos 0; y = pos 0 };
      from = record { num = pos 0; den = pos 0 };
      to = record { num = pos 0; den = pos 0 };
    })

    stretch_at : ℕ → Stretch
    stretch_at k = get_or stretches k none

    measured_at : (k : ℕ) → k < length lines → IsMeasured (stretch_at k) (line_of_number lines k)
    measured_at k below =
        measured.each k (stretch_at k) (line_of_number lines k) below
        (get_or_default stretches k none (stretch_at k) (omega (arith, measured.sized, below)))
        (get_or_default lines k no_line (line_of_number lines k) below)

    extent_at : (k : ℕ) → k < length lines
        → extent_of (line_of_number lines k) ≡ get_or (map extent_of lines) k no_extent
    extent_at k below = sym (get_or-map extent_of lines k no_line no_extent below)

-- after a row of the graph that row is done
pub row_done : (stretches : List Stretch) (lines : List AxialLine) → AreMeasured stretches lines → (i a b : ℕ)
    → a < b → i < length lines
    → (((crossing_graph lines).joins a b && nat_lt a i)
    || (a == i && (has_number (near_below (map extent_of lines) i (length lines)) b && do_meet_at lines i b)))
    ≡ ((crossing_graph lines).joins a b && nat_lt a (i + 1))
unfolding crossing_graph
row_done stretches lines measured i a b up i_in = elim (cases_eq a i) [
  | inl here ↦
      rw (
        le-ltb a i (omega (arith, here)),
        lt-ltb a (i + 1) (omega (arith, here)),
        eq-eqb a i here,
        near_listed (map extent_of lines) i (length lines) b (omega (arith, here, up)) i_in,
        lt-ltb a (length lines) (omega (arith, here, i_in)),
        ne_eqb a b (λ e. omega (arith, e, up)),
      )
      (this_row here (cases_lt b (length lines)))
  | inr other ↦
      rw (ne_eqb a i other) (other_row _ (nat_lt a i) (nat_lt a (i + 1)) (same_below other))
]
  where
    same_below : (a ≡ i → ⊥) → nat_lt a i ≡ nat_lt a (i + 1)
    same_below other = elim (cases_lt a i) [
      | inl less ↦ rw (lt-ltb a i less, lt-ltb a (i + 1) (omega arith)) refl
      | inr more ↦ rw (le-ltb a i more, le-ltb a (i + 1) (omega (arith, more, other))) refl
    ]

    other_row : (x y z : Bool) → y ≡ z → ((x && y) || false) ≡ (x && z)
    other_row true true z e = e
    other_row true false z e = e
    other_row false y z e = refl

    met : a ≡ i → do_meet_at lines a b ≡ do_meet_at lines i b
    met here = ap (λ (k : ℕ). do_meet_at lines k b) here

    both : (m near : Bool) → (near ≡ false → m ≡ false) → ((m && false) || (near && m)) ≡ (m && true)
    both true true h = refl
    both true false h = sym (h refl)
    both false true h = refl
    both false false h = refl

    this_row : a ≡ i → (b < length lines) ⊎ (length lines ≤ b)
        → ((((true && nat_lt b (length lines)) && true) && do_meet_at lines a b) && false
        || (true && ((nat_lt b (length lines) && are_near_at (map extent_of lines) i b) && do_meet_at lines i b)))
        ≡ ((((true && nat_lt b (length lines)) && true) && do_meet_at lines a b) && true)
    this_row here (inl below) =
        rw (met here, lt-ltb b (length lines) below)
        (both (do_meet_at lines i b) (are_near_at (map extent_of lines) i b)
        (λ e. near_first stretches lines measured i b i_in below e))
    this_row here (inr past) = rw (le-ltb b (length lines) past) refl

-- ---- the whole graph

count_is : (lines : List AxialLine) → (crossing_graph lines).count ≡ length lines
unfolding crossing_graph
count_is lines = refl

-- when all rows are done
pub rows_ended : (lines : List AxialLine) (i a b : ℕ) → length lines ≤ i
    → ((crossing_graph lines).joins a b && nat_lt a i) ≡ (crossing_graph lines).joins a b
rows_ended lines i a b past = elim (cases_Bool ((crossing_graph lines).joins a b)) [
  | inl joined ↦
      let below = (crossing_graph_is_simple lines).on_nodes a b joined in
      let nodes = count_is lines in
      rw (joined, lt-ltb a i (omega (arith, below.0, past, nodes))) refl
  | inr apart ↦ rw apart refl
]

-- a simple graph that joins the pairs that meet, each with its smaller number first, is the crossing graph
pub graph_is : (lines : List AxialLine) (graph : Graph) → IsSimpleGraph graph → graph.count ≡ length lines
    → ((a b : ℕ) → a < b → graph.joins a b ≡ (crossing_graph lines).joins a b) → graph ≡ crossing_graph lines
graph_is lines graph simple nodes joins =
    same_simple_graphs graph (crossing_graph lines) simple (crossing_graph_is_simple lines)
    (record { count = nodes ∙ sym (count_is lines); joins = λ a b below_a below_b. same a b })
  where
    same : (a b : ℕ) → graph.joins a b ≡ (crossing_graph lines).joins a b
    same a b = elim (cases_eq a b) [
      | inl e ↦
          ap (graph.joins a) (sym e) ∙ simple.loopless a
          ∙ sym (ap ((crossing_graph lines).joins a) (sym e) ∙ (crossing_graph_is_simple lines).loopless a)
      | inr n ↦ elim (cases_lt a b) [
        | inl up ↦ joins a b up
        | inr down ↦
            simple.symmetric a b ∙ joins b a (omega (arith, down, n)) ∙ (crossing_graph_is_simple lines).symmetric b a
      ]
    ]

-- before the first row nothing is joined
pub rows_begun : (lines : List AxialLine) (a b : ℕ) → false ≡ ((crossing_graph lines).joins a b && nat_lt a 0)
rows_begun lines a b = rw (le-ltb a 0 (omega arith)) (nothing ((crossing_graph lines).joins a b))
  where
    nothing : (t : Bool) → false ≡ t && false
    nothing true = refl
    nothing false = refl
