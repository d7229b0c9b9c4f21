-- The last seat, once it was told that no row is left, closes with the new graph.
use Rattle.std.proofs.Common.{◌≡◌, ◌≢◌, ℕ, zero, suc, ◌+◌, ◌-◌, ◌*◌, ◌/◌, ◌%◌, ◌<◌, ◌≤◌, ◌^◌, ◌&&◌, ◌==◌, nat_lt, List, [], ◌∷◌, length, Bool, true, false, true≢false, cond, refl, sym, ap, ◌∙◌, subst, ◌⊎◌, inl, inr, arith, slice_index, Some, None}
use Rattle.std.specs.List.{sum_by}
use Rattle.std.specs.Int.{bit_at}
use Rattle.std.proofs.lemmas.List.Sums.{sum_by-cons}
use Rattle.std.proofs.lemmas.Nat.{div-mul-add, mod-mul-add, div-add-mod'}
use mathlib.Core.Option.{some, some-injective, some-ne-none}
use lib.ListN.{get_elem?}
use Rattle.atomic_table.specs.Table.{State}
use Rattle.vga_fill.specs.declared.events.View.{View}
use Rattle.graph_spec.specs.Graphs.{IsSimpleGraph}
use Rattle.vga_grid.specs.Rows.{width, graph_of}
use Rattle.vga_fill.specs.Places.{size, word_of, row_at, node_at, digit, bit_of}
use Rattle.vga_fill.specs.Views.{times, wrote}
use Rattle.vga_fill.specs.Filling.{Shows, Counts, Kept}
use Rattle.vga_fill.specs.Graphs.{was_joined, is_edge_of, is_to_join, is_one, Rule}
use Rattle.vga_fill.specs.DoneRows.{IsDone, AreDone}
use Rattle.vga_fill.specs.declared.events.Task.{Task}
use Rattle.vga_fill.proofs.Keeping.{sum_most}
use Rattle.vga_fill.proofs.WordPlaces.{bit_of_place, word_within}
use Rattle.map_laws.proofs.SimpleGraphs.{visibility_graph_is_simple}
use Rattle.vga_grid.proofs.Covered.{are_joined}

-- ---- the last seat has claimed each row

sum_none : {A : Type 0} (f g : A → ℕ) (xs : List A) → sum_by g xs ≡ 0 → ((i : ℕ) (y : A) → get_elem? xs i ≡ some y → g y ≡ 0 → f y ≡ 0) → sum_by f xs ≡ 0
sum_none f g [] e h = refl
sum_none f g (x ∷ xs) e h =
    let here : f x ≡ 0 = h zero x refl (omega (arith, e, sum_by-cons g x xs)) in
    let there : sum_by f xs ≡ 0 = sum_none f g xs (omega (arith, e, sum_by-cons g x xs)) (λ i y at k. h (suc i) y at k) in
    omega (arith, here, there, sum_by-cons f x xs)

pub sum_only : {A : Type 0} (f g : A → ℕ) (xs : List A) (id : ℕ) (v : A) → get_elem? xs id ≡ some v → sum_by g xs ≡ g v → ((i : ℕ) (y : A) → get_elem? xs i ≡ some y → g y ≡ 0 → f y ≡ 0) → sum_by f xs ≡ f v
sum_only f g [] id v at e h = absurd (some-ne-none v (sym at))
sum_only f g (x ∷ xs) zero v at e h =
    let same = some-injective x v at in
    let there : sum_by f xs ≡ 0 = sum_none f g xs (omega (arith, e, ap g same, sum_by-cons g x xs)) (λ i y at k. h (suc i) y at k) in
    omega (arith, there, ap f same, sum_by-cons f x xs)
sum_only f g (x ∷ xs) (suc id) v at e h =
    let most = sum_most g xs id v at in
    let there : sum_by f xs ≡ f v = sum_only f g xs id v at (omega (arith, e, most, sum_by-cons g x xs)) (λ i y at k. h (suc i) y at k) in
    let here : f x ≡ 0 = h zero x refl (omega (arith, e, most, sum_by-cons g x xs)) in
    omega (arith, there, here, sum_by-cons f x xs)

times_none : (row : ℕ) (rows : List ℕ) → length rows ≡ 0 → times row rows ≡ 0
times_none row [] e = refl
times_none row (r ∷ rows) e = absurd (omega (arith, e))

claimed_once : (row c n x : ℕ) → x ≡ cond (nat_lt row c && nat_lt row n) 1 0 → n ≤ c → row < n → x ≡ 1
claimed_once row c n x e h k = grind arith

pub has_all : (n c : ℕ) (views : List View) (id : ℕ) (v : View) → Counts n c views → get_elem? views id ≡ some v → v.told ≡ true → v.tellings + v.passes ≡ 2 ^ 63 → (row : ℕ) → row < n → 0 < times row v.rows
has_all n c views id v counts at told last row h =
    let all = sum_only (λ v. times row v.rows) (λ v. v.tellings + v.passes) views id v at (counts.total ∙ sym last) (λ i y at' none. times_none row y.rows (none_held (length y.rows) (y.tellings + y.passes) (counts.held i y at') none)) in
    omega (arith, all, claimed_once row c n _ (counts.rows row) (counts.told id v at told) h)
  where
    none_held : (x y : ℕ) → (0 < x → 0 < y) → y ≡ 0 → x ≡ 0
    none_held zero y h e = refl
    none_held (suc x) y h e = absurd (omega (arith, e, h (omega arith)))

-- ---- each place is new

word_back : (n w b : ℕ) → 0 < w → b < 64 → word_of n ((w - 1) / width n) ((w - 1) % width n * 64 + b) ≡ w
word_back n w b some_w bn =
    let d : ((w - 1) % width n * 64 + b) / 64 ≡ (w - 1) % width n = div-mul-add ((w - 1) % width n) 64 b bn in
    let e : (w - 1) / width n * width n + (w - 1) % width n ≡ w - 1 = div-add-mod' (w - 1) (width n) in
    ap (λ z. 1 + (w - 1) / width n * width n + z) d ∙ sum_back _ _ w e some_w
  where
    sum_back : (x y w : ℕ) → x + y ≡ w - 1 → 0 < w → 1 + x + y ≡ w
    sum_back x y w e h = omega (arith, e, h)

bit_back : (n w b : ℕ) → b < 64 → ((w - 1) % width n * 64 + b) % 64 ≡ b
bit_back n w b bn = mod-mul-add ((w - 1) % width n) 64 b bn

both_true : (i j n : ℕ) → (nat_lt i n && nat_lt j n) ≡ true → (i < n) × (j < n)
both_true i j n e = (first i j n e, second i j n e)
  where
    first : (i j n : ℕ) → (nat_lt i n && nat_lt j n) ≡ true → i < n
    first i j n e = grind arith

    second : (i j n : ℕ) → (nat_lt i n && nat_lt j n) ≡ true → j < n
    second i j n e = grind arith

-- a place that is off the graph is 0 in each; another has what its pair has
bit_of_off : (f : ℕ → ℕ → Bool) (n w b : ℕ) → (nat_lt ((w - 1) / width n) n && nat_lt ((w - 1) % width n * 64 + b) n) ≡ false → bit_of f n w b ≡ 0
unfolding bit_of
bit_of_off f n w b e = ap (λ z. digit (z && f (row_at n w) (node_at n w b))) e

bit_of_on : (f : ℕ → ℕ → Bool) (n w b : ℕ) → (nat_lt ((w - 1) / width n) n && nat_lt ((w - 1) % width n * 64 + b) n) ≡ true → bit_of f n w b ≡ digit (f (row_at n w) (node_at n w b))
unfolding bit_of
bit_of_on f n w b e = ap (λ z. digit (z && f (row_at n w) (node_at n w b))) e

module _ (n : ℕ) (old new : ℕ → ℕ → Bool) (v : View)
    (loopless_old : (i : ℕ) → old i i ≡ false) (loopless_new : (i : ℕ) → new i i ≡ false)
    (symmetric_old : (i j : ℕ) → old i j ≡ old j i) (symmetric_new : (i j : ℕ) → new i j ≡ new j i)
    (done : (row : ℕ) → row < n → IsDone old new n v row) where
  -- a pair is the same in both graphs, or its place is written
  same_or_written : (i j : ℕ) → i < n → j < n → (old i j ≡ new i j) ⊎ (wrote v (word_of n i j) (j % 64) ≡ true)
  same_or_written i j h k =
      elim (same_or_not (old i j) (new i j)) [
        | inl e ↦ inl e
        | inr differ ↦ elim (order i j) [
          | inl p ↦ inr (done i h j p k differ).0
          | inr p ↦ elim p [
            | inl q ↦ inl (subst (λ z. old i z ≡ new i z) q (loopless_old i ∙ sym (loopless_new i)))
            | inr q ↦ inr (done j k i q h (λ e. differ (symmetric_old i j ∙ (e ∙ symmetric_new j i)))).1
          ]
        ]
      ]
    where
      same_or_not : (a b : Bool) → (a ≡ b) ⊎ (a ≢ b)
      same_or_not true true = inl refl
      same_or_not false false = inl refl
      same_or_not true false = inr true≢false
      same_or_not false true = inr (λ e. true≢false (sym e))

      order : (i j : ℕ) → (i < j) ⊎ ((i ≡ j) ⊎ (j < i))
      order zero zero = inr (inl refl)
      order zero (suc j) = inl (omega arith)
      order (suc i) zero = inr (inr (omega arith))
      order (suc i) (suc j) = elim (order i j) [ inl p ↦ inl (omega (arith, p)) | inr p ↦ elim p [ inl q ↦ inr (inl (ap suc q)) | inr q ↦ inr (inr (omega (arith, q))) ] ]

  pub all_new : (words : List ℕ) (views : List View) (id : ℕ) → get_elem? views id ≡ some v → Shows n (bit_of old n) (bit_of new n) words views
      → (w b : ℕ) → 0 < w → w < size n → b < 64 → bit_at (slice_index words w) b ≡ bit_of new n w b
  all_new words views id at shows w b some_w wn bn = elim (shows.either w b some_w wn bn) [ inl e ↦ e | inr e ↦ by (nat_lt ((w - 1) / width n) n && nat_lt ((w - 1) % width n * 64 + b) n) refl e ]
    where
      by : (t : Bool) → (nat_lt ((w - 1) / width n) n && nat_lt ((w - 1) % width n * 64 + b) n) ≡ t → bit_at (slice_index words w) b ≡ bit_of old n w b → bit_at (slice_index words w) b ≡ bit_of new n w b
      by false t e = e ∙ (bit_of_off old n w b t ∙ sym (bit_of_off new n w b t))
      by true t e =
          let i = (w - 1) / width n in
          let j = (w - 1) % width n * 64 + b in
          let on = both_true i j n t in
          elim (same_or_written i j on.0 on.1) [
            | inl p ↦ e ∙ (bit_of_on old n w b t ∙ (ap digit p ∙ sym (bit_of_on new n w b t)))
            | inr p ↦ shows.written id v at w b some_w wn bn (subst (λ z. wrote v z b ≡ true) (word_back n w b some_w bn) (subst (λ z. wrote v (word_of n i j) z ≡ true) (bit_back n w b bn) p))
          ]

pub closes : (n : ℕ) (old new : ℕ → ℕ → Bool) (s : State (Unit {0}) View) (id : ℕ) (v : View) → Kept n (bit_of old n) (bit_of new n) s → get_elem? s.views id ≡ some v
    → v.told ≡ true → v.tellings + v.passes ≡ 2 ^ 63 → AreDone old new n v None
    → ((i : ℕ) → old i i ≡ false) → ((i : ℕ) → new i i ≡ false) → ((i j : ℕ) → old i j ≡ old j i) → ((i j : ℕ) → new i j ≡ new j i)
    → (w b : ℕ) → 0 < w → w < size n → b < 64 → bit_at (slice_index s.words w) b ≡ bit_of new n w b
closes n old new s id v kept at told last done lo ln so sn =
    all_new n old new v lo ln so sn (λ row h. done row (has_all n (slice_index s.words 0) s.views id v kept.counts at told last row h) (λ e. absurd (none_some e))) s.words s.views id at kept.shows
  where
    none_some : {x : ℕ} → None ≡ Some x → ⊥
    none_some e = grind arith

-- the new graph joins no node to itself, and has no direction
pub is_to_join_simple : (k : Task) → ((i : ℕ) → is_to_join k i i ≡ false) × ((i j : ℕ) → is_to_join k i j ≡ is_to_join k j i)
unfolding is_edge_of
is_to_join_simple k = let simple = visibility_graph_is_simple k.after.value in (simple.loopless, simple.symmetric)

-- the place of two nodes is 1 exactly where the new graph joins them
pub closed_place : (k : Task) (n id : ℕ) (v : View) (s : State (Unit {0}) View) (words : List ℕ) → n ≡ k.count → IsSimpleGraph (graph_of k.old.value)
    → Rule k s → get_elem? s.views id ≡ some v → v.told ≡ true → v.tellings + v.passes ≡ 2 ^ 63 → AreDone (was_joined k) (is_to_join k) n v None
    → s.words ≡ words → (i j : ℕ) → i < n → j < n → is_one words n i j ≡ is_to_join k i j
closed_place k n id v s words count old holds at told last done same i j h l =
    let new = is_to_join_simple k in
    let kept : Kept n (bit_of (was_joined k) n) (bit_of (is_to_join k) n) s
    = subst (λ z. Kept z (bit_of (was_joined k) z) (bit_of (is_to_join k) z) s) (sym count) holds in
    let here = closes n (was_joined k) (is_to_join k) s id v kept at told last done old.loopless new.0 old.symmetric new.1
    (word_of n i j) (j % 64) (omega arith) (word_within n i j h l) (omega arith) in
    ap (λ z. bit_at (slice_index z (word_of n i j)) (j % 64) == 1) (sym same)
    ∙ ap (λ z. z == 1) (here ∙ bit_of_place (is_to_join k) n i j h l)
    ∙ digit_one (is_to_join k i j)
  where
    digit_one : (t : Bool) → (digit t == 1) ≡ t
    digit_one true = refl
    digit_one false = refl

pub closed_joined : (k : Task) (n id : ℕ) (v : View) (s : State (Unit {0}) View) (words : List ℕ) → n ≡ k.count → IsSimpleGraph (graph_of k.old.value)
    → Rule k s → get_elem? s.views id ≡ some v → v.told ≡ true → v.tellings + v.passes ≡ 2 ^ 63 → AreDone (was_joined k) (is_to_join k) n v None
    → s.words ≡ words → (i j : ℕ) → i < n → j < n → is_one words n i j ≡ are_joined k.after.value i j
unfolding is_edge_of
closed_joined = closed_place

-- ---- the words that are read

pub found : (xs : List ℕ) (x k : ℕ) → get_elem? xs k ≡ some x → slice_index xs k ≡ x
found [] x k e = absurd (some-ne-none x (sym e))
found (y ∷ xs) x zero e = some-injective y x e
found (y ∷ xs) x (suc k) e = found xs x k e
