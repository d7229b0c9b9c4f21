-- Each step keeps the rule.
use Rattle.std.proofs.Common.{◌≡◌, ℕ, zero, suc, ◌+◌, ◌<◌, ◌≤◌, ◌&&◌, ◌||◌, ◌==◌, min, max, List, [], ◌∷◌, length, set, Bool, true, false, refl, sym, ap, ◌∙◌, subst, true≢false, ◌⊎◌, inl, inr, arith, slice_index, slice_set, bit_and, bit_or}
use Rattle.std.specs.List.{sum_by}
use Rattle.std.specs.Int.{bit_at}
use Rattle.std.proofs.lemmas.List.{get_or-set_same, get_or-set_other, length-set}
use Rattle.std.proofs.lemmas.List.Sums.{sum_by-cons}
use Rattle.std.proofs.lemmas.Nat.Bits.{bit_at_and, bit_at_or, bit_at-lt}
use mathlib.Core.Option.{some, some-injective, some-ne-none}
use mathlib.Core.Logic.{dite}
use native.Mathlib.Decide.{ℕ_discrete}
use lib.ListN.{get_elem?}
use Rattle.atomic_table.specs.Table.{State}
use Rattle.atomic_table.proofs.Lists.{at_set}
use Rattle.vga_fill.specs.declared.events.View.{View}
use Rattle.vga_fill.specs.Places.{size}
use Rattle.vga_fill.specs.Views.{times, has, wrote, with_ones, with_zeros}
use Rattle.vga_fill.specs.Filling.{Shows, Counts, Kept}

-- ---- sums over views

pub sum_set : {A : Type 0} (f : A → ℕ) (xs : List A) (i : ℕ) (v w : A) → get_elem? xs i ≡ some v → sum_by f (set xs i w) + f v ≡ sum_by f xs + f w
sum_set f [] i v w e = absurd (some-ne-none v (sym e))
sum_set f (x ∷ xs) zero v w e = omega (arith, sum_by-cons f w xs, sum_by-cons f x xs, ap f (some-injective x v e))
sum_set f (x ∷ xs) (suc i) v w e = omega (arith, sum_by-cons f x (set xs i w), sum_by-cons f x xs, sum_set f xs i v w e)

pub sum_most : {A : Type 0} (f : A → ℕ) (xs : List A) (i : ℕ) (v : A) → get_elem? xs i ≡ some v → f v ≤ sum_by f xs
sum_most f [] i v e = absurd (some-ne-none v (sym e))
sum_most f (x ∷ xs) zero v e = omega (arith, sum_by-cons f x xs, ap f (some-injective x v e))
sum_most f (x ∷ xs) (suc i) v e = omega (arith, sum_by-cons f x xs, sum_most f xs i v e)

pub sum_same : {A : Type 0} (f : A → ℕ) (xs : List A) (i : ℕ) (v w : A) → get_elem? xs i ≡ some v → f w ≡ f v → sum_by f (set xs i w) ≡ sum_by f xs
sum_same f xs i v w e same = omega (arith, sum_set f xs i v w e, same)

-- ---- tests

pub or_true : (a b : Bool) → (a || b) ≡ true → (a ≡ true) ⊎ (b ≡ true)
or_true true b e = inl refl
or_true false b e = inr e

and_true : (a b : Bool) → (a && b) ≡ true → (a ≡ true) × (b ≡ true)
and_true true b e = (refl, e)
and_true false b e = absurd (true≢false (sym e))

eq_of : (x y : ℕ) → (x == y) ≡ true → x ≡ y
eq_of x y e = grind arith

-- ---- what a mask does to a bit

max_one : (x y z : ℕ) → z ≡ max x y → y ≡ 1 → x < 2 → z ≡ 1
max_one x y z e h k = omega arith

max_none : (x y z : ℕ) → z ≡ max x y → y ≡ 0 → z ≡ x
max_none x y z e h = omega arith

min_none : (x y z : ℕ) → z ≡ min x y → y ≡ 0 → z ≡ 0
min_none x y z e h = omega arith

min_one : (x y z : ℕ) → z ≡ min x y → y ≡ 1 → x < 2 → z ≡ x
min_one x y z e h k = omega arith

two : (x : ℕ) → x < 2 → (x ≡ 0) ⊎ (x ≡ 1)
two zero h = inl refl
two (suc zero) h = inr refl
two (suc (suc x)) h = absurd (omega arith)

or_hit : (x m b : ℕ) → bit_at m b ≡ 1 → bit_at (bit_or x m) b ≡ 1
or_hit x m b e = max_one _ _ _ (bit_at_or x m b) e (bit_at-lt x b)

and_hit : (x m b : ℕ) → bit_at m b ≡ 0 → bit_at (bit_and x m) b ≡ 0
and_hit x m b e = min_none _ _ _ (bit_at_and x m b) e

or_places : (x m b new : ℕ) → (bit_at m b ≡ 1 → new ≡ 1) → (bit_at (bit_or x m) b ≡ new) ⊎ (bit_at (bit_or x m) b ≡ bit_at x b)
or_places x m b new h = elim (two (bit_at m b) (bit_at-lt m b)) [ inl e ↦ inr (max_none _ _ _ (bit_at_or x m b) e) | inr e ↦ inl (or_hit x m b e ∙ sym (h e)) ]

and_places : (x m b new : ℕ) → (bit_at m b ≡ 0 → new ≡ 0) → (bit_at (bit_and x m) b ≡ new) ⊎ (bit_at (bit_and x m) b ≡ bit_at x b)
and_places x m b new h = elim (two (bit_at m b) (bit_at-lt m b)) [ inl e ↦ inl (and_hit x m b e ∙ sym (h e)) | inr e ↦ inr (min_one _ _ _ (bit_at_and x m b) e (bit_at-lt x b)) ]

-- ---- what a view wrote

head_or : (a b c d : Bool) → (((a && b) || c) || d) ≡ true → ((c || d) ≡ true) ⊎ ((a ≡ true) × (b ≡ true))
head_or true true c d e = inr (refl, refl)
head_or true false c d e = inl e
head_or false b c d e = inl e

middle_or : (p a b q : Bool) → (p || ((a && b) || q)) ≡ true → ((p || q) ≡ true) ⊎ ((a ≡ true) × (b ≡ true))
middle_or true a b q e = inl refl
middle_or false true true q e = inr (refl, refl)
middle_or false true false q e = inl e
middle_or false false b q e = inl e

wrote_ones : (v : View) (w m u b : ℕ) → wrote (with_ones v w m) u b ≡ true → (wrote v u b ≡ true) ⊎ ((u ≡ w) × (bit_at m b ≡ 1))
wrote_ones v w m u b e = elim (head_or (w == u) (bit_at m b == 1) (has 1 u b v.ones) (has 0 u b v.zeros) e) [ inl h ↦ inl h | inr h ↦ inr (sym (eq_of w u h.0), eq_of (bit_at m b) 1 h.1) ]

wrote_zeros : (v : View) (w m u b : ℕ) → wrote (with_zeros v w m) u b ≡ true → (wrote v u b ≡ true) ⊎ ((u ≡ w) × (bit_at m b ≡ 0))
wrote_zeros v w m u b e = elim (middle_or (has 1 u b v.ones) (w == u) (bit_at m b == 0) (has 0 u b v.zeros) e) [ inl h ↦ inl h | inr h ↦ inr (sym (eq_of w u h.0), eq_of (bit_at m b) 0 h.1) ]

-- ---- the places

module _ (n : ℕ) (old new : ℕ → ℕ → ℕ) where
  place : (words : List ℕ) (w x u b : ℕ) → length words ≡ size n → w < size n → b < 64
      → ((b : ℕ) → b < 64 → (bit_at x b ≡ new w b) ⊎ (bit_at x b ≡ bit_at (slice_index words w) b))
      → (bit_at (slice_index (slice_set words w x) u) b ≡ new u b) ⊎ (bit_at (slice_index (slice_set words w x) u) b ≡ bit_at (slice_index words u) b)
  place words w x u b len wn bn h =
      dite (ℕ_discrete u w)
      (λ e. subst (λ (k : ℕ). (bit_at (slice_index (slice_set words w x) k) b ≡ new k b) ⊎ (bit_at (slice_index (slice_set words w x) k) b ≡ bit_at (slice_index words k) b)) (sym e)
      (subst (λ (y : ℕ). (bit_at y b ≡ new w b) ⊎ (bit_at y b ≡ bit_at (slice_index words w) b)) (sym (get_or-set_same words w x 0 (omega (arith, len, wn)))) (h b bn)))
      (λ ne. inr (ap (λ k. bit_at k b) (get_or-set_other words w u x 0 ne)))

  -- one word changes, where each of its bits stays or becomes new, and the seat adds what became new
  pub shows_write : (words : List ℕ) (views : List View) (w x id : ℕ) (v v' : View) → length words ≡ size n → get_elem? views id ≡ some v → w < size n
      → ((b : ℕ) → b < 64 → (bit_at x b ≡ new w b) ⊎ (bit_at x b ≡ bit_at (slice_index words w) b))
      → ((u b : ℕ) → b < 64 → wrote v' u b ≡ true → (wrote v u b ≡ true) ⊎ ((u ≡ w) × (bit_at x b ≡ new w b)))
      → Shows n old new words views → Shows n old new (slice_set words w x) (slice_set views id v')
  shows_write words views w x id v v' len at wn h k shows =
      let kept : (i : ℕ) (y : View) → get_elem? views i ≡ some y → (u b : ℕ) → 0 < u → u < size n → b < 64 → wrote y u b ≡ true → bit_at (slice_index (slice_set words w x) u) b ≡ new u b =
      λ i y at' u b some_u un bn e. elim (place words w x u b len wn bn h) [ inl p ↦ p | inr p ↦ p ∙ shows.written i y at' u b some_u un bn e ] in
      record {
        either = λ u b some_u un bn. elim (place words w x u b len wn bn h) [ inl e ↦ inl e | inr e ↦ elim (shows.either u b some_u un bn) [ inl f ↦ inl (e ∙ f) | inr f ↦ inr (e ∙ f) ] ];
        written = λ i y at' u b some_u un bn e. elim (at_set views id i v' y at') [
          | inl p ↦ elim (k u b bn (subst (λ (z : View). wrote z u b ≡ true) (sym p.1) e)) [
            | inl q ↦ kept id v at u b some_u un bn q
            | inr q ↦ subst (λ (z : ℕ). bit_at (slice_index (slice_set words w x) z) b ≡ new z b) (sym q.0) (ap (λ z. bit_at z b) (get_or-set_same words w x 0 (omega (arith, len, wn))) ∙ q.1)
          ]
          | inr p ↦ kept i y p.1 u b some_u un bn e
        ];
      }

  -- no word of bits changes, and no view has a place that none had
  pub shows_views : (words words' : List ℕ) (views views' : List View)
      → ((u : ℕ) → 0 < u → slice_index words' u ≡ slice_index words u)
      → ((i : ℕ) (y : View) → get_elem? views' i ≡ some y → (u b : ℕ) → wrote y u b ≡ true → (k : ℕ) × (z : View) × (get_elem? views k ≡ some z) × (wrote z u b ≡ true))
      → Shows n old new words views → Shows n old new words' views'
  shows_views words words' views views' same from shows = record {
    either = λ u b some_u un bn. subst (λ (z : ℕ). (bit_at z b ≡ new u b) ⊎ (bit_at z b ≡ old u b)) (sym (same u some_u)) (shows.either u b some_u un bn);
    written = λ i y at u b some_u un bn e. let f = from i y at u b e in ap (λ z. bit_at z b) (same u some_u) ∙ shows.written f.0 f.1 f.2 u b some_u un bn f.3;
  }

  -- ---- the sums

  -- a step that changes neither rows nor numbers of a view
  pub counts_write : (c : ℕ) (views : List View) (id : ℕ) (v v' : View) → get_elem? views id ≡ some v → v'.rows ≡ v.rows → v'.told ≡ v.told → v'.tellings ≡ v.tellings → v'.passes ≡ v.passes
      → Counts n c views → Counts n c (slice_set views id v')
  counts_write c views id v v' at r t l p counts = record {
    small = counts.small;
    rows = λ row. sum_same (λ v. times row v.rows) views id v v' at (ap (times row) r) ∙ counts.rows row;
    told = λ i y at' e. elim (at_set views id i v' y at') [ inl h ↦ counts.told id v at (sym t ∙ (ap (λ z. z.told) h.1 ∙ e)) | inr h ↦ counts.told i y h.1 e ];
    tellings = ap (λ z. z + min c n) (sum_same (λ v. v.tellings) views id v v' at l) ∙ counts.tellings;
    total = sum_same (λ v. v.tellings + v.passes) views id v v' at (omega (arith, l, p)) ∙ counts.total;
    held = λ i y at' e. elim (at_set views id i v' y at') [
      | inl h ↦ let q : 0 < v.tellings + v.passes = counts.held id v at (omega (arith, e, ap (λ z. length z.rows) h.1, ap length r)) in omega (arith, q, l, p, ap (λ z. z.tellings) h.1, ap (λ z. z.passes) h.1)
      | inr h ↦ counts.held i y h.1 e
    ];
  }

  pub set_keeps : (s : State (Unit {0}) View) (id w m : ℕ) (v : View) → get_elem? s.views id ≡ some v → 0 < w → w < size n → ((b : ℕ) → b < 64 → bit_at m b ≡ 1 → new w b ≡ 1) → Kept n old new s
      → Kept n old new (record { words = slice_set s.words w (bit_or (slice_index s.words w) m); homes = s.homes; views = slice_set s.views id (with_ones v w m) })
  set_keeps s id w m v at some_w wn h kept = record {
    words = length-set s.words w (bit_or (slice_index s.words w) m) ∙ kept.words;
    shows = shows_write s.words s.views w (bit_or (slice_index s.words w) m) id v (with_ones v w m) kept.words at wn
        (λ b bn. or_places (slice_index s.words w) m b (new w b) (h b bn))
        (λ u b bn e. elim (wrote_ones v w m u b e) [ inl p ↦ inl p | inr p ↦ inr (p.0, or_hit (slice_index s.words w) m b p.1 ∙ sym (h b bn p.1)) ])
        kept.shows;
    counts = subst (λ c. Counts n c (slice_set s.views id (with_ones v w m))) (sym (get_or-set_other s.words w 0 (bit_or (slice_index s.words w) m) 0 (λ e. omega (arith, e, some_w))))
        (counts_write (slice_index s.words 0) s.views id v (with_ones v w m) at refl refl refl refl kept.counts);
  }

  pub clear_keeps : (s : State (Unit {0}) View) (id w m : ℕ) (v : View) → get_elem? s.views id ≡ some v → 0 < w → w < size n → ((b : ℕ) → b < 64 → bit_at m b ≡ 0 → new w b ≡ 0) → Kept n old new s
      → Kept n old new (record { words = slice_set s.words w (bit_and (slice_index s.words w) m); homes = s.homes; views = slice_set s.views id (with_zeros v w m) })
  clear_keeps s id w m v at some_w wn h kept = record {
    words = length-set s.words w (bit_and (slice_index s.words w) m) ∙ kept.words;
    shows = shows_write s.words s.views w (bit_and (slice_index s.words w) m) id v (with_zeros v w m) kept.words at wn
        (λ b bn. and_places (slice_index s.words w) m b (new w b) (h b bn))
        (λ u b bn e. elim (wrote_zeros v w m u b e) [ inl p ↦ inl p | inr p ↦ inr (p.0, and_hit (slice_index s.words w) m b p.1 ∙ sym (h b bn p.1)) ])
        kept.shows;
    counts = subst (λ c. Counts n c (slice_set s.views id (with_zeros v w m))) (sym (get_or-set_other s.words w 0 (bit_and (slice_index s.words w) m) 0 (λ e. omega (arith, e, some_w))))
        (counts_write (slice_index s.words 0) s.views id v (with_zeros v w m) at refl refl refl refl kept.counts);
  }
