-- A split and a join of seats keep the rule.
use Rattle.std.proofs.Common.{◌≡◌, ℕ, zero, suc, ◌+◌, ◌-◌, ◌/◌, ◌<◌, ◌&&◌, ◌||◌, ◌==◌, min, List, [], ◌∷◌, ◌++◌, length, Bool, true, false, true≢false, refl, sym, ap, ◌∙◌, subst, ◌⊎◌, inl, inr, arith, slice_index, slice_set}
use Rattle.std.specs.List.{sum_by}
use Rattle.std.specs.Int.{bit_at}
use Rattle.std.proofs.lemmas.List.{length-append}
use Rattle.std.proofs.lemmas.List.Sums.{sum_by_push}
use mathlib.Core.Option.{some}
use lib.ListN.{get_elem?}
use Rattle.atomic_table.specs.Table.{State}
use Rattle.atomic_table.proofs.Lists.{at_set, at_snoc, set_else}
use Rattle.vga_fill.specs.declared.events.View.{View}
use Rattle.vga_fill.specs.Views.{times, has, wrote, left_of, right_of, both_of, spent}
use Rattle.vga_fill.specs.Filling.{Kept}
use Rattle.vga_fill.proofs.Keeping.{sum_set, shows_views, or_true}

-- a sum after a split and after a join
split_sum : (f : View → ℕ) (views : List View) (id : ℕ) (v : View) → get_elem? views id ≡ some v → f (left_of v) + f (right_of v) ≡ f v → sum_by f (slice_set views id (left_of v) ++ right_of v ∷ []) ≡ sum_by f views
split_sum f views id v at e = omega (arith, sum_by_push f (slice_set views id (left_of v)) (right_of v), sum_set f views id v (left_of v) at, e)

join_sum : (f : View → ℕ) (views : List View) (id other : ℕ) (v w : View) → get_elem? views id ≡ some v → get_elem? (slice_set views id (both_of v w)) other ≡ some w → f (both_of v w) + f spent ≡ f v + f w
    → sum_by f (slice_set (slice_set views id (both_of v w)) other spent) ≡ sum_by f views
join_sum f views id other v w at at' e = omega (arith, sum_set f (slice_set views id (both_of v w)) other w spent at', sum_set f views id v (both_of v w) at, e)

pub times_append : (row : ℕ) (xs ys : List ℕ) → times row (xs ++ ys) ≡ times row xs + times row ys
times_append row [] ys = omega arith
times_append row (x ∷ xs) ys = omega (arith, times_append row xs ys)

pub has_append : (t w b : ℕ) (xs ys : List (ℕ × ℕ)) → has t w b (xs ++ ys) ≡ (has t w b xs || has t w b ys)
has_append t w b [] ys = refl
has_append t w b (x ∷ xs) ys = ap (λ z. ((x.0 == w) && (bit_at x.1 b == t)) || z) (has_append t w b xs ys) ∙ sym (or_assoc ((x.0 == w) && (bit_at x.1 b == t)) (has t w b xs) (has t w b ys))
  where
    or_assoc : (a b c : Bool) → ((a || b) || c) ≡ (a || (b || c))
    or_assoc true b c = refl
    or_assoc false b c = refl

four : (a b c d : Bool) → ((a || b) || (c || d)) ≡ true → ((a || c) ≡ true) ⊎ ((b || d) ≡ true)
four true b c d e = inl refl
four false true c d e = inr refl
four false false true d e = inl refl
four false false false d e = inr e

pub wrote_both : (v w : View) (u b : ℕ) → wrote (both_of v w) u b ≡ true → (wrote v u b ≡ true) ⊎ (wrote w u b ≡ true)
wrote_both v w u b e = four (has 1 u b v.ones) (has 1 u b w.ones) (has 0 u b v.zeros) (has 0 u b w.zeros) (subst (λ z. z ≡ true) (λ k. has_append 1 u b v.ones w.ones k || has_append 0 u b v.zeros w.zeros k) e)

halves : (p : ℕ) → p - p / 2 + p / 2 ≡ p
halves p = grind arith

some_left : (t p : ℕ) → 0 < t + p → 0 < t + (p - p / 2)
some_left t p h = grind arith

pub split_keeps : (n : ℕ) (old new : ℕ → ℕ → ℕ) (s : State (Unit {0}) View) (id : ℕ) (v : View) → get_elem? s.views id ≡ some v → Kept n old new s
    → Kept n old new (record { words = s.words; homes = s.homes; views = slice_set s.views id (left_of v) ++ right_of v ∷ [] })
split_keeps n old new s id v at kept =
    let counts = kept.counts in
    record {
      words = kept.words;
      shows = shows_views n old new s.words s.words s.views (slice_set s.views id (left_of v) ++ right_of v ∷ []) (λ u some_u. refl)
          (λ i y at' u b e. elim (at_snoc (slice_set s.views id (left_of v)) (right_of v) y i at') [
            | inl h ↦ elim (at_set s.views id i (left_of v) y h) [ inl g ↦ (id, v, at, ap (λ z. wrote z u b) g.1 ∙ e) | inr g ↦ (i, y, g.1, e) ]
            | inr h ↦ absurd (true≢false (sym e ∙ sym (ap (λ z. wrote z u b) h)))
          ])
          kept.shows;
      counts = record {
        small = counts.small;
        rows = λ row. split_sum (λ v. times row v.rows) s.views id v at (omega arith) ∙ counts.rows row;
        told = λ i y at' e. elim (at_snoc (slice_set s.views id (left_of v)) (right_of v) y i at') [
          | inl h ↦ elim (at_set s.views id i (left_of v) y h) [ inl g ↦ counts.told id v at (ap (λ z. z.told) g.1 ∙ e) | inr g ↦ counts.told i y g.1 e ]
          | inr h ↦ counts.told id v at (ap (λ z. z.told) h ∙ e)
        ];
        tellings = ap (λ z. z + min (slice_index s.words 0) n) (split_sum (λ v. v.tellings) s.views id v at (omega arith)) ∙ counts.tellings;
        total = split_sum (λ v. v.tellings + v.passes) s.views id v at (omega (arith, halves v.passes)) ∙ counts.total;
        held = λ i y at' e. elim (at_snoc (slice_set s.views id (left_of v)) (right_of v) y i at') [
          | inl h ↦ elim (at_set s.views id i (left_of v) y h) [
            | inl g ↦ omega (arith, some_left v.tellings v.passes (counts.held id v at (omega (arith, e, ap (λ z. length z.rows) g.1))), ap (λ z. z.tellings) g.1, ap (λ z. z.passes) g.1)
            | inr g ↦ counts.held i y g.1 e
          ]
          | inr h ↦ absurd (omega (arith, e, ap (λ z. length z.rows) h))
        ];
      };
    }

either_some : (a b : ℕ) → 0 < a + b → (0 < a) ⊎ (0 < b)
either_some zero b h = inr (omega (arith, h))
either_some (suc a) b h = inl (omega arith)

pub join_keeps : (n : ℕ) (old new : ℕ → ℕ → ℕ) (s : State (Unit {0}) View) (id other : ℕ) (v w : View) → get_elem? s.views id ≡ some v → ¬ (other ≡ id) → get_elem? (slice_set s.views id (both_of v w)) other ≡ some w → Kept n old new s
    → Kept n old new (record { words = s.words; homes = s.homes; views = slice_set (slice_set s.views id (both_of v w)) other spent })
join_keeps n old new s id other v w at apart at' kept =
    let counts = kept.counts in
    let there : get_elem? s.views other ≡ some w = sym (set_else s.views id other (both_of v w) apart) ∙ at' in
    record {
      words = kept.words;
      shows = shows_views n old new s.words s.words s.views (slice_set (slice_set s.views id (both_of v w)) other spent) (λ u some_u. refl)
          (λ i y at'' u b e. elim (at_set (slice_set s.views id (both_of v w)) other i spent y at'') [
            | inl h ↦ absurd (true≢false (sym e ∙ sym (ap (λ z. wrote z u b) h.1)))
            | inr h ↦ elim (at_set s.views id i (both_of v w) y h.1) [
              | inl g ↦ elim (wrote_both v w u b (ap (λ z. wrote z u b) g.1 ∙ e)) [ inl f ↦ (id, v, at, f) | inr f ↦ (other, w, there, f) ]
              | inr g ↦ (i, y, g.1, e)
            ]
          ])
          kept.shows;
      counts = record {
        small = counts.small;
        rows = λ row. join_sum (λ v. times row v.rows) s.views id other v w at at' (omega (arith, times_append row v.rows w.rows)) ∙ counts.rows row;
        told = λ i y at'' e. elim (at_set (slice_set s.views id (both_of v w)) other i spent y at'') [
          | inl h ↦ absurd (true≢false (sym e ∙ sym (ap (λ z. z.told) h.1)))
          | inr h ↦ elim (at_set s.views id i (both_of v w) y h.1) [
            | inl g ↦ elim (or_true v.told w.told (ap (λ z. z.told) g.1 ∙ e)) [ inl f ↦ counts.told id v at f | inr f ↦ counts.told other w there f ]
            | inr g ↦ counts.told i y g.1 e
          ]
        ];
        tellings = ap (λ z. z + min (slice_index s.words 0) n) (join_sum (λ v. v.tellings) s.views id other v w at at' (omega arith)) ∙ counts.tellings;
        total = join_sum (λ v. v.tellings + v.passes) s.views id other v w at at' (omega arith) ∙ counts.total;
        held = λ i y at'' e. elim (at_set (slice_set s.views id (both_of v w)) other i spent y at'') [
          | inl h ↦ absurd (omega (arith, e, ap (λ z. length z.rows) h.1))
          | inr h ↦ elim (at_set s.views id i (both_of v w) y h.1) [
            | inl g ↦ both_held (omega (arith, e, ap (λ z. length z.rows) g.1, length-append v.rows w.rows)) g.1
            | inr g ↦ counts.held i y g.1 e
          ]
        ];
      };
    }
  where
    both_held : {y : View} → 0 < length v.rows + length w.rows → both_of v w ≡ y → 0 < y.tellings + y.passes
    both_held e g = elim (either_some (length v.rows) (length w.rows) e) [
      | inl f ↦ omega (arith, kept.counts.held id v at f, ap (λ z. z.tellings) g, ap (λ z. z.passes) g)
      | inr f ↦ omega (arith, kept.counts.held other w (sym (set_else s.views id other (both_of v w) apart) ∙ at') f, ap (λ z. z.tellings) g, ap (λ z. z.passes) g)
    ]
