-- A claim keeps the rule.
use Rattle.std.proofs.Common.{◌≡◌, ℕ, ◌+◌, ◌<◌, ◌≤◌, ◌%◌, ◌^◌, ◌&&◌, ◌==◌, min, nat_lt, List, [], ◌∷◌, Bool, true, false, cond, refl, sym, ap, ◌∙◌, subst, inl, inr, arith, slice_index, slice_set}
use Rattle.std.specs.List.{sum_by}
use Rattle.std.proofs.lemmas.List.{get_or-set_same, get_or-set_other, length-set}
use Rattle.std.proofs.lemmas.List.Sums.{sum_by-cons}
use mathlib.Core.Option.{some}
use lib.ListN.{get_elem?}
use Rattle.atomic_table.specs.Table.{State}
use Rattle.atomic_table.proofs.Lists.{at_set}
use Rattle.vga_fill.specs.declared.events.View.{View}
use Rattle.vga_fill.specs.Views.{times, wrote, claimed, claimed_by}
use Rattle.vga_fill.specs.Filling.{Counts, Kept}
use Rattle.vga_fill.proofs.Keeping.{sum_set, sum_same, sum_most, shows_views}

row_after : (row c n old new mine : ℕ) → new + mine ≡ old + (cond (c == row) 1 0 + mine) → c < n → old ≡ cond (nat_lt row c && nat_lt row n) 1 0 → new ≡ cond (nat_lt row (c + 1) && nat_lt row n) 1 0
row_after row c n old new mine e h k = grind arith

row_same : (row c n old : ℕ) → n ≤ c → old ≡ cond (nat_lt row c && nat_lt row n) 1 0 → old ≡ cond (nat_lt row (c + 1) && nat_lt row n) 1 0
row_same row c n old h k = grind arith

below : (c n : ℕ) → nat_lt c n ≡ true → c < n
below c n t = grind arith

above : (c n : ℕ) → nat_lt c n ≡ false → n ≤ c
above c n t = grind arith

told_after : (c n tellings old : ℕ) → n ≤ c → tellings ≡ old + 1 → old + min c n ≡ c → tellings + min (c + 1) n ≡ c + 1
told_after c n tellings old h e k = omega arith

row_tellings : (c n tellings : ℕ) → c < n → tellings + min c n ≡ c → tellings + min (c + 1) n ≡ c + 1
row_tellings c n tellings h k = omega arith

module _ (n c : ℕ) (views : List View) (id : ℕ) (v : View) where
  pub counts_claim : (t : Bool) → nat_lt c n ≡ t → get_elem? views id ≡ some v → 0 < v.passes → Counts n c views → Counts n (c + 1) (slice_set views id (claimed_by t v c))
  counts_claim true t at some_pass counts = record {
    small = counts.small;
    rows = λ row. row_after row c n _ _ (times row v.rows) (sum_set (λ v. times row v.rows) views id v (claimed_by true v c) at) (below c n t) (counts.rows row);
    told = λ i y at' e. elim (at_set views id i (claimed_by true v c) y at') [ inl h ↦ omega (arith, counts.told id v at (ap (λ z. z.told) h.1 ∙ e)) | inr h ↦ omega (arith, counts.told i y h.1 e) ];
    tellings = row_tellings c n _ (below c n t) (ap (λ z. z + min c n) (sum_same (λ v. v.tellings) views id v (claimed_by true v c) at refl) ∙ counts.tellings);
    total = sum_same (λ v. v.tellings + v.passes) views id v (claimed_by true v c) at refl ∙ counts.total;
    held = λ i y at' e. elim (at_set views id i (claimed_by true v c) y at') [ inl h ↦ omega (arith, some_pass, ap (λ z. z.tellings) h.1, ap (λ z. z.passes) h.1) | inr h ↦ counts.held i y h.1 e ];
  }
  counts_claim false t at some_pass counts = record {
    small = counts.small;
    rows = λ row. sum_same (λ v. times row v.rows) views id v (claimed_by false v c) at refl ∙ row_same row c n _ (above c n t) (counts.rows row);
    told = λ i y at' e. omega (arith, above c n t);
    tellings = told_after c n _ (sum_by (λ v. v.tellings) views) (above c n t) (omega (arith, sum_set (λ v. v.tellings) views id v (claimed_by false v c) at)) counts.tellings;
    total = omega (arith, sum_set (λ v. v.tellings + v.passes) views id v (claimed_by false v c) at, counts.total, some_pass);
    held = λ i y at' e. elim (at_set views id i (claimed_by false v c) y at') [ inl h ↦ omega (arith, ap (λ z. z.tellings) h.1) | inr h ↦ counts.held i y h.1 e ];
  }

  wrote_claim : (t : Bool) (u b : ℕ) → wrote (claimed_by t v c) u b ≡ wrote v u b
  wrote_claim true u b = refl
  wrote_claim false u b = refl

  no_wrap : get_elem? views id ≡ some v → 0 < v.passes → Counts n c views → (c + 1) % 2 ^ 64 ≡ c + 1
  no_wrap at some_pass counts =
      let most = sum_most (λ v. v.tellings + v.passes) views id v at in
      fits c n (sum_by (λ v. v.tellings) views) counts.tellings counts.small (tellings_most views counts.total)
    where
      tellings_le : (xs : List View) → sum_by (λ v. v.tellings) xs ≤ sum_by (λ v. v.tellings + v.passes) xs
      tellings_le [] = omega arith
      tellings_le (x ∷ xs) = omega (arith, sum_by-cons (λ v. v.tellings) x xs, sum_by-cons (λ v. v.tellings + v.passes) x xs, tellings_le xs)

      tellings_most : (xs : List View) → sum_by (λ v. v.tellings + v.passes) xs ≡ 2 ^ 63 → sum_by (λ v. v.tellings) xs ≤ 2 ^ 63
      tellings_most xs e = omega (arith, tellings_le xs, e)

      fits : (c n t : ℕ) → t + min c n ≡ c → n < 2 ^ 32 → t ≤ 2 ^ 63 → (c + 1) % 2 ^ 64 ≡ c + 1
      fits c n t e h k = grind arith

pub claim_keeps : (n : ℕ) (old new : ℕ → ℕ → ℕ) (s : State (Unit {0}) View) (id : ℕ) (v : View) → get_elem? s.views id ≡ some v → v.count ≡ n → 0 < v.passes → Kept n old new s
    → Kept n old new (record { words = slice_set s.words 0 ((slice_index s.words 0 + 1) % 2 ^ 64); homes = s.homes; views = slice_set s.views id (claimed v (slice_index s.words 0)) })
claim_keeps n old new s id v at count some_pass kept =
    let c = slice_index s.words 0 in
    let x = (c + 1) % 2 ^ 64 in
    let t = nat_lt c v.count in
    let here : slice_index (slice_set s.words 0 x) 0 ≡ c + 1 = get_or-set_same s.words 0 x 0 (omega (arith, kept.words)) ∙ no_wrap n c s.views id v at some_pass kept.counts in
    record {
      words = length-set s.words 0 x ∙ kept.words;
      shows = shows_views n old new s.words (slice_set s.words 0 x) s.views (slice_set s.views id (claimed v c))
          (λ u some_u. get_or-set_other s.words 0 u x 0 (λ e. omega (arith, e, some_u)))
          (λ i y at' u b e. elim (at_set s.views id i (claimed v c) y at') [
            | inl h ↦ (id, v, at, sym (wrote_claim n c s.views id v t u b) ∙ (ap (λ z. wrote z u b) h.1 ∙ e))
            | inr h ↦ (i, y, h.1, e)
          ])
          kept.shows;
      counts = subst (λ k. Counts n k (slice_set s.views id (claimed v c))) (sym here) (counts_claim n c s.views id v t (ap (nat_lt c) (sym count)) at some_pass kept.counts);
    }

-- each row that a seat has claimed is below the count of claims
pub rows_below : (n : ℕ) (old new : ℕ → ℕ → ℕ) (s : State (Unit {0}) View) (id : ℕ) (v : View) → get_elem? s.views id ≡ some v → Kept n old new s → (row : ℕ) → 0 < times row v.rows → row < slice_index s.words 0
rows_below n old new s id v at kept row h = under row (slice_index s.words 0) n (times row v.rows) _ (sum_most (λ v. times row v.rows) s.views id v at) (kept.counts.rows row) h
  where
    under : (row c n mine all : ℕ) → mine ≤ all → all ≡ cond (nat_lt row c && nat_lt row n) 1 0 → 0 < mine → row < c
    under row c n mine all h e one = grind arith
