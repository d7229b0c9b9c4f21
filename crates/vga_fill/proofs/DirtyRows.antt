-- The dirty pairs of a row, one after another.
use Rattle.std.specs.Prelude.{◌≡◌, ℕ, pos, ◌+◌, ◌-◌, ◌<◌, ◌≤◌, true, false, List, [], ◌∷◌, ◌++◌, drop, get_or, length, Contains}
use Rattle.std.specs.List.{list_any}
use Rattle.std.proofs.Common.{sym, ap, subst, ◌∙◌, inl, inr, arith, true≢false}
use Rattle.std.proofs.lemmas.Bool.{cases_Bool, cases_eq, cases_lt}
use Rattle.std.proofs.lemmas.List.{drop_more, get_or-drop, length-drop}
use Rattle.std.proofs.lemmas.List.Folds.{list_any_at, list_any_none}
use Rattle.std.proofs.lemmas.List.Elements.{All-from_get_or, All-nil, All-push, All-same, Contains-push, Contains-append_left}
use Rattle.plane_spec.specs.declared.Point.{Point}
use Rattle.plane_spec.specs.Vectors.{point}
use Rattle.plan_spec.specs.declared.edit.Changed.{Changed}
use Rattle.plan_spec.specs.Plan.{Plan}
use Rattle.plan_spec.specs.Grid.{grid_points}
use Rattle.sight_spec.specs.Dirty.{is_dirty_pair, is_dirty_with, is_dirty_row}
use Rattle.vga_fill.specs.DirtyNumbers.{AreDirtyBelow}
use Rattle.vga_fill.specs.Sights.{is_dirty}

-- what stands for a point that isn't there
abbrev nowhere : Point
nowhere = point (pos 0) (pos 0)

module _ (boxes : Changed) (points : List Point) (row : ℕ) (within : row < length points) where
  abbrev here : Point
  here = get_or points row nowhere

  -- the row's pairs are those of its point with the later ones
  pub row_is : is_dirty_row boxes points row ≡ list_any (is_dirty_pair boxes here) (drop (row + 1) points)
  row_is = ap (is_dirty_with boxes) (drop_more points row nowhere within)

  abbrev later : List Point
  later = drop (row + 1) points

  -- the later points, by their numbers
  later_at : (j : ℕ) → row < j → get_or later (j - (row + 1)) nowhere ≡ get_or points j nowhere
  later_at j above =
      get_or-drop (row + 1) points (j - (row + 1)) nowhere ∙ ap (λ (k : ℕ). get_or points k nowhere) (omega (arith, above))

  -- one pair that is dirty settles it, and so do all where none is
  pub one_is_dirty : (j : ℕ) → row < j → j < length points → is_dirty_pair boxes here (get_or points j nowhere) ≡ true
      → is_dirty_row boxes points row ≡ true
  one_is_dirty j above below dirty =
      row_is
      ∙ list_any_at (is_dirty_pair boxes here) later (j - (row + 1)) nowhere
      (omega (arith, above, below, length-drop (row + 1) points)) (ap (is_dirty_pair boxes here) (later_at j above) ∙ dirty)

  pub none_is_dirty : ((j : ℕ) → row < j → j < length points → is_dirty_pair boxes here (get_or points j nowhere) ≡ false)
      → is_dirty_row boxes points row ≡ false
  none_is_dirty clean =
      row_is
      ∙ list_any_none (is_dirty_pair boxes here) later
      (All-from_get_or (λ q. is_dirty_pair boxes here q ≡ false) later nowhere (λ i inside.
      let below : row + 1 + i < length points = omega (arith, inside, length-drop (row + 1) points) in
      ap (is_dirty_pair boxes here) (get_or-drop (row + 1) points i nowhere) ∙ clean (row + 1 + i) (omega arith) below))

  -- no pair of a row that isn't dirty is
  pub none_dirty : is_dirty_row boxes points row ≡ false → (j : ℕ) → row < j → j < length points
      → is_dirty_pair boxes here (get_or points j nowhere) ≡ false
  none_dirty clean j above below = elim (cases_Bool (is_dirty_pair boxes here (get_or points j nowhere))) [
    | inr clean_one ↦ clean_one
    | inl dirty ↦ absurd (true≢false (sym (one_is_dirty j above below dirty) ∙ clean))
  ]

-- ---- the row's dirty numbers, one after another

module _ (plan : Plan) (boxes : Changed) (row : ℕ) where
  -- no point stands between that of the row and the next
  pub none_yet : (below : ℕ) (numbers : List ℕ) → numbers ≡ [] → below ≡ row + 1 → AreDirtyBelow plan boxes row below numbers
  none_yet below numbers empty next = record {
    later = All-same (λ j. (row < j) × (j < below)) numbers [] empty (All-nil (λ j. (row < j) × (j < below)));
    dirty = All-same (λ j. is_dirty plan boxes row j ≡ true) numbers [] empty (All-nil (λ j. is_dirty plan boxes row j ≡ true));
    all = λ j above under dirty. absurd (omega (arith, above, under, next));
  }

  -- points that make no dirty pair are passed over
  pub passed_over : (from to : ℕ) (numbers : List ℕ) → from ≤ to → ((j : ℕ) → from ≤ j → j < to → is_dirty plan boxes row j ≡ false)
      → AreDirtyBelow plan boxes row from numbers → AreDirtyBelow plan boxes row to numbers
  passed_over from to numbers order clean are = record {
    later = λ k d inside. let here = are.later k d inside in (here.0, omega (arith, here.1, order));
    dirty = are.dirty;
    all = λ j above under dirty. elim (cases_lt j from) [
      | inl before ↦ are.all j above before dirty
      | inr past ↦ absurd (true≢false (sym dirty ∙ clean j past under))
    ];
  }

  -- one that makes such a pair is added
  pub added : (j : ℕ) (numbers : List ℕ) → row < j → is_dirty plan boxes row j ≡ true
      → AreDirtyBelow plan boxes row j numbers → AreDirtyBelow plan boxes row (j + 1) (numbers ++ j ∷ [])
  added j numbers above dirty are = record {
    later = All-push (λ i. (row < i) × (i < j + 1)) numbers j
        (λ k d inside. let here = are.later k d inside in (here.0, omega (arith, here.1))) (above, omega arith);
    dirty = All-push (λ i. is_dirty plan boxes row i ≡ true) numbers j are.dirty dirty;
    all = λ i first under so. elim (cases_eq i j) [
      | inl same ↦ subst (Contains (numbers ++ j ∷ [])) (sym same) (Contains-push numbers j)
      | inr other ↦ Contains-append_left numbers (j ∷ []) i (are.all i first (omega (arith, under, other)) so)
    ];
  }

  module _ (n : ℕ) (numbers : List ℕ) (within : row < n) (count : n ≡ length (grid_points plan.grid))
      (are : AreDirtyBelow plan boxes row n numbers) where
    -- a row without dirty numbers isn't dirty, and one with such is
    pub row_without : length numbers ≡ 0 → is_dirty_row boxes (grid_points plan.grid) row ≡ false
    row_without empty =
        none_is_dirty boxes (grid_points plan.grid) row (omega (arith, within, count)) (λ j above below.
        elim (cases_Bool (is_dirty plan boxes row j)) [
          | inl dirty ↦ let here = are.all j above (omega (arith, below, count)) dirty in absurd (omega (arith, here.1, empty))
          | inr clean ↦ clean
        ])

    pub row_with : 0 < length numbers → is_dirty_row boxes (grid_points plan.grid) row ≡ true
    row_with some =
        let j = get_or numbers 0 0 in
        let place = are.later 0 0 some in
        one_is_dirty boxes (grid_points plan.grid) row (omega (arith, within, count)) j place.0 (omega (arith, place.1, count)) (are.dirty 0 0 some)
