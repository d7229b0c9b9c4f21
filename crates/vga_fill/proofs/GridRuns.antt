-- Points of a run are far from what its ends are far from.
use Rattle.std.specs.Prelude.{◌≡◌, ℕ, ◌<◌, ◌≤◌, ℤ, pos, ◌-ℤ◌, ◌<ℤ◌, ◌≤ℤ◌, Bool, true, false, ◌&&◌, ◌||◌, int_le, int_lt, length, Option, Some, None}
use Rattle.std.specs.Ordering.{int_eq}
use Rattle.std.proofs.Common.{refl, ap, subst, ◌∙◌, inl, inr, arith}
use Rattle.std.proofs.lemmas.Bool.{and_parts, cases_eq}
use Rattle.std.proofs.lemmas.Int.{ints}
use Rattle.int_laws.proofs.Tests.{tested_less, tested_at_most, tested_equal, not_at_most}
use Rattle.plane_spec.specs.declared.Point.{Point}
use Rattle.plane_spec.specs.declared.PlanBox.{PlanBox}
use Rattle.plane_spec.specs.Vectors.{is_upper, vector}
use Rattle.plane_spec.specs.Boxes.{do_intervals_overlap, does_meet_box, reaches_line}
use Rattle.plan_spec.specs.declared.edit.Changed.{Changed}
use Rattle.plan_spec.specs.declared.item.GridSpec.{GridSpec}
use Rattle.plan_spec.specs.Grid.{grid_points, point_of_number}
use Rattle.sight_spec.specs.Dirty.{meets_if_there, is_dirty_pair}
use Rattle.vga_fill.specs.Runs.{IsOnRun, Rises, is_beside, is_beside_along, is_beside_both, is_beside_if_there, is_outside}
use Rattle.vga_fill.proofs.Keeping.{or_true}

-- ---- intervals that don't overlap

and_none : (t : Bool) → (t && false) ≡ false
and_none true = refl
and_none false = refl

past : (m n low high : ℤ) → high <ℤ m → high <ℤ n → do_intervals_overlap m n low high ≡ false
past m n low high h k = rw (not_at_most high m h, not_at_most high n k) (and_none (int_le low m || int_le low n))

short_of : (m n low high : ℤ) → m <ℤ low → n <ℤ low → do_intervals_overlap m n low high ≡ false
short_of m n low high h k = rw (not_at_most m low h, not_at_most n low k) refl

apart_across : (p q : Point) (area : PlanBox) → do_intervals_overlap p.x q.x area.low.x area.high.x ≡ false → does_meet_box p q area ≡ false
unfolding does_meet_box
apart_across p q area e = ap (λ t. (t && do_intervals_overlap p.y q.y area.low.y area.high.y) && reaches_line p q area) e

apart_along : (p q : Point) (area : PlanBox) → do_intervals_overlap p.y q.y area.low.y area.high.y ≡ false → does_meet_box p q area ≡ false
unfolding does_meet_box
apart_along p q area e =
    ap (λ t. (do_intervals_overlap p.x q.x area.low.x area.high.x && t) && reaches_line p q area) e
    ∙ ap (λ t. t && reaches_line p q area) (and_none (do_intervals_overlap p.x q.x area.low.x area.high.x))

-- ---- a box beside a run

further : (a b c : ℤ) → a <ℤ b → b ≤ℤ c → a <ℤ c
further a b c h k = omega (arith, ints, h, k)

nearer : (a b c : ℤ) → a ≤ℤ b → b <ℤ c → a <ℤ c
nearer a b c h k = omega (arith, ints, h, k)

one_line : (a b c : ℤ) → a ≤ℤ b → b ≤ℤ c → c ≤ℤ a → a ≡ c
one_line a b c h k l = omega (arith, ints, h, k, l)

module _ (p first last q : Point) (not_under : p.y ≤ℤ first.y) (on : IsOnRun first last q) where
  beside_meets_none : (area : PlanBox) → is_beside p first last area ≡ true → does_meet_box p q area ≡ false
  beside_meets_none area e = elim (or_true (is_beside_along p last area) _ e) [
    | inl along ↦ apart_along p q area (elim (or_true (int_lt area.high.y p.y) (int_lt last.y area.low.y) along) [
      | inl above ↦
          let h = tested_less area.high.y p.y above in
          past p.y q.y area.low.y area.high.y h (further area.high.y p.y q.y h (reaches p.y first.y q.y not_under on.not_below))
      | inr below ↦
          let h = tested_less last.y area.low.y below in
          let here = reaches p.y first.y last.y not_under (reaches first.y q.y last.y on.not_below on.not_above) in
          short_of p.y q.y area.low.y area.high.y (nearer p.y last.y area.low.y here h) (nearer q.y last.y area.low.y on.not_above h)
    ])
    | inr across ↦
        let both = and_parts (int_le last.y first.y) (is_outside p.x first.x last.x area.low.x area.high.x) across in
        let line = one_line first.y q.y last.y on.not_below on.not_above (tested_at_most last.y first.y both.0) in
        apart_across p q area (elim (or_true (int_lt p.x area.low.x && int_lt last.x area.low.x) _ both.1) [
          | inl left ↦
              let each = and_parts (int_lt p.x area.low.x) (int_lt last.x area.low.x) left in
              short_of p.x q.x area.low.x area.high.x (tested_less p.x area.low.x each.0)
              (nearer q.x last.x area.low.x (on.not_right line) (tested_less last.x area.low.x each.1))
          | inr right ↦
              let each = and_parts (int_lt area.high.x p.x) (int_lt area.high.x first.x) right in
              past p.x q.x area.low.x area.high.x (tested_less area.high.x p.x each.0)
              (further area.high.x first.x q.x (tested_less area.high.x first.x each.1) (on.not_left line))
        ])
  ]
    where
      reaches : (a b c : ℤ) → a ≤ℤ b → b ≤ℤ c → a ≤ℤ c
      reaches a b c h k = omega (arith, ints, h, k)

  beside_if_there : (area : Option PlanBox) → is_beside_if_there p first last area ≡ true → meets_if_there p q area ≡ false
  beside_if_there None e = refl
  beside_if_there (Some area) e = beside_meets_none area e

  pub beside_both : (boxes : Changed) → is_beside_both boxes p first last ≡ true → is_dirty_pair boxes p q ≡ false
  unfolding is_dirty_pair
  beside_both boxes e =
      let each = and_parts (is_beside_if_there p first last boxes.first) (is_beside_if_there p first last boxes.second) e in
      rw (beside_if_there boxes.first each.0, beside_if_there boxes.second each.1) refl

-- ---- the points of a grid

upper_is : (p q : Point) → is_upper (vector p q) ≡ true → (p.y ≤ℤ q.y) × (p.y ≡ q.y → p.x ≤ℤ q.x)
upper_is p q e = elim (or_true (int_lt (pos 0) (q.y -ℤ p.y)) _ e) [
  | inl above ↦
      let h = tested_less (pos 0) (q.y -ℤ p.y) above in
      (omega (arith, ints, h), λ same. absurd (omega (arith, ints, h, same)))
  | inr beside ↦
      let both = and_parts (int_eq (q.y -ℤ p.y) (pos 0)) (int_lt (pos 0) (q.x -ℤ p.x)) beside in
      let level = tested_equal (q.y -ℤ p.y) (pos 0) both.0 in
      let right = tested_less (pos 0) (q.x -ℤ p.x) both.1 in
      (omega (arith, ints, level), λ same. omega (arith, ints, right))
]

module _ (grid : Option GridSpec) (rises : Rises grid) where
  abbrev at : ℕ → Point
  at k = point_of_number grid k

  pub in_order : (i j : ℕ) → i ≤ j → j < length (grid_points grid) → ((at i).y ≤ℤ (at j).y) × ((at i).y ≡ (at j).y → (at i).x ≤ℤ (at j).x)
  in_order i j order inside = elim (cases_eq i j) [
    | inl same ↦ subst (λ (k : ℕ). ((at i).y ≤ℤ (at k).y) × ((at i).y ≡ (at k).y → (at i).x ≤ℤ (at k).x)) same (itself (at i).y, λ e. itself (at i).x)
    | inr other ↦ upper_is (at i) (at j) (rises i j (omega (arith, order, other)) inside)
  ]
    where
      itself : (z : ℤ) → z ≤ℤ z
      itself z = omega (arith, ints)

  pub on_run : (from j last : ℕ) → from ≤ j → j ≤ last → last < length (grid_points grid) → IsOnRun (at from) (at last) (at j)
  on_run from j last low high inside =
      let before = in_order from j low (omega (arith, high, inside)) in
      let after = in_order j last high inside in
      record {
        not_below = before.0;
        not_above = after.0;
        not_left = λ same. before.1 (level (at from).y (at j).y (at last).y before.0 after.0 same);
        not_right = λ same. after.1 (level_after (at from).y (at j).y (at last).y before.0 after.0 same);
      }
    where
      level : (a b c : ℤ) → a ≤ℤ b → b ≤ℤ c → a ≡ c → a ≡ b
      level a b c h k e = omega (arith, ints, h, k, e)

      level_after : (a b c : ℤ) → a ≤ℤ b → b ≤ℤ c → a ≡ c → b ≡ c
      level_after a b c h k e = omega (arith, ints, h, k, e)

  -- none of the pairs with points of a run is dirty
  pub run_is_clean : (boxes : Changed) (row from last : ℕ) → row < from → from ≤ last → last < length (grid_points grid)
      → is_beside_both boxes (at row) (at from) (at last) ≡ true
      → (j : ℕ) → from ≤ j → j ≤ last → is_dirty_pair boxes (at row) (at j) ≡ false
  run_is_clean boxes row from last later order inside e j low high =
      beside_both (at row) (at from) (at last) (at j)
      (in_order row from (omega (arith, later)) (omega (arith, order, inside))).0
      (on_run from j last low high inside) boxes e
