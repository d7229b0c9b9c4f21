-- Each box of a trial plan is strictly inside its own cell, with 10 to spare, so two of them are apart.
use Rattle.std.proofs.Common.{◌≡◌, ◌≢◌, ◌≤◌, ◌<◌, ◌+◌, ◌*◌, ◌/◌, ◌%◌, ℕ, pos, Bool, true, false, nat_lt, List, [], ◌∷◌, ◌++◌, decimal, ◌⊎◌, inl, inr, refl, sym, ap, ◌∙◌, arith, ◌^◌}
use Rattle.std.specs.Prelude.{All, codes, drop}
use Rattle.std.specs.Str.{bytes_eq}
use Rattle.std.proofs.lemmas.Int.{ints}
use Rattle.std.proofs.lemmas.Fmt.{decimal_injective}
use Rattle.std.proofs.lemmas.Slice.Eq.{bytes_eq-Decides}
use Rattle.std.proofs.lemmas.List.Elements.{All-nil, All-cons}
use Rattle.std.proofs.Math.Nat.{mod-lt, div-add-mod}
use Rattle.plane_spec.specs.declared.Point.{Point}
use Rattle.plane_spec.specs.declared.PlanBox.{PlanBox}
use Rattle.plane_spec.specs.Vectors.{point}
use Rattle.plan_spec.specs.Accepted.{polygons_meet}
use Rattle.report_spec.specs.Trial.{square_at}
use Rattle.box_laws.specs.Boxes.{IsIn}
use Rattle.box_laws.proofs.Touching.{not_true}
use Rattle.rectangle_laws.specs.Rectangles.{IsStrictlyBetween, are_boxes_apart}
use Rattle.rectangle_laws.proofs.Apart.{polygons_apart}

-- where the box of a number begins
abbrev pub left_of_box : ℕ → ℕ → ℕ
left_of_box c i = 100 * (i % c) + 10 + (17 * i) % 41

abbrev pub bottom_of_box : ℕ → ℕ → ℕ
bottom_of_box c i = 100 * (i / c) + 10 + (29 * i) % 41

abbrev pub points_of_box : ℕ → ℕ → List Point
points_of_box c i = square_at (left_of_box c i) (bottom_of_box c i) 40

-- it is 10 to 50 from the cell's own corner
pub record IsInCell (cell at : ℕ) : Type 0 where
  pub low : 100 * cell + 10 ≤ at
  pub high : at ≤ 100 * cell + 50

varied : (cell k : ℕ) → IsInCell cell (100 * cell + 10 + k % 41)
varied cell k = let few = mod-lt k {m = 41} (omega arith) in record { low = omega arith; high = omega (arith, few) }

pub left_in_cell : (c i : ℕ) → IsInCell (i % c) (left_of_box c i)
left_in_cell c i = varied (i % c) (17 * i)

pub bottom_in_cell : (c i : ℕ) → IsInCell (i / c) (bottom_of_box c i)
bottom_in_cell c i = varied (i / c) (29 * i)

-- ---- what holds of all four corners

four_hold : (P : Point → Type 0) (x y side : ℕ)
    → P (point (pos x) (pos y)) → P (point (pos (x + side)) (pos y))
    → P (point (pos (x + side)) (pos (y + side))) → P (point (pos x) (pos (y + side))) → All P (square_at x y side)
four_hold P x y side h i j k =
    let a = point (pos x) (pos y) in
    let b = point (pos (x + side)) (pos y) in
    let c = point (pos (x + side)) (pos (y + side)) in
    let d = point (pos x) (pos (y + side)) in
    All-cons P a (b ∷ c ∷ d ∷ []) h
    (All-cons P b (c ∷ d ∷ []) i (All-cons P c (d ∷ []) j (All-cons P d [] k (All-nil P))))

pub strictly_between : (x y side left bottom right top : ℕ) → left < x → x + side < right → bottom < y
    → y + side < top
    → All (IsStrictlyBetween (point (pos left) (pos bottom)) (point (pos right) (pos top))) (square_at x y side)
strictly_between x y side left bottom right top l r b t =
    four_hold (IsStrictlyBetween (point (pos left) (pos bottom)) (point (pos right) (pos top))) x y side
    (record {
      left = omega (arith, ints);
      right = omega (arith, ints);
      below = omega (arith, ints);
      above = omega
          (arith, ints);
    })
    (record {
      left = omega (arith, ints);
      right = omega (arith, ints);
      below = omega (arith, ints);
      above = omega
          (arith, ints);
    })
    (record {
      left = omega (arith, ints);
      right = omega (arith, ints);
      below = omega (arith, ints);
      above = omega
          (arith, ints);
    })
    (record {
      left = omega (arith, ints);
      right = omega (arith, ints);
      below = omega (arith, ints);
      above = omega
          (arith, ints);
    })

-- the box of two corners
abbrev area_at : ℕ → ℕ → ℕ → PlanBox
area_at x y side = record { low = point (pos x) (pos y); high = point (pos (x + side)) (pos (y + side)) }

square_in : (x y side : ℕ) → All (IsIn (area_at x y side)) (square_at x y side)
square_in x y side =
    four_hold (IsIn (area_at x y side)) x y side
    (record {
      left = omega (arith, ints);
      right = omega (arith, ints);
      below = omega (arith, ints);
      above = omega
          (arith, ints);
    })
    (record {
      left = omega (arith, ints);
      right = omega (arith, ints);
      below = omega (arith, ints);
      above = omega
          (arith, ints);
    })
    (record {
      left = omega (arith, ints);
      right = omega (arith, ints);
      below = omega (arith, ints);
      above = omega
          (arith, ints);
    })
    (record {
      left = omega (arith, ints);
      right = omega (arith, ints);
      below = omega (arith, ints);
      above = omega
          (arith, ints);
    })

-- ---- two boxes

-- one ends before the other begins
abbrev AreApart : ℕ → ℕ → Type 0
AreApart x z = (x + 40 < z) ⊎ (z + 40 < x)

-- boxes in different cells
cells_apart : (cell other x z : ℕ) → IsInCell cell x → IsInCell other z → (cell < other) ⊎ (other < cell)
    → AreApart x z
cells_apart cell other x z h k (inl less) = let a = h.high in let b = k.low in inl (omega arith)
cells_apart cell other x z h k (inr more) = let a = h.low in let b = k.high in inr (omega arith)

across_apart : (x y z w : ℕ) → AreApart x z → are_boxes_apart (area_at x y 40) (area_at z w 40) ≡ true
across_apart x y z w (inl h) = grind (arith, ints)
across_apart x y z w (inr h) = grind (arith, ints)

upwards_apart : (x y z w : ℕ) → AreApart y w → are_boxes_apart (area_at x y 40) (area_at z w 40) ≡ true
upwards_apart x y z w (inl h) = grind (arith, ints)
upwards_apart x y z w (inr h) = grind (arith, ints)

pub by_order : (m n : ℕ) → (m ≡ n) ⊎ ((m < n) ⊎ (n < m))
by_order m n = by (nat_lt m n) (nat_lt n m) refl refl
  where
    by : (s t : Bool) → nat_lt m n ≡ s → nat_lt n m ≡ t → (m ≡ n) ⊎ ((m < n) ⊎ (n < m))
    by true t h k = inr (inl (grind arith))
    by false true h k = inr (inr (grind arith))
    by false false h k = inl (grind arith)

-- different numbers are in different columns or in different rows
areas_apart : (c i j : ℕ) → i ≢ j
    → are_boxes_apart (area_at (left_of_box c i) (bottom_of_box c i) 40)
    (area_at (left_of_box c j) (bottom_of_box c j) 40) ≡ true
areas_apart c i j differ = by (by_order (i % c) (j % c)) (by_order (i / c) (j / c))
  where
    by : (i % c ≡ j % c) ⊎ ((i % c < j % c) ⊎ (j % c < i % c)) → (i / c ≡ j / c) ⊎ ((i / c < j / c) ⊎ (j / c < i / c))
        → are_boxes_apart (area_at (left_of_box c i) (bottom_of_box c i) 40)
        (area_at (left_of_box c j) (bottom_of_box c j) 40) ≡ true
    by (inr columns) rows =
        across_apart (left_of_box c i) (bottom_of_box c i) (left_of_box c j) (bottom_of_box c j)
        (cells_apart (i % c) (j % c) (left_of_box c i) (left_of_box c j) (left_in_cell c i) (left_in_cell c j)
        columns)
    by (inl column) (inr rows) =
        upwards_apart (left_of_box c i) (bottom_of_box c i) (left_of_box c j) (bottom_of_box c j)
        (cells_apart (i / c) (j / c) (bottom_of_box c i) (bottom_of_box c j) (bottom_in_cell c i) (bottom_in_cell c j)
        rows)
    by (inl column) (inl row) =
        absurd (differ (sym (div-add-mod i c) ∙ ap (λ r. c * r + i % c) row ∙ ap (λ r. c * (j / c) + r) column
        ∙ div-add-mod j c))

pub boxes_apart : (c i j : ℕ) → i ≢ j → polygons_meet (points_of_box c i) (points_of_box c j) ≡ false
boxes_apart c i j differ =
    polygons_apart (points_of_box c i) (points_of_box c j)
    (area_at (left_of_box c i) (bottom_of_box c i) 40) (area_at (left_of_box c j) (bottom_of_box c j) 40)
    (areas_apart c i j differ)
    (square_in (left_of_box c i) (bottom_of_box c i) 40) (square_in (left_of_box c j) (bottom_of_box c j) 40)

-- ---- names

abbrev pub name_of_box : ℕ → List ℕ
name_of_box i = codes "b" ++ decimal i

pub names_apart : (i j : ℕ) → i < 2 ^ 64 → j < 2 ^ 64 → i ≢ j → bytes_eq (name_of_box i) (name_of_box j) ≡ false
names_apart i j i_few j_few differ =
    not_true (bytes_eq (name_of_box i) (name_of_box j))
    (λ t. differ (decimal_injective i j i_few j_few
    (ap (drop 1) ((bytes_eq-Decides (name_of_box i) (name_of_box j)).0 t))))
