-- Points of greater numbers lie above, or straight to the right.
use Rattle.std.specs.Prelude.{◌≡◌, ℕ, zero, suc, ◌+◌, ◌*◌, ◌/◌, ◌%◌, ◌<◌, ◌≤◌, ℤ, pos, negsuc, ◌+ℤ◌, ◌-ℤ◌, ◌*ℤ◌, ◌≤ℤ◌, length, Option, Some, None, IfSome, true, int_lt}
use Rattle.std.specs.Ordering.{int_eq}
use Rattle.std.proofs.Common.{refl, sym, ap, ◌∙◌, inl, inr, arith, mul-le-mul_left}
use Rattle.std.proofs.lemmas.Bool.{cases_lt}
use Rattle.std.proofs.lemmas.Int.{ints}
use Rattle.int_laws.proofs.Tests.{less_tested, equal_tested}
use Rattle.plane_spec.specs.Vectors.{is_upper, vector}
use Rattle.plan_spec.specs.declared.item.GridSpec.{GridSpec}
use Rattle.plan_spec.specs.Accepted.{is_sound}
use Rattle.plan_spec.specs.Plan.{Plan}
use Rattle.plan_spec.specs.Grid.{point_at, grid_points, point_of_number}
use Rattle.plan_spec.specs.Ranges.{IsGridInRange}
use Rattle.plan_laws.proofs.Grids.{sound_grid}
use Rattle.vga_grid.proofs.Numbers.{row_and_col, point_of_row_and_col, cols_of, no_points}

-- ---- along one axis

-- so many steps more are farther on
farther : (first step : ℤ) (k n : ℕ) → pos 1 ≤ℤ step → k < n
    → int_lt (pos 0) ((first +ℤ step *ℤ pos n) -ℤ (first +ℤ step *ℤ pos k)) ≡ true
farther first (pos (suc s)) k n some more =
    let grows : suc s * (k + 1) ≤ suc s * n = mul-le-mul_left (suc s) (omega (arith, more)) in
    less_tested (pos 0) ((first +ℤ pos (suc s) *ℤ pos n) -ℤ (first +ℤ pos (suc s) *ℤ pos k)) (omega (arith, ints, grows))
farther first (pos zero) k n some more = absurd (omega (arith, ints, some))
farther first (negsuc s) k n some more = absurd (omega (arith, ints, some))

-- as many steps are as far
as_far : (first step : ℤ) (k n : ℕ) → k ≡ n
    → int_eq ((first +ℤ step *ℤ pos n) -ℤ (first +ℤ step *ℤ pos k)) (pos 0) ≡ true
as_far first step k n same = rw same (itself (first +ℤ step *ℤ pos n))
  where
    itself : (z : ℤ) → int_eq (z -ℤ z) (pos 0) ≡ true
    itself z = equal_tested (z -ℤ z) (pos 0) (omega (arith, ints))

-- ---- by rows and columns

-- a later row, or a later column of one row, lies above or straight to the right
above : (g : GridSpec) (row col row_too col_too : ℕ) → pos 1 ≤ℤ g.step → row < row_too
    → is_upper (vector (point_at g row col) (point_at g row_too col_too)) ≡ true
above g row col row_too col_too some more = rw (farther g.y0 g.step row row_too some more) refl

beside : (g : GridSpec) (row col row_too col_too : ℕ) → pos 1 ≤ℤ g.step → row ≡ row_too → col < col_too
    → is_upper (vector (point_at g row col) (point_at g row_too col_too)) ≡ true
beside g row col row_too col_too some same more =
    rw (as_far g.y0 g.step row row_too same, farther g.x0 g.step col col_too some more) (grind arith)

-- of two numbers the greater is in a later row, or later in one row
in_order : (c i j : ℕ) → i ≡ i / c * c + i % c → j ≡ j / c * c + j % c → i % c < c → j % c < c → i < j
    → j / c ≤ i / c → (i / c ≡ j / c) × (i % c < j % c)
in_order c i j i_is j_is i_in j_in less at_most = elim (cases_lt (j / c) (i / c)) [
  | inl fewer ↦
      let grows : c * (j / c + 1) ≤ c * (i / c) = mul-le-mul_left c (omega (arith, fewer)) in
      absurd (omega (arith, grows, i_is, j_is, i_in, j_in, less))
  | inr more ↦
      let same : i / c ≡ j / c = omega (arith, at_most, more) in
      let rows : i / c * c ≡ j / c * c = ap (λ (t : ℕ). t * c) same in
      (same, omega (arith, rows, i_is, j_is, less))
]

grid_later : (g : GridSpec) (i j : ℕ) → pos 1 ≤ℤ g.step → i < j → j < length (grid_points (Some g))
    → is_upper (vector (point_of_number (Some g) i) (point_of_number (Some g) j)) ≡ true
grid_later g i j some less inside =
    let within : i < length (grid_points (Some g)) = omega (arith, less, inside) in
    let here = row_and_col g i within in
    let there = row_and_col g j inside in
    let at_i = point_of_row_and_col g i within in
    let at_j = point_of_row_and_col g j inside in
    ap (λ x. is_upper (vector x (point_of_number (Some g) j))) (sym at_i)
    ∙ ap (λ x. is_upper (vector (point_at g (i / cols_of g) (i % cols_of g)) x)) (sym at_j)
    ∙ (elim (cases_lt (i / cols_of g) (j / cols_of g)) [
      | inl more ↦ above g (i / cols_of g) (i % cols_of g) (j / cols_of g) (j % cols_of g) some more
      | inr not_more ↦
          let one = in_order (cols_of g) i j here.number there.number here.inside there.inside less not_more in
          beside g (i / cols_of g) (i % cols_of g) (j / cols_of g) (j % cols_of g) some one.0 one.1
    ])

pub later_is_upper : (plan : Plan) (i j : ℕ) → is_sound plan ≡ true → i < j → j < length (grid_points plan.grid)
    → is_upper (vector (point_of_number plan.grid i) (point_of_number plan.grid j)) ≡ true
later_is_upper plan i j sound less inside = by_grid plan.grid (sound_grid plan sound) inside
  where
    by_grid : (grid : Option GridSpec) → IfSome grid IsGridInRange → j < length (grid_points grid)
        → is_upper (vector (point_of_number grid i) (point_of_number grid j)) ≡ true
    by_grid None in_range inside = absurd (omega (arith, inside, no_points))
    by_grid (Some g) in_range inside = grid_later g i j in_range.step.from less inside
