-- The number of a grid point by its row and its column.
use Rattle.std.specs.Prelude.{◌≡◌, ℕ, zero, suc, ◌+◌, ◌*◌, ◌/◌, ◌%◌, ◌<◌, ◌≤◌, ℤ, pos, negsuc, ◌+ℤ◌, ◌*ℤ◌, ◌≤ℤ◌, unsigned_abs, length, Option, Some, None}
use Rattle.std.proofs.Common.{refl, sym, ap, ◌∙◌, inl, inr, arith, mul-le-mul_left, subst}
use Rattle.std.proofs.Math.Nat.{div-add-mod, mod-lt, mul-mod_right, mul-div_cancel_left}
use Rattle.std.proofs.lemmas.Bool.{cases_lt}
use Rattle.std.proofs.lemmas.Int.{ints}
use Rattle.plane_spec.specs.declared.Point.{Point}
use Rattle.plan_spec.specs.declared.item.GridSpec.{GridSpec}
use Rattle.plan_spec.specs.Grid.{point_at, grid_points, point_of_number, number_of_point}
use Rattle.plan_spec.specs.Ranges.{IsGridInRange}
use Rattle.plan_laws.proofs.Grids.{grid_length}
use Rattle.plan_laws.proofs.GridPoints.{point_in_row_and_col, number_in_row_and_col, number_is_found, found_number}

pub no_points : length (grid_points None) ≡ 0
unfolding grid_points
no_points = refl

pub no_number : (x : Point) → number_of_point None x ≡ None
unfolding grid_points
no_number x = refl

pub count_at_most : (z : ℤ) (n : ℕ) → pos 1 ≤ℤ z → z ≤ℤ pos n → unsigned_abs z ≤ n
count_at_most (pos k) n one most = omega (arith, ints, most)
count_at_most (negsuc k) n one most = absurd (omega (arith, ints, one))

-- ---- numbers along one axis

-- z is a whole number of steps from the first
steps_to : (first step z : ℤ) (s d k : ℕ) → pos s ≡ step → first +ℤ pos d ≡ z → first +ℤ step *ℤ pos k ≡ z → d ≡ s * k
steps_to first step z s d k same at along =
    let by_s : first +ℤ pos s *ℤ pos k ≡ z = subst (λ t. first +ℤ t *ℤ pos k ≡ z) (sym same) along in
    omega (arith, ints, at, by_s)

pub between_steps : (first step z : ℤ) (s d k : ℕ) → pos s ≡ step → first +ℤ pos d ≡ z → (d % s ≡ 0 → ⊥)
    → first +ℤ step *ℤ pos k ≡ z → ⊥
between_steps first step z s d k same at rest along =
    rest (ap (λ (x : ℕ). x % s) (steps_to first step z s d k same at along) ∙ mul-mod_right s k)

pub past_steps : (first step z : ℤ) (s d count k : ℕ) → pos s ≡ step → 0 < s → first +ℤ pos d ≡ z → count ≤ d / s
    → k < count → first +ℤ step *ℤ pos k ≡ z → ⊥
past_steps first step z s d count k same some at past below along =
    let steps : d / s ≡ k = ap (λ (x : ℕ). x / s) (steps_to first step z s d k same at along) ∙ mul-div_cancel_left k some in
    omega (arith, steps, past, below)

pub at_step : (first step z : ℤ) (s d : ℕ) → pos s ≡ step → first +ℤ pos d ≡ z → d % s ≡ 0
    → first +ℤ step *ℤ pos (d / s) ≡ z
at_step first step z s d same at none =
    let whole : d ≡ s * (d / s) = omega (arith, div-add-mod d s, none) in
    subst (λ t. first +ℤ t *ℤ pos (d / s) ≡ z) same (omega (arith, ints, at, whole))

-- ---- rows and columns

abbrev pub cols_of : GridSpec → ℕ
cols_of g = unsigned_abs g.cols

abbrev pub rows_of : GridSpec → ℕ
rows_of g = unsigned_abs g.rows

-- the row and the column of a number
pub record HasRowAndCol (g : GridSpec) (k : ℕ) : Type 0 where
  pub below : k / cols_of g < rows_of g
  pub inside : k % cols_of g < cols_of g
  pub number : k ≡ k / cols_of g * cols_of g + k % cols_of g

some_cols : (c r k : ℕ) → k < c * r → 0 < c
some_cols zero r k below = let none : 0 * r ≡ 0 = omega arith in absurd (omega (arith, below, none))
some_cols (suc c) r k below = omega arith

few_rows : (c r q k : ℕ) → c * q ≤ k → k < c * r → q < r
few_rows c r q k at_least below = elim (cases_lt q r) [
  | inl fewer ↦ fewer
  | inr past ↦ let all : c * r ≤ c * q = mul-le-mul_left c past in absurd (omega (arith, all, at_least, below))
]

pub row_and_col : (g : GridSpec) (k : ℕ) → k < length (grid_points (Some g)) → HasRowAndCol g k
row_and_col g k inside =
    let below : k < cols_of g * rows_of g = omega (arith, inside, grid_length g) in
    let split = div-add-mod k (cols_of g) in
    record {
      below = few_rows (cols_of g) (rows_of g) (k / cols_of g) k (omega (arith, split)) below;
      inside = mod-lt k (some_cols (cols_of g) (rows_of g) k below);
      number = omega (arith, split);
    }

pub point_of_row_and_col : (g : GridSpec) (k : ℕ) → k < length (grid_points (Some g))
    → point_at g (k / cols_of g) (k % cols_of g) ≡ point_of_number (Some g) k
point_of_row_and_col g k inside =
    let place = row_and_col g k inside in
    sym (ap (point_of_number (Some g)) place.number
    ∙ point_in_row_and_col g (k / cols_of g) (k % cols_of g) place.below place.inside)

-- ---- the number of a point

pub number_there : (g : GridSpec) (x : Point) (row col : ℕ) → IsGridInRange g → row < rows_of g → col < cols_of g
    → point_at g row col ≡ x → number_of_point (Some g) x ≡ Some (row * cols_of g + col)
number_there g x row col in_range below inside at =
    ap (number_of_point (Some g)) (sym (point_in_row_and_col g row col below inside ∙ at))
    ∙ number_is_found g in_range.step.from (row * cols_of g + col) (number_in_row_and_col g row col below inside)

pub number_nowhere : (g : GridSpec) (x : Point)
    → ((row col : ℕ) → row < rows_of g → col < cols_of g → point_at g row col ≡ x → ⊥)
    → number_of_point (Some g) x ≡ None
number_nowhere g x nowhere = by_number (number_of_point (Some g) x) refl
  where
    by_number : (o : Option ℕ) → number_of_point (Some g) x ≡ o → o ≡ None
    by_number None is = refl
    by_number (Some k) is =
        let found = found_number g x k is in
        let place = row_and_col g k found.0 in
        absurd (nowhere (k / cols_of g) (k % cols_of g) place.below place.inside
        (point_of_row_and_col g k found.0 ∙ found.1))

pub at_col : (g : GridSpec) (x : Point) (row col : ℕ) → point_at g row col ≡ x → g.x0 +ℤ g.step *ℤ pos col ≡ x.x
at_col g x row col at = ap (λ (p : Point). p.x) at

pub at_row : (g : GridSpec) (x : Point) (row col : ℕ) → point_at g row col ≡ x → g.y0 +ℤ g.step *ℤ pos row ≡ x.y
at_row g x row col at = ap (λ (p : Point). p.y) at

pub at_point : (g : GridSpec) (x : Point) (row col : ℕ) → g.x0 +ℤ g.step *ℤ pos col ≡ x.x
    → g.y0 +ℤ g.step *ℤ pos row ≡ x.y → point_at g row col ≡ x
at_point g x row col x_is y_is = λ k. record { x = x_is k; y = y_is k }
