-- The grid of a sound plan: its numbers, how many points it has, and where they are.
use Rattle.std.specs.Prelude.{◌≡◌, ℕ, zero, suc, ◌+◌, ◌*◌, ◌<◌, ◌≤◌, ℤ, pos, negsuc, ◌+ℤ◌, ◌-ℤ◌, ◌*ℤ◌, ◌≤ℤ◌, int_le, unsigned_abs, true, ◌&&◌, List, length, Option, Some, None, IfSome}
use Rattle.std.specs.List.{All, flat_map, range_with_len}
use Rattle.std.proofs.Common.{◌∙◌, arith, mul-le-mul_left}
use Rattle.std.proofs.lemmas.Int.{ints}
use Rattle.std.proofs.lemmas.List.{length-append, length-map}
use Rattle.std.proofs.lemmas.List.Elements.{All-nil, All-cons, All-append, All-map}
use Rattle.std.proofs.lemmas.List.FromFn.{length-range_with_len}
use Rattle.plane_spec.specs.Vectors.{IsWithin, InRange, is_coordinate}
use Rattle.plan_spec.specs.declared.item.GridSpec.{GridSpec}
use Rattle.plan_spec.specs.declared.limits.TheConstants.{MAX_GRID_POINTS, MAX_STEP}
use Rattle.plan_spec.specs.Plan.{Plan}
use Rattle.plan_spec.specs.Accepted.{is_grid_sound, is_grid_in_range, is_grid_small, is_from_one, is_row_in_range, is_sound}
use Rattle.plan_spec.specs.Grid.{point_at, row_points, grid_points}
use Rattle.plan_spec.specs.Ranges.{IsGridInRange}
use Rattle.plan_laws.proofs.Parts.{first_of_both, second_of_both, parts_of_sound}
use Rattle.plan_laws.proofs.Ranges.{coordinate_within}

-- ---- its numbers

at_most : (y z : ℤ) → int_le y z ≡ true → y ≤ℤ z
at_most y z h = grind (arith, ints)

-- one of two numbers of at least 1 is at most their product
factor_of_small : (most : ℕ) (m n : ℤ) → pos 1 ≤ℤ m → pos 1 ≤ℤ n → (m *ℤ n) ≤ℤ pos most → (m ≤ℤ pos most) × (n ≤ℤ pos most)
factor_of_small most (pos (suc m)) (pos (suc n)) h k e = (omega (arith, ints), omega (arith, ints))
factor_of_small most (pos m) (negsuc n) h k e = absurd (omega (arith, ints))
factor_of_small most (negsuc m) n h k e = absurd (omega (arith, ints))
factor_of_small most m n h k e = absurd (omega (arith, ints))

pub grid_is : (g : GridSpec) → (is_grid_in_range g && is_grid_small g) ≡ true → IsGridInRange g
unfolding is_grid_in_range
grid_is g h =
    let small = at_most (g.cols *ℤ g.rows) (pos MAX_GRID_POINTS) (second_of_both (is_grid_in_range g) (is_grid_small g) h) in
    let all = first_of_both (is_grid_in_range g) (is_grid_small g) h in
    let numbers = first_of_both (is_from_one MAX_STEP g.step && (int_le (pos 1) g.cols && int_le (pos 1) g.rows)) (is_row_in_range g.x0 g.step g.cols && is_row_in_range g.y0 g.step g.rows) all in
    let ends = second_of_both (is_from_one MAX_STEP g.step && (int_le (pos 1) g.cols && int_le (pos 1) g.rows)) (is_row_in_range g.x0 g.step g.cols && is_row_in_range g.y0 g.step g.rows) all in
    let step = first_of_both (is_from_one MAX_STEP g.step) (int_le (pos 1) g.cols && int_le (pos 1) g.rows) numbers in
    let counts = second_of_both (is_from_one MAX_STEP g.step) (int_le (pos 1) g.cols && int_le (pos 1) g.rows) numbers in
    let cols_from = at_most (pos 1) g.cols (first_of_both (int_le (pos 1) g.cols) (int_le (pos 1) g.rows) counts) in
    let rows_from = at_most (pos 1) g.rows (second_of_both (int_le (pos 1) g.cols) (int_le (pos 1) g.rows) counts) in
    let few = factor_of_small MAX_GRID_POINTS g.cols g.rows cols_from rows_from small in
    let xs = first_of_both (is_row_in_range g.x0 g.step g.cols) (is_row_in_range g.y0 g.step g.rows) ends in
    let ys = second_of_both (is_row_in_range g.x0 g.step g.cols) (is_row_in_range g.y0 g.step g.rows) ends in
    record {
      step = record {
        from = at_most (pos 1) g.step (first_of_both (int_le (pos 1) g.step) (int_le g.step MAX_STEP) step);
        to = at_most g.step MAX_STEP (second_of_both (int_le (pos 1) g.step) (int_le g.step MAX_STEP) step);
      };
      cols = record { from = cols_from; to = few.0 };
      rows = record { from = rows_from; to = few.1 };
      count = small;
      first_col = coordinate_within g.x0 (first_of_both (is_coordinate g.x0) _ xs);
      last_col = coordinate_within (g.x0 +ℤ g.step *ℤ (g.cols -ℤ pos 1)) (second_of_both (is_coordinate g.x0) (is_coordinate (g.x0 +ℤ g.step *ℤ (g.cols -ℤ pos 1))) xs);
      first_row = coordinate_within g.y0 (first_of_both (is_coordinate g.y0) _ ys);
      last_row = coordinate_within (g.y0 +ℤ g.step *ℤ (g.rows -ℤ pos 1)) (second_of_both (is_coordinate g.y0) (is_coordinate (g.y0 +ℤ g.step *ℤ (g.rows -ℤ pos 1))) ys);
    }

pub sound_grid : (p : Plan) → is_sound p ≡ true → IfSome p.grid IsGridInRange
sound_grid p h = by_grid p.grid (parts_of_sound p h).grid
  where
    by_grid : (grid : Option GridSpec) → is_grid_sound grid ≡ true → IfSome grid IsGridInRange
    by_grid None h = tt
    by_grid (Some g) h = grid_is g h

-- ---- how many points it has

row_length : (g : GridSpec) (row : ℕ) → length (row_points g row) ≡ unsigned_abs g.cols
row_length g row = length-map (range_with_len 0 (unsigned_abs g.cols)) (point_at g row) ∙ length-range_with_len 0 (unsigned_abs g.cols)

rows_length : (g : GridSpec) (from count : ℕ) → length (flat_map (row_points g) (range_with_len from count)) ≡ unsigned_abs g.cols * count
rows_length g from zero = omega arith
rows_length g from (suc count) =
    length-append (row_points g from) (flat_map (row_points g) (range_with_len (from + 1) count))
    ∙ omega (arith, row_length g from, rows_length g (from + 1) count)

-- a grid has as many points as its columns times its rows
pub grid_length : (g : GridSpec) → length (grid_points (Some g)) ≡ unsigned_abs g.cols * unsigned_abs g.rows
unfolding grid_points
grid_length g = rows_length g 0 (unsigned_abs g.rows)

few_points : (most : ℕ) (m n : ℤ) → pos 1 ≤ℤ m → pos 1 ≤ℤ n → (m *ℤ n) ≤ℤ pos most → unsigned_abs m * unsigned_abs n ≤ most
few_points most (pos m) (pos n) h k e = omega (arith, ints)
few_points most (pos m) (negsuc n) h k e = absurd (omega (arith, ints))
few_points most (negsuc m) n h k e = absurd (omega (arith, ints))

pub sound_grid_length : (p : Plan) → is_sound p ≡ true → length (grid_points p.grid) ≤ MAX_GRID_POINTS
unfolding grid_points
sound_grid_length p h = by_grid p.grid (sound_grid p h)
  where
    by_grid : (grid : Option GridSpec) → IfSome grid IsGridInRange → length (grid_points grid) ≤ MAX_GRID_POINTS
    by_grid None h = omega arith
    by_grid (Some g) h = omega (arith, grid_length g, few_points MAX_GRID_POINTS g.cols g.rows h.cols.from h.rows.from h.count)

-- ---- where its points are

-- between the first and the last
pub between_ends : (first step count : ℤ) (k : ℕ) → pos 1 ≤ℤ step → pos 1 ≤ℤ count → k < unsigned_abs count
    → IsWithin (pos 100000) first → IsWithin (pos 100000) (first +ℤ step *ℤ (count -ℤ pos 1)) → IsWithin (pos 100000) (first +ℤ step *ℤ pos k)
between_ends first (pos s) (pos (suc n)) k one_step one below from to =
    let along : s * k ≤ s * n = mul-le-mul_left s (omega arith) in
    let one_less : pos (suc n) -ℤ pos 1 ≡ pos n = omega (arith, ints) in
    let last : (first +ℤ pos (s * n)) ≤ℤ pos 100000 = rw one_less at to.high in
    record { low = omega (arith, ints); high = omega (arith, ints) }
between_ends first (pos s) (pos n) k one_step one below from to = absurd (omega (arith, ints))
between_ends first (negsuc s) count k one_step one below from to = absurd (omega (arith, ints))
between_ends first (pos s) (negsuc n) k one_step one below from to = absurd (omega (arith, ints))

each_number : (P : ℕ → Type 0) (from count : ℕ) → ((k : ℕ) → from ≤ k → k < from + count → P k) → All P (range_with_len from count)
each_number P from zero h = All-nil P
each_number P from (suc count) h =
    All-cons P from (range_with_len (from + 1) count) (h from (omega arith) (omega arith))
    (each_number P (from + 1) count (λ k a b. h k (omega arith) (omega arith)))

each_row : {X : Type 0} (P : X → Type 0) (f : ℕ → List X) (from count : ℕ)
    → ((k : ℕ) → from ≤ k → k < from + count → All P (f k)) → All P (flat_map f (range_with_len from count))
each_row P f from zero h = All-nil P
each_row P f from (suc count) h =
    All-append P (f from) (flat_map f (range_with_len (from + 1) count)) (h from (omega arith) (omega arith))
    (each_row P f (from + 1) count (λ k a b. h k (omega arith) (omega arith)))

pub grid_in_range : (g : GridSpec) → IsGridInRange g → All InRange (grid_points (Some g))
unfolding grid_points
grid_in_range g h =
    each_row InRange (row_points g) 0 (unsigned_abs g.rows) (λ row a row_in.
    All-map InRange (point_at g row) (range_with_len 0 (unsigned_abs g.cols))
    (each_number (λ col. InRange (point_at g row col)) 0 (unsigned_abs g.cols) (λ col b col_in. record {
      x = between_ends g.x0 g.step g.cols col h.step.from h.cols.from (omega arith) h.first_col h.last_col;
      y = between_ends g.y0 g.step g.rows row h.step.from h.rows.from (omega arith) h.first_row h.last_row;
    })))

no_points : All InRange (grid_points None)
unfolding grid_points
no_points = All-nil InRange

-- every point of a sound plan's grid is in range
pub sound_grid_points : (p : Plan) → is_sound p ≡ true → All InRange (grid_points p.grid)
sound_grid_points p h = by_grid p.grid (sound_grid p h)
  where
    by_grid : (grid : Option GridSpec) → IfSome grid IsGridInRange → All InRange (grid_points grid)
    by_grid None h = no_points
    by_grid (Some g) h = grid_in_range g h
