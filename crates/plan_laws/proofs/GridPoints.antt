-- How the grid's points are numbered: row by row, so that number `row * cols + col` is the point in that row and that
-- column.
use Rattle.std.specs.Prelude.{◌≡◌, ℕ, zero, suc, ◌+◌, ◌*◌, ◌/◌, ◌%◌, ◌<◌, ◌≤◌, nat_lt, ℤ, pos, negsuc, ◌+ℤ◌, ◌*ℤ◌, ◌≤ℤ◌, unsigned_abs, Bool, true, false, cond, not, List, [], ◌∷◌, length, get_or, Some, None}
use Rattle.std.specs.Ordering.{int_eq}
use Rattle.std.specs.List.{flat_map, range_with_len, position_or_len}
use Rattle.std.proofs.Common.{refl, sym, ap, ◌∙◌, inl, inr, arith, mul-le-mul_left, add-zero, subst}
use Rattle.std.proofs.Math.Nat.{div-add-mod, mod-lt}
use Rattle.std.proofs.lemmas.Bool.{cases_eq, cases_lt, cond-true, and_from, and_parts, lt-ltb}
use Rattle.std.proofs.lemmas.Int.{ints}
use Rattle.std.proofs.lemmas.List.{get_or_append_left, get_or-append-add, length-map}
use Rattle.std.proofs.lemmas.List.FromFn.{get_or-map-range_with_len, length-range_with_len}
use Rattle.std.proofs.lemmas.List.Quantifiers.{position-Some}
use Rattle.plane_spec.specs.declared.Point.{Point}
use Rattle.plane_spec.specs.Vectors.{point, same_point}
use Rattle.plan_spec.specs.declared.item.GridSpec.{GridSpec}
use Rattle.plan_spec.specs.Grid.{point_at, row_points, grid_points, point_of_number, number_of_point}
use Rattle.int_laws.proofs.Tests.{tested_equal, equal_tested}
use Rattle.plan_laws.proofs.Grids.{grid_length}

-- the default of `point_of_number`
abbrev nowhere : Point
nowhere = point (pos 0) (pos 0)

-- the numbers of columns and of rows
abbrev pub cols_of : GridSpec → ℕ
cols_of g = unsigned_abs g.cols

abbrev pub rows_of : GridSpec → ℕ
rows_of g = unsigned_abs g.rows

-- ---- the point in a row and a column

row_length : (g : GridSpec) (row : ℕ) → length (row_points g row) ≡ cols_of g
row_length g row = length-map (range_with_len 0 (cols_of g)) (point_at g row) ∙ length-range_with_len 0 (cols_of g)

-- the points of so many rows from one on
abbrev rows_from : GridSpec → ℕ → ℕ → List Point
rows_from g from count = flat_map (row_points g) (range_with_len from count)

in_row : (g : GridSpec) (row col from count : ℕ) → row < count → col < cols_of g
    → get_or (rows_from g from count) (row * cols_of g + col) nowhere ≡ point_at g (from + row) col
in_row g row col from zero below inside = absurd (omega arith)
in_row g zero col from (suc count) below inside =
    let number : 0 * cols_of g + col ≡ col = omega arith in
    ap (λ (k : ℕ). get_or (rows_from g from (suc count)) k nowhere) number
    ∙ get_or_append_left (row_points g from) (rows_from g (from + 1) count) nowhere col
    (omega (arith, inside, row_length g from))
    ∙ get_or-map-range_with_len (point_at g from) 0 (cols_of g) col col nowhere inside (omega arith)
    ∙ ap (λ (row : ℕ). point_at g row col) (sym (add-zero from))
in_row g (suc row) col from (suc count) below inside =
    let number : suc row * cols_of g + col ≡ length (row_points g from) + (row * cols_of g + col)
    = omega (arith, row_length g from) in
    let next : from + 1 + row ≡ from + suc row = omega arith in
    ap (λ (k : ℕ). get_or (rows_from g from (suc count)) k nowhere) number
    ∙ get_or-append-add (row_points g from) (rows_from g (from + 1) count) (row * cols_of g + col) nowhere
    ∙ in_row g row col (from + 1) count (omega arith) inside
    ∙ ap (λ (row : ℕ). point_at g row col) next

pub point_in_row_and_col : (g : GridSpec) (row col : ℕ) → row < rows_of g → col < cols_of g
    → point_of_number (Some g) (row * cols_of g + col) ≡ point_at g row col
unfolding grid_points
point_in_row_and_col g row col below inside =
    let first : 0 + row ≡ row = omega arith in
    in_row g row col 0 (rows_of g) below inside ∙ ap (λ (r : ℕ). point_at g r col) first

pub number_in_row_and_col : (g : GridSpec) (row col : ℕ) → row < rows_of g → col < cols_of g
    → row * cols_of g + col < length (grid_points (Some g))
number_in_row_and_col g row col below inside =
    let rows : cols_of g * suc row ≤ cols_of g * rows_of g = mul-le-mul_left (cols_of g) below in
    omega (arith, rows, inside, grid_length g)

-- ---- the row and the column of a number

record HasPlace (g : GridSpec) (k : ℕ) : Type 0 where
  row : ℕ
  col : ℕ
  below : row < rows_of g
  inside : col < cols_of g
  number : k ≡ row * cols_of g + col

some_cols : (c r k : ℕ) → k < c * r → 0 < c
some_cols zero r k below = let none : 0 * r ≡ 0 = omega arith in absurd (omega (arith, below, none))
some_cols (suc c) r k below = omega arith

few_rows : (c r q k : ℕ) → c * q ≤ k → k < c * r → q < r
few_rows c r q k at_least below = elim (cases_lt q r) [
  | inl fewer ↦ fewer
  | inr past ↦ let all : c * r ≤ c * q = mul-le-mul_left c past in absurd (omega (arith, all, at_least, below))
]

place_of_number : (g : GridSpec) (k : ℕ) → k < length (grid_points (Some g)) → HasPlace g k
place_of_number g k inside =
    let below : k < cols_of g * rows_of g = omega (arith, inside, grid_length g) in
    let some = some_cols (cols_of g) (rows_of g) k below in
    let split = div-add-mod k (cols_of g) in
    let col = mod-lt k some in
    record {
      row = k / cols_of g;
      col = k % cols_of g;
      below = few_rows (cols_of g) (rows_of g) (k / cols_of g) k (omega (arith, split)) below;
      inside = col;
      number = omega (arith, split);
    }

-- ---- no two numbers have one point

same_along : (first step : ℤ) (a b : ℕ) → pos 1 ≤ℤ step → first +ℤ step *ℤ pos a ≡ first +ℤ step *ℤ pos b → a ≡ b
same_along first (pos s) a b one same =
    let equal : s * a ≡ s * b = omega (arith, ints, same) in
    let some : 1 ≤ s = omega (arith, ints, one) in
    elim (cases_eq a b) [
      | inl is ↦ is
      | inr other ↦ elim (cases_lt a b) [
        | inl less ↦ let more : s * suc a ≤ s * b = mul-le-mul_left s less in absurd (omega (arith, more, equal, some))
        | inr at_least ↦
            let greater : suc b ≤ a = omega arith in
            let more : s * suc b ≤ s * a = mul-le-mul_left s greater in absurd (omega (arith, more, equal, some))
      ]
    ]
same_along first (negsuc s) a b one same = absurd (omega (arith, ints))

at_place : (g : GridSpec) (k : ℕ) (place : HasPlace g k) → point_of_number (Some g) k ≡ point_at g place.row place.col
at_place g k place =
    ap (point_of_number (Some g)) place.number ∙ point_in_row_and_col g place.row place.col place.below place.inside

pub one_number : (g : GridSpec) → pos 1 ≤ℤ g.step → (i k : ℕ)
    → i < length (grid_points (Some g)) → k < length (grid_points (Some g))
    → same_point (point_of_number (Some g) i) (point_of_number (Some g) k) ≡ true → i ≡ k
one_number g step i k inside_i inside_k same =
    let p = place_of_number g i inside_i in
    let q = place_of_number g k inside_k in
    let both : same_point (point_at g p.row p.col) (point_at g q.row q.col) ≡ true
    = subst (λ x. same_point x (point_at g q.row q.col) ≡ true) (at_place g i p)
    (subst (λ y. same_point (point_of_number (Some g) i) y ≡ true) (at_place g k q) same) in
    let parts = and_parts
    (int_eq (point_at g p.row p.col).x (point_at g q.row q.col).x)
    (int_eq (point_at g p.row p.col).y (point_at g q.row q.col).y)
    both in
    let col = same_along g.x0 g.step p.col q.col step (tested_equal _ _ parts.0) in
    let row = same_along g.y0 g.step p.row q.row step (tested_equal _ _ parts.1) in
    p.number ∙ ap (λ (r : ℕ). r * cols_of g + p.col) row ∙ ap (λ (c : ℕ). q.row * cols_of g + c) col ∙ sym q.number

-- ---- the number of a point

first_at_most : {X : Type 0} (p : X → Bool) (xs : List X) (k : ℕ) (d : X) → k < length xs → p (get_or xs k d) ≡ true
    → position_or_len p xs ≤ k
first_at_most p [] k d inside passes = absurd (omega arith)
first_at_most p (x ∷ xs) zero d inside passes = rw passes (omega arith)
first_at_most p (x ∷ xs) (suc k) d inside passes =
    one_more (p x) (position_or_len p xs) k (first_at_most p xs k d (omega arith) passes)
  where
    one_more : (t : Bool) (n k : ℕ) → n ≤ k → cond (not t) (1 + n) 0 ≤ suc k
    one_more true n k h = omega arith
    one_more false n k h = omega (arith, h)

same_itself : (p : Point) → same_point p p ≡ true
same_itself p = and_from (int_eq p.x p.x) (int_eq p.y p.y) (equal_tested p.x p.x refl) (equal_tested p.y p.y refl)

pub number_is_found : (g : GridSpec) → pos 1 ≤ℤ g.step → (k : ℕ) → k < length (grid_points (Some g))
    → number_of_point (Some g) (point_of_number (Some g) k) ≡ Some k
number_is_found g step k inside =
    let x = point_of_number (Some g) k in
    let first = position_or_len (same_point x) (grid_points (Some g)) in
    let early = first_at_most (same_point x) (grid_points (Some g)) k nowhere inside (same_itself x) in
    let there : first < length (grid_points (Some g)) = omega (arith, early, inside) in
    let count = length (grid_points (Some g)) in
    let found : number_of_point (Some g) x ≡ Some first
    = cond-true (nat_lt first count) (Some first) None (lt-ltb first count there) in
    let passes = position-Some (same_point x) (grid_points (Some g)) first nowhere found in
    found ∙ ap Some (sym (one_number g step k first inside there passes.1))

-- a number that is found is that of the point
pub found_number : (g : GridSpec) (x : Point) (k : ℕ) → number_of_point (Some g) x ≡ Some k
    → (k < length (grid_points (Some g))) × (point_of_number (Some g) k ≡ x)
found_number g x k found =
    let passes = position-Some (same_point x) (grid_points (Some g)) k nowhere found in
    (passes.0, sym (same_points x (point_of_number (Some g) k) passes.1))
  where
    same_points : (p q : Point) → same_point p q ≡ true → p ≡ q
    same_points p q same =
        let parts = and_parts (int_eq p.x q.x) (int_eq p.y q.y) same in
        λ i. record { x = tested_equal p.x q.x parts.0 i; y = tested_equal p.y q.y parts.1 i }
