-- The doubled area is four times the sum of the windings of all cells of a grid.
--
-- The plane is made so wide and tall that each edge begins and ends on the grid's lines and meets the middle of each
-- row at a whole place. In a row that an edge crosses it passes right of the cells to its left: there are as many as
-- it is far from the left side. Over the rows these numbers are an arithmetic sum, which is half the edge's part of
-- the area and something that depends on its ends alone; along edges that close the latter cancel out.
use Rattle.std.specs.Prelude.{List, [], ◌∷◌}
use Rattle.std.proofs.Common.{ℕ, ℤ, ap, arith, inl, inr, pos, ◌≡◌, ◌≤◌, ◌<◌, ◌+ℤ◌, ◌-ℤ◌, ◌*ℤ◌, ◌<ℤ◌, ◌≤ℤ◌, ◌∙◌, refl}
use Rattle.std.proofs.Common.{suc, zero, sym, neg_ℤ}
use Rattle.std.proofs.lemmas.Int.{ints, by_lt_z}
use borrow.Author.Differences.{down, up}
use Rattle.int_laws.proofs.Ring.{times_zero, zero_times, one_times, sum_times, times_one, times_sum, diff}
use Rattle.int_laws.proofs.Ring.{product_diff, same_diff, sum_diff, is_diff, neg_times, minus_diff}
use Rattle.plane_spec.specs.declared.Segment.{Segment}
use Rattle.plane_spec.specs.declared.Point.{Point}
use Rattle.plane_spec.specs.Vectors.{cross_of}
use Rattle.plane_spec.specs.Polygons.{doubled_area}
use Rattle.plane_laws.proofs.Points.Between.{in_order}
use Rattle.plane_laws.proofs.Lists.Members.{IsIn}
use Rattle.winding_laws.specs.Windings.{wind, winding}
use Rattle.winding_laws.proofs.OneEdge.{wind_below, wind_above, wind_turned}
use Rattle.winding_laws.proofs.Closed.{rises_along, AreClosed}
use Rattle.area_laws.proofs.Cells.{cell, IsOnGrid, place_at, place_between, wind_at, back_slope}
use Rattle.area_laws.proofs.Sums.{sum_to, count_before, is_before_place, sum_to-same, sum_to-none, sum_to-neg}
use Rattle.area_laws.proofs.Sums.{sum_to-plus, sum_to-not_negative, sum_to-positive}
use Rattle.sight_spec.specs.Scene.{turned_edge}

abbrev pub row : ℤ → ℤ → ℕ → Segment → ℕ → ℤ
row left base m e i = sum_to m (λ j. wind (cell left base i j) e)

abbrev pub rows : ℤ → ℤ → ℕ → ℕ → Segment → ℤ
rows left base m n e = sum_to n (row left base m e)

-- a row that the edge crosses upwards
row_across : (left base : ℤ) (m n : ℕ) (e : Segment) (g : IsOnGrid left base m n e) (i : ℕ)
    → e.b.x -ℤ e.a.x ≡ g.slope *ℤ (e.b.y -ℤ e.a.y)
    → g.from ≤ i → i < g.to
    → row left base m e i ≡ (e.a.x -ℤ left) +ℤ g.slope *ℤ (((pos i -ℤ pos g.from) +ℤ (pos i -ℤ pos g.from)) +ℤ pos 1)
row_across left base m n e g i h low high =
    let y = base +ℤ ((pos i +ℤ pos i) +ℤ pos 1) in
    let from = g.a_y in
    let to = g.b_y in
    let y_low : e.a.y ≤ℤ y = omega (arith, ints, low, from) in
    let y_high : y <ℤ e.b.y = omega (arith, ints, high, to) in
    let inside = in_order (place_at e g.slope y) e.a.x e.b.x (place_between e g.slope y y_low y_high h) in
    let a_low = g.a_low in
    let a_high = g.a_high in
    let b_low = g.b_low in
    let b_high = g.b_high in
    let bounds : (left ≤ℤ place_at e g.slope y) × (place_at e g.slope y ≤ℤ (left +ℤ pos m)) = elim inside [
      | inl k ↦ (omega (arith, ints, k.0, a_low), omega (arith, ints, k.1, b_high))
      | inr k ↦ (omega (arith, ints, k.0, b_low), omega (arith, ints, k.1, a_high))
    ] in
    let steps : y -ℤ e.a.y ≡ ((pos i -ℤ pos g.from) +ℤ (pos i -ℤ pos g.from)) +ℤ pos 1 = omega (arith, ints, from) in
    let same = sum_to-same m (λ j. wind (cell left base i j) e) (is_before_place left (place_at e g.slope y))
    (λ j k. wind_at e g.slope (cell left base i j) y_low y_high h) in
    let counted = count_before m left (place_at e g.slope y) bounds.0 bounds.1 in
    let whole : place_at e g.slope y ≡ e.a.x +ℤ g.slope *ℤ
    (((pos i -ℤ pos g.from) +ℤ (pos i -ℤ pos g.from)) +ℤ pos 1) = ap (λ t. e.a.x +ℤ g.slope *ℤ t) steps in
    same ∙ counted ∙ ap (λ t. t -ℤ left) whole ∙ omega (arith, ints)

row_below : (left base : ℤ) (m n : ℕ) (e : Segment) (g : IsOnGrid left base m n e) (i : ℕ) → i < g.from → i < g.to
    → row left base m e i ≡ pos 0
row_below left base m n e g i low high =
    let from = g.a_y in
    let to = g.b_y in
    sum_to-none m (λ j. wind (cell left base i j) e) (λ j k. wind_below (cell left base i j) e
    (omega (arith, ints, low, from)) (omega (arith, ints, high, to)))

row_above : (left base : ℤ) (m n : ℕ) (e : Segment) (g : IsOnGrid left base m n e) (i : ℕ) → g.from ≤ i → g.to ≤ i
    → row left base m e i ≡ pos 0
row_above left base m n e g i low high =
    let from = g.a_y in
    let to = g.b_y in
    sum_to-none m (λ j. wind (cell left base i j) e) (λ j k. wind_above (cell left base i j) e
    (omega (arith, ints, low, from)) (omega (arith, ints, high, to)))

-- ---- the rows of an edge that goes up

-- the sum over k rows
abbrev up_to : ℤ → ℤ → ℤ → ℤ
up_to start slope k = k *ℤ start +ℤ slope *ℤ (k *ℤ k)

none_yet : (start slope k : ℤ) → k ≡ pos 0 → up_to start slope k ≡ pos 0
none_yet start slope k e = rw (e, zero_times start, times_zero (pos 0), times_zero slope) refl

one_more : (start slope k : ℤ)
    → up_to start slope k +ℤ (start +ℤ slope *ℤ ((k +ℤ k) +ℤ pos 1)) ≡ up_to start slope (k +ℤ pos 1)
one_more start slope k =
    let first = sum_times k (pos 1) start in
    let first_one = one_times start in
    let square : (k +ℤ pos 1) *ℤ (k +ℤ pos 1) ≡ k *ℤ k +ℤ ((k +ℤ k) +ℤ pos 1) =
    let a = times_sum (k +ℤ pos 1) k (pos 1) in let b = sum_times k (pos 1) k in let c = one_times k in
    let d = times_one (k +ℤ pos 1) in omega (arith, ints, a, b, c, d) in
    let second = ap (λ t. slope *ℤ t) square ∙ times_sum slope (k *ℤ k) ((k +ℤ k) +ℤ pos 1) in
    omega (arith, ints, first, first_one, second)

rows_low : (left base : ℤ) (m n : ℕ) (e : Segment) (g : IsOnGrid left base m n e) (k : ℕ) → g.from ≤ g.to → k ≤ g.from
    → rows left base m k e ≡ pos 0
rows_low left base m n e g zero rising h = refl
rows_low left base m n e g (suc k) rising h =
    let rest = rows_low left base m n e g k rising (omega (arith, h)) in
    let last = row_below left base m n e g k (omega (arith, h)) (omega (arith, h, rising)) in
    omega (arith, ints, rest, last)

rows_mid : (left base : ℤ) (m n : ℕ) (e : Segment) (g : IsOnGrid left base m n e) (k : ℕ) → g.from ≤ g.to
    → e.b.x -ℤ e.a.x ≡ g.slope *ℤ (e.b.y -ℤ e.a.y)
    → g.from ≤ k → k ≤ g.to → rows left base m k e ≡ up_to (e.a.x -ℤ left) g.slope (pos k -ℤ pos g.from)
rows_mid left base m n e g zero rising sl low high =
    sym (none_yet (e.a.x -ℤ left) g.slope (pos 0 -ℤ pos g.from) (omega (arith, ints, low)))
rows_mid left base m n e g (suc k) rising sl low high =
    by_lt_z (pos k) (pos g.from)
    (λ p. rows_low left base m n e g (suc k) rising (omega (arith, ints, p))
    ∙ sym (none_yet (e.a.x -ℤ left) g.slope (pos (suc k) -ℤ pos g.from) (omega (arith, ints, p, low))))
    (λ q. let rest = rows_mid left base m n e g k rising sl (omega (arith, ints, q)) (omega (arith, high)) in
    let last = row_across left base m n e g k sl (omega (arith, ints, q)) (omega (arith, high)) in
    let next : (pos k -ℤ pos g.from) +ℤ pos 1 ≡ pos (suc k) -ℤ pos g.from = omega (arith, ints) in
    let more = one_more (e.a.x -ℤ left) g.slope (pos k -ℤ pos g.from) ∙ ap (up_to (e.a.x -ℤ left) g.slope) next in
    omega (arith, ints, rest, last, more))

rows_high : (left base : ℤ) (m n : ℕ) (e : Segment) (g : IsOnGrid left base m n e) (k : ℕ) → g.from ≤ g.to
    → e.b.x -ℤ e.a.x ≡ g.slope *ℤ (e.b.y -ℤ e.a.y)
    → g.to ≤ k → rows left base m k e ≡ up_to (e.a.x -ℤ left) g.slope (pos g.to -ℤ pos g.from)
rows_high left base m n e g zero rising sl high =
    sym (none_yet (e.a.x -ℤ left) g.slope (pos g.to -ℤ pos g.from) (omega (arith, ints, high, rising)))
rows_high left base m n e g (suc k) rising sl high =
    by_lt_z (pos k) (pos g.to)
    (λ p. let there : suc k ≡ g.to = omega (arith, ints, p, high) in
    rows_mid left base m n e g (suc k) rising sl (omega (arith, rising, there)) (omega (arith, there))
    ∙ ap (λ t. up_to (e.a.x -ℤ left) g.slope (pos t -ℤ pos g.from)) there)
    (λ q. let rest = rows_high left base m n e g k rising sl (omega (arith, ints, q)) in
    let last = row_above left base m n e g k (omega (arith, ints, q, rising)) (omega (arith, ints, q)) in
    omega (arith, ints, rest, last))

-- ---- four times the rows of an edge

abbrev four_times : ℤ → ℤ
four_times z = (z +ℤ z) +ℤ (z +ℤ z)

-- twice the area between the edge and the line at `left`, doubled
abbrev pub beside : ℤ → Segment → ℤ
beside left e = (e.b.y -ℤ e.a.y) *ℤ ((e.a.x -ℤ left) +ℤ (e.b.x -ℤ left))

whole_diff : (a b c d e f : ℕ) →
    (((diff a b *ℤ diff c d +ℤ diff e f *ℤ (diff a b *ℤ diff a b)) +ℤ
    (diff a b *ℤ diff c d +ℤ diff e f *ℤ (diff a b *ℤ diff a b)))
    +ℤ ((diff a b *ℤ diff c d +ℤ diff e f *ℤ (diff a b *ℤ diff a b)) +ℤ
    (diff a b *ℤ diff c d +ℤ diff e f *ℤ (diff a b *ℤ diff a b))))
    ≡ (diff a b +ℤ diff a b) *ℤ (diff c d +ℤ (diff c d +ℤ diff e f *ℤ (diff a b +ℤ diff a b)))
whole_diff a b c d e f = simp (product_diff, sum_diff) (same_diff _ _ _ _ (omega arith))

whole : (start slope k : ℤ) → four_times (up_to start slope k) ≡ (k +ℤ k) *ℤ (start +ℤ (start +ℤ slope *ℤ (k +ℤ k)))
whole start slope k =
    rw (is_diff k, is_diff start, is_diff slope) (whole_diff (up k) (down k) (up start) (down start) (up slope)
    (down slope))

edge_up : (left base : ℤ) (m n : ℕ) (e : Segment) (g : IsOnGrid left base m n e) → g.from ≤ g.to
    → e.b.x -ℤ e.a.x ≡ g.slope *ℤ (e.b.y -ℤ e.a.y)
    → four_times (rows left base m n e) ≡ beside left e
edge_up left base m n e g rising sl =
    let k = pos g.to -ℤ pos g.from in
    let from = g.a_y in
    let to = g.b_y in
    let tall : e.b.y -ℤ e.a.y ≡ k +ℤ k = omega (arith, ints, from, to) in
    let wide : e.b.x -ℤ left ≡ (e.a.x -ℤ left) +ℤ g.slope *ℤ (k +ℤ k) = let w = sl ∙ ap (λ t. g.slope *ℤ t) tall in
    omega (arith, ints, w) in
    ap four_times (rows_high left base m n e g n rising sl g.to_in)
    ∙ whole (e.a.x -ℤ left) g.slope k
    ∙ ap (λ t. t *ℤ ((e.a.x -ℤ left) +ℤ ((e.a.x -ℤ left) +ℤ g.slope *ℤ (k +ℤ k)))) (sym tall)
    ∙ ap (λ t. (e.b.y -ℤ e.a.y) *ℤ ((e.a.x -ℤ left) +ℤ t)) (sym wide)

edge_level : (left base : ℤ) (m n : ℕ) (e : Segment) (g : IsOnGrid left base m n e) → e.a.y ≡ e.b.y
    → four_times (rows left base m n e) ≡ beside left e
edge_level left base m n e g level =
    let from = g.a_y in
    let to = g.b_y in
    let none = sum_to-none n (row left base m e)
    (λ i k. by_lt_z (pos i) (pos g.from)
    (λ p. row_below left base m n e g i (omega (arith, ints, p)) (omega (arith, ints, p, from, to, level)))
    (λ q. row_above left base m n e g i (omega (arith, ints, q)) (omega (arith, ints, q, from, to, level)))) in
    let flat : e.b.y -ℤ e.a.y ≡ pos 0 = omega (arith, ints, level) in
    let nothing : beside left e ≡ pos 0 = ap (λ t. t *ℤ ((e.a.x -ℤ left) +ℤ (e.b.x -ℤ left))) flat
    ∙ zero_times ((e.a.x -ℤ left) +ℤ (e.b.x -ℤ left)) in
    omega (arith, ints, none, nothing)

-- ---- turned round

pub turned_on_grid : (left base : ℤ) (m n : ℕ) (e : Segment) → IsOnGrid left base m n e
    → IsOnGrid left base m n (turned_edge e)
turned_on_grid left base m n e g =
    record {
      from = g.to;
      to = g.from;
      slope = g.slope;
      from_in = g.to_in;
      to_in = g.from_in;
      a_y = g.b_y;
      b_y = g.a_y;
      sloped = elim g.sloped [ inl h ↦ inl (sym h) | inr h ↦ inr (back_slope e.a.x e.b.x e.a.y e.b.y g.slope h) ];
      a_low = g.b_low;
      a_high = g.b_high;
      b_low = g.a_low;
      b_high = g.a_high;
    }

rows_turned : (left base : ℤ) (m n : ℕ) (e : Segment) → rows left base m n (turned_edge e)
    ≡ neg_ℤ (rows left base m n e)
rows_turned left base m n e =
    sum_to-same n (row left base m (turned_edge e)) (λ i. neg_ℤ (row left base m e i))
    (λ i k. sum_to-same m (λ j. wind (cell left base i j) (turned_edge e)) (λ j. neg_ℤ (wind (cell left base i j) e))
    (λ j l. wind_turned (cell left base i j) e)
    ∙ sum_to-neg m (λ j. wind (cell left base i j) e))
    ∙ sum_to-neg n (row left base m e)

beside_turned : (left : ℤ) (e : Segment) → beside left (turned_edge e) ≡ neg_ℤ (beside left e)
beside_turned left e =
    let first : e.a.y -ℤ e.b.y ≡ neg_ℤ (e.b.y -ℤ e.a.y) = omega (arith, ints) in
    let second : (e.b.x -ℤ left) +ℤ (e.a.x -ℤ left) ≡ (e.a.x -ℤ left) +ℤ (e.b.x -ℤ left) = omega (arith, ints) in
    ap (λ t. t *ℤ ((e.b.x -ℤ left) +ℤ (e.a.x -ℤ left))) first
    ∙ ap (λ t. neg_ℤ (e.b.y -ℤ e.a.y) *ℤ t) second
    ∙ neg_times (e.b.y -ℤ e.a.y) ((e.a.x -ℤ left) +ℤ (e.b.x -ℤ left))

pub one_edge_beside : (left base : ℤ) (m n : ℕ) (e : Segment) → IsOnGrid left base m n e
    → four_times (rows left base m n e) ≡ beside left e
unfolding turned_on_grid
one_edge_beside left base m n e g = elim g.sloped [
  | inl level ↦ edge_level left base m n e g level
  | inr sl ↦ by_lt_z (pos g.to) (pos g.from)
      (λ down. let back = turned_on_grid left base m n e g in
      let sl' = back_slope e.a.x e.b.x e.a.y e.b.y g.slope sl in
      let h = edge_up left base m n (turned_edge e) back (omega (arith, ints, down)) sl' in
      let first = rows_turned left base m n e in
      let second = beside_turned left e in
      omega (arith, ints, h, first, second))
      (λ rising. edge_up left base m n e g (omega (arith, ints, rising)) sl)
]

-- ---- all edges

-- the sum of the windings round the cells
abbrev pub total : ℤ → ℤ → ℕ → ℕ → List Segment → ℤ
total left base m n edges = sum_to n (λ i. sum_to m (λ j. winding (cell left base i j) edges))

abbrev all_beside : ℤ → List Segment → ℤ
all_beside left [] = pos 0
all_beside left (e ∷ edges) = beside left e +ℤ all_beside left edges

total_none : (left base : ℤ) (m n : ℕ) → total left base m n [] ≡ pos 0
total_none left base m n = sum_to-none n _ (λ i k. sum_to-none m _ (λ j l. refl))

total_step : (left base : ℤ) (m n : ℕ) (e : Segment) (edges : List Segment)
    → total left base m n (e ∷ edges) ≡ rows left base m n e +ℤ total left base m n edges
total_step left base m n e edges =
    sum_to-same n (λ i. sum_to m (λ j. winding (cell left base i j) (e ∷ edges)))
    (λ i. row left base m e i +ℤ sum_to m (λ j. winding (cell left base i j) edges))
    (λ i k. sum_to-plus m (λ j. wind (cell left base i j) e) (λ j. winding (cell left base i j) edges))
    ∙ sum_to-plus n (row left base m e) (λ i. sum_to m (λ j. winding (cell left base i j) edges))

totals : (left base : ℤ) (m n : ℕ) (edges : List Segment) → ((e : Segment) → IsIn edges e → IsOnGrid left base m n e)
    → four_times (total left base m n edges) ≡ all_beside left edges
totals left base m n [] on = let e = total_none left base m n in omega (arith, ints, e)
totals left base m n (e ∷ edges) on =
    let first = one_edge_beside left base m n e (on e (inl refl)) in
    let rest = totals left base m n edges (λ f h. on f (inr h)) in
    let step = total_step left base m n e edges in
    omega (arith, ints, first, rest, step)

-- what an edge has beside it, by the cross product of its ends and what telescopes
abbrev corner_part : ℤ → Point → ℤ
corner_part left v = v.x *ℤ v.y -ℤ (left +ℤ left) *ℤ v.y

beside_diff : (a b c d e f g h i j : ℕ) →
    (diff g h -ℤ diff c d) *ℤ ((diff a b -ℤ diff i j) +ℤ (diff e f -ℤ diff i j))
    ≡ (diff a b *ℤ diff g h -ℤ diff c d *ℤ diff e f) +ℤ
    ((diff e f *ℤ diff g h -ℤ (diff i j +ℤ diff i j) *ℤ diff g h) -ℤ
    (diff a b *ℤ diff c d -ℤ (diff i j +ℤ diff i j) *ℤ diff c d))
beside_diff a b c d e f g h i j = simp (product_diff, sum_diff, minus_diff) (same_diff _ _ _ _ (omega arith))

beside_is : (left : ℤ) (e : Segment)
    → beside left e ≡ cross_of e.a e.b +ℤ (corner_part left e.b -ℤ corner_part left e.a)
beside_is left e =
    rw (is_diff e.a.x, is_diff e.a.y, is_diff e.b.x, is_diff e.b.y, is_diff left)
    (beside_diff (up e.a.x) (down e.a.x) (up e.a.y) (down e.a.y) (up e.b.x) (down e.b.x) (up e.b.y) (down e.b.y)
    (up left) (down left))

all_beside_is : (left : ℤ) (edges : List Segment)
    → all_beside left edges ≡ doubled_area edges +ℤ rises_along (corner_part left) edges
all_beside_is left [] = refl
all_beside_is left (e ∷ edges) =
    let first = beside_is left e in
    let rest = all_beside_is left edges in
    omega (arith, ints, first, rest)

-- four times the sum of the windings is the doubled area
pub area_is : (left base : ℤ) (m n : ℕ) (edges : List Segment) → AreClosed edges
    → ((e : Segment) → IsIn edges e → IsOnGrid left base m n e)
    → four_times (total left base m n edges) ≡ doubled_area edges
area_is left base m n edges closed on =
    let first = totals left base m n edges on in
    let second = all_beside_is left edges in
    let none = closed (corner_part left) in
    omega (arith, ints, first, second, none)

-- where no winding is negative and one is positive, the area is positive
pub area_positive : (left base : ℤ) (m n : ℕ) (edges : List Segment) → AreClosed edges
    → ((e : Segment) → IsIn edges e → IsOnGrid left base m n e)
    → ((i j : ℕ) → i < n → j < m → pos 0 ≤ℤ winding (cell left base i j) edges)
    → (i j : ℕ) → i < n → j < m → pos 0 <ℤ winding (cell left base i j) edges → pos 0 <ℤ doubled_area edges
area_positive left base m n edges closed on none i j i_in j_in some =
    let e = area_is left base m n edges closed on in
    let here = sum_to-positive m (λ l. winding (cell left base i l) edges) j (λ l l_in. none i l i_in l_in) j_in some in
    let all = sum_to-positive n (λ k. sum_to m (λ l. winding (cell left base k l) edges)) i
    (λ k k_in. sum_to-not_negative m (λ l. winding (cell left base k l) edges)
    (λ l l_in. none k l k_in l_in)) i_in here in
    omega (arith, ints, e, all)

-- where no winding is positive and one is negative, the area is negative
pub area_negative : (left base : ℤ) (m n : ℕ) (edges : List Segment) → AreClosed edges
    → ((e : Segment) → IsIn edges e → IsOnGrid left base m n e)
    → ((i j : ℕ) → i < n → j < m → winding (cell left base i j) edges ≤ℤ pos 0)
    → (i j : ℕ) → i < n → j < m → winding (cell left base i j) edges <ℤ pos 0 → doubled_area edges <ℤ pos 0
area_negative left base m n edges closed on none i j i_in j_in some =
    let e = area_is left base m n edges closed on in
    let here = sum_to-positive m (λ l. neg_ℤ (winding (cell left base i l) edges)) j
    (λ l l_in. let h = none i l i_in l_in in omega (arith, ints, h)) j_in (omega (arith, ints, some)) in
    let all = sum_to-positive n (λ k. sum_to m (λ l. neg_ℤ (winding (cell left base k l) edges))) i
    (λ k k_in. sum_to-not_negative m (λ l. neg_ℤ (winding (cell left base k l) edges))
    (λ l l_in. let h = none k l k_in l_in in omega (arith, ints, h))) i_in here in
    let turned_row = sum_to-same n (λ k. sum_to m (λ l. neg_ℤ (winding (cell left base k l) edges)))
    (λ k. neg_ℤ (sum_to m (λ l. winding (cell left base k l) edges)))
    (λ k k_in. sum_to-neg m (λ l. winding (cell left base k l) edges)) in
    let turned_all = sum_to-neg n (λ k. sum_to m (λ l. winding (cell left base k l) edges)) in
    omega (arith, ints, e, all, turned_row, turned_all)

pub falls_on : (left base : ℤ) (m n : ℕ) (f : Segment) (g : IsOnGrid left base m n f) → g.to < g.from
    → (turned_on_grid left base m n f g).from < (turned_on_grid left base m n f g).to
unfolding turned_on_grid
falls_on left base m n f g h = h

pub slope_of : (left base : ℤ) (m n : ℕ) (f : Segment) (g : IsOnGrid left base m n f)
    → f.b.x -ℤ f.a.x ≡ g.slope *ℤ (f.b.y -ℤ f.a.y)
    → (turned_edge f).b.x -ℤ (turned_edge f).a.x ≡ (turned_on_grid left base m n f g).slope *ℤ ((turned_edge f).b.y
    -ℤ (turned_edge f).a.y)
unfolding turned_on_grid
slope_of left base m n f g s = back_slope f.a.x f.b.x f.a.y f.b.y g.slope s
