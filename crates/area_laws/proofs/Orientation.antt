-- The area tells how often a simple polygon's edges go round what is left of them: once or not at all.
--
-- Along a row that an edge crosses, from the right to the left, the winding is 0 at first. Between cells it changes
-- where an edge lies, which is one edge alone, between the number k of its left and k - 1 of its right. So all
-- windings on the way are 0, k or k - 1; where the first edge is met 0 is k or k - 1, so k is 0 or 1. So all cells
-- have windings 0 and 1, or 0 and -1, and not all are 0; and the area is their sum.
use Rattle.std.specs.Prelude.{Bool, false, true, ◌&&◌, List, if◌then◌else◌, [], ◌∷◌, unsigned_abs}
use Rattle.std.specs.Ordering.{int_eq}
use Rattle.std.specs.List.{list_any}
use Rattle.std.proofs.Common.{arith, refl, ℤ, ◌≡◌, ◌⊎◌, ◌≤ℤ◌, pos, ◌-◌, ◌-ℤ◌, inl, inr, ◌<◌, ◌<ℤ◌, subst, sym, ap}
use Rattle.std.proofs.Common.{◌*ℤ◌, ◌∙◌, suc, zero, ℕ, ◌+◌, ◌+ℤ◌}
use Rattle.std.proofs.lemmas.Int.{by_lt_z, ints}
use Rattle.int_laws.proofs.Ring.{times_neg, times_one, times_zero}
use Rattle.int_laws.proofs.Tests.{not_less}
use Rattle.plane_spec.specs.declared.Point.{Point}
use Rattle.plane_spec.specs.declared.Segment.{Segment}
use Rattle.plane_spec.specs.Segments.{is_on_segment}
use Rattle.plane_spec.specs.Vectors.{point, same_point, cross_of, orient_of, vector}
use Rattle.plane_spec.specs.Polygons.{is_on_edge, doubled_area}
use Rattle.exact_geom.proofs.Orientation.{orient_of_first_exchanged}
use Rattle.plane_laws.proofs.Points.Between.{IsAlong, between, in_order}
use Rattle.plane_laws.proofs.Lists.Members.{IsIn, each_fails, found}
use Rattle.plane_laws.proofs.Segments.Touching.{on_turned}
use Rattle.winding_laws.specs.Windings.{wind, winding}
use Rattle.winding_laws.proofs.Strips.{HasWinding, same_value}
use Rattle.winding_laws.proofs.OneEdge.{wind_turned, wind_above, wind_below}
use Rattle.side_laws.proofs.Sound.{IsSound, on_one}
use Rattle.side_laws.proofs.Sides.{side_middle}
use Rattle.area_laws.proofs.Rows.{AtRow, falls, over, rises, under, east, one_step, rising_jump, west, windings_left}
use Rattle.area_laws.proofs.Rows.{windings_right, free_step, at_row, rising_off}
use Rattle.area_laws.proofs.Cells.{place_at, place_between, wind_at, IsOnGrid, cell}
use Rattle.area_laws.proofs.Area.{area_negative, area_positive, falls_on, slope_of, turned_on_grid}
use Rattle.sight_spec.specs.Scene.{turned_edge}

-- ---- at an edge

-- a point of an edge in the row is in its middle
in_middle : (f : Segment) (x y : ℤ) → AtRow f y → is_on_segment (point x y) f.a f.b ≡ true
    → IsAlong f.a f.b (point x y) × (same_point (point x y) f.b ≡ false)
in_middle f x y row on =
    let b = between (point x y) f.a f.b on in
    let apart = heights row (in_order y f.a.y f.b.y b.y) in
    (record { between = b; apart = unequal_points x y f.a apart.0 }, unequal_points x y f.b apart.1)
  where
    unequal_points : (x y : ℤ) (v : Point) → (y ≡ v.y → ⊥) → same_point (point x y) v ≡ false
    unequal_points x y v never = second_false (int_eq x v.x) (int_eq y v.y) (unequal y v.y never)
      where
        unequal : (a b : ℤ) → (a ≡ b → ⊥) → int_eq a b ≡ false
        unequal a b never =
            by_lt_z a b (λ p. grind (arith, ints)) (λ q. by_lt_z b a (λ r. grind (arith, ints))
            (λ r. absurd (never (omega (arith, ints, q, r)))))

        second_false : (s t : Bool) → t ≡ false → (s && t) ≡ false
        second_false true t h = h
        second_false false t h = refl

    heights : AtRow f y → ((f.a.y ≤ℤ y) × (y ≤ℤ f.b.y)) ⊎ ((f.b.y ≤ℤ y) × (y ≤ℤ f.a.y))
        → (y ≡ f.a.y → ⊥) × (y ≡ f.b.y → ⊥)
    heights (under h k) s = (λ e. absurd (omega (arith, ints, h, e)), λ e. absurd (omega (arith, ints, k, e)))
    heights (over h k) s = (λ e. absurd (omega (arith, ints, h, e)), λ e. absurd (omega (arith, ints, k, e)))
    heights (rises slope h k l) s = (λ e. absurd (omega (arith, ints, h, e)), λ e. absurd (omega (arith, ints, k, e)))
    heights (falls slope h k l) s = (λ e. absurd (omega (arith, ints, k, e)), λ e. absurd (omega (arith, ints, h, e)))

-- the windings left and right of an edge
abbrev pub Beside : ℤ → ℤ → ℤ → Type 0
Beside k left right = ((left ≡ k) × (right ≡ k -ℤ pos 1)) ⊎ ((left ≡ k -ℤ pos 1) × (right ≡ k))

beside : (edges : List Segment) (k : ℤ) (f : Segment) (x y : ℤ) → IsSound edges k
    → ((g : Segment) → IsIn edges g → AtRow g y) → IsIn edges f → is_on_segment (point x y) f.a f.b ≡ true
    → Beside k (winding (point (x -ℤ pos 1) y) edges) (winding (point x y) edges)
beside edges k f x y sound rows there on =
    let middle = in_middle f x y (rows f there) on in
    let change = one_step edges f x y sound.distinct rows there on
    (on_one edges k f (point x y) sound there middle.0 middle.1) in
    by_row middle.0 middle.1 change (rows f there)
  where
    at : IsAlong f.a f.b (point x y) → same_point (point x y) f.b ≡ false → (e : Point)
        → pos 0 <ℤ cross_of (vector f.a f.b) e → HasWinding edges (point x y) e k
    at here short e left =
        let s = sound.sides f there in
        (side_middle edges s.before f.a f.b s.after
        (point x y) e k sound.closed sound.some s.first s.second s.alone s.side here short left).has

    to_west : (d : Point) → pos 0 <ℤ d.y → pos 0 <ℤ cross_of d west
    to_west d h =
        let a = times_zero d.x in let b = times_neg d.y (pos 1) in let c = times_one d.y in
        omega (arith, ints, a, b, c, h)

    to_east : (d : Point) → d.y <ℤ pos 0 → pos 0 <ℤ cross_of d east
    to_east d h = let a = times_zero d.x in let c = times_one d.y in omega (arith, ints, a, c, h)

    by_row : IsAlong f.a f.b (point x y) → same_point (point x y) f.b ≡ false
        → winding (point (x -ℤ pos 1) y) edges -ℤ winding (point x y) edges
        ≡ wind (point (x -ℤ pos 1) y) f -ℤ wind (point x y) f
        → AtRow f y → Beside k (winding (point (x -ℤ pos 1) y) edges) (winding (point x y) edges)
    by_row here short change (rises slope h l s) =
        let left = same_value edges (point x y) west (winding (point (x -ℤ pos 1) y) edges) k
        (windings_left edges x y rows) (at here short west (to_west (vector f.a f.b) (omega (arith, ints, h, l)))) in
        let jump = rising_jump f slope x y h l s here.between.line in
        inl (left, omega (arith, ints, left, change, jump))
    by_row here short change (falls slope h l s) =
        let right = same_value edges (point x y) east (winding (point x y) edges) k (windings_right edges x y rows)
        (at here short east (to_east (vector f.a f.b) (omega (arith, ints, h, l)))) in
        let jump = rising_jump (turned_edge f) slope x y h l s (turned_line (point x y) f.a f.b here.between.line) in
        let first = wind_turned (point (x -ℤ pos 1) y) f in
        let second = wind_turned (point x y) f in
        inr (omega (arith, ints, right, change, jump, first, second), right)
      where
        turned_line : (x a b : Point) → orient_of a b x ≡ pos 0 → orient_of b a x ≡ pos 0
        turned_line x a b h = let o = orient_of_first_exchanged a b x in omega (arith, ints, o, h)
    by_row here short change (under h l) = absurd (never_under (in_order y f.a.y f.b.y here.between.y) h l)
      where
        never_under : ((f.a.y ≤ℤ y) × (y ≤ℤ f.b.y)) ⊎ ((f.b.y ≤ℤ y) × (y ≤ℤ f.a.y)) → f.a.y <ℤ y → f.b.y <ℤ y → ⊥
        never_under (inl s) h l = absurd (omega (arith, ints, s.1, l))
        never_under (inr s) h l = absurd (omega (arith, ints, s.1, h))
    by_row here short change (over h l) = absurd (never_over (in_order y f.a.y f.b.y here.between.y) h l)
      where
        never_over : ((f.a.y ≤ℤ y) × (y ≤ℤ f.b.y)) ⊎ ((f.b.y ≤ℤ y) × (y ≤ℤ f.a.y)) → y <ℤ f.a.y → y <ℤ f.b.y → ⊥
        never_over (inl s) h l = absurd (omega (arith, ints, s.0, h))
        never_over (inr s) h l = absurd (omega (arith, ints, s.0, l))

-- ---- along the row

-- a winding is 0, or that of a side of a wall, which is then 0 or 1 on the left
abbrev pub IsFine : ℤ → ℤ → Type 0
IsFine k w = (w ≡ pos 0) ⊎ (((k ≡ pos 0) ⊎ (k ≡ pos 1)) × ((w ≡ k) ⊎ (w ≡ k -ℤ pos 1)))

decided : (k : ℤ) (right : ℤ) → (right ≡ k) ⊎ (right ≡ k -ℤ pos 1) → IsFine k right → (k ≡ pos 0) ⊎ (k ≡ pos 1)
decided k right (inl e) (inl z) = inl (omega (arith, ints, e, z))
decided k right (inr e) (inl z) = inr (omega (arith, ints, e, z))
decided k right side (inr f) = f.0

fine_step : (edges : List Segment) (k x y : ℤ) → IsSound edges k → ((g : Segment) → IsIn edges g → AtRow g y)
    → IsFine k (winding (point x y) edges) → IsFine k (winding (point (x -ℤ pos 1) y) edges)
fine_step edges k x y sound rows fine = by_any (list_any (is_on_edge (point x y)) edges) refl
  where
    from_beside : Beside k (winding (point (x -ℤ pos 1) y) edges) (winding (point x y) edges)
        → IsFine k (winding (point (x -ℤ pos 1) y) edges)
    from_beside (inl b) = inr (decided k (winding (point x y) edges) (inr b.1) fine, inl b.0)
    from_beside (inr b) = inr (decided k (winding (point x y) edges) (inl b.1) fine, inr b.0)

    by_any : (t : Bool) → list_any (is_on_edge (point x y)) edges ≡ t → IsFine k (winding (point (x -ℤ pos 1) y) edges)
    by_any true h =
        let f = found (is_on_edge (point x y)) edges h in
        from_beside (beside edges k f.it x y sound rows f.is_in f.passes)
    by_any false h =
        let same = free_step edges x y rows (λ f there. each_fails (is_on_edge (point x y)) edges f h there) in
        subst (λ t. IsFine k t) (sym same) fine

abbrev IsLeftOf : ℤ → Segment → Type 0
IsLeftOf right f = (f.a.x <ℤ right) × (f.b.x <ℤ right)

rising_past : (f : Segment) (slope x y : ℤ) → f.a.y <ℤ y → y <ℤ f.b.y → f.b.x -ℤ f.a.x ≡ slope *ℤ (f.b.y -ℤ f.a.y)
    → IsLeftOf x f → wind (point x y) f ≡ pos 0
rising_past f slope x y low high s past =
    let inside = in_order (place_at f slope y) f.a.x f.b.x
    (place_between f slope y (omega (arith, ints, low)) high s) in
    let a = past.0 in
    let b = past.1 in
    let bound : place_at f slope y ≤ℤ x = elim inside [
      | inl k ↦ omega (arith, ints, k.1, b)
      | inr k ↦ omega (arith, ints, k.1, a)
    ] in
    wind_at f slope (point x y) (omega (arith, ints, low)) high s
    ∙ ap (λ t. if t then pos 1 else pos 0) (not_less x (place_at f slope y) bound)

past_all : (f : Segment) (x y : ℤ) → AtRow f y → IsLeftOf x f → wind (point x y) f ≡ pos 0
past_all f x y (under h k) past = wind_above (point x y) f (omega (arith, ints, h)) (omega (arith, ints, k))
past_all f x y (over h k) past = wind_below (point x y) f h k
past_all f x y (rises slope h k s) past = rising_past f slope x y h k s past
past_all f x y (falls slope h k s) past =
    let e = rising_past (turned_edge f) slope x y h k s (past.1, past.0) in
    let t = wind_turned (point x y) f in
    omega (arith, ints, e, t)

none_past : (edges : List Segment) (x y : ℤ) → ((g : Segment) → IsIn edges g → AtRow g y)
    → ((g : Segment) → IsIn edges g → IsLeftOf x g) → winding (point x y) edges ≡ pos 0
none_past [] x y rows past = refl
none_past (f ∷ edges) x y rows past =
    let first = past_all f x y (rows f (inl refl)) (past f (inl refl)) in
    let rest = none_past edges x y (λ g h. rows g (inr h)) (λ g h. past g (inr h)) in
    omega (arith, ints, first, rest)

fine_at : (edges : List Segment) (k right y : ℤ) → IsSound edges k → ((g : Segment) → IsIn edges g → AtRow g y)
    → ((g : Segment) → IsIn edges g → IsLeftOf right g) → (t : ℕ)
    → IsFine k (winding (point (right -ℤ pos t) y) edges)
fine_at edges k right y sound rows past zero =
    let e : right -ℤ pos 0 ≡ right = omega (arith, ints) in
    inl (ap (λ x. winding (point x y) edges) e ∙ none_past edges right y rows past)
fine_at edges k right y sound rows past (suc t) =
    let e : (right -ℤ pos t) -ℤ pos 1 ≡ right -ℤ pos (suc t) = omega (arith, ints) in
    subst (λ x. IsFine k (winding (point x y) edges)) e
    (fine_step edges k (right -ℤ pos t) y sound rows (fine_at edges k right y sound rows past t))

-- ---- the whole grid

fine_cell : (left base : ℤ) (m n : ℕ) (edges : List Segment) (k : ℤ) → IsSound edges k
    → ((e : Segment) → IsIn edges e → IsOnGrid left base m n e) → (i j : ℕ) → j < m
    → IsFine k (winding (cell left base i j) edges)
fine_cell left base m n edges k sound on i j j_in =
    let e : (left +ℤ pos m) -ℤ pos (m - j) ≡ left +ℤ pos j = omega (arith, ints, j_in) in
    subst (λ x. IsFine k (winding (point x (base +ℤ ((pos i +ℤ pos i) +ℤ pos 1))) edges)) e
    (fine_at edges k (left +ℤ pos m) (base +ℤ ((pos i +ℤ pos i) +ℤ pos 1)) sound
    (λ g h. at_row left base m n g i (on g h)) (λ g h. let o = on g h in (o.a_high, o.b_high)) (m - j))

-- the row above the lower end of an edge, and where the edge is there
record Meeting (left base : ℤ) (m n : ℕ) (f : Segment) : Type 0 where
  i : ℕ
  j : ℕ
  i_in : i < n
  j_in : j + 1 < m
  is_on : is_on_segment (point (left +ℤ pos (j + 1)) (base +ℤ ((pos i +ℤ pos i) +ℤ pos 1))) f.a f.b ≡ true

natural : (z : ℤ) → pos 0 <ℤ z → (j : ℕ) × (pos (j + 1) ≡ z)
natural z h = (unsigned_abs z - 1, omega (arith, ints, h))

meeting_up : (left base : ℤ) (m n : ℕ) (f : Segment) (g : IsOnGrid left base m n f) → g.from < g.to
    → f.b.x -ℤ f.a.x ≡ g.slope *ℤ (f.b.y -ℤ f.a.y) → Meeting left base m n f
meeting_up left base m n f g rising s =
    let y = base +ℤ ((pos g.from +ℤ pos g.from) +ℤ pos 1) in
    let from = g.a_y in
    let to = g.b_y in
    let y_low : f.a.y <ℤ y = omega (arith, ints, from) in
    let y_high : y <ℤ f.b.y = omega (arith, ints, rising, to) in
    let x = place_at f g.slope y in
    let inside = in_order x f.a.x f.b.x (place_between f g.slope y (omega (arith, ints, y_low)) y_high s) in
    let a_low = g.a_low in
    let a_high = g.a_high in
    let b_low = g.b_low in
    let b_high = g.b_high in
    let bounds : (left <ℤ x) × (x <ℤ (left +ℤ pos m)) = elim inside [
      | inl k ↦ (omega (arith, ints, k.0, a_low), omega (arith, ints, k.1, b_high))
      | inr k ↦ (omega (arith, ints, k.0, b_low), omega (arith, ints, k.1, a_high))
    ] in
    let column = natural (x -ℤ left) (omega (arith, ints, bounds.0)) in
    let at = column.1 in
    let to_in = g.to_in in
    let there : x ≡ left +ℤ pos (column.0 + 1) = omega (arith, ints, at) in
    record {
      i = g.from;
      j = column.0;
      i_in = omega (arith, rising, to_in);
      j_in = omega (arith, ints, at, bounds.1);
      is_on = subst (λ t. is_on_segment (point t y) f.a f.b ≡ true) there
          (rising_off f g.slope x y y_low y_high s refl);
    }

abbrev pub IsTurnedRound : ℤ → ℤ → Type 0
IsTurnedRound k area = ((k ≡ pos 1) × (pos 0 <ℤ area)) ⊎ ((k ≡ pos 0) × (area <ℤ pos 0))

by_meeting : (left base : ℤ) (m n : ℕ) (edges : List Segment) (k : ℤ) → IsSound edges k
    → ((e : Segment) → IsIn edges e → IsOnGrid left base m n e) → (f : Segment) → IsIn edges f
    → Meeting left base m n f
    → IsTurnedRound k (doubled_area edges)
by_meeting left base m n edges k sound on f there meeting =
    let i = meeting.i in
    let j = meeting.j in
    let j_in = meeting.j_in in
    let y = base +ℤ ((pos i +ℤ pos i) +ℤ pos 1) in
    let b = beside edges k f (left +ℤ pos (j + 1)) y sound
    (λ g h. at_row left base m n g i (on g h)) there meeting.is_on in
    let e : (left +ℤ pos (j + 1)) -ℤ pos 1 ≡ left +ℤ pos j = omega (arith, ints) in
    let both = subst (λ t. Beside k (winding (point t y) edges) (winding (cell left base i (j + 1)) edges)) e b in
    by_side both (fine_cell left base m n edges k sound on i (j + 1) j_in)
  where
    not_negative : (k w : ℤ) → k ≡ pos 1 → IsFine k w → pos 0 ≤ℤ w
    not_negative k w e (inl h) = omega (arith, ints, h)
    not_negative k w e (inr h) = elim h.1 [ inl s ↦ omega (arith, ints, e, s) | inr s ↦ omega (arith, ints, e, s) ]

    not_positive : (k w : ℤ) → k ≡ pos 0 → IsFine k w → w ≤ℤ pos 0
    not_positive k w e (inl h) = omega (arith, ints, h)
    not_positive k w e (inr h) = elim h.1 [ inl s ↦ omega (arith, ints, e, s) | inr s ↦ omega (arith, ints, e, s) ]

    up : k ≡ pos 1 → (j : ℕ) → j < m → winding (cell left base meeting.i j) edges ≡ k
        → IsTurnedRound k (doubled_area edges)
    up one j j_in w =
        inl (
          one,
          area_positive left base m n edges sound.closed on
              (λ i l i_in l_in. not_negative k (winding (cell left base i l) edges) one
              (fine_cell left base m n edges k sound on i l l_in)) meeting.i j meeting.i_in j_in
              (omega (arith, ints, w, one)),
        )

    down : k ≡ pos 0 → (j : ℕ) → j < m → winding (cell left base meeting.i j) edges ≡ k -ℤ pos 1
        → IsTurnedRound k (doubled_area edges)
    down none j j_in w =
        inr (
          none,
          area_negative left base m n edges sound.closed on
              (λ i l i_in l_in. not_positive k (winding (cell left base i l) edges) none
              (fine_cell left base m n edges k sound on i l l_in)) meeting.i j meeting.i_in j_in
              (omega (arith, ints, w, none)),
        )

    by_side : Beside k (winding (cell left base meeting.i meeting.j) edges)
        (winding (cell left base meeting.i (meeting.j + 1)) edges)
        → IsFine k (winding (cell left base meeting.i (meeting.j + 1)) edges)
        → IsTurnedRound k (doubled_area edges)
    by_side (inl b) fine =
        let l = meeting.j_in in elim (decided k (winding (cell left base meeting.i (meeting.j + 1)) edges)
        (inr b.1) fine) [
          | inl none ↦ down none (meeting.j + 1) meeting.j_in b.1
          | inr one ↦ up one meeting.j (omega (arith, l)) b.0
        ]
    by_side (inr b) fine =
        let l = meeting.j_in in elim (decided k (winding (cell left base meeting.i (meeting.j + 1)) edges)
        (inl b.1) fine) [
          | inl none ↦ down none meeting.j (omega (arith, l)) b.0
          | inr one ↦ up one (meeting.j + 1) meeting.j_in b.1
        ]

-- what closed edges on the grid, of which one isn't level, have on their left: 1 where their area is positive, 0
-- where it is negative
pub orientation : (left base : ℤ) (m n : ℕ) (edges : List Segment) (k : ℤ) → IsSound edges k
    → ((e : Segment) → IsIn edges e → IsOnGrid left base m n e)
    → (f : Segment) → IsIn edges f → (f.a.y ≡ f.b.y → ⊥) → IsTurnedRound k (doubled_area edges)
orientation left base m n edges k sound on f there tall =
    by_meeting left base m n edges k sound on f there (meeting (on f there))
  where
    meeting : IsOnGrid left base m n f → Meeting left base m n f
    meeting g = elim g.sloped [
      | inl level ↦ absurd (tall level)
      | inr s ↦ by_lt_z (pos g.from) (pos g.to)
          (λ rising. meeting_up left base m n f g (omega (arith, ints, rising)) s)
          (λ not_rising.
          let from = g.a_y in
          let to = g.b_y in
          let falling : g.to < g.from = by_lt_z (pos g.to) (pos g.from) (λ p. omega (arith, ints, p))
          (λ q. absurd (tall (omega (arith, ints, from, to, q, not_rising)))) in
          turned_meeting (meeting_up left base m n (turned_edge f) (turned_on_grid left base m n f g)
          (falls_on left base m n f g falling) (slope_of left base m n f g s)))
    ]
      where
        turned_meeting : Meeting left base m n (turned_edge f) → Meeting left base m n f
        turned_meeting t =
            record {
              i = t.i;
              j = t.j;
              i_in = t.i_in;
              j_in = t.j_in;
              is_on = on_turned (point (left +ℤ pos (t.j + 1))
                  (base +ℤ ((pos t.i +ℤ pos t.i) +ℤ pos 1))) f.a f.b t.is_on;
            }
