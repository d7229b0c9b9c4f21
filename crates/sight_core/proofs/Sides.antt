-- A wall that lies strictly on one side of the segment's line is not in its way.
use Rattle.std.proofs.Common.{◌≡◌, true, false, not, ◌&&◌, ℤ, pos, ◌-ℤ◌, ◌*ℤ◌, neg_ℤ, ◌<ℤ◌, ◌≤ℤ◌, ◌⊎◌, inl, inr, refl, sym, ap, ◌∙◌, arith}
use Rattle.std.specs.Ordering.{int_eq}
use Rattle.std.proofs.lemmas.Int.{ints}
use Rattle.std.proofs.lemmas.Bool.{and_parts, and_right, false_from_ne_true, cases_Bool}
use Rattle.std.proofs.lemmas.Bool.Decides.{Decides-int_eq}
use Rattle.int_laws.proofs.Ring.{cross_of_three, orient_cycled, product_swapped, neg_times, cross_exchanged}
use Rattle.int_laws.proofs.Signs.{not_negative_product, opposite_product, zero_factor}
use Rattle.plane_spec.specs.declared.Point.{Point}
use Rattle.plane_spec.specs.declared.Segment.{Segment}
use Rattle.plane_spec.specs.Vectors.{orient_of}
use Rattle.plane_spec.specs.Segments.{is_between, is_on_segment, are_opposite, cross_properly}
use Rattle.exact_geom.proofs.Orientation.{orient_of_first_exchanged}
use Rattle.sight_spec.specs.Sight.{crosses, starts_into_wall}
use Rattle.sight_core.specs.Blocks.{are_alike, is_strictly_on_one_side, wall_blocks}

-- ---- u and v lie in line, on different sides of 0 in each coordinate: then they aren't strictly left of d, both of them

-- both are 0
record Nothing (m n : ℤ) : Type 0 where
  first : m ≡ pos 0
  second : n ≡ pos 0

nothing_between : (s t m n : ℤ) → pos 0 <ℤ s → pos 0 <ℤ t → s *ℤ n ≡ t *ℤ m → m ≤ℤ pos 0 → pos 0 ≤ℤ n → Nothing m n
nothing_between s t m n hs ht e hm hn =
    let high = not_negative_product s n (omega (arith, ints)) hn in
    let low = opposite_product m t hm (omega (arith, ints)) in
    let turn = product_swapped t m in
    let turn' = product_swapped s n in
    let sn : n *ℤ s ≡ pos 0 = omega (arith, ints, high, low, e, turn, turn') in
    let tm : m *ℤ t ≡ pos 0 = omega (arith, ints, high, low, e, turn, turn') in
    record { first = zero_factor m t tm ht; second = zero_factor n s sn hs }

-- two numbers on different sides of 0, which may be 0
abbrev AreApart : ℤ → ℤ → Type 0
AreApart m n = ((m ≤ℤ pos 0) × (pos 0 ≤ℤ n)) ⊎ ((n ≤ℤ pos 0) × (pos 0 ≤ℤ m))

nothing_apart : (s t m n : ℤ) → pos 0 <ℤ s → pos 0 <ℤ t → s *ℤ n ≡ t *ℤ m → AreApart m n → Nothing m n
nothing_apart s t m n hs ht e (inl h) = nothing_between s t m n hs ht e h.0 h.1
nothing_apart s t m n hs ht e (inr h) =
    let none = nothing_between t s n m ht hs (sym e) h.0 h.1 in
    record { first = none.second; second = none.first }

pub parallel_y : (dx dy ux uy vx vy : ℤ) → vx *ℤ uy -ℤ vy *ℤ ux ≡ pos 0 → (dx *ℤ uy -ℤ dy *ℤ ux) *ℤ vy ≡ (dx *ℤ vy -ℤ dy *ℤ vx) *ℤ uy
parallel_y dx dy ux uy vx vy flat = rw (cross_of_three dx dy vx vy ux uy, flat) (omega (arith, ints))

neg_cancelled : (y z : ℤ) → neg_ℤ y ≡ neg_ℤ z → y ≡ z
neg_cancelled y z e = omega (arith, ints)

minus_exchanged : (m n z : ℤ) → (m -ℤ n) *ℤ z ≡ neg_ℤ ((n -ℤ m) *ℤ z)
minus_exchanged m n z =
    let e : m -ℤ n ≡ neg_ℤ (n -ℤ m) = omega (arith, ints) in
    rw e (neg_times (n -ℤ m) z)

pub parallel_x : (dx dy ux uy vx vy : ℤ) → vx *ℤ uy -ℤ vy *ℤ ux ≡ pos 0 → (dx *ℤ uy -ℤ dy *ℤ ux) *ℤ vx ≡ (dx *ℤ vy -ℤ dy *ℤ vx) *ℤ ux
parallel_x dx dy ux uy vx vy flat =
    let e = parallel_y dy dx uy ux vy vx (omega (arith, ints)) in
    let left = minus_exchanged (dy *ℤ ux) (dx *ℤ uy) vx in
    let right = minus_exchanged (dy *ℤ vx) (dx *ℤ vy) ux in
    neg_cancelled _ _ (sym left ∙ e ∙ right)

not_both_left : (dx dy ux uy vx vy : ℤ) → vx *ℤ uy -ℤ vy *ℤ ux ≡ pos 0 → AreApart ux vx → AreApart uy vy
    → pos 0 <ℤ (dx *ℤ uy -ℤ dy *ℤ ux) → pos 0 <ℤ (dx *ℤ vy -ℤ dy *ℤ vx) → ⊥
not_both_left dx dy ux uy vx vy flat hx hy hs ht =
    let s = dx *ℤ uy -ℤ dy *ℤ ux in
    let t = dx *ℤ vy -ℤ dy *ℤ vx in
    let x = nothing_apart s t ux vx hs ht (parallel_x dx dy ux uy vx vy flat) hx in
    let y = nothing_apart s t uy vy hs ht (parallel_y dx dy ux uy vx vy flat) hy in
    let straight = rw (x.first, y.first) at hs in
    omega (arith, ints)

between-true : (m a b : ℤ) → is_between m a b ≡ true → AreApart (a -ℤ m) (b -ℤ m)
between-true m a b h = grind (arith, ints)

-- ---- points

pub flat_at : (p a b : Point) → orient_of a b p ≡ pos 0 → (b.x -ℤ p.x) *ℤ (a.y -ℤ p.y) -ℤ (b.y -ℤ p.y) *ℤ (a.x -ℤ p.x) ≡ pos 0
flat_at p a b e =
    let around = orient_cycled p.x p.y a.x a.y b.x b.y in
    cross_exchanged (a.x -ℤ p.x) (a.y -ℤ p.y) (b.x -ℤ p.x) (b.y -ℤ p.y) ∙ ap neg_ℤ (sym around ∙ e)

-- p lies on the segment from a to b: then these aren't strictly left of p, both of them, seen in any direction
pub not_left_of_both : (p a b : Point) (dx dy : ℤ) → is_on_segment p a b ≡ true
    → pos 0 <ℤ (dx *ℤ (a.y -ℤ p.y) -ℤ dy *ℤ (a.x -ℤ p.x)) → pos 0 <ℤ (dx *ℤ (b.y -ℤ p.y) -ℤ dy *ℤ (b.x -ℤ p.x)) → ⊥
unfolding is_on_segment
not_left_of_both p a b dx dy on ha hb =
    let line = and_parts (int_eq (orient_of a b p) (pos 0)) (is_between p.x a.x b.x && is_between p.y a.y b.y) on in
    let extents = and_parts (is_between p.x a.x b.x) (is_between p.y a.y b.y) line.1 in
    let straight = (Decides-int_eq (orient_of a b p) (pos 0)).0 line.0 in
    not_both_left dx dy (a.x -ℤ p.x) (a.y -ℤ p.y) (b.x -ℤ p.x) (b.y -ℤ p.y)
    (flat_at p a b straight) (between-true p.x a.x b.x extents.0) (between-true p.y a.y b.y extents.1) ha hb

cross-turned : (dx dy ux uy : ℤ) → neg_ℤ dx *ℤ uy -ℤ neg_ℤ dy *ℤ ux ≡ neg_ℤ (dx *ℤ uy -ℤ dy *ℤ ux)
cross-turned dx dy ux uy = rw (neg_times dx uy, neg_times dy ux) (omega (arith, ints))

pub not_right_of_both : (p a b : Point) (dx dy : ℤ) → is_on_segment p a b ≡ true
    → (dx *ℤ (a.y -ℤ p.y) -ℤ dy *ℤ (a.x -ℤ p.x)) <ℤ pos 0 → (dx *ℤ (b.y -ℤ p.y) -ℤ dy *ℤ (b.x -ℤ p.x)) <ℤ pos 0 → ⊥
not_right_of_both p a b dx dy on ha hb =
    not_left_of_both p a b (neg_ℤ dx) (neg_ℤ dy) on
    (rw (cross-turned dx dy (a.x -ℤ p.x) (a.y -ℤ p.y)) (omega (arith, ints)))
    (rw (cross-turned dx dy (b.x -ℤ p.x) (b.y -ℤ p.y)) (omega (arith, ints)))

alike_cases : (s t : ℤ) → are_alike s t ≡ true → ((pos 0 <ℤ s) × (pos 0 <ℤ t)) ⊎ ((s <ℤ pos 0) × (t <ℤ pos 0))
alike_cases s t h = grind (arith, ints)

alike-neg : (s t : ℤ) → are_alike (neg_ℤ s) (neg_ℤ t) ≡ are_alike s t
alike-neg s t = grind (arith, ints)

alike_not_opposite : (s t : ℤ) → are_alike s t ≡ true → are_opposite s t ≡ false
alike_not_opposite s t h = grind (arith, ints)

-- the wall's ends lie strictly on one side of the line from p to q
abbrev IsAside : Point → Point → Segment → Type 0
IsAside p q w = are_alike (orient_of p q w.a) (orient_of p q w.b) ≡ true

aside-turned : (p q : Point) (w : Segment) → IsAside p q w → IsAside q p w
aside-turned p q w h = rw (orient_of_first_exchanged p q w.a, orient_of_first_exchanged p q w.b, alike-neg (orient_of p q w.a) (orient_of p q w.b)) h

-- so p isn't on it
off_wall : (p q : Point) (w : Segment) → IsAside p q w → is_on_segment p w.a w.b ≡ false
off_wall p q w aside =
    false_from_ne_true (is_on_segment p w.a w.b) (λ on.
    elim (alike_cases (orient_of p q w.a) (orient_of p q w.b) aside) [
      | inl h ↦ not_left_of_both p w.a w.b (q.x -ℤ p.x) (q.y -ℤ p.y) on h.0 h.1
      | inr h ↦ not_right_of_both p w.a w.b (q.x -ℤ p.x) (q.y -ℤ p.y) on h.0 h.1
    ])

left_nowhere : (p q : Point) (w : Segment) → IsAside p q w → starts_into_wall p q w ≡ false
unfolding starts_into_wall
left_nowhere p q w aside =
    let off = off_wall p q w aside in
    rw off refl

crossed_nowhere : (p q : Point) (w : Segment) → IsAside p q w → crosses p q w ≡ false
unfolding cross_properly
crossed_nowhere p q w aside = and_right _ _ (alike_not_opposite (orient_of p q w.a) (orient_of p q w.b) aside)

aside_is_free : (p q : Point) (w : Segment) → IsAside p q w → wall_blocks p q w ≡ false
aside_is_free p q w aside = rw (crossed_nowhere p q w aside, left_nowhere p q w aside, left_nowhere q p w (aside-turned p q w aside)) refl

-- so such walls may be passed over
pub wall_blocks_is : (p q : Point) (w : Segment) → wall_blocks p q w ≡ (not (is_strictly_on_one_side p q w) && wall_blocks p q w)
unfolding is_strictly_on_one_side
wall_blocks_is p q w =
    elim (cases_Bool (are_alike (orient_of p q w.a) (orient_of p q w.b))) [
      | inl aside ↦ rw (aside_is_free p q w aside, aside) refl
      | inr other ↦ rw other refl
    ]
