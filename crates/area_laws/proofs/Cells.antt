-- Edges on a grid: each meets the middles of the rows at whole places.
use Rattle.std.specs.Prelude.{int_lt, if◌then◌else◌, true}
use Rattle.std.proofs.Common.{pos, ℕ, ℤ, ◌+ℤ◌, ◌≡◌, ◌⊎◌, ◌≤◌, ◌-ℤ◌, ◌*ℤ◌, ◌<ℤ◌, ap, arith, ◌∙◌, subst, sym, ◌≤ℤ◌}
use Rattle.std.proofs.lemmas.Int.{ints}
use Rattle.int_laws.proofs.Ring.{minus_times, product_swapped, product_turned, sum_times, times_minus}
use Rattle.int_laws.proofs.Tests.{agree, less_tested, tested_less}
use Rattle.int_laws.proofs.Signs.{positive_factor, positive_product}
use Rattle.plane_spec.specs.declared.Point.{Point}
use Rattle.plane_spec.specs.declared.Segment.{Segment}
use Rattle.plane_spec.specs.Vectors.{point, orient_of}
use Rattle.plane_spec.specs.Segments.{is_between}
use Rattle.plane_laws.proofs.Segments.Touching.{between_by}
use Rattle.winding_laws.specs.Windings.{wind}
use Rattle.winding_laws.proofs.OneEdge.{wind_across}

-- the slope of an edge that is turned round
pub back_slope : (ax bx ay by c : ℤ) → bx -ℤ ax ≡ c *ℤ (by -ℤ ay) → ax -ℤ bx ≡ c *ℤ (ay -ℤ by)
back_slope ax bx ay by c h =
    let first = times_minus c by ay in
    let second = times_minus c ay by in
    omega (arith, ints, h, first, second)

-- ---- an edge on the grid

-- a cell: column j from `left` on, and the middle of row i from `base` on, where a row is two high
abbrev pub cell : ℤ → ℤ → ℕ → ℕ → Point
cell left base i j = point (left +ℤ pos j) (base +ℤ ((pos i +ℤ pos i) +ℤ pos 1))

-- heights are whole rows, and per height the edge goes a whole number of columns to the right
pub record IsOnGrid (left base : ℤ) (m n : ℕ) (e : Segment) : Type 0 where
  pub from : ℕ
  pub to : ℕ
  pub slope : ℤ
  pub from_in : from ≤ n
  pub to_in : to ≤ n
  pub a_y : e.a.y ≡ base +ℤ (pos from +ℤ pos from)
  pub b_y : e.b.y ≡ base +ℤ (pos to +ℤ pos to)
  pub sloped : (e.a.y ≡ e.b.y) ⊎ (e.b.x -ℤ e.a.x ≡ slope *ℤ (e.b.y -ℤ e.a.y))
  pub a_low : left <ℤ e.a.x
  pub a_high : e.a.x <ℤ (left +ℤ pos m)
  pub b_low : left <ℤ e.b.x
  pub b_high : e.b.x <ℤ (left +ℤ pos m)

-- where the edge is at the height y
abbrev pub place_at : Segment → ℤ → ℤ → ℤ
place_at e slope y = e.a.x +ℤ slope *ℤ (y -ℤ e.a.y)

pub orient_sloped : (e : Segment) (slope : ℤ) (x : Point) → e.b.x -ℤ e.a.x ≡ slope *ℤ (e.b.y -ℤ e.a.y)
    → orient_of e.a e.b x ≡ (place_at e slope x.y -ℤ x.x) *ℤ (e.b.y -ℤ e.a.y)
orient_sloped e slope x h = by_parts (e.b.x -ℤ e.a.x) (e.b.y -ℤ e.a.y) (x.y -ℤ e.a.y) e.a.x x.x slope h
  where
    by_parts : (dx dy t a x c : ℤ) → dx ≡ c *ℤ dy → dx *ℤ t -ℤ dy *ℤ (x -ℤ a) ≡ ((a +ℤ c *ℤ t) -ℤ x) *ℤ dy
    by_parts dx dy t a x c h =
        let first : dx *ℤ t ≡ (c *ℤ t) *ℤ dy = ap (λ z. z *ℤ t) h ∙ product_turned c dy t in
        let second = minus_times (a +ℤ c *ℤ t) x dy in
        let third = sum_times a (c *ℤ t) dy in
        let fourth = times_minus dy x a in
        let fifth = product_swapped dy x in
        let sixth = product_swapped dy a in
        omega (arith, ints, first, second, third, fourth, fifth, sixth)

pub wind_at : (e : Segment) (slope : ℤ) (x : Point) → e.a.y ≤ℤ x.y → x.y <ℤ e.b.y
    → e.b.x -ℤ e.a.x ≡ slope *ℤ (e.b.y -ℤ e.a.y)
    → wind x e ≡ (if int_lt x.x (place_at e slope x.y) then pos 1 else pos 0)
wind_at e slope x low high h =
    wind_across x e low high
    ∙ ap (λ t. if t then pos 1 else pos 0)
    (agree (int_lt (pos 0) (orient_of e.a e.b x)) (int_lt x.x (place_at e slope x.y))
    (λ t. let some = subst (λ z. pos 0 <ℤ z) (orient_sloped e slope x h)
    (tested_less (pos 0) (orient_of e.a e.b x) t) in
    let factor = positive_factor (place_at e slope x.y -ℤ x.x) (e.b.y -ℤ e.a.y) some (omega (arith, ints, low, high)) in
    less_tested x.x (place_at e slope x.y) (omega (arith, ints, factor)))
    (λ t. let less = tested_less x.x (place_at e slope x.y) t in
    let some = positive_product (place_at e slope x.y -ℤ x.x) (e.b.y -ℤ e.a.y) (omega (arith, ints, less))
    (omega (arith, ints, low, high)) in
    less_tested (pos 0) (orient_of e.a e.b x) (subst (λ z. pos 0 <ℤ z) (sym (orient_sloped e slope x h)) some)))

-- at a height between its ends the edge is between them
pub place_between : (e : Segment) (slope y : ℤ) → e.a.y ≤ℤ y → y <ℤ e.b.y → e.b.x -ℤ e.a.x ≡ slope *ℤ (e.b.y -ℤ e.a.y)
    → is_between (place_at e slope y) e.a.x e.b.x ≡ true
place_between e slope y low high h =
    between_by (place_at e slope y) e.a.x e.b.x (e.b.y -ℤ e.a.y) (y -ℤ e.a.y) (omega (arith, ints, low, high))
    (omega (arith, ints, low)) (omega (arith, ints, high))
    (by_parts (e.b.y -ℤ e.a.y) (y -ℤ e.a.y) slope e.a.x (e.b.x -ℤ e.a.x) h)
  where
    by_parts : (dy t c a dx : ℤ) → dx ≡ c *ℤ dy → dy *ℤ ((a +ℤ c *ℤ t) -ℤ a) ≡ t *ℤ dx
    by_parts dy t c a dx h =
        let first : (a +ℤ c *ℤ t) -ℤ a ≡ c *ℤ t = omega (arith, ints) in
        let second : t *ℤ dx ≡ (c *ℤ dy) *ℤ t = ap (λ z. t *ℤ z) h ∙ product_swapped t (c *ℤ dy) in
        let third = product_turned c dy t in
        let fourth = product_swapped dy (c *ℤ t) in
        ap (λ z. dy *ℤ z) first ∙ fourth ∙ sym third ∙ sym second
