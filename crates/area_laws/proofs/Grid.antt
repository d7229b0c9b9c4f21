-- Each polygon, made wide enough, lies on a grid. So the left side of a simple polygon's walls tells which way round
-- it goes.
use Rattle.std.specs.Prelude.{List, map, [], ◌∷◌, unsigned_abs}
use Rattle.std.proofs.Common.{arith, sym, ℤ, ◌≡◌, ◌*ℤ◌, pos, ◌⊎◌, ◌<◌, ◌-ℤ◌, ◌<ℤ◌, ap, inl, inr, neg_ℤ, subst, ◌∙◌, ℕ}
use Rattle.std.proofs.Common.{◌+◌, ◌≤ℤ◌, refl, ◌+ℤ◌}
use Rattle.std.proofs.lemmas.Int.{ints, by_lt_z}
use Rattle.int_laws.proofs.Ring.{times_sum, times_zero, neg_times, product_grouped, product_swapped, times_minus}
use Rattle.int_laws.proofs.Ring.{times_neg, product_turned, sum_times}
use Rattle.int_laws.proofs.Signs.{positive_product, positive_factor, not_negative_product}
use Rattle.plane_spec.specs.declared.Segment.{Segment}
use Rattle.plane_spec.specs.Vectors.{cross_of}
use Rattle.plane_spec.specs.Polygons.{doubled_area}
use Rattle.plane_laws.proofs.Points.Scaled.{cross_by, scaled_wall}
use Rattle.plane_laws.proofs.Lists.Members.{IsIn, mapped, source}
use Rattle.side_laws.proofs.Sound.{IsSound}
use Rattle.side_laws.proofs.Scaled.{scaled_sound}
use Rattle.area_laws.proofs.Cells.{IsOnGrid}
use Rattle.area_laws.proofs.Orientation.{IsTurnedRound, orientation}

-- the area grows with both
pub area_scaled : (r s : ℤ) (edges : List Segment)
    → doubled_area (map (scaled_wall r s) edges) ≡ (r *ℤ s) *ℤ doubled_area edges
area_scaled r s [] = sym (times_zero (r *ℤ s))
area_scaled r s (e ∷ edges) =
    let first = cross_by r s e.a.x e.a.y e.b.x e.b.y in
    let rest = area_scaled r s edges in
    let whole = times_sum (r *ℤ s) (cross_of e.a e.b) (doubled_area edges) in
    omega (arith, ints, first, rest, whole)

-- ---- a common multiple of the heights

-- a positive number of which the height of each edge is a divisor, up to its sign
record Common (edges : List Segment) : Type 0 where
  number : ℤ
  positive : pos 0 <ℤ number
  divided : (e : Segment) → IsIn edges e → (e.a.y ≡ e.b.y) ⊎ ((q : ℤ) × (number ≡ q *ℤ (e.b.y -ℤ e.a.y)))

common : (edges : List Segment) → Common edges
common [] = record { number = pos 1; positive = omega (arith, ints); divided = λ e there. absurd there }
common (f ∷ edges) = by_height (common edges)
  where
    multiple : (c n q h : ℤ) → n ≡ q *ℤ h → c *ℤ n ≡ (c *ℤ q) *ℤ h
    multiple c n q h e = ap (λ t. c *ℤ t) e ∙ sym (product_grouped c q h)

    later : (c : ℤ) → (rest : Common edges) → (e : Segment) → IsIn edges e
        → (e.a.y ≡ e.b.y) ⊎ ((q : ℤ) × (c *ℤ rest.number ≡ q *ℤ (e.b.y -ℤ e.a.y)))
    later c rest e there = elim (rest.divided e there) [
      | inl level ↦ inl level
      | inr d ↦ inr (c *ℤ d.0, multiple c rest.number d.0 (e.b.y -ℤ e.a.y) d.1)
    ]

    by_height : Common edges → Common (f ∷ edges)
    by_height rest =
        by_lt_z f.a.y f.b.y
        (λ rising. record {
          number = (f.b.y -ℤ f.a.y) *ℤ rest.number;
          positive = positive_product (f.b.y -ℤ f.a.y) rest.number (omega (arith, ints, rising)) rest.positive;
          divided = λ e there. pick (f.b.y -ℤ f.a.y) rest
              (inr (rest.number, product_swapped (f.b.y -ℤ f.a.y) rest.number)) e there;
        })
        (λ not_rising. by_lt_z f.b.y f.a.y
        (λ falling. record {
          number = (f.a.y -ℤ f.b.y) *ℤ rest.number;
          positive = positive_product (f.a.y -ℤ f.b.y) rest.number (omega (arith, ints, falling)) rest.positive;
          divided = λ e there. pick (f.a.y -ℤ f.b.y) rest
              (inr (neg_ℤ rest.number, turned f.a.y f.b.y rest.number)) e there;
        })
        (λ level. record {
          number = pos 1 *ℤ rest.number;
          positive = positive_product (pos 1) rest.number (omega (arith, ints)) rest.positive;
          divided = λ e there. pick (pos 1) rest (inl (omega (arith, ints, not_rising, level))) e there;
        }))
      where
        turned : (a b n : ℤ) → (a -ℤ b) *ℤ n ≡ neg_ℤ n *ℤ (b -ℤ a)
        turned a b n =
            let e = neg_times n (b -ℤ a) in
            let f = times_minus n b a in
            let g = product_swapped (a -ℤ b) n in
            let h = times_minus n a b in
            omega (arith, ints, e, f, g, h)

        pick : (c : ℤ) → (rest : Common edges) → (f.a.y ≡ f.b.y)
            ⊎ ((q : ℤ) × (c *ℤ rest.number ≡ q *ℤ (f.b.y -ℤ f.a.y))) → (e : Segment) → IsIn (f ∷ edges) e
            → (e.a.y ≡ e.b.y) ⊎ ((q : ℤ) × (c *ℤ rest.number ≡ q *ℤ (e.b.y -ℤ e.a.y)))
        pick c rest own e (inl same) =
            subst (λ t. (t.a.y ≡ t.b.y) ⊎ ((q : ℤ) × (c *ℤ rest.number ≡ q *ℤ (t.b.y -ℤ t.a.y)))) same own
        pick c rest own e (inr there) = later c rest e there

-- ---- a bound for all coordinates

-- less than `most` from 0
record IsSmall (most : ℕ) (z : ℤ) : Type 0 where
  low : neg_ℤ (pos most) <ℤ z
  high : z <ℤ pos most

record AreSmall (most : ℕ) (e : Segment) : Type 0 where
  ax : IsSmall most e.a.x
  ay : IsSmall most e.a.y
  bx : IsSmall most e.b.x
  by_ : IsSmall most e.b.y

size : Segment → ℕ
size e = unsigned_abs e.a.x + unsigned_abs e.a.y + unsigned_abs e.b.x + unsigned_abs e.b.y

small : (most : ℕ) (z : ℤ) → unsigned_abs z < most → IsSmall most z
small most z h = record { low = omega (arith, ints, h); high = omega (arith, ints, h) }

bound : List Segment → ℕ
bound [] = 1
bound (e ∷ edges) = size e + bound edges

some_bound : (edges : List Segment) → 0 < bound edges
unfolding bound
some_bound [] = omega arith
some_bound (e ∷ edges) = let k = some_bound edges in omega (arith, k)

bounded : (edges : List Segment) (e : Segment) → IsIn edges e → size e < bound edges
unfolding bound
bounded [] e there = absurd there
bounded (f ∷ edges) e (inl same) =
    let k = some_bound edges in subst (λ t. size t < size f + bound edges) same (omega (arith, k))
bounded (f ∷ edges) e (inr there) = let k = bounded edges e there in omega (arith, k)

all_small : (edges : List Segment) (e : Segment) → IsIn edges e → AreSmall (bound edges) e
unfolding size
all_small edges e there =
    let k = bounded edges e there in
    record {
      ax = small (bound edges) e.a.x (omega (arith, k));
      ay = small (bound edges) e.a.y (omega (arith, k));
      bx = small (bound edges) e.b.x (omega (arith, k));
      by_ = small (bound edges) e.b.y (omega (arith, k));
    }

-- ---- the grid

natural : (z : ℤ) → pos 0 ≤ℤ z → (j : ℕ) × (pos j ≡ z)
natural z h = (unsigned_abs z, omega (arith, ints, h))

times_small : (d : ℤ) (most : ℕ) (z : ℤ) → pos 0 <ℤ d → IsSmall most z
    → (neg_ℤ (d *ℤ pos most) <ℤ (d *ℤ z)) × ((d *ℤ z) <ℤ (d *ℤ pos most))
times_small d most z h s =
    let s_low = s.low in
    let s_high = s.high in
    let a = positive_product d (pos most -ℤ z) h (omega (arith, ints, s_high)) in
    let b = positive_product d (z -ℤ neg_ℤ (pos most)) h (omega (arith, ints, s_low)) in
    let c = times_minus d (pos most) z in
    let e = times_minus d z (neg_ℤ (pos most)) in
    let f = times_neg d (pos most) in
    (omega (arith, ints, b, e, f), omega (arith, ints, a, c))

abbrev slope_by : (e : Segment) (d : ℤ) → (e.a.y ≡ e.b.y) ⊎ ((q : ℤ) × (d ≡ q *ℤ (e.b.y -ℤ e.a.y))) → ℤ
slope_by e d (inl level) = pos 0
slope_by e d (inr k) = k.0 *ℤ (e.b.x -ℤ e.a.x)

-- an edge, made twice a common multiple of the heights as wide, and twice as tall, lies on a grid
on_grid : (edges : List Segment) (e : Segment) (d : ℤ) (wide : ℕ)
    → (q : (e.a.y ≡ e.b.y) ⊎ ((q : ℤ) × (d ≡ q *ℤ (e.b.y -ℤ e.a.y)))) → pos 0 <ℤ d → AreSmall (bound edges) e
    → pos wide ≡ (d +ℤ d) *ℤ pos (bound edges)
    → IsOnGrid (neg_ℤ (pos wide)) (neg_ℤ (pos (bound edges)
    +ℤ pos (bound edges))) (wide + wide) (bound edges + bound edges) (scaled_wall (d +ℤ d) (pos 2) e)
on_grid edges e d wide q d_up s wide_is =
    let l = bound edges in
    let ay = s.ay in
    let by = s.by_ in
    let ay_low = ay.low in
    let ay_high = ay.high in
    let by_low = by.low in
    let by_high = by.high in
    let from = natural (e.a.y +ℤ pos l) (omega (arith, ints, ay_low)) in
    let to = natural (e.b.y +ℤ pos l) (omega (arith, ints, by_low)) in
    let from_is = from.1 in
    let to_is = to.1 in
    let two : ℤ = d +ℤ d in
    let two_up : pos 0 <ℤ (d +ℤ d) = omega (arith, ints, d_up) in
    let a = times_small (d +ℤ d) l e.a.x two_up s.ax in
    let b = times_small (d +ℤ d) l e.b.x two_up s.bx in
    let a0 = a.0 in
    let a1 = a.1 in
    let b0 = b.0 in
    let b1 = b.1 in
    record {
      from = from.0;
      to = to.0;
      slope = slope_by e d q;
      from_in = omega (arith, ints, from_is, ay_high);
      to_in = omega (arith, ints, to_is, by_high);
      a_y = omega (arith, ints, from_is);
      b_y = omega (arith, ints, to_is);
      sloped = sloped_by q;
      a_low = omega (arith, ints, a0, wide_is);
      a_high = omega (arith, ints, a1, wide_is);
      b_low = omega (arith, ints, b0, wide_is);
      b_high = omega (arith, ints, b1, wide_is);
    }
  where
    sloped_by : (q : (e.a.y ≡ e.b.y) ⊎ ((q : ℤ) × (d ≡ q *ℤ (e.b.y -ℤ e.a.y))))
        → (pos 2 *ℤ e.a.y ≡ pos 2 *ℤ e.b.y)
        ⊎ ((d +ℤ d) *ℤ e.b.x -ℤ (d +ℤ d) *ℤ e.a.x ≡ slope_by e d q *ℤ (pos 2 *ℤ e.b.y -ℤ pos 2 *ℤ e.a.y))
    sloped_by (inl level) = inl (ap (λ t. pos 2 *ℤ t) level)
    sloped_by (inr k) = inr (by_parts d k.0 (e.b.y -ℤ e.a.y) (e.b.x -ℤ e.a.x) e.a.x e.b.x e.a.y e.b.y k.1 refl refl)
      where
        by_parts : (d q h w ax bx ay by : ℤ) → d ≡ q *ℤ h → h ≡ by -ℤ ay → w ≡ bx -ℤ ax
            → (d +ℤ d) *ℤ bx -ℤ (d +ℤ d) *ℤ ax ≡ (q *ℤ w) *ℤ (pos 2 *ℤ by -ℤ pos 2 *ℤ ay)
        by_parts d q h w ax bx ay by e f g =
            let first = times_minus (d +ℤ d) bx ax in
            let one = ap (λ t. (d +ℤ d) *ℤ t) g in
            let two = sum_times d d w in
            let three : d *ℤ w ≡ (q *ℤ w) *ℤ h = ap (λ t. t *ℤ w) e ∙ product_turned q h w in
            let tall : pos 2 *ℤ by -ℤ pos 2 *ℤ ay ≡ h +ℤ h = omega (arith, ints, f) in
            let four = ap (λ t. (q *ℤ w) *ℤ t) tall ∙ times_sum (q *ℤ w) h h in
            omega (arith, ints, first, one, two, three, four)

-- ---- which way round

positive_area : (c k area : ℤ) → pos 0 <ℤ c → IsTurnedRound k (c *ℤ area) → IsTurnedRound k area
positive_area c k area h (inl t) =
    let e = product_swapped c area in let p = t.1 in inl (t.0, positive_factor area c (omega (arith, ints, e, p)) h)
positive_area c k area h (inr t) =
    let e = times_neg c area in
    let f = product_swapped c (neg_ℤ area) in
    let p = t.1 in
    let g = positive_factor (neg_ℤ area) c (omega (arith, ints, e, f, p)) h in
    inr (t.0, omega (arith, ints, g))

-- what sound edges of which one isn't level have on their left: 1 where they go round counterclockwise, and 0 where
-- they go round clockwise
pub turned_round : (edges : List Segment) (k : ℤ) → IsSound edges k → (f : Segment) → IsIn edges f
    → (f.a.y ≡ f.b.y → ⊥) → IsTurnedRound k (doubled_area edges)
turned_round edges k sound f there tall =
    let c = common edges in
    let d = c.number in
    let d_up = c.positive in
    let r = d +ℤ d in
    let r_up : pos 0 <ℤ r = omega (arith, ints, d_up) in
    let l_up = some_bound edges in
    let product = not_negative_product r (pos (bound edges)) (omega (arith, ints, r_up)) (omega (arith, ints)) in
    let wide = natural (r *ℤ pos (bound edges)) product in
    let scaled_edges = map (scaled_wall r (pos 2)) edges in
    let s = scaled_sound r (pos 2) edges k r_up (omega (arith, ints)) sound in
    let o = orientation (neg_ℤ (pos wide.0)) (neg_ℤ (pos (bound edges) +ℤ pos (bound edges))) (wide.0 + wide.0)
    (bound edges + bound edges) scaled_edges k s
    (λ g g_there. let src = source (scaled_wall r (pos 2)) edges g g_there in
    subst (λ t. IsOnGrid (neg_ℤ (pos wide.0)) (neg_ℤ (pos (bound edges) +ℤ pos (bound edges))) (wide.0 + wide.0)
    (bound edges + bound edges) t) src.is
    (on_grid edges src.it d wide.0 (c.divided src.it src.is_in) d_up (all_small edges src.it src.is_in) wide.1))
    (scaled_wall r (pos 2) f) (mapped (scaled_wall r (pos 2)) edges f there) (λ e. tall (omega (arith, ints, e))) in
    positive_area (r *ℤ pos 2) k (doubled_area edges) (positive_product r (pos 2) r_up (omega (arith, ints)))
    (subst (λ t. IsTurnedRound k t) (area_scaled r (pos 2) edges) o)
