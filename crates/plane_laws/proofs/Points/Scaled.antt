-- A plane that is r times as wide and s times as tall: what lies on a segment there, and which segments touch, is as
-- here.
use Rattle.std.specs.Prelude.{List, map}
use Rattle.std.proofs.Common.{ℤ, ◌*ℤ◌, pos, refl, ◌≡◌, ◌<ℤ◌, ap, arith, ◌-ℤ◌, sym, ℕ}
use Rattle.std.proofs.lemmas.Int.{ints}
use Rattle.int_laws.proofs.Multiples.{negative_scaled, positive_scaled, at_most_scaled, none_scaled, equal_scaled}
use Rattle.int_laws.proofs.Ring.{product_swapped, products, times_minus}
use Rattle.int_laws.proofs.Signs.{positive_product}
use Rattle.plane_spec.specs.declared.Point.{Point}
use Rattle.plane_spec.specs.declared.Segment.{Segment}
use Rattle.plane_spec.specs.Vectors.{point, orient_of, cross_of, vector, same_point}
use Rattle.plane_spec.specs.Segments.{are_opposite, is_between, is_on_segment, cross_properly, do_touch}

abbrev pub scaled : ℤ → ℤ → Point → Point
scaled r s v = point (r *ℤ v.x) (s *ℤ v.y)

abbrev pub scaled_wall : ℤ → ℤ → Segment → Segment
scaled_wall r s f = record { a = scaled r s f.a; b = scaled r s f.b }

pub opposite_scaled : (r s t : ℤ) → pos 0 <ℤ r → are_opposite (r *ℤ s) (r *ℤ t) ≡ are_opposite s t
opposite_scaled r s t h =
    rw (positive_scaled r s h, positive_scaled r t h, negative_scaled r s h, negative_scaled r t h) refl

pub cross_by : (r s ux uy vx vy : ℤ)
    → (r *ℤ ux) *ℤ (s *ℤ vy) -ℤ (s *ℤ uy) *ℤ (r *ℤ vx) ≡ (r *ℤ s) *ℤ (ux *ℤ vy -ℤ uy *ℤ vx)
cross_by r s ux uy vx vy =
    let a = products r s ux vy in
    let b = products r s vx uy in
    let c = product_swapped (s *ℤ uy) (r *ℤ vx) in
    let d = ap (λ t. (r *ℤ s) *ℤ t) (product_swapped vx uy) in
    let e = times_minus (r *ℤ s) (ux *ℤ vy) (uy *ℤ vx) in
    omega (arith, ints, a, b, c, d, e)

pub orient_scaled : (r s : ℤ) (a b c : Point)
    → orient_of (scaled r s a) (scaled r s b) (scaled r s c) ≡ (r *ℤ s) *ℤ orient_of a b c
orient_scaled r s a b c =
    rw (
      sym (times_minus r b.x a.x),
      sym (times_minus s b.y a.y),
      sym (times_minus r c.x a.x),
      sym
          (times_minus s c.y a.y),
    )
    (cross_by r s (b.x -ℤ a.x) (b.y -ℤ a.y) (c.x -ℤ a.x) (c.y -ℤ a.y))

-- the direction between two points, and a direction
pub cross_scaled : (r s : ℤ) (a b d : Point)
    → cross_of (vector (scaled r s a) (scaled r s b)) (scaled r s d) ≡ (r *ℤ s) *ℤ cross_of (vector a b) d
cross_scaled r s a b d =
    rw (sym (times_minus r b.x a.x), sym (times_minus s b.y a.y)) (cross_by r s (b.x -ℤ a.x) (b.y -ℤ a.y) d.x d.y)

between_scaled : (r m a b : ℤ) → pos 0 <ℤ r → is_between (r *ℤ m) (r *ℤ a) (r *ℤ b) ≡ is_between m a b
between_scaled r m a b h =
    rw (at_most_scaled r a m h, at_most_scaled r m b h, at_most_scaled r b m h, at_most_scaled r m a h) refl

pub on_scaled : (r s : ℤ) (x a b : Point) → pos 0 <ℤ r → pos 0 <ℤ s
    → is_on_segment (scaled r s x) (scaled r s a) (scaled r s b) ≡ is_on_segment x a b
unfolding is_on_segment
on_scaled r s x a b h k =
    rw (
      orient_scaled r s a b x,
      none_scaled (r *ℤ s) (orient_of a b x) (positive_product r s h k),
      between_scaled r x.x a.x b.x h,
      between_scaled s x.y a.y b.y k,
    ) refl

pub touch_scaled : (r s : ℤ) (a b c d : Point) → pos 0 <ℤ r → pos 0 <ℤ s
    → do_touch (scaled r s a) (scaled r s b) (scaled r s c) (scaled r s d) ≡ do_touch a b c d
unfolding do_touch cross_properly
touch_scaled r s a b c d h k =
    let p = positive_product r s h k in
    rw (
      orient_scaled r s a b c,
      orient_scaled r s a b d,
      orient_scaled r s c d a,
      orient_scaled r s c d b,
      opposite_scaled (r *ℤ s) (orient_of a b c) (orient_of a b d) p,
      opposite_scaled (r *ℤ s) (orient_of c d a) (orient_of c d b) p,
      on_scaled r s a c d h k,
      on_scaled r s b c d h k,
      on_scaled r s c a b h k,
      on_scaled r s d a b h k,
    ) refl

pub same_scaled : (r s : ℤ) (a b : Point) → pos 0 <ℤ r → pos 0 <ℤ s
    → same_point (scaled r s a) (scaled r s b) ≡ same_point a b
same_scaled r s a b h k = rw (equal_scaled r a.x b.x h, equal_scaled s a.y b.y k) refl

-- the polygon's edges in the plane of the steps
abbrev pub large : ℕ → List Segment → List Segment
large n edges = map (scaled_wall (pos n) (pos n)) edges
