-- In a plane that is r times as wide and s times as tall the edges go round each point as often as here.
use Rattle.std.specs.Prelude.{List, map, [], ◌∷◌}
use Rattle.std.proofs.Common.{pos, refl, ℤ, ◌≡◌, ◌*ℤ◌, ◌<ℤ◌, ap, arith, ◌+ℤ◌, ℕ, ◌∙◌, ◌-ℤ◌}
use Rattle.std.proofs.lemmas.Int.{ints}
use Rattle.int_laws.proofs.Multiples.{at_most_scaled, less_scaled, negative_scaled, positive_scaled}
use Rattle.int_laws.proofs.Signs.{positive_product}
use Rattle.int_laws.proofs.Ring.{product_grouped, product_swapped, times_sum}
use Rattle.plane_spec.specs.declared.Point.{Point}
use Rattle.plane_spec.specs.declared.Segment.{Segment}
use Rattle.plane_spec.specs.Vectors.{orient_of}
use Rattle.plane_laws.specs.Enlarged.{enlarged_wall}
use Rattle.plane_laws.proofs.Points.Scaled.{orient_scaled, scaled, scaled_wall}
use Rattle.winding_laws.specs.Windings.{wind, winding, near}
use Rattle.winding_laws.proofs.Near.{eventually_then}
use Rattle.winding_laws.proofs.Strips.{HasWinding}
use Rattle.winding_laws.proofs.Closed.{rises_along}

pub wind_scaled : (r s : ℤ) (x : Point) (f : Segment) → pos 0 <ℤ r → pos 0 <ℤ s
    → wind (scaled r s x) (scaled_wall r s f) ≡ wind x f
unfolding wind
wind_scaled r s x f h k =
    let p = positive_product r s h k in
    rw (
      orient_scaled r s f.a f.b x,
      positive_scaled (r *ℤ s) (orient_of f.a f.b x) p,
      negative_scaled (r *ℤ s) (orient_of f.a f.b x) p,
      at_most_scaled s f.a.y x.y k,
      at_most_scaled s f.b.y x.y k,
      less_scaled s x.y f.b.y k,
    ) refl

-- ---- near points

near_scaled_by : (n r x d : ℤ) → n *ℤ (r *ℤ x) +ℤ r *ℤ d ≡ r *ℤ (n *ℤ x +ℤ d)
near_scaled_by n r x d =
    let a = product_grouped n r x in
    let b = product_grouped r n x in
    let c = ap (λ t. t *ℤ x) (product_swapped n r) in
    let e = times_sum r (n *ℤ x) d in
    omega (arith, ints, a, b, c, e)

enlarged_scaled_by : (n r x : ℤ) → n *ℤ (r *ℤ x) ≡ r *ℤ (n *ℤ x)
enlarged_scaled_by n r x =
    let a = product_grouped n r x in
    let b = product_grouped r n x in
    let c = ap (λ t. t *ℤ x) (product_swapped n r) in
    omega (arith, ints, a, b, c)

near_scaled : (n : ℕ) (r s : ℤ) (x d : Point) → near n (scaled r s x) (scaled r s d) ≡ scaled r s (near n x d)
near_scaled n r s x d = rw (near_scaled_by (pos n) r x.x d.x, near_scaled_by (pos n) s x.y d.y) refl

enlarged_scaled : (n : ℕ) (r s : ℤ) (f : Segment)
    → enlarged_wall n (scaled_wall r s f) ≡ scaled_wall r s (enlarged_wall n f)
enlarged_scaled n r s f =
    rw (
      enlarged_scaled_by (pos n) r f.a.x,
      enlarged_scaled_by (pos n) s f.a.y,
      enlarged_scaled_by (pos n) r f.b.x,
      enlarged_scaled_by (pos n) s f.b.y,
    ) refl

winding_scaled : (n : ℕ) (r s : ℤ) (x d : Point) (edges : List Segment) → pos 0 <ℤ r → pos 0 <ℤ s
    → winding (near n (scaled r s x) (scaled r s d)) (map (enlarged_wall n) (map (scaled_wall r s) edges))
    ≡ winding (near n x d) (map (enlarged_wall n) edges)
winding_scaled n r s x d [] h k = refl
winding_scaled n r s x d (f ∷ edges) h k =
    let rest = winding_scaled n r s x d edges h k in
    let first = ap (λ t. wind t (enlarged_wall n (scaled_wall r s f))) (near_scaled n r s x d)
    ∙ ap (λ t. wind (scaled r s (near n x d)) t) (enlarged_scaled n r s f)
    ∙ wind_scaled r s (near n x d) (enlarged_wall n f) h k in
    omega (arith, ints, rest, first)

pub has_scaled : (r s : ℤ) (x d : Point) (k : ℤ) (edges : List Segment) → pos 0 <ℤ r → pos 0 <ℤ s
    → HasWinding edges x d k → HasWinding (map (scaled_wall r s) edges) (scaled r s x) (scaled r s d) k
has_scaled r s x d k edges h i w =
    eventually_then (λ n. winding (near n x d) (map (enlarged_wall n) edges) ≡ k)
    (λ n. winding (near n (scaled r s x) (scaled r s d)) (map (enlarged_wall n) (map (scaled_wall r s) edges)) ≡ k)
    (λ n e. winding_scaled n r s x d edges h i ∙ e) w

-- ---- sound edges

pub rises_scaled : (r s : ℤ) (value : Point → ℤ) (edges : List Segment)
    → rises_along value (map (scaled_wall r s) edges) ≡ rises_along (λ v. value (scaled r s v)) edges
rises_scaled r s value [] = refl
rises_scaled r s value (e ∷ edges) =
    ap (λ t. (value (scaled r s e.b) -ℤ value (scaled r s e.a)) +ℤ t) (rises_scaled r s value edges)
