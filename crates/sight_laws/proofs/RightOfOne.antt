-- What is on or right of the line of a wall, and on no wall, isn't gone round at all.
--
-- From such a point x a ray leads away from the walls, all of which are on or left of the wall's line. It touches
-- none of them: at x there is none, and further on it is strictly right of that line. Far enough along it a point is
-- higher than all walls, or lower, and there the winding is 0. So it is 0 at x. Simplicity isn't needed.
use Rattle.std.specs.Prelude.{false, List, [], ◌∷◌}
use Rattle.std.proofs.Common.{◌≡◌, ◌⊎◌, inl, inr, ℕ, ◌+◌, ℤ, pos, neg_ℤ, ◌+ℤ◌, ◌-ℤ◌, ◌*ℤ◌, ◌<ℤ◌, ◌≤ℤ◌, refl, ap}
use Rattle.std.proofs.Common.{◌∙◌, arith}
use Rattle.std.proofs.lemmas.Int.{ints, by_lt_z}
use Rattle.int_laws.proofs.Ring.{times_minus, times_neg, times_one, times_zero, zero_times}
use Rattle.int_laws.proofs.Ring.{product_moved}
use Rattle.int_laws.proofs.Ring.{product_swapped}
use Rattle.int_laws.proofs.Signs.{negative_product}
use Rattle.plane_spec.specs.declared.Point.{Point}
use Rattle.plane_spec.specs.declared.Segment.{Segment}
use Rattle.plane_spec.specs.Vectors.{point, vector, cross_of, same_point}
use Rattle.plane_spec.specs.Segments.{is_on_segment}
use Rattle.plane_laws.proofs.Lists.Members.{IsIn}
use Rattle.plane_laws.proofs.Points.Heights.{height, height_from}
use Rattle.plane_laws.proofs.Points.Directions.{some_square}
use Rattle.plane_laws.proofs.Segments.Separated.{separated}
use Rattle.winding_laws.specs.Windings.{winding, wind}
use Rattle.winding_laws.proofs.Closed.{AreClosed, same_winding}
use Rattle.winding_laws.proofs.Near.{Eventually, eventually_both, eventually_then, eventually_all, linear, value_at}
use Rattle.winding_laws.proofs.Near.{eventually_positive}
use Rattle.winding_laws.proofs.OneEdge.{wind_above, wind_below}

-- n steps of d away from x
abbrev stepped : ℕ → Point → Point → Point
stepped n x d = point (x.x +ℤ pos n *ℤ d.x) (x.y +ℤ pos n *ℤ d.y)

height_stepped : (n : ℕ) (w : Segment) (x d : Point)
    → height w (stepped n x d) ≡ height w x +ℤ pos n *ℤ cross_of (vector w.a w.b) d
height_stepped n w x d =
    height_from w.a w.b x (stepped n x d)
    ∙ ap (λ t. height w x +ℤ t) (by_parts (w.b.x -ℤ w.a.x) (w.b.y -ℤ w.a.y) x.x x.y (pos n) d.x d.y)
  where
    by_parts : (ux uy x y n dx dy : ℤ)
        → ux *ℤ ((y +ℤ n *ℤ dy) -ℤ y) -ℤ uy *ℤ ((x +ℤ n *ℤ dx) -ℤ x) ≡ n *ℤ (ux *ℤ dy -ℤ uy *ℤ dx)
    by_parts ux uy x y n dx dy =
        let a : (y +ℤ n *ℤ dy) -ℤ y ≡ n *ℤ dy = omega (arith, ints) in
        let b : (x +ℤ n *ℤ dx) -ℤ x ≡ n *ℤ dx = omega (arith, ints) in
        let c = ap (λ t. ux *ℤ t) a ∙ product_moved ux n dy in
        let e = ap (λ t. uy *ℤ t) b ∙ product_moved uy n dx in
        let f = times_minus n (ux *ℤ dy) (uy *ℤ dx) in
        omega (arith, ints, c, e, f)

-- ---- far away

-- a coordinate that changes with each step passes each bound
passes : (x d b : ℤ) → pos 0 <ℤ d → Eventually (λ n. b <ℤ (x +ℤ pos n *ℤ d))
passes x d b h =
    eventually_then (λ n. pos 0 <ℤ value_at n (pos 0) d (x -ℤ b)) (λ n. b <ℤ (x +ℤ pos n *ℤ d))
    (λ n k. let z = times_zero (pos n) in
    let s : pos n *ℤ pos 0 +ℤ d ≡ d = omega (arith, ints, z) in
    let e = ap (λ t. pos n *ℤ t) s in
    omega (arith, ints, e, k))
    (eventually_positive (pos 0) d (x -ℤ b) (linear refl h))

passes_below : (x d b : ℤ) → d <ℤ pos 0 → Eventually (λ n. (x +ℤ pos n *ℤ d) <ℤ b)
passes_below x d b h =
    eventually_then (λ n. neg_ℤ b <ℤ (neg_ℤ x +ℤ pos n *ℤ neg_ℤ d)) (λ n. (x +ℤ pos n *ℤ d) <ℤ b)
    (λ n k. let e = times_neg (pos n) d in omega (arith, ints, e, k))
    (passes (neg_ℤ x) (neg_ℤ d) (neg_ℤ b) (omega (arith, ints, h)))

-- far enough in a direction that isn't level, an edge isn't gone round
wind_far : (x d : Point) (f : Segment) → (pos 0 <ℤ d.y) ⊎ (d.y <ℤ pos 0)
    → Eventually (λ n. wind (stepped n x d) f ≡ pos 0)
wind_far x d f (inl up) =
    eventually_then (λ n. (f.a.y <ℤ (x.y +ℤ pos n *ℤ d.y)) × (f.b.y <ℤ (x.y +ℤ pos n *ℤ d.y)))
    (λ n. wind (stepped n x d) f ≡ pos 0)
    (λ n h. let a = h.0 in let b = h.1 in wind_above (stepped n x d) f (omega (arith, ints, a))
    (omega (arith, ints, b)))
    (eventually_both (λ n. f.a.y <ℤ (x.y +ℤ pos n *ℤ d.y)) (λ n. f.b.y <ℤ (x.y +ℤ pos n *ℤ d.y))
    (passes x.y d.y f.a.y up) (passes x.y d.y f.b.y up))
wind_far x d f (inr down) =
    eventually_then (λ n. ((x.y +ℤ pos n *ℤ d.y) <ℤ f.a.y) × ((x.y +ℤ pos n *ℤ d.y) <ℤ f.b.y))
    (λ n. wind (stepped n x d) f ≡ pos 0)
    (λ n h. wind_below (stepped n x d) f h.0 h.1)
    (eventually_both (λ n. (x.y +ℤ pos n *ℤ d.y) <ℤ f.a.y) (λ n. (x.y +ℤ pos n *ℤ d.y) <ℤ f.b.y)
    (passes_below x.y d.y f.a.y down) (passes_below x.y d.y f.b.y down))

all_none : (y : Point) (edges : List Segment) → ((f : Segment) → IsIn edges f → wind y f ≡ pos 0)
    → winding y edges ≡ pos 0
all_none y [] none = refl
all_none y (f ∷ edges) none =
    let first = none f (inl refl) in
    let rest = all_none y edges (λ g there. none g (inr there)) in
    omega (arith, ints, first, rest)

-- ---- a direction away from a wall, which isn't level

record Away (w : Segment) : Type 0 where
  way : Point
  right : cross_of (vector w.a w.b) way <ℤ pos 0
  tilted : (pos 0 <ℤ way.y) ⊎ (way.y <ℤ pos 0)

away : (w : Segment) → same_point w.a w.b ≡ false → Away w
away w real =
    by_lt_z (pos 0) ux
    (λ east. square_to (inr (omega (arith, ints, east))))
    (λ not_east. by_lt_z ux (pos 0)
    (λ west. square_to (inl (omega (arith, ints, west))))
    (λ not_west.
    let upright : ux ≡ pos 0 = omega (arith, ints, not_east, not_west) in
    let none = ap (λ t. t *ℤ ux) upright ∙ zero_times ux in
    let once = times_one ux in
    record {
      way = point uy (pos 1);
      right = omega (arith, ints, long, none, once, upright);
      tilted = inl (omega (arith, ints));
    }))
  where
    ux : ℤ
    ux = w.b.x -ℤ w.a.x

    uy : ℤ
    uy = w.b.y -ℤ w.a.y

    long : pos 0 <ℤ (ux *ℤ ux +ℤ uy *ℤ uy)
    long = some_square w.a w.b real

    square_to : (pos 0 <ℤ neg_ℤ ux) ⊎ (neg_ℤ ux <ℤ pos 0) → Away w
    square_to t =
        let e = times_neg ux ux in
        record { way = point uy (neg_ℤ ux); right = omega (arith, ints, long, e); tilted = t }

-- ---- the law

pub winding_outside : (walls : List Segment) → AreClosed walls → (w : Segment) → same_point w.a w.b ≡ false
    → ((f : Segment) → IsIn walls f → same_point f.a f.b ≡ false)
    → ((f : Segment) → IsIn walls f → (pos 0 ≤ℤ height w f.a) × (pos 0 ≤ℤ height w f.b))
    → (x : Point) → height w x ≤ℤ pos 0 → ((f : Segment) → IsIn walls f → is_on_segment x f.a f.b ≡ false)
    → winding x walls ≡ pos 0
winding_outside walls closed w real some left x right off =
    same_winding x y walls closed (λ f there. separated w f x y (some f there) (left f there).0
    (left f there).1 right y_right (off f there))
    ∙ all_none y walls (far.from_there n (omega arith))
  where
    a : Away w
    a = away w real

    far : Eventually (λ n. (f : Segment) → IsIn walls f → wind (stepped n x a.way) f ≡ pos 0)
    far = eventually_all walls (λ f n. wind (stepped n x a.way) f ≡ pos 0) (λ f there. wind_far x a.way f a.tilted)

    n : ℕ
    n = far.after + 1

    y : Point
    y = stepped n x a.way

    y_right : height w y <ℤ pos 0
    y_right =
        let e = height_stepped n w x a.way in
        let r = a.right in
        let s = product_swapped (pos n) (cross_of (vector w.a w.b) a.way) in
        let down = negative_product (cross_of (vector w.a w.b) a.way) (pos n) r (omega (arith, ints)) in
        omega (arith, ints, e, s, down, right)
