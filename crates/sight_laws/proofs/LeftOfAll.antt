-- What is strictly left of all walls is gone round as often as what lies near a wall on its left.
--
-- Let x be strictly left of all walls, and v the start of one. All walls have v on them or on their left, so the
-- points of the segment from v to x, but v, are strictly left of all walls too. One of them is as near to v as is
-- wanted, and there the winding is k, the number on the left of the walls. From there to x no wall is touched, so it
-- is k at x.
use Rattle.std.specs.Prelude.{false, List, map}
use Rattle.std.proofs.Common.{◌≡◌, ℕ, ◌+◌, ◌<◌, ℤ, pos, ◌+ℤ◌, ◌-ℤ◌, ◌*ℤ◌, ◌<ℤ◌, ◌≤ℤ◌, sym, ◌∙◌, subst, arith}
use Rattle.std.proofs.lemmas.Int.{ints}
use Rattle.int_laws.proofs.Ring.{minus_times, one_times}
use Rattle.int_laws.proofs.Signs.{not_negative_product, positive_product}
use Rattle.plane_spec.specs.declared.Point.{Point}
use Rattle.plane_spec.specs.declared.Segment.{Segment}
use Rattle.plane_spec.specs.Vectors.{vector, cross_of, orient_of}
use Rattle.plane_spec.specs.Segments.{do_touch}
use Rattle.plane_laws.specs.Enlarged.{enlarged, enlarged_wall}
use Rattle.plane_laws.proofs.Lists.Members.{IsIn, source}
use Rattle.plane_laws.proofs.Points.Heights.{height, height_from}
use Rattle.plane_laws.proofs.Points.Directions.{turn_is}
use Rattle.plane_laws.proofs.Segments.Apart.{free_left}
use Rattle.plane_laws.proofs.Points.Scaled.{orient_scaled}
use Rattle.winding_laws.specs.Windings.{winding, near}
use Rattle.winding_laws.proofs.Closed.{same_winding}
use Rattle.winding_laws.proofs.Near.{value_at}
use Rattle.winding_laws.proofs.Strips.{HasWinding, side_near, closed_enlarged}
use Rattle.side_laws.proofs.Sound.{IsSound, SidesOf}
use Rattle.polygon_laws.proofs.Insides.{winding_enlarged}
use Rattle.sight_laws.proofs.Walls.{AreConvex}

-- n (n o + (h - o)) is positive where h is, o isn't negative and n is positive
near_by : (n : ℕ) (o h c : ℤ) → 0 < n → pos 0 ≤ℤ o → pos 0 <ℤ h → h ≡ o +ℤ c → pos 0 <ℤ value_at n o c (pos 0)
near_by n o h c some low high e =
    let more = not_negative_product (pos n -ℤ pos 1) o (omega (arith, ints, some)) low in
    let f = by_parts (pos n) o in
    let up = positive_product (pos n) (pos n *ℤ o +ℤ c) (omega (arith, ints, some))
    (omega (arith, ints, more, f, high, e)) in
    omega (arith, ints, up)
  where
    by_parts : (n o : ℤ) → (n -ℤ pos 1) *ℤ o ≡ n *ℤ o -ℤ o
    by_parts n o = let e = minus_times n (pos 1) o in let f = one_times o in omega (arith, ints, e, f)

-- near v towards x all is left of the wall
left_near : (n : ℕ) (w : Segment) (v x : Point) → 0 < n → pos 0 ≤ℤ height w v → pos 0 <ℤ height w x
    → pos 0 <ℤ orient_of (enlarged n w.a) (enlarged n w.b) (near n v (vector v x))
left_near n w v x some low high =
    subst (λ t. pos 0 <ℤ t) (sym (side_near n w.a w.b v (vector v x)))
    (near_by n (height w v) (height w x) (cross_of (vector w.a w.b) (vector v x)) some low high
    (height_from w.a w.b v x))

left_enlarged : (n : ℕ) (w : Segment) (x : Point) → 0 < n → pos 0 <ℤ height w x
    → pos 0 <ℤ orient_of (enlarged n w.a) (enlarged n w.b) (enlarged n x)
left_enlarged n w x some high =
    let n_some : pos 0 <ℤ pos n = omega (arith, ints, some) in
    subst (λ t. pos 0 <ℤ t) (sym (orient_scaled (pos n) (pos n) w.a w.b x))
    (positive_product (pos n *ℤ pos n) (height w x) (positive_product (pos n) (pos n) n_some n_some) high)

-- strictly left of all walls they go round as often as on the left of each
pub winding_inside : (walls : List Segment) (k : ℤ) → IsSound walls k → AreConvex walls → (first : Segment)
    → IsIn walls first
    → (x : Point) → ((w : Segment) → IsIn walls w → pos 0 <ℤ height w x) → winding x walls ≡ k
winding_inside walls k sound convex first there x left =
    sym (winding_enlarged n x walls (omega arith))
    ∙ sym (same_winding (near n v d) (enlarged n x) (map (enlarged_wall n) walls)
    (closed_enlarged n walls sound.closed) clear)
    ∙ here.from_there n (omega arith)
  where
    v : Point
    v = first.a

    d : Point
    d = vector v x

    sides : SidesOf walls first k
    sides = sound.sides first there

    here : HasWinding walls v d k
    here =
        (sides.side d
        (subst (λ t. pos 0 <ℤ t) (sym (turn_is sides.before v x))
        (left (record { a = sides.before; b = v }) sides.before_there))
        (left first there)).has

    n : ℕ
    n = here.after + 1

    clear : (f : Segment) → IsIn (map (enlarged_wall n) walls) f → do_touch f.a f.b (near n v d) (enlarged n x) ≡ false
    clear f f_there =
        let o = source (enlarged_wall n) walls f f_there in
        subst (λ t. do_touch t.a t.b (near n v d) (enlarged n x) ≡ false) o.is
        (free_left (enlarged n o.it.a) (enlarged n o.it.b) (near n v d) (enlarged n x)
        (left_near n o.it v x (omega arith) (convex o.it first o.is_in there).0 (left o.it o.is_in))
        (left_enlarged n o.it x (omega arith) (left o.it o.is_in)))
