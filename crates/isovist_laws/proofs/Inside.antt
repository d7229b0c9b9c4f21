-- The triangles of an isovist overlap nowhere.
--
-- The corner `from` of a triangle lies in the first direction of its run, ahead of the point, and the corner `to` in
-- the second. So what is left of the line from the point to the former lies left of the first direction, as it is
-- seen from the point, and what is right of the line to the latter lies right of the second. What is inside a
-- triangle lies strictly between the directions of its run, and no direction lies so in two runs.
use Rattle.std.proofs.Common.{◌≡◌, ◌∙◌, ℤ, pos, neg_ℤ, ◌-ℤ◌, ◌*ℤ◌, ◌+ℤ◌, ◌<ℤ◌, ◌<◌, arith, true, ◌&&◌, List, [], ◌∷◌, map, length, sym, ap, subst}
use Rattle.std.specs.Prelude.{int_lt}
use Rattle.std.specs.List.{AllPairs}
use Rattle.std.proofs.lemmas.Int.{ints}
use Rattle.std.proofs.lemmas.Bool.{and_parts, and_from, both_ways, false_from_ne_true}
use Rattle.std.proofs.lemmas.List.Elements.{All-map}
use Rattle.std.proofs.lemmas.List.Kept.{AllPairs-cons}
use Rattle.int_laws.proofs.Ring.{times_one, product_swapped, product_grouped, product_turned, product_moved, products, times_minus, times_neg}
use Rattle.int_laws.proofs.Signs.{positive_product, positive_tested}
use Rattle.int_laws.proofs.Tests.{tested_less}
use Rattle.plane_spec.specs.declared.Point.{Point}
use Rattle.plane_spec.specs.Vectors.{point, cross_of, turns_left}
use Rattle.plane_spec.specs.Fractions.{Fraction, RPoint, whole, whole_point, shifted, along}
use Rattle.plane_spec.specs.RPoints.{minus, orient_of_rpoints}
use Rattle.plan_spec.specs.Plan.{Plan}
use Rattle.sight_spec.specs.Scene.{Scene, scene_of, blockers_of_scene}
use Rattle.sight_spec.specs.Isovist.{Run, runs_of, sectors_of, blocker_at, meeting_with, triangle_of, isovist_in}
use Rattle.exact_geom.proofs.Turns.{cross_of_exchanged}
use Rattle.exact_geom.proofs.Lowest.{divisor_of, divisor_is_positive}
use Rattle.exact_geom.proofs.Values.{numerator_is, denominator_is}
use Rattle.isovist_laws.specs.Spans.{IsSpanned, lies_between}
use Rattle.isovist_laws.specs.Overlaps.{AreRunsApart, lies_inside, AreTrianglesApart}
use Rattle.isovist_laws.proofs.Between.{sign_kept}
use Rattle.isovist_laws.proofs.Meetings.{meets}
use Rattle.isovist_laws.proofs.Spanning.{runs_spanned}
use Rattle.isovist_laws.proofs.Rounds.{pairs_nil, pairs_head, pairs_tail, runs_apart}

-- ---- a coordinate of a point on a ray, in lowest terms

module _ (z d : ℤ) (t : Fraction) where
  abbrev unreduced : Fraction
  unreduced = record { num = z *ℤ t.den +ℤ t.num *ℤ d; den = t.den }

  abbrev divisor : ℤ
  divisor = pos (divisor_of unreduced)

  divisor_up : pos 0 <ℤ t.den → pos 0 <ℤ divisor
  divisor_up up = let h = divisor_is_positive unreduced (omega (arith, ints, up)) in omega (arith, ints, h)

  den_is : divisor *ℤ ((shifted z d t).den *ℤ pos 1) ≡ t.den
  den_is =
      ap (λ u. divisor *ℤ u) (times_one (shifted z d t).den) ∙ product_swapped divisor (shifted z d t).den
      ∙ denominator_is unreduced

  -- how far it is from where it begins
  step_is : divisor *ℤ ((shifted z d t).num *ℤ pos 1 -ℤ z *ℤ (shifted z d t).den) ≡ t.num *ℤ d
  step_is =
      let num = (shifted z d t).num in
      let den = (shifted z d t).den in
      let parts = times_minus divisor (num *ℤ pos 1) (z *ℤ den) in
      let first : divisor *ℤ (num *ℤ pos 1) ≡ z *ℤ t.den +ℤ t.num *ℤ d =
      ap (λ u. divisor *ℤ u) (times_one num) ∙ product_swapped divisor num ∙ numerator_is unreduced in
      let second : divisor *ℤ (z *ℤ den) ≡ z *ℤ t.den =
      product_moved divisor z den ∙ ap (λ u. z *ℤ u) (product_swapped divisor den ∙ denominator_is unreduced) in
      omega (arith, ints, parts, first, second)

-- ---- which way a point on a ray turns

one_product : (g h a b c e n t d : ℤ) → g *ℤ a ≡ n *ℤ d → h *ℤ b ≡ t
    → (g *ℤ h) *ℤ ((a *ℤ c) *ℤ (b *ℤ e)) ≡ (n *ℤ t) *ℤ (d *ℤ (c *ℤ e))
one_product g h a b c e n t d first second =
    ap (λ u. (g *ℤ h) *ℤ u) (products a b c e) ∙ sym (product_grouped (g *ℤ h) (a *ℤ b) (c *ℤ e))
    ∙ ap (λ u. u *ℤ (c *ℤ e)) (products g a h b) ∙ ap (λ u. (u *ℤ (h *ℤ b)) *ℤ (c *ℤ e)) first
    ∙ ap (λ u. ((n *ℤ d) *ℤ u) *ℤ (c *ℤ e)) second ∙ ap (λ u. u *ℤ (c *ℤ e)) (product_turned n d t)
    ∙ product_grouped (n *ℤ t) d (c *ℤ e)

-- the differences a / b and a' / b' of two coordinates are n d / t and n d' / t
turned_by : (g h n t d d' a b a' b' c e c' e' : ℤ) → g *ℤ a ≡ n *ℤ d → g *ℤ b ≡ t → h *ℤ a' ≡ n *ℤ d' → h *ℤ b' ≡ t
    → (g *ℤ h) *ℤ ((a *ℤ c') *ℤ (b' *ℤ e) -ℤ (a' *ℤ c) *ℤ (b *ℤ e'))
    ≡ (n *ℤ t) *ℤ (d *ℤ (c' *ℤ e) -ℤ d' *ℤ (c *ℤ e'))
turned_by g h n t d d' a b a' b' c e c' e' x_num x_den y_num y_den =
    let first = one_product g h a b' c' e n t d x_num y_den in
    let second = one_product h g a' b c e' n t d' y_num x_den in
    let swapped = ap (λ u. u *ℤ ((a' *ℤ c) *ℤ (b *ℤ e'))) (product_swapped g h) in
    let left = times_minus (g *ℤ h) ((a *ℤ c') *ℤ (b' *ℤ e)) ((a' *ℤ c) *ℤ (b *ℤ e')) in
    let right = times_minus (n *ℤ t) (d *ℤ (c' *ℤ e)) (d' *ℤ (c *ℤ e')) in
    omega (arith, ints, first, second, swapped, left, right)

-- the direction in which q lies from p
abbrev way_to : Point → RPoint → Point
way_to p q =
    point ((minus q.x (whole p.x)).num *ℤ (minus q.y (whole p.y)).den)
    ((minus q.y (whole p.y)).num *ℤ (minus q.x (whole p.x)).den)

-- a point on the ray from p in direction d
module _ (p d : Point) (t : Fraction) (q : RPoint) where
  abbrev scale : ℤ
  scale = divisor p.x d.x t *ℤ divisor p.y d.y t

  turn_is : scale *ℤ orient_of_rpoints (whole_point p) (along p d t) q ≡ (t.num *ℤ t.den) *ℤ cross_of d (way_to p q)
  unfolding along
  turn_is =
      turned_by (divisor p.x d.x t) (divisor p.y d.y t) t.num t.den d.x d.y
      ((shifted p.x d.x t).num *ℤ pos 1 -ℤ p.x *ℤ (shifted p.x d.x t).den) ((shifted p.x d.x t).den *ℤ pos 1)
      ((shifted p.y d.y t).num *ℤ pos 1 -ℤ p.y *ℤ (shifted p.y d.y t).den) ((shifted p.y d.y t).den *ℤ pos 1)
      (minus q.x (whole p.x)).num (minus q.x (whole p.x)).den (minus q.y (whole p.y)).num (minus q.y (whole p.y)).den
      (step_is p.x d.x t) (den_is p.x d.x t) (step_is p.y d.y t) (den_is p.y d.y t)

  module _ (num_up : pos 0 <ℤ t.num) (den_up : pos 0 <ℤ t.den) where
    scale_up : pos 0 <ℤ scale
    scale_up =
        positive_product (divisor p.x d.x t) (divisor p.y d.y t) (divisor_up p.x d.x t den_up)
        (divisor_up p.y d.y t den_up)

    step_up : pos 0 <ℤ (t.num *ℤ t.den)
    step_up = positive_product t.num t.den num_up den_up

    -- what is left of the line to it is left of the ray
    left_of_ray : pos 0 <ℤ orient_of_rpoints (whole_point p) (along p d t) q → pos 0 <ℤ cross_of d (way_to p q)
    left_of_ray up =
        sign_kept scale (t.num *ℤ t.den) (orient_of_rpoints (whole_point p) (along p d t) q) (cross_of d (way_to p q))
        scale_up step_up turn_is up

    -- and what is right of it is right of the ray
    right_of_ray : orient_of_rpoints (whole_point p) (along p d t) q <ℤ pos 0 → pos 0 <ℤ cross_of (way_to p q) d
    right_of_ray low =
        let turn = orient_of_rpoints (whole_point p) (along p d t) q in
        let same : scale *ℤ neg_ℤ turn ≡ (t.num *ℤ t.den) *ℤ cross_of (way_to p q) d =
        times_neg scale turn ∙ ap neg_ℤ turn_is ∙ sym (times_neg (t.num *ℤ t.den) (cross_of d (way_to p q)))
        ∙ ap (λ u. (t.num *ℤ t.den) *ℤ u) (sym (cross_of_exchanged d (way_to p q))) in
        sign_kept scale (t.num *ℤ t.den) (neg_ℤ turn) (cross_of (way_to p q) d) scale_up step_up same
        (omega (arith, ints, low))

-- ---- triangles

-- what is inside the triangle of a run lies between the run's directions
inside_between : (scene : Scene) (p : Point) (r : Run) → IsSpanned scene p r → (q : RPoint)
    → lies_inside p (triangle_of scene p r) q ≡ true → lies_between r.from r.to (way_to p q) ≡ true
unfolding triangle_of
inside_between scene p r s q h =
    let w = blocker_at (blockers_of_scene scene) r.wall in
    let m = meets p r.from r.to w s.spans in
    let first = meeting_with scene p r.from r.wall in
    let second = meeting_with scene p r.to r.wall in
    let outer = orient_of_rpoints (along p r.from first) (along p r.to second) q in
    let left = orient_of_rpoints (whole_point p) (along p r.from first) q in
    let right = orient_of_rpoints (whole_point p) (along p r.to second) q in
    let parts = and_parts (int_lt (pos 0) left) (int_lt right (pos 0) && int_lt (pos 0) outer) h in
    let others = and_parts (int_lt right (pos 0)) (int_lt (pos 0) outer) parts.1 in
    let after = left_of_ray p r.from first q (subst (λ (f : Fraction). pos 0 <ℤ f.num) (sym m.first_is) m.positive)
    (subst (λ (f : Fraction). pos 0 <ℤ f.den) (sym m.first_is) m.first_positive)
    (tested_less (pos 0) left parts.0) in
    let before = right_of_ray p r.to second q (subst (λ (f : Fraction). pos 0 <ℤ f.num) (sym m.second_is) m.positive)
    (subst (λ (f : Fraction). pos 0 <ℤ f.den) (sym m.second_is) m.second_positive)
    (tested_less right (pos 0) others.0) in
    and_from (turns_left r.from (way_to p q)) (turns_left (way_to p q) r.to)
    (positive_tested (cross_of r.from (way_to p q)) after) (positive_tested (cross_of (way_to p q) r.to) before)

-- so the triangles of runs that are apart are apart
triangles_of_runs : (scene : Scene) (p : Point) (r s : Run) → IsSpanned scene p r → IsSpanned scene p s
    → AreRunsApart r s → AreTrianglesApart p (triangle_of scene p r) (triangle_of scene p s)
triangles_of_runs scene p r s one other apart q =
    false_from_ne_true (lies_inside p (triangle_of scene p r) q && lies_inside p (triangle_of scene p s) q)
    (λ h.
    let both = and_parts (lies_inside p (triangle_of scene p r) q) (lies_inside p (triangle_of scene p s) q) h in
    both_ways (lies_between r.from r.to (way_to p q) && lies_between s.from s.to (way_to p q)) (apart (way_to p q))
    (and_from (lies_between r.from r.to (way_to p q)) (lies_between s.from s.to (way_to p q))
    (inside_between scene p r one q both.0) (inside_between scene p s other q both.1)))

pairs_map : {X Y : Type 0} (R : Y → Y → Type 0) (f : X → Y) (xs : List X) → AllPairs (λ x y. R (f x) (f y)) xs
    → AllPairs R (map f xs)
pairs_map R f [] h = pairs_nil R
pairs_map R f (x ∷ xs) h =
    AllPairs-cons R (f x) (map f xs)
    (All-map (R (f x)) f xs (pairs_head (λ x y. R (f x) (f y)) x xs h))
    (pairs_map R f xs (pairs_tail (λ x y. R (f x) (f y)) x xs h))

-- no place lies strictly inside two triangles of an isovist
pub triangles_apart : (plan : Plan) (p : Point)
    → AllPairs (AreTrianglesApart p) (isovist_in (scene_of plan) p).triangles
unfolding isovist_in
triangles_apart plan p =
    let runs = runs_of (sectors_of (scene_of plan) p) in
    pairs_map (AreTrianglesApart p) (triangle_of (scene_of plan) p) runs
    (λ i j d lt within.
    let near : i < length runs = omega arith in
    triangles_of_runs (scene_of plan) p _ _ (runs_spanned plan p i d near) (runs_spanned plan p j d within)
    (runs_apart plan p i j d lt within))
