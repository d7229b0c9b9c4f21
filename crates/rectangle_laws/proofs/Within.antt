-- A polygon whose points are strictly between two opposite corners of a box lies within the box.
--
-- Such a point is on no side, and only the right side passes it on its right. And all points are in a box that each
-- side is apart from.
use Rattle.std.proofs.Common.{◌≡◌, ◌≢◌, refl, ap, ◌∙◌, arith, ℤ, ◌≤ℤ◌, ◌<ℤ◌, ◌-ℤ◌, ◌+ℤ◌, ◌*ℤ◌, neg_ℤ, true, false, List, [], ◌∷◌}
use Rattle.std.specs.Prelude.{All, ◌&&◌, pos, int_lt, int_le, Bool, if◌then◌else◌}
use Rattle.std.specs.List.{list_any, list_all}
use Rattle.std.proofs.lemmas.Int.{ints}
use Rattle.std.proofs.lemmas.List.Elements.{All-head, All-tail, All-weaker}
use Rattle.int_laws.proofs.Ring.{neg_times, times_neg}
use Rattle.int_laws.proofs.Signs.{positive_product, none_times}
use Rattle.int_laws.proofs.Tests.{less_tested, at_most_tested, not_less, not_at_most}
use Rattle.plane_spec.specs.declared.Point.{Point}
use Rattle.plane_spec.specs.declared.PlanBox.{PlanBox}
use Rattle.plane_spec.specs.Vectors.{point, orient_of}
use Rattle.plane_spec.specs.Polygons.{edges_of, edges_to, edges_touch, borders_touch, is_on_border, passes_right, is_inside}
use Rattle.plan_spec.specs.Accepted.{lies_within}
use Rattle.box_laws.specs.Boxes.{IsIn, OfEnds}
use Rattle.box_laws.proofs.Parts.{edges_held}
use Rattle.rectangle_laws.specs.Rectangles.{rectangle, IsStrictlyBetween, are_boxes_apart}
use Rattle.rectangle_laws.proofs.Apart.{no_touch, none_of}
use Rattle.rectangle_laws.proofs.Simple.{off_upright, off_level, level_held, upright_held}

-- ---- one point

apart_above : (z w : ℤ) → w <ℤ z → z ≢ w
apart_above z w h e = omega (arith, ints)

apart_below : (z w : ℤ) → z <ℤ w → z ≢ w
apart_below z w h e = omega (arith, ints)

not_on_border : (p q x : Point) → IsStrictlyBetween p q x → is_on_border x (rectangle p q) ≡ false
unfolding edges_to
not_on_border p q x h =
    rw (
      off_level x.x x.y p.y p.x q.x (apart_above x.y p.y h.below),
      off_upright x.x x.y q.x p.y q.y (apart_below x.x q.x h.right),
      off_level x.x x.y q.y q.x p.x (apart_below x.y q.y h.above),
      off_upright x.x x.y p.x q.y p.y (apart_above x.x p.x h.left),
    ) refl

-- it is left of the right side, which is directed upwards
left_of_right_side : (x y z low high : ℤ) → x <ℤ z → low <ℤ high
    → pos 0 <ℤ orient_of (point z low) (point z high) (point x y)
left_of_right_side x y z low high right longer =
    let up = positive_product (high -ℤ low) (z -ℤ x) (omega (arith, ints)) (omega (arith, ints)) in
    let e = none_times (z -ℤ z) (y -ℤ low) (omega (arith, ints)) in
    let f : (high -ℤ low) *ℤ (x -ℤ z) ≡ neg_ℤ ((high -ℤ low) *ℤ (z -ℤ x)) =
    ap (λ t. (high -ℤ low) *ℤ t) (turned x z) ∙ times_neg (high -ℤ low) (z -ℤ x) in
    omega (arith, ints, up, e, f)
  where
    turned : (x z : ℤ) → x -ℤ z ≡ neg_ℤ (z -ℤ x)
    turned x z = omega (arith, ints)

-- and left of the left side, which is directed downwards
left_of_left_side : (x y z low high : ℤ) → z <ℤ x → low <ℤ high
    → pos 0 ≤ℤ orient_of (point z high) (point z low) (point x y)
left_of_left_side x y z low high left longer =
    let up = positive_product (high -ℤ low) (x -ℤ z) (omega (arith, ints)) (omega (arith, ints)) in
    let e = none_times (z -ℤ z) (y -ℤ high) (omega (arith, ints)) in
    let f : (low -ℤ high) *ℤ (x -ℤ z) ≡ neg_ℤ ((high -ℤ low) *ℤ (x -ℤ z)) =
    ap (λ t. t *ℤ (x -ℤ z)) (turned low high) ∙ neg_times (high -ℤ low) (x -ℤ z) in
    omega (arith, ints, up, e, f)
  where
    turned : (low high : ℤ) → low -ℤ high ≡ neg_ℤ (high -ℤ low)
    turned low high = omega (arith, ints)

-- the bottom and the top don't pass it on the right
level_passes : (x y a b z : ℤ) → passes_right (point x y) (record { a = point a z; b = point b z }) ≡ false
unfolding passes_right
level_passes x y a b z = level (int_lt (pos 0) (orient_of (point a z) (point b z) (point x y)))
    (int_lt (orient_of (point a z) (point b z) (point x y)) (pos 0))
  where
    level : (s t : Bool) → (if int_le z y then (int_lt y z && s) else (int_le z y && t)) ≡ false
    level s t = grind (arith, ints)

right_passes : (x y z low high : ℤ) → x <ℤ z → low <ℤ y → y <ℤ high
    → passes_right (point x y) (record { a = point z low; b = point z high }) ≡ true
unfolding passes_right
right_passes x y z low high right below above =
    rw (
      at_most_tested low y (omega (arith, ints)),
      less_tested y high above,
      less_tested (pos 0) (orient_of (point z low) (point z high) (point x y))
          (left_of_right_side x y z low high right (omega (arith, ints))),
    ) refl

left_passes : (x y z low high : ℤ) → z <ℤ x → low <ℤ y → y <ℤ high
    → passes_right (point x y) (record { a = point z high; b = point z low }) ≡ false
unfolding passes_right
left_passes x y z low high left below above =
    rw (
      not_at_most y high above,
      at_most_tested low y (omega (arith, ints)),
      not_less (orient_of (point z high) (point z low) (point x y)) (pos 0)
          (left_of_left_side x y z low high left (omega (arith, ints))),
    ) refl

inside_rectangle : (p q x : Point) → IsStrictlyBetween p q x → is_inside x (rectangle p q) ≡ true
unfolding is_inside edges_to
inside_rectangle p q x h =
    rw (
      not_on_border p q x h,
      level_passes x.x x.y p.x q.x p.y,
      right_passes x.x x.y q.x p.y q.y h.right h.below h.above,
      level_passes x.x x.y q.x p.x q.y,
      left_passes x.x x.y p.x p.y q.y h.left h.below h.above,
    ) refl

-- ---- the polygon

-- the box of the points strictly between p and q
inner : Point → Point → PlanBox
inner p q = record { low = point (p.x +ℤ pos 1) (p.y +ℤ pos 1); high = point (q.x -ℤ pos 1) (q.y -ℤ pos 1) }

in_inner : (p q x : Point) → IsStrictlyBetween p q x → IsIn (inner p q) x
unfolding inner
in_inner p q x h =
    let l = h.left in
    let r = h.right in
    let b = h.below in
    let a = h.above in
    record {
      left = omega (arith, ints);
      right = omega (arith, ints);
      below = omega (arith, ints);
      above = omega
          (arith, ints);
    }

each_inside : (p q : Point) (points : List Point) → All (IsStrictlyBetween p q) points
    → list_all (λ x. is_inside x (rectangle p q)) points ≡ true
each_inside p q [] all = refl
each_inside p q (x ∷ points) all =
    rw (
      inside_rectangle p q x (All-head (IsStrictlyBetween p q) x points all),
      each_inside p q points (All-tail (IsStrictlyBetween p q) x points all),
    ) refl

-- no edge between points of a box touches a segment in a box that is apart from it
side_apart : (a b : Point) (area other : PlanBox) (points : List Point) → IsIn area a → IsIn area b
    → are_boxes_apart area other ≡ true → All (IsIn other) points
    → list_any (edges_touch (record { a = a; b = b })) (edges_of points) ≡ false
side_apart a b area other points a_in b_in apart all =
    none_of (OfEnds (IsIn other)) (edges_touch (record { a = a; b = b }))
    (λ f h. no_touch a b f.a f.b area other a_in b_in h.a h.b apart)
    (edges_of points) (edges_held (IsIn other) points all)

ends_below : (area other : PlanBox) (z : ℤ) → area.high.y ≡ z → z <ℤ other.low.y → are_boxes_apart area other ≡ true
ends_below area other z e less = grind (arith, ints)

begins_above : (area other : PlanBox) (z : ℤ) → area.low.y ≡ z → other.high.y <ℤ z → are_boxes_apart area other ≡ true
begins_above area other z e less = grind (arith, ints)

ends_left : (area other : PlanBox) (z : ℤ) → area.high.x ≡ z → z <ℤ other.low.x → are_boxes_apart area other ≡ true
ends_left area other z e less = grind (arith, ints)

begins_right : (area other : PlanBox) (z : ℤ) → area.low.x ≡ z → other.high.x <ℤ z → are_boxes_apart area other ≡ true
begins_right area other z e less = grind (arith, ints)

-- the four sides are apart from the box of the points strictly between
no_side_touches : (p q : Point) (points : List Point) → All (IsIn (inner p q)) points
    → borders_touch (rectangle p q) points ≡ false
unfolding edges_to inner
no_side_touches p q points all =
    let bottom = level_held p.x q.x p.y in
    let right = upright_held q.x p.y q.y in
    let top = level_held q.x p.x q.y in
    let left = upright_held p.x q.y p.y in
    rw (
      side_apart _ _ bottom.0.area (inner p q) points bottom.0.p_in bottom.0.q_in
          (ends_below bottom.0.area (inner p q) p.y bottom.1.1 (omega (arith, ints))) all,
      side_apart _ _ right.0.area (inner p q) points right.0.p_in right.0.q_in
          (begins_right right.0.area (inner p q) q.x right.1.0 (omega (arith, ints))) all,
      side_apart _ _ top.0.area (inner p q) points top.0.p_in top.0.q_in
          (begins_above top.0.area (inner p q) q.y top.1.0 (omega (arith, ints))) all,
      side_apart _ _ left.0.area (inner p q) points left.0.p_in left.0.q_in
          (ends_left left.0.area (inner p q) p.x left.1.1 (omega (arith, ints))) all,
    ) refl

pub strictly_within : (p q : Point) (points : List Point) → All (IsStrictlyBetween p q) points
    → lies_within (rectangle p q) points ≡ true
unfolding lies_within
strictly_within p q points all =
    rw (
      each_inside p q points all,
      no_side_touches p q points (All-weaker (IsStrictlyBetween p q) (IsIn (inner p q)) (in_inner p q) points all),
    ) refl
