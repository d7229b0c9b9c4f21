-- What stops a ray: no stop is behind it, and what stops it in a box lies there.
--
-- A ray is stopped by walls and screens that it meets between their ends, by corners that have it in their cones, and
-- at
-- its start by a wall from whose middle it leads to the left. Each gives a fraction t of at least 0 over a positive
-- denominator. Where both ends of the wall or screen, or the corner, lie in a box, p + t d lies in the box and the
-- ray's
-- line doesn't have the box strictly on one side.
use Rattle.std.proofs.Common.{◌≡◌, ◌∙◌, Bool, true, false, not, ◌&&◌, ℤ, pos, neg_ℤ, ◌+ℤ◌, ◌-ℤ◌, ◌*ℤ◌}
use Rattle.std.proofs.Common.{◌≤ℤ◌, ◌<ℤ◌, List, [], ◌∷◌, ◌++◌, All, Option, Some, None, arith, refl, sym}
use Rattle.std.proofs.Common.{ap, subst}
use Rattle.std.specs.Prelude.{int_lt, int_le, if◌then◌else◌}
use Rattle.std.specs.Ordering.{int_eq}
use Rattle.std.specs.List.{filter_map, cons_option}
use Rattle.std.proofs.lemmas.Int.{ints}
use Rattle.std.proofs.lemmas.Bool.{and_parts}
use Rattle.std.proofs.lemmas.List.Elements.{All-nil, All-cons, All-append}
use Rattle.int_laws.proofs.Ring.{times_zero, product_swapped, orient_cycled}
use Rattle.int_laws.proofs.Tests.{tested_equal, tested_less, tested_at_most}
use Rattle.plane_spec.specs.declared.Point.{Point}
use Rattle.plane_spec.specs.declared.PlanBox.{PlanBox}
use Rattle.plane_spec.specs.declared.Segment.{Segment}
use Rattle.plane_spec.specs.declared.Corner.{Corner}
use Rattle.plane_spec.specs.Vectors.{vector, cross_of, dot_of, orient_of, same_point, turns_left}
use Rattle.plane_spec.specs.Cones.{is_in_cone}
use Rattle.plane_spec.specs.Polygons.{is_on_edge}
use Rattle.plane_spec.specs.Fractions.{Fraction, fraction, whole}
use Rattle.sight_spec.specs.Sight.{is_in_interior}
use Rattle.sight_spec.specs.Scene.{Scene, blockers_of_scene}
use Rattle.sight_spec.specs.Stops.{is_across, wall_parameter, blocker_hit, corner_hit, start_hit, hits_of}
use Rattle.box_laws.specs.Boxes.{IsIn, OfEnds}
use Rattle.box_laws.proofs.Touching.{order_stays, line_turned}
use Rattle.box_laws.proofs.Blocking.{or_cases, on_edge_in}
use Rattle.spot_laws.proofs.Spots.{spot_at, IsPositive, SpotIn, Cut, hit_in, along_line, reach_x, reach_y}
use Rattle.spot_laws.proofs.Spots.{cut_between, cut_at}
use Rattle.spot_laws.proofs.Factors.{not_negative}

-- a fraction over a positive denominator, not below 0
pub record IsHit (t : Fraction) : Type 0 where
  pub over : IsPositive t
  pub ahead : pos 0 ≤ℤ t.num

-- a hit that lies in the box, on a line from i to j and beyond that has not all of the box on one side
pub record Touch (i j : Point) (box : PlanBox) (t : Fraction) : Type 0 where
  pub place : SpotIn (spot_at j (vector i j) t) box
  pub cut : Cut i j box

-- what a test lets through has passed it
passed : (test : Bool) (f t : Fraction) → (if test then Some f else None) ≡ Some t → (test ≡ true) × (f ≡ t)
passed true f t e = (refl, cc)
passed false f t e = cc

-- ---- walls and screens

-- the fraction of two parts
abbrev parts : ℤ → ℤ → Fraction
parts num den = record { num = num; den = den }

-- a is right of the ray's line and b left of it
record Straddles (p d a b : Point) (t : Fraction) : Type 0 where
  right : cross_of d (vector p a) <ℤ pos 0
  left : pos 0 <ℤ cross_of d (vector p b)
  value : parts (orient_of a b p) (cross_of d (vector p b) -ℤ cross_of d (vector p a)) ≡ t
  ahead : pos 0 <ℤ t.num

-- over a positive denominator the parts stay
fraction_up : (num den : ℤ) → pos 0 <ℤ den → fraction num den ≡ parts num den
fraction_up num den h = by (int_lt (pos 0) den) (grind (arith, ints))
  where
    by : (t : Bool) → t ≡ true → (if t then parts num den else parts (neg_ℤ num) (neg_ℤ den)) ≡ parts num den
    by true e = refl
    by false e = cc

-- over a negative one both turn
fraction_down : (num den : ℤ) → den <ℤ pos 0 → fraction num den ≡ parts (neg_ℤ num) (neg_ℤ den)
fraction_down num den h = by (int_lt (pos 0) den) (grind (arith, ints))
  where
    by : (t : Bool) → t ≡ false → (if t then parts num den else parts (neg_ℤ num) (neg_ℤ den)) ≡ parts (neg_ℤ num)
        (neg_ℤ den)
    by true e = cc
    by false e = refl

-- the ends of a segment turn, seen from p, as p lies on its side
seen_orient : (a b p : Point) → cross_of (vector p a) (vector p b) ≡ orient_of a b p
seen_orient a b p = sym (orient_cycled p.x p.y a.x a.y b.x b.y)

-- a wall or screen that is met has its ends on both sides, one way or the other
line_parts : {P : Type 0} (p d : Point) (w : Segment) (t : Fraction) → blocker_hit p d w ≡ Some t
    → (Straddles p d w.a w.b t → P) → (Straddles p d w.b w.a t → P) → P
unfolding blocker_hit
line_parts p d w t e f g =
    let hit = passed (is_across p d w && int_lt (pos 0) (wall_parameter p d w).num) (wall_parameter p d w) t e in
    let tests = and_parts (is_across p d w) (int_lt (pos 0) (wall_parameter p d w).num) hit.0 in
    let u = cross_of d (vector p w.a) in
    let v = cross_of d (vector p w.b) in
    let more : pos 0 <ℤ t.num = subst (λ s. pos 0 <ℤ s.num) hit.1 (tested_less (pos 0) (wall_parameter p d w).num tests.1) in
    or_cases (int_lt u (pos 0) && int_lt (pos 0) v) (int_lt (pos 0) u && int_lt v (pos 0)) tests.0
    (λ k. let both = and_parts (int_lt u (pos 0)) (int_lt (pos 0) v) k in
    let low = tested_less u (pos 0) both.0 in
    let high = tested_less (pos 0) v both.1 in
    f (record {
      right = low;
      left = high;
      value =
          ap (λ o. parts o (v -ℤ u)) (sym (seen_orient w.a w.b p))
          ∙ sym (fraction_up (cross_of (vector p w.a) (vector p w.b)) (v -ℤ u) (omega (arith, ints)))
          ∙ hit.1;
      ahead = more;
    }))
    (λ k. let both = and_parts (int_lt (pos 0) u) (int_lt v (pos 0)) k in
    let high = tested_less (pos 0) u both.0 in
    let low = tested_less v (pos 0) both.1 in
    g (record {
      right = low;
      left = high;
      value = ap (λ o. parts o (u -ℤ v)) (line_turned w.a w.b p ∙ ap neg_ℤ (sym (seen_orient w.a w.b p)))
          ∙ ap (λ z. parts (neg_ℤ (cross_of (vector p w.a) (vector p w.b))) z) (turned u v)
          ∙ sym (fraction_down (cross_of (vector p w.a) (vector p w.b)) (v -ℤ u) (omega (arith, ints))) ∙ hit.1;
      ahead = more;
    }))
  where
    turned : (u v : ℤ) → u -ℤ v ≡ neg_ℤ (v -ℤ u)
    turned u v = omega (arith, ints)

-- it is met ahead
straddled_is_hit : (p d a b : Point) (t : Fraction) → Straddles p d a b t → IsHit t
straddled_is_hit p d a b t s = record {
  over = record {
    den = subst (λ f. pos 0 <ℤ f.den) s.value
        (apart (cross_of d (vector p a)) (cross_of d (vector p b)) s.right s.left);
  };
  ahead = not_negative t.num s.ahead;
}
  where
    apart : (u v : ℤ) → u <ℤ pos 0 → pos 0 <ℤ v → pos 0 <ℤ (v -ℤ u)
    apart u v h k = omega (arith, ints)

-- a wall or screen is met ahead
line_is_hit : (p d : Point) (w : Segment) (t : Fraction) → blocker_hit p d w ≡ Some t → IsHit t
line_is_hit p d w t e = line_parts p d w t e (straddled_is_hit p d w.a w.b t) (straddled_is_hit p d w.b w.a t)

-- where its ends are in the box it is met there
straddled_touches : (i j : Point) (box : PlanBox) (a b : Point) → IsIn box a → IsIn box b → (t : Fraction)
    → Straddles j (vector i j) a b t → Touch i j box t
straddled_touches i j box a b ia ib t s = record {
  place =
      subst (λ f. SpotIn (spot_at j (vector i j) f) box) s.value (hit_in j (vector i j) a b box ia ib s.right s.left);
  cut =
      cut_between i j a b box ia ib (subst (λ z. z <ℤ pos 0) (sym (along_line i j a)) s.right)
      (subst (λ z. pos 0 <ℤ z) (sym (along_line i j b)) s.left);
}

-- a wall or screen with its ends in the box is met there
pub line_touches : (i j : Point) (box : PlanBox) (w : Segment) → OfEnds (IsIn box) w → (t : Fraction)
    → blocker_hit j (vector i j) w ≡ Some t → Touch i j box t
line_touches i j box w held t e =
    line_parts j (vector i j) w t e (straddled_touches i j box w.a w.b held.a held.b t)
    (straddled_touches i j box w.b w.a held.b held.a t)

-- ---- corners

-- the corner lies on the ray's line, not behind
record Ahead (p d : Point) (c : Corner) (t : Fraction) : Type 0 where
  on : cross_of d (vector p c.here) ≡ pos 0
  ahead : pos 0 ≤ℤ dot_of d (vector p c.here)
  value : parts (dot_of d (vector p c.here)) (dot_of d d) ≡ t

-- a corner that is met lies ahead
corner_parts : (p d : Point) (c : Corner) (t : Fraction) → corner_hit p d c ≡ Some t → Ahead p d c t
unfolding corner_hit
corner_parts p d c t e =
    let v = vector p c.here in
    let hit = passed (int_eq (cross_of d v) (pos 0) && (int_le (pos 0) (dot_of d v) && is_in_cone c d))
    (record { num = dot_of d v; den = dot_of d d }) t e in
    let on = and_parts (int_eq (cross_of d v) (pos 0)) (int_le (pos 0) (dot_of d v) && is_in_cone c d) hit.0 in
    let before = and_parts (int_le (pos 0) (dot_of d v)) (is_in_cone c d) on.1 in
    record {
      on = tested_equal (cross_of d v) (pos 0) on.0;
      ahead = tested_at_most (pos 0) (dot_of d v) before.0;
      value = hit.1;
    }

-- its multiple is a hit
corner_is_hit : (p d : Point) → pos 0 <ℤ dot_of d d → (c : Corner) (t : Fraction) → corner_hit p d c ≡ Some t
    → IsHit t
corner_is_hit p d dd c t e =
    let h = corner_parts p d c t e in
    record {
      over = record { den = subst (λ f. pos 0 <ℤ f.den) h.value dd };
      ahead = subst (λ f. pos 0 ≤ℤ f.num) h.value h.ahead;
    }

-- a corner in the box is met there
pub corner_touches : (i j : Point) (box : PlanBox) → pos 0 <ℤ dot_of (vector i j) (vector i j) → (c : Corner)
    → IsIn box c.here → (t : Fraction)
    → corner_hit j (vector i j) c ≡ Some t → Touch i j box t
corner_touches i j box dd c ic t e =
    let d = vector i j in
    let h = corner_parts j d c t e in
    record {
      place = subst (λ f. SpotIn (spot_at j d f) box) h.value
          (record {
            left =
                moved_left _ _ _ (reach_x d.x d.y j.x j.y c.here.x c.here.y h.on)
                (times box.low.x c.here.x (dot_of d d) (not_negative _ dd) ic.left);
            right =
                moved_right _ _ _ (reach_x d.x d.y j.x j.y c.here.x c.here.y h.on)
                (times c.here.x box.high.x (dot_of d d) (not_negative _ dd) ic.right);
            below =
                moved_left _ _ _ (reach_y d.x d.y j.x j.y c.here.x c.here.y h.on)
                (times box.low.y c.here.y (dot_of d d) (not_negative _ dd) ic.below);
            above =
                moved_right _ _ _ (reach_y d.x d.y j.x j.y c.here.x c.here.y h.on)
                (times c.here.y box.high.y (dot_of d d) (not_negative _ dd) ic.above);
          });
      cut = cut_at i j c.here box ic (along_line i j c.here ∙ h.on);
    }
  where
    times : (s t m : ℤ) → pos 0 ≤ℤ m → s ≤ℤ t → (s *ℤ m) ≤ℤ (t *ℤ m)
    times s t m h k = rw (product_swapped s m, product_swapped t m) (order_stays m s t h k)

    moved_left : (m y e : ℤ) → e ≡ y → m ≤ℤ y → m ≤ℤ e
    moved_left m y e h k = omega (arith, ints)

    moved_right : (m y e : ℤ) → e ≡ y → y ≤ℤ m → e ≤ℤ m
    moved_right m y e h k = omega (arith, ints)

-- ---- walls at the start

-- the ray starts on the wall
record Starts (p : Point) (w : Segment) (t : Fraction) : Type 0 where
  on : is_on_edge p w ≡ true
  value : whole (pos 0) ≡ t

-- a wall that stops a ray at its start has the start on it
start_parts : (p d : Point) (w : Segment) (t : Fraction) → start_hit p d w ≡ Some t → Starts p w t
unfolding start_hit
start_parts p d w t e =
    let hit = passed (is_in_interior p w && turns_left (vector w.a w.b) d) (whole (pos 0)) t e in
    let middle = (and_parts (is_in_interior p w) (turns_left (vector w.a w.b) d) hit.0).0 in
    record {
      on = (and_parts (is_on_edge p w) (not (same_point p w.a) && not (same_point p w.b)) middle).0;
      value = hit.1;
    }

-- 0 is a hit
zero_is_hit : IsHit (whole (pos 0))
zero_is_hit = record { over = record { den = omega (arith, ints) }; ahead = omega (arith, ints) }

-- so a ray is stopped at its start by a hit
start_is_hit : (p d : Point) (w : Segment) (t : Fraction) → start_hit p d w ≡ Some t → IsHit t
start_is_hit p d w t e = subst IsHit (start_parts p d w t e).value zero_is_hit

-- a wall with its ends in the box stops it there
pub start_touches : (i j : Point) (box : PlanBox) (w : Segment) → OfEnds (IsIn box) w → (t : Fraction)
    → start_hit j (vector i j) w ≡ Some t → Touch i j box t
start_touches i j box w held t e =
    let h = start_parts j (vector i j) w t e in
    let here = on_edge_in j w box held.a held.b h.on in
    let d = vector i j in
    record {
      place = subst (λ f. SpotIn (spot_at j d f) box) h.value
          (record {
            left = moved_left box.low.x j.x d.x here.left;
            right = moved_right box.high.x j.x d.x here.right;
            below = moved_left box.low.y j.y d.y here.below;
            above = moved_right box.high.y j.y d.y here.above;
          });
      cut = cut_at i j j box here (along_line i j j ∙ at_self d.x d.y j.x j.y);
    }
  where
    still : (x dx : ℤ) → x *ℤ pos 1 +ℤ pos 0 *ℤ dx ≡ x
    still x dx = omega (arith, ints)

    once : (x : ℤ) → x *ℤ pos 1 ≡ x
    once x = omega (arith, ints)

    moved_left : (m x dx : ℤ) → m ≤ℤ x → (m *ℤ pos 1) ≤ℤ (x *ℤ pos 1 +ℤ pos 0 *ℤ dx)
    moved_left m x dx h = rw (still x dx, once m) h

    moved_right : (m x dx : ℤ) → x ≤ℤ m → (x *ℤ pos 1 +ℤ pos 0 *ℤ dx) ≤ℤ (m *ℤ pos 1)
    moved_right m x dx h = rw (still x dx, once m) h

    minus_self : (z : ℤ) → z -ℤ z ≡ pos 0
    minus_self z = omega (arith, ints)

    at_self : (dx dy x y : ℤ) → dx *ℤ (y -ℤ y) -ℤ dy *ℤ (x -ℤ x) ≡ pos 0
    at_self dx dy x y = rw (minus_self x, minus_self y, times_zero dx, times_zero dy) refl

-- ---- all hits

-- what holds of all that a function gives holds of all given
each_given : {X Y : Type 0} (P : Y → Type 0) (f : X → Option Y) → ((x : X) (y : Y) → f x ≡ Some y → P y)
    → (xs : List X) → All P (filter_map f xs)
each_given P f gives [] = All-nil P
each_given {Y = Y} P f gives (x ∷ xs) = by (f x) (gives x) (each_given P f gives xs)
  where
    by : (o : Option Y) → ((y : Y) → o ≡ Some y → P y) → All P (filter_map f xs)
        → All P (cons_option o (filter_map f xs))
    by None h all = all
    by (Some y) h all = All-cons P y (filter_map f xs) (h y refl) all

-- all that stops a ray is a hit
pub all_hits : (scene : Scene) (p d : Point) → pos 0 <ℤ dot_of d d → All IsHit (hits_of scene p d)
all_hits scene p d dd =
    All-append IsHit (filter_map (blocker_hit p d) (blockers_of_scene scene))
    (filter_map (corner_hit p d) scene.corners ++ filter_map (start_hit p d) scene.walls)
    (each_given IsHit (blocker_hit p d) (line_is_hit p d) (blockers_of_scene scene))
    (All-append IsHit (filter_map (corner_hit p d) scene.corners) (filter_map (start_hit p d) scene.walls)
    (each_given IsHit (corner_hit p d) (corner_is_hit p d dd) scene.corners)
    (each_given IsHit (start_hit p d) (start_is_hit p d) scene.walls))
