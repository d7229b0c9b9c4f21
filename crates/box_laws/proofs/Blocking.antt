-- A segment that a wall, a screen or a corner in a box blocks meets the box.
use Rattle.std.proofs.Common.{◌≡◌, ◌∙◌, Bool, true, false, not, ◌&&◌, ◌||◌, ℤ, pos, ◌-ℤ◌, ◌*ℤ◌, ◌≤ℤ◌, Option, Some}
use Rattle.std.proofs.Common.{None, arith, refl, sym}
use Rattle.std.specs.Ordering.{int_eq}
use Rattle.std.proofs.lemmas.Int.{ints}
use Rattle.std.proofs.lemmas.Bool.{and_parts}
use Rattle.int_laws.proofs.Ring.{times_zero, product_swapped}
use Rattle.plane_spec.specs.declared.Point.{Point}
use Rattle.plane_spec.specs.declared.PlanBox.{PlanBox}
use Rattle.plane_spec.specs.declared.Segment.{Segment}
use Rattle.plane_spec.specs.declared.Corner.{Corner}
use Rattle.plane_spec.specs.Vectors.{vector, same_point, is_left_of_line}
use Rattle.plane_spec.specs.Segments.{is_between, is_on_segment}
use Rattle.plane_spec.specs.Polygons.{is_on_edge}
use Rattle.plane_spec.specs.Cones.{is_in_cone}
use Rattle.plane_spec.specs.Boxes.{does_meet_box}
use Rattle.sight_spec.specs.Dirty.{meets_if_there}
use Rattle.sight_spec.specs.Sight.{crosses, is_in_interior, starts_into_wall, starts_or_ends_in_wall, corner_stops, corner_blocks}
use Rattle.box_laws.specs.Boxes.{IsIn, IsHeld, OfEnds}
use Rattle.box_laws.proofs.Held.{meeting_turned}
use Rattle.box_laws.proofs.Touching.{on_parts, touching_meets}
use Rattle.box_laws.proofs.Crossing.{crossing_meets}

-- ---- ends in the box

-- a number less itself is 0
nothing : (z : ℤ) → z -ℤ z ≡ pos 0
nothing z = omega (arith, ints)

-- the first end of a segment lies on it
first_end : (p q : Point) → is_on_segment p p q ≡ true
unfolding is_on_segment
first_end p q =
    rw (nothing p.x, nothing p.y, times_zero (q.x -ℤ p.x), times_zero (q.y -ℤ p.y)) (extents p.x q.x p.y q.y)
  where
    extents : (a b c d : ℤ) → (int_eq (pos 0) (pos 0) && (is_between a a b && is_between c c d)) ≡ true
    extents a b c d = grind (arith, ints)

-- and so does the second
second_end : (p q : Point) → is_on_segment q p q ≡ true
unfolding is_on_segment
second_end p q =
    rw (product_swapped (q.x -ℤ p.x) (q.y -ℤ p.y), nothing ((q.y -ℤ p.y) *ℤ (q.x -ℤ p.x))) (extents p.x q.x p.y q.y)
  where
    extents : (a b c d : ℤ) → (int_eq (pos 0) (pos 0) && (is_between b a b && is_between d c d)) ≡ true
    extents a b c d = grind (arith, ints)

-- a segment that begins in a box meets it
pub first_meets : (p q : Point) (area : PlanBox) → IsIn area p → does_meet_box p q area ≡ true
first_meets p q area i = touching_meets p q p area i (first_end p q)

-- and so does one that ends there
pub second_meets : (p q : Point) (area : PlanBox) → IsIn area q → does_meet_box p q area ≡ true
second_meets p q area i = touching_meets p q q area i (second_end p q)

-- what is between two numbers is within what holds both
between_held : (m a b low high : ℤ) → is_between m a b ≡ true → low ≤ℤ a → low ≤ℤ b → a ≤ℤ high → b ≤ℤ high
    → (low ≤ℤ m) × (m ≤ℤ high)
between_held m a b low high h la lb ah bh = (grind (arith, ints), grind (arith, ints))

-- what lies on an edge in a box is in the box
pub on_edge_in : (x : Point) (w : Segment) (area : PlanBox) → IsIn area w.a → IsIn area w.b → is_on_edge x w ≡ true
    → IsIn area x
on_edge_in x w area i k h =
    on_parts x w.a w.b h
    (λ o across up.
    let xs = between_held x.x w.a.x w.b.x area.low.x area.high.x across i.left k.left i.right k.right in
    let ys = between_held x.y w.a.y w.b.y area.low.y area.high.y up i.below k.below i.above k.above in
    record { left = xs.0; right = xs.1; below = ys.0; above = ys.1 })

-- ---- what blocks

-- one of two tests is passed
pub or_cases : {P : Type 0} (a b : Bool) → (a || b) ≡ true → (a ≡ true → P) → (b ≡ true → P) → P
or_cases true b h f g = f refl
or_cases false b h f g = g h

-- a segment that leads into a wall from its middle begins on it
leaves_from_it : (p q : Point) (w : Segment) → starts_into_wall p q w ≡ true → is_on_edge p w ≡ true
unfolding starts_into_wall
leaves_from_it p q w h =
    (and_parts (is_on_edge p w) (not (same_point p w.a) && not (same_point p w.b))
    (and_parts (is_in_interior p w) (is_left_of_line w.a w.b q) h).0).0

-- a corner that stops a segment lies on it
stops_on_it : (p q : Point) (c : Corner) → corner_stops p q c ≡ true → is_on_segment c.here p q ≡ true
unfolding corner_stops
stops_on_it p q c h =
    (and_parts (is_on_segment c.here p q) (is_in_cone c (vector c.here q))
    (and_parts (not (same_point c.here q)) (is_on_segment c.here p q && is_in_cone c (vector c.here q)) h).1).0

-- a wall or screen that is crossed
pub crossed_meets : (p q : Point) (w : Segment) (area : Option PlanBox) → OfEnds (IsHeld area) w
    → crosses p q w ≡ true → meets_if_there p q area ≡ true
crossed_meets p q w None i h = absurd i.a
crossed_meets p q w (Some area) i h = crossing_meets p q w.a w.b area i.a i.b h

-- a wall that is entered from its middle
pub entered_meets : (p q : Point) (w : Segment) (area : Option PlanBox) → OfEnds (IsHeld area) w
    → starts_or_ends_in_wall p q w ≡ true → meets_if_there p q area ≡ true
entered_meets p q w None i h = absurd i.a
entered_meets p q w (Some area) i h =
    or_cases (starts_into_wall p q w) (starts_into_wall q p w) h
    (λ m. first_meets p q area (on_edge_in p w area i.a i.b (leaves_from_it p q w m)))
    (λ m. second_meets p q area (on_edge_in q w area i.a i.b (leaves_from_it q p w m)))

-- a corner that is in the way
pub corner_meets : (p q : Point) (c : Corner) (area : Option PlanBox) → IsHeld area c.here
    → corner_blocks p q c ≡ true → meets_if_there p q area ≡ true
corner_meets p q c None i h = absurd i
corner_meets p q c (Some area) i h =
    or_cases (corner_stops p q c) (corner_stops q p c) h
    (λ m. touching_meets p q c.here area i (stops_on_it p q c m))
    (λ m. sym (meeting_turned p q area) ∙ touching_meets q p c.here area i (stops_on_it q p c m))
