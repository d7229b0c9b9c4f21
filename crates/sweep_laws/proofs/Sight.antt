-- Sight of a point, by the first of its direction, the nearest corners, and what the station stands on.
--
-- A segment is blocked where it crosses a wall or screen, where it begins or ends on a wall and leads to its left
-- there, or where a corner is in the way. What is crossed is spanned and has the point behind it; then the first has
-- it behind too, since a hit before another's is before the point (`crossed_by_front`). A wall on which the point lies
-- hides it where it has the station on its left; if it isn't the first, the first has the point behind it anyhow
-- (`hidden_by_front`). A corner that stops the segment is at the station, or strictly between, or on the way back up
-- to the point; of those of one direction the nearest stops it if any does (`before_by_nearest`, `up_to_by_nearest`).
-- What remains begins at the station. The three groups, put together in another order, are the law.
use Rattle.std.proofs.Common.{◌≡◌, ℤ, ℕ, ◌-ℤ◌, ◌*ℤ◌, ◌∙◌, List, pos, arith, ap}
use Rattle.std.proofs.lemmas.Int.{ints}
use Rattle.std.specs.List.{list_any}
use Rattle.std.specs.Prelude.{Bool, false, ◌&&◌, ◌||◌, Option, Some, None, not, int_lt}
use Rattle.plane_spec.specs.Segments.{is_on_segment}
use Rattle.plane_spec.specs.Vectors.{vector, same_point, turns_left, is_left_of_line}
use Rattle.plane_spec.specs.declared.Corner.{Corner}
use Rattle.plane_spec.specs.declared.Point.{Point}
use Rattle.plane_spec.specs.declared.Segment.{Segment}
use Rattle.sight_spec.specs.Scene.{Scene, blockers_of_scene}
use Rattle.sight_spec.specs.Sight.{crosses, starts_into_wall, is_in_interior, corner_blocks, is_blocked, are_in_sight}
use Rattle.int_laws.proofs.Ring.{times_minus}
use Rattle.list_laws.proofs.Tests.{list_any_or, list_any_agree}
use Rattle.apart_laws.proofs.Between.{line_of_segment}
use Rattle.front_laws.proofs.Tests.{both_of, guarded}
use Rattle.front_laws.specs.Seen.{Seen}
use Rattle.sweep_laws.proofs.Ahead.{is_before_end, before_by_nearest, none_before, is_up_to_end, up_to_by_nearest}
use Rattle.sweep_laws.proofs.Ahead.{none_up_to, corners_where}
use Rattle.sweep_laws.proofs.Facing.{hidden_by_front, hidden_by_none}
use Rattle.sweep_laws.specs.First.{IsFirst}
use Rattle.sweep_laws.specs.Groups.{is_ahead, is_behind, is_own}
use Rattle.sweep_laws.specs.Parts.{is_hidden, IsNearestOrNone, is_nearer, is_up_to, leaves_left, begins_blocked}
use Rattle.sweep_laws.specs.Parts.{first_hides}
use Rattle.sweep_laws.specs.First.{seen_first}

hidden_is : (scene : Scene) (p q : Point) (first : Option (ℕ × Seen)) → IsFirst scene p (vector p q) first
    → (list_any (crosses p q) (blockers_of_scene scene) || list_any (λ w. starts_into_wall q p w) scene.walls)
    ≡ is_hidden (first_hides scene p first) (vector p q) (seen_first first)
hidden_is scene p q None h = hidden_by_none p q scene.walls scene.screens h
hidden_is scene p q (Some first) h = hidden_by_front p q scene.walls scene.screens first.0 first.1 h

nearer_is : (p d : Point) (corners : List Corner) (v : Option Point) → IsNearestOrNone p d (is_ahead p d) corners v
    → list_any (is_before_end p d) corners ≡ is_nearer d v
nearer_is p d corners None h = none_before p d corners h
nearer_is p d corners (Some v) h = before_by_nearest p d v corners h

up_to_is : (p d : Point) (corners : List Corner) (v : Option Point) → IsNearestOrNone p d (is_behind p d) corners v
    → list_any (is_up_to_end p d) corners ≡ is_up_to d v
up_to_is p d corners None h = none_up_to p d corners h
up_to_is p d corners (Some v) h = up_to_by_nearest p d v corners h

-- from a point of the line, the direction decides what is left of it
from_line : (x y px py qx qy ax ay : ℤ) → x *ℤ (py -ℤ ay) -ℤ y *ℤ (px -ℤ ax) ≡ pos 0
    → x *ℤ (qy -ℤ ay) -ℤ y *ℤ (qx -ℤ ax) ≡ x *ℤ (qy -ℤ py) -ℤ y *ℤ (qx -ℤ px)
from_line x y px py qx qy ax ay h =
    let a = times_minus x py ay in let b = times_minus y px ax in
    let c = times_minus x qy ay in let e = times_minus y qx ax in
    let f = times_minus x qy py in let g = times_minus y qx px in
    omega (arith, ints, a, b, c, e, f, g, h)

left_is : (p q : Point) (w : Segment) → starts_into_wall p q w ≡ leaves_left p (vector p q) w
unfolding starts_into_wall
left_is p q w =
    guarded (is_in_interior p w) (is_left_of_line w.a w.b q) (turns_left (vector w.a w.b) (vector p q))
    (λ on. ap (int_lt (pos 0)) (from_line (w.b.x -ℤ w.a.x) (w.b.y -ℤ w.a.y) p.x p.y q.x q.y w.a.x w.a.y
    (line_of_segment p w.a w.b (both_of (is_on_segment p w.a w.b)
    (not (same_point p w.a) && not (same_point p w.b)) on).0)))

reorder : (c l f o b u : Bool) → (c || ((l || f) || ((o || b) || u))) ≡ ((l || o) || ((c || f) || (b || u)))
reorder c l f o b u = grind arith

-- what blocks the segment: at its start, the first blocker, a corner before its end, a corner on the way back
pub blocked_is : (scene : Scene) (p q : Point) (first : Option (ℕ × Seen)) (ahead behind : Option Point)
    → same_point p q ≡ false
    → IsFirst scene p (vector p q) first
    → IsNearestOrNone p (vector p q) (is_ahead p (vector p q)) scene.corners ahead
    → IsNearestOrNone p (vector p q) (is_behind p (vector p q)) scene.corners behind
    → is_blocked scene p q ≡ (begins_blocked scene p (vector p q)
    || (is_hidden (first_hides scene p first) (vector p q) (seen_first first)
    || (is_nearer (vector p q) ahead || is_up_to (vector p q) behind)))
unfolding is_blocked
blocked_is scene p q first ahead behind differ front near back =
    let d = vector p q in
    let c = list_any (crosses p q) (blockers_of_scene scene) in
    let l = list_any (leaves_left p d) scene.walls in
    let f = list_any (λ w. starts_into_wall q p w) scene.walls in
    let o = list_any (is_own p d) scene.corners in
    let b = list_any (is_before_end p d) scene.corners in
    let u = list_any (is_up_to_end p d) scene.corners in
    ap (λ t. c || (t || list_any (corner_blocks p q) scene.corners))
    (list_any_or (starts_into_wall p q) (λ w. starts_into_wall q p w) scene.walls
    ∙ ap (λ t. t || f) (list_any_agree (starts_into_wall p q) (leaves_left p d) (λ w. left_is p q w) scene.walls))
    ∙ ap (λ t. c || ((l || f) || t)) (corners_where p q scene.corners differ)
    ∙ reorder c l f o b u
    ∙ ap (λ t. (l || o) || (t || (b || u))) (hidden_is scene p q first front)
    ∙ ap (λ t. (l || o) || (is_hidden (first_hides scene p first) d (seen_first first) || (t || u)))
    (nearer_is p d scene.corners ahead near)
    ∙ ap (λ t. (l || o) || (is_hidden (first_hides scene p first) d (seen_first first) || (is_nearer d ahead || t)))
    (up_to_is p d scene.corners behind back)

-- the answer to a point
pub sight_is : (scene : Scene) (p q : Point) (first : Option (ℕ × Seen)) (ahead behind : Option Point) → same_point p q
    ≡ false
    → IsFirst scene p (vector p q) first
    → IsNearestOrNone p (vector p q) (is_ahead p (vector p q)) scene.corners ahead
    → IsNearestOrNone p (vector p q) (is_behind p (vector p q)) scene.corners behind
    → are_in_sight scene p q ≡ not (begins_blocked scene p (vector p q)
    || (is_hidden (first_hides scene p first) (vector p q) (seen_first first)
    || (is_nearer (vector p q) ahead || is_up_to (vector p q) behind)))
unfolding are_in_sight
sight_is scene p q first ahead behind differ front near back =
    ap (λ t. not t && not (is_blocked scene p q)) differ
    ∙ ap not (blocked_is scene p q first ahead behind differ front near back)
