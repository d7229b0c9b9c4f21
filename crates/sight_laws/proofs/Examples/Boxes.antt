-- Convex polygons on small figures: what is strictly inside, and what is inside; a repeated point is a wall that
-- nothing is left of, and a notch shows that the polygon must be convex.
use Rattle.std.specs.Prelude.{◌≡◌, refl, List, [], ◌∷◌, ℤ, pos, true, false}
use Rattle.std.proofs.Common.{arith}
use Rattle.plane_spec.specs.declared.Point.{Point}
use Rattle.plane_spec.specs.Vectors.{point}
use Rattle.plane_spec.specs.Polygons.{edges_to, is_counterclockwise, is_inside, passes_right}
use Rattle.sight_spec.specs.Scene.{oriented_walls}
use Rattle.sight_laws.specs.Convex.{is_convex, is_strictly_inside, PassesThrough}
use Rattle.plane_spec.specs.Segments.{is_on_segment}

abbrev at : ℤ → ℤ → Point
at x y = point x y

-- the box from (0,0) to (3,3), counterclockwise
abbrev box : List Point
box = at (pos 0) (pos 0) ∷ at (pos 3) (pos 0) ∷ at (pos 3) (pos 3) ∷ at (pos 0) (pos 3) ∷ []

-- the same box, clockwise
abbrev clockwise_box : List Point
clockwise_box = at (pos 0) (pos 0) ∷ at (pos 0) (pos 3) ∷ at (pos 3) (pos 3) ∷ at (pos 3) (pos 0) ∷ []

-- the same box with a point more on its lower side
abbrev box_with_a_straight_corner : List Point
box_with_a_straight_corner =
    at (pos 0) (pos 0) ∷ at (pos 1) (pos 0) ∷ at (pos 3) (pos 0) ∷ at (pos 3) (pos 3) ∷ at (pos 0) (pos 3) ∷ []

-- the same box with its upper side pushed in
abbrev notched_box : List Point
notched_box =
    at (pos 0) (pos 0) ∷ at (pos 3) (pos 0) ∷ at (pos 3) (pos 3) ∷ at (pos 1) (pos 2) ∷ at (pos 0) (pos 3) ∷ []

-- ---- convex

a_box_is_convex : is_convex box ≡ true
unfolding oriented_walls is_counterclockwise edges_to
a_box_is_convex = refl

a_box_is_convex_either_way_round : is_convex clockwise_box ≡ true
unfolding oriented_walls is_counterclockwise edges_to
a_box_is_convex_either_way_round = refl

straight_corners_are_convex : is_convex box_with_a_straight_corner ≡ true
unfolding oriented_walls is_counterclockwise edges_to
straight_corners_are_convex = refl

a_notched_box_is_not_convex : is_convex notched_box ≡ false
unfolding oriented_walls is_counterclockwise edges_to
a_notched_box_is_not_convex = refl

-- ---- inside

off_the_border_is_inside : is_strictly_inside (at (pos 1) (pos 2)) clockwise_box ≡ true
unfolding oriented_walls is_counterclockwise edges_to
off_the_border_is_inside = refl

the_border_is_not_inside : is_strictly_inside (at (pos 3) (pos 2)) box ≡ false
unfolding oriented_walls is_counterclockwise edges_to
the_border_is_not_inside = refl

-- ---- passing through

a_diagonal_passes_through : PassesThrough box (at (pos 0) (pos 0)) (at (pos 3) (pos 3))
unfolding oriented_walls is_counterclockwise edges_to
a_diagonal_passes_through = (1, 2, omega arith, omega arith, refl)

past_a_cut_corner_without_a_whole_point_inside : PassesThrough box (at (pos 2) (pos 0)) (at (pos 3) (pos 1))
unfolding oriented_walls is_counterclockwise edges_to
past_a_cut_corner_without_a_whole_point_inside = (1, 2, omega arith, omega arith, refl)

-- the box from (0,0) to (3,3), with its first point twice
abbrev box_with_a_repeat : List Point
box_with_a_repeat =
    at (pos 0) (pos 0) ∷ at (pos 0) (pos 0) ∷ at (pos 3) (pos 0) ∷ at (pos 3) (pos 3) ∷ at (pos 0) (pos 3) ∷ []

-- a repeated point leaves the box convex, and what is inside it isn't left of the wall between the two
a_repeat_is_convex : is_convex box_with_a_repeat ≡ true
unfolding oriented_walls is_counterclockwise edges_to
a_repeat_is_convex = refl

inside_past_a_repeat : is_inside (at (pos 1) (pos 1)) box_with_a_repeat ≡ true
unfolding is_inside edges_to is_on_segment passes_right
inside_past_a_repeat = refl

nothing_is_left_of_a_repeat : is_strictly_inside (at (pos 1) (pos 1)) box_with_a_repeat ≡ false
unfolding oriented_walls is_counterclockwise edges_to
nothing_is_left_of_a_repeat = refl

-- in a notched box a point that is inside can be right of a wall
inside_a_notched_box : is_inside (at (pos 2) (pos 2)) notched_box ≡ true
unfolding is_inside edges_to is_on_segment passes_right
inside_a_notched_box = refl

right_of_the_notch : is_strictly_inside (at (pos 2) (pos 2)) notched_box ≡ false
unfolding oriented_walls is_counterclockwise edges_to
right_of_the_notch = refl
