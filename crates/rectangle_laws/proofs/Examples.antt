-- Worked examples: boxes by hand.
use Rattle.std.proofs.Common.{◌≡◌, refl, pos, true, false, [], ◌∷◌}
use Rattle.plane_spec.specs.Vectors.{point}
use Rattle.plane_spec.specs.Segments.{cross_properly, is_on_segment, do_touch}
use Rattle.plane_spec.specs.Polygons.{edges_to, is_simple, passes_right, is_inside}
use Rattle.plan_spec.specs.Accepted.{lies_within, polygons_meet}
use Rattle.rectangle_laws.specs.Rectangles.{rectangle, are_boxes_apart}

-- from (0,0) to (4,2)
corners : rectangle (point (pos 0) (pos 0)) (point (pos 4) (pos 2))
    ≡ point (pos 0) (pos 0) ∷ point (pos 4) (pos 0) ∷ point (pos 4) (pos 2) ∷ point (pos 0) (pos 2) ∷ []
corners = refl

-- a box of no width is none
flat : is_simple (rectangle (point (pos 3) (pos 0)) (point (pos 3) (pos 2))) ≡ false
unfolding edges_to
flat = refl

-- boxes side by side with a column between them are apart, and those with a common side aren't
beside : are_boxes_apart (record { low = point (pos 0) (pos 0); high = point (pos 1) (pos 5) })
    (record { low = point (pos 2) (pos 0); high = point (pos 3) (pos 5) }) ≡ true
beside = refl

common_side : are_boxes_apart (record { low = point (pos 0) (pos 0); high = point (pos 2) (pos 5) })
    (record { low = point (pos 2) (pos 0); high = point (pos 3) (pos 5) }) ≡ false
common_side = refl

-- and their polygons meet
common_side_meets : polygons_meet (rectangle (point (pos 0) (pos 0)) (point (pos 2) (pos 5)))
    (rectangle (point (pos 2) (pos 0)) (point (pos 3) (pos 5))) ≡ true
unfolding polygons_meet edges_to do_touch cross_properly is_on_segment
common_side_meets = refl

-- a box that has a side on the outer one doesn't lie within it
on_the_side : lies_within (rectangle (point (pos 0) (pos 0)) (point (pos 9) (pos 9)))
    (rectangle (point (pos 0) (pos 2)) (point (pos 3) (pos 5))) ≡ false
unfolding lies_within is_inside passes_right edges_to do_touch cross_properly is_on_segment
on_the_side = refl
