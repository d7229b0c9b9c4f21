-- Worked examples: stretches by hand, and whether their segments meet.
use Rattle.std.proofs.Common.{◌≡◌, refl, pos, true, false}
use Rattle.plane_spec.specs.Vectors.{point}
use Rattle.plane_spec.specs.Fractions.{Fraction, fraction, along, whole_point, reduced, common_divisor}
use Rattle.plane_spec.specs.RPoints.{do_rsegments_touch}
use Rattle.meet_laws.specs.Stretches.{Stretch, is_between_parameters, do_reach_crossing, do_extents_meet}

abbrev half : Fraction
half = fraction (pos 1) (pos 2)

-- from (0,0) on to (4,2)
abbrev rising : Stretch
rising = record {
  p = point (pos 0) (pos 0);
  d = point (pos 2) (pos 1);
  from = fraction (pos 0) (pos 1);
  to = fraction (pos 2) (pos 1);
}

-- the upright through (3,0), from y = 0 to y = 3/2, where the other line is
abbrev upright : Stretch
upright = record {
  p = point (pos 3) (pos 0);
  d = point (pos 0) (pos 1);
  from = fraction (pos 0) (pos 1);
  to = fraction (pos 3) (pos 2);
}

-- the same as far as y = 1
abbrev short : Stretch
short = record {
  p = point (pos 3) (pos 0);
  d = point (pos 0) (pos 1);
  from = fraction (pos 0) (pos 1);
  to = fraction (pos 1) (pos 1);
}

-- it ends on the line: they meet
reached : do_reach_crossing rising upright ≡ true
unfolding do_reach_crossing is_between_parameters
reached = refl

-- it ends below the line: they don't
missed : do_reach_crossing rising short ≡ false
unfolding do_reach_crossing is_between_parameters
missed = refl

-- so say the points with fractions
reached_by_points : do_rsegments_touch (whole_point (point (pos 0) (pos 0))) (whole_point (point (pos 4) (pos 2)))
    (whole_point (point (pos 3) (pos 0))) (record { x = fraction (pos 3) (pos 1); y = fraction (pos 3) (pos 2) }) ≡ true
unfolding do_rsegments_touch
reached_by_points = refl

missed_by_points : do_rsegments_touch (whole_point (point (pos 0) (pos 0))) (whole_point (point (pos 4) (pos 2)))
    (whole_point (point (pos 3) (pos 0))) (whole_point (point (pos 3) (pos 1))) ≡ false
unfolding do_rsegments_touch
missed_by_points = refl

-- half of the way from (1,1) in direction (2,3) is (2, 5/2)
halfway : along (point (pos 1) (pos 1)) (point (pos 2) (pos 3)) half
    ≡ record { x = fraction (pos 2) (pos 1); y = fraction (pos 5) (pos 2) }
unfolding along reduced common_divisor
halfway = refl

-- from (0,0) to (2,0) and from (2,0) to (5,0) share an end
touching_in_line : do_extents_meet (whole_point (point (pos 0) (pos 0))) (whole_point (point (pos 2) (pos 0)))
    (whole_point (point (pos 2) (pos 0))) (whole_point (point (pos 5) (pos 0))) ≡ true
touching_in_line = refl
