-- The outer polygon.
use Rattle.std.specs.Prelude.{◌≡◌, nat_le, Bool, true, false, ◌&&◌, List, length, Some, None, is_none}
use Rattle.std.proofs.Common.{refl, sym, arith, zero-add, ◌∙◌}
use Rattle.std.proofs.Math.Bool.{and-true}
use Rattle.std.proofs.lemmas.Bool.Decides.{nat_tests}
use Rattle.plane_spec.specs.declared.Point.{Point}
use Rattle.plan_spec.specs.declared.item.Item.TheVariants.{Outer}
use Rattle.plan_spec.specs.declared.why.Why.TheVariants.{Order}
use Rattle.plan_spec.specs.declared.limits.TheConstants.{MAX_CORNERS}
use Rattle.plan_spec.specs.Plan.{Plan, empty_plan, with_outer, with_item, has_outer, corner_count}
use Rattle.plan_spec.specs.Accepted.{is_polygon, are_obstacles_sound, are_screens_sound, are_routes_sound, is_within_limits, is_sound}
use Rattle.plan_spec.specs.Refusals.{why_not_outer}
use Rattle.plan_laws.proofs.Adding.Causes.{none_refuses, none_when, none_of_polygon, not_below}

-- an outer polygon is refused where there is one
pub second_outer : (p : Plan) (points : List Point) → has_outer p ≡ true → why_not_outer p points ≡ Some Order
unfolding why_not_outer
second_outer p points h = rw h

-- an outer polygon that isn't refused is the first one
pub first_outer : (p : Plan) (points : List Point) → why_not_outer p points ≡ None → has_outer p ≡ false
first_outer p points none = by (has_outer p) (second_outer p points)
  where
    by : (t : Bool) → (t ≡ true → why_not_outer p points ≡ Some Order) → t ≡ false
    by true refused = absurd_cause (sym none ∙ refused refl)
      where
        absurd_cause : None ≡ Some Order → true ≡ false
        absurd_cause e = cc
    by false refused = refl

-- the first outer polygon passes each test for which it might be refused
pub fits_as_outer : (points : List Point)
    → is_none (why_not_outer empty_plan points) ≡ (is_polygon points && nat_le (length points) MAX_CORNERS)
unfolding why_not_outer
fits_as_outer points =
    rw none_refuses (simp (none_when, none_of_polygon, not_below, and-true) (simp zero-add))

corners_alone : (points : List Point)
    → nat_le (corner_count (with_outer empty_plan points)) MAX_CORNERS ≡ nat_le (length points) MAX_CORNERS
corners_alone points = grind (arith, nat_tests)

-- with an outer polygon alone, a plan is sound where the polygon isn't refused
pub sound_with_outer : (points : List Point) → is_sound (with_item empty_plan (Outer points)) ≡ is_none (why_not_outer empty_plan points)
unfolding is_sound with_item are_obstacles_sound are_screens_sound are_routes_sound is_within_limits
sound_with_outer points =
    rw (fits_as_outer points, corners_alone points, and-true)
