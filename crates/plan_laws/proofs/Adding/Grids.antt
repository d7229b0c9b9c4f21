-- A grid.
use Rattle.std.specs.Prelude.{◌≡◌, Bool, true, false, ◌&&◌, Option, Some, None, is_none, is_some}
use Rattle.std.proofs.Common.{refl, sym, ap, arith, ◌∙◌}
use Rattle.std.proofs.Math.Bool.{and_assoc, and_comm, not-not, and-true}
use Rattle.plan_spec.specs.declared.item.GridSpec.{GridSpec}
use Rattle.plan_spec.specs.declared.item.Item.TheVariants.{Grid}
use Rattle.plan_spec.specs.Plan.{Plan, with_grid, with_item, has_outer}
use Rattle.plan_spec.specs.Accepted.{is_polygon, is_grid_in_range, is_grid_small, is_grid_sound, are_obstacles_sound, are_screens_sound, are_routes_sound, is_within_limits, is_sound}
use Rattle.plan_spec.specs.Refusals.{why_not_grid}
use Rattle.list_laws.proofs.Conditions.{and_left_comm, not_or}
use Rattle.plan_laws.proofs.Adding.Causes.{none_refuses, none_when, outer_test_drops}

-- the grid passes each test for which it might be refused
pub fits_as_grid : (p : Plan) (g : GridSpec)
    → is_none (why_not_grid p g) ≡ (has_outer p && (is_none p.grid && (is_grid_in_range g && is_grid_small g)))
unfolding why_not_grid
fits_as_grid p g =
    rw none_refuses (simp (none_when, not_or, not-not, and_assoc, and-true, and_left_comm))

-- a grid that isn't refused is the first one
pub first_grid : (p : Plan) (g : GridSpec) → why_not_grid p g ≡ None → is_some p.grid ≡ false
first_grid p g none =
    let fits = sym (fits_as_grid p g) ∙ ap is_none none in
    by p.grid (grind arith)
  where
    by : (grid : Option GridSpec) → is_none grid ≡ true → is_some grid ≡ false
    by None h = refl
    by (Some g) h = cc

-- nothing else is compared with the grid
pub obstacles_with_grid : (p : Plan) (grid : Option GridSpec) → are_obstacles_sound (with_grid p grid) ≡ are_obstacles_sound p
unfolding are_obstacles_sound
obstacles_with_grid p grid = refl

pub screens_with_grid : (p : Plan) (grid : Option GridSpec) → are_screens_sound (with_grid p grid) ≡ are_screens_sound p
unfolding are_screens_sound
screens_with_grid p grid = refl

pub routes_with_grid : (p : Plan) (grid : Option GridSpec) → are_routes_sound (with_grid p grid) ≡ are_routes_sound p
unfolding are_routes_sound
routes_with_grid p grid = refl

pub limits_with_grid : (p : Plan) (grid : Option GridSpec) → is_within_limits (with_grid p grid) ≡ is_within_limits p
unfolding is_within_limits
limits_with_grid p grid = refl

new_tests_last : (a i m r : Bool) → ((a && (i && m)) && r) ≡ (((a && true) && r) && (i && m))
new_tests_last a i m r = simp (and_assoc, and_left_comm, and_comm)

by_grid : (grid : Option GridSpec) (a r i m : Bool)
    → (is_none grid && ((a && (i && m)) && r)) ≡ (((a && is_grid_sound grid) && r) && (is_none grid && (i && m)))
by_grid None a r i m = new_tests_last a i m r
by_grid (Some g) a r i m = refused ((a && is_grid_sound (Some g)) && r)
  where
    refused : (b : Bool) → false ≡ (b && false)
    refused true = refl
    refused false = refl

-- a plan without a grid is sound with one where the plan is and the grid isn't refused
pub sound_with_grid : (p : Plan) (g : GridSpec)
    → (is_none p.grid && is_sound (with_item p (Grid g))) ≡ (is_sound p && is_none (why_not_grid p g))
unfolding is_sound with_item
sound_with_grid p g =
    rw (fits_as_grid p g, outer_test_drops, obstacles_with_grid p (Some g), screens_with_grid p (Some g), routes_with_grid p (Some g), limits_with_grid p (Some g))
    (by_grid p.grid (is_polygon p.outer) ((are_obstacles_sound p && are_screens_sound p) && (are_routes_sound p && is_within_limits p)) (is_grid_in_range g) (is_grid_small g))
