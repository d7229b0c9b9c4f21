-- An obstacle that is moved, and moved back.
use Rattle.std.specs.Prelude.{◌≡◌, ℕ, ℤ, neg_ℤ, ◌+ℤ◌, Bool, true, false, cond, List, [], ◌∷◌, map, None, if◌then◌else◌}
use Rattle.std.proofs.Common.{refl, ap, ap₂, ◌∙◌, arith}
use Rattle.std.proofs.lemmas.Int.{ints}
use Rattle.plane_spec.specs.declared.Point.{Point}
use Rattle.plane_spec.specs.Vectors.{IsWithin, point}
use Rattle.plan_spec.specs.declared.edit.Edit.TheVariants.{Move}
use Rattle.plan_spec.specs.declared.limits.TheConstants.{MAX_SHIFT}
use Rattle.plan_spec.specs.Plan.{Obstacle, Plan, obstacle, with_obstacles, is_obstacle_named}
use Rattle.plan_spec.specs.Accepted.{is_sound}
use Rattle.plan_spec.specs.Edits.{IsShift, shifted_point, shifted_obstacle, why_not_edit, plan_after_edit}
use Rattle.list_laws.proofs.Tests.{list_any_map, list_any_agree}
use Rattle.plan_back.specs.declared.back.Back.TheVariants.{Shift}
use Rattle.plan_back.specs.Backs.{plan_after_back, inverse_of, TakesBack}
use Rattle.plan_back.proofs.Causes.{not_refused, there_and_sound}

-- ---- the same way back

way_back : (x d : ℤ) → (x +ℤ d) +ℤ neg_ℤ d ≡ x
way_back x d = omega (arith, ints)

points_back : (dx dy : ℤ) (points : List Point) → map (shifted_point (neg_ℤ dx) (neg_ℤ dy)) (map (shifted_point dx dy) points) ≡ points
points_back dx dy [] = refl
points_back dx dy (p ∷ points) = ap₂ (λ q qs. q ∷ qs) (ap₂ point (way_back p.x dx) (way_back p.y dy)) (points_back dx dy points)

-- the obstacle moved where it has the name
abbrev moved_if : List ℕ → ℤ → ℤ → Obstacle → Obstacle
moved_if name dx dy o = if is_obstacle_named name o then shifted_obstacle dx dy o else o

moved_name : (name : List ℕ) (dx dy : ℤ) (o : Obstacle) → is_obstacle_named name (moved_if name dx dy o) ≡ is_obstacle_named name o
moved_name name dx dy o = by (is_obstacle_named name o)
  where
    by : (t : Bool) → is_obstacle_named name (cond t (shifted_obstacle dx dy o) o) ≡ is_obstacle_named name o
    by true = refl
    by false = refl

obstacle_back : (name : List ℕ) (dx dy : ℤ) (o : Obstacle) → moved_if name (neg_ℤ dx) (neg_ℤ dy) (moved_if name dx dy o) ≡ o
obstacle_back name dx dy o =
    ap (λ t. cond t (shifted_obstacle (neg_ℤ dx) (neg_ℤ dy) (moved_if name dx dy o)) (moved_if name dx dy o)) (moved_name name dx dy o)
    ∙ by (is_obstacle_named name o)
  where
    by : (t : Bool) → cond t (shifted_obstacle (neg_ℤ dx) (neg_ℤ dy) (cond t (shifted_obstacle dx dy o) o)) (cond t (shifted_obstacle dx dy o) o) ≡ o
    by true = ap (obstacle o.name) (points_back dx dy o.points)
    by false = refl

obstacles_back : (name : List ℕ) (dx dy : ℤ) (obstacles : List Obstacle)
    → map (moved_if name (neg_ℤ dx) (neg_ℤ dy)) (map (moved_if name dx dy) obstacles) ≡ obstacles
obstacles_back name dx dy [] = refl
obstacles_back name dx dy (o ∷ obstacles) = ap₂ (λ q qs. q ∷ qs) (obstacle_back name dx dy o) (obstacles_back name dx dy obstacles)

-- ---- the plan

within_back : (z : ℤ) → IsWithin MAX_SHIFT z → IsWithin MAX_SHIFT (neg_ℤ z)
within_back z h = record { low = omega (arith, ints, h.low, h.high); high = omega (arith, ints, h.low, h.high) }

pub shift_back : (dx dy : ℤ) → IsShift dx dy → IsShift (neg_ℤ dx) (neg_ℤ dy)
shift_back dx dy h = record { x = within_back dx h.x; y = within_back dy h.y }

pub obstacle_moved_back : (p : Plan) (name : List ℕ) (dx dy : ℤ) → is_sound p ≡ true → IsShift dx dy
    → why_not_edit p (Move name dx dy) ≡ None → TakesBack p (Shift name dx dy) (inverse_of p (Shift name dx dy))
unfolding plan_after_back plan_after_edit inverse_of
obstacle_moved_back p name dx dy sound shift none =
    let there = there_and_sound p (Move name dx dy) sound none in
    record {
      place = tt;
      shift = shift_back dx dy shift;
      valid =
          not_refused (plan_after_edit p (Move name dx dy)) (Move name (neg_ℤ dx) (neg_ℤ dy)) there.1
          (list_any_map (is_obstacle_named name) (moved_if name dx dy) p.obstacles
          ∙ list_any_agree (λ o. is_obstacle_named name (moved_if name dx dy o)) (is_obstacle_named name) (moved_name name dx dy) p.obstacles
          ∙ there.0)
          (ap is_sound back ∙ sound);
      gives = back;
      named = refl;
    }
  where
    back : with_obstacles p (map (moved_if name (neg_ℤ dx) (neg_ℤ dy)) (map (moved_if name dx dy) p.obstacles)) ≡ p
    back = ap (with_obstacles p) (obstacles_back name dx dy p.obstacles)
