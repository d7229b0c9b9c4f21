-- One more item that isn't refused: the plan is sound, and it has one part more.
use Rattle.std.specs.Prelude.{◌≡◌, ◌+◌, true, None}
use Rattle.std.proofs.Common.{inl, inr, sym, ap, ◌∙◌, subst, arith}
use Rattle.std.proofs.lemmas.Bool.{and_parts}
use Rattle.std.proofs.lemmas.List.{length_push}
use Rattle.plan_spec.specs.declared.item.Item.{Item}
use Rattle.plan_spec.specs.declared.item.Item.TheVariants.{Grid, Outer, Obstacle as ObstacleItem, Screen as ScreenItem, Route as RouteItem}
use Rattle.plan_spec.specs.Plan.{Plan, empty_plan, with_item, obstacle, screen, route}
use Rattle.plan_spec.specs.Refusals.{why_not_item, why_not_grid, why_not_obstacle, why_not_screen, why_not_route}
use Rattle.plan_spec.specs.Accepted.{is_sound, may_follow}
use Rattle.plan_laws.proofs.Adding.Items.{added_item_is_sound, added_outer_is_sound}
use Rattle.plan_laws.proofs.Ranges.{sound_has_outer}
use Rattle.plan_check.specs.Kept.{IsDraft}
use Rattle.plan_laws.proofs.Adding.Grids.{first_grid}
use Rattle.plan_laws.proofs.Adding.Outers.{first_outer}
use Rattle.plan_check.proofs.Counts.{part_count, one_if}

-- on the plan of no items only an outer polygon isn't refused
first_is_sound : (i : Item) → why_not_item empty_plan i ≡ None → is_sound (with_item empty_plan i) ≡ true
unfolding why_not_grid why_not_obstacle why_not_screen why_not_route
first_is_sound (Outer points) e = added_outer_is_sound points e
first_is_sound (Grid g) e = cc
first_is_sound (ObstacleItem name points) e = cc
first_is_sound (ScreenItem name from to) e = cc
first_is_sound (RouteItem name from to) e = cc

pub added_is_sound : (plan : Plan) (i : Item) → IsDraft plan → why_not_item plan i ≡ None → is_sound (with_item plan i) ≡ true
added_is_sound plan i (inl empty) e =
    subst (λ p. is_sound (with_item p i) ≡ true) (sym empty) (first_is_sound i (ap (λ p. why_not_item p i) (sym empty) ∙ e))
added_is_sound plan i (inr sound) e = (and_parts (may_follow plan i) (is_sound (with_item plan i)) (added_item_is_sound plan i sound e)).1

-- it has one part more
pub part_added : (plan : Plan) (i : Item) → IsDraft plan → why_not_item plan i ≡ None → part_count (with_item plan i) ≡ part_count plan + 1
unfolding with_item
part_added plan (Outer points) draft e =
    let before = ap one_if (first_outer plan points e) in
    let after = ap one_if (sound_has_outer (with_item plan (Outer points)) (added_is_sound plan (Outer points) draft e)) in
    omega (arith, before, after)
part_added plan (Grid g) draft e =
    let before = ap one_if (first_grid plan g e) in
    omega (arith, before)
part_added plan (ObstacleItem name points) draft e = omega (arith, length_push plan.obstacles (obstacle name points))
part_added plan (ScreenItem name from to) draft e = omega (arith, length_push plan.screens (screen name from to))
part_added plan (RouteItem name from to) draft e = omega (arith, length_push plan.routes (route name from to))
