use Rattle.std.proofs.Common.{sym, ap, ◌∙◌}
use Rattle.plan_spec.specs.Refusals.{why_not_item}
use Rattle.plan_laws.proofs.Adding.Obstacles.{new_obstacle}
use Rattle.plan_laws.proofs.Adding.Routes.{new_route}
use Rattle.plan_laws.proofs.Adding.Screens.{new_screen}
use Rattle.plan_check.proofs.checking.add_item.Goals as goal

pub add_obstacle-requires : goal.add_obstacle-requires
add_obstacle-requires c =
    rw (c.copy.ensures) (new_obstacle c.args.draft.now c.in-Obstacle.name c.in-Obstacle.points (ap (why_not_item c.args.draft.now) (sym c.in-Obstacle.is) ∙ c.requires))

pub add_screen-requires : goal.add_screen-requires
add_screen-requires c =
    rw (c.copy-in-Screen.ensures) (new_screen c.args.draft.now c.in-Screen.name c.in-Screen.from c.in-Screen.to (ap (why_not_item c.args.draft.now) (sym c.in-Screen.is) ∙ c.requires))

pub add_route-requires : goal.add_route-requires
add_route-requires c =
    rw (c.copy-in-Route.ensures) (new_route c.args.draft.now c.in-Route.name c.in-Route.from c.in-Route.to (ap (why_not_item c.args.draft.now) (sym c.in-Route.is) ∙ c.requires))
