use Rattle.std.specs.List.{flat_map}
use Rattle.std.proofs.Common.{sym, ap}
use Rattle.plane_spec.specs.Boxes.{box_of_points}
use Rattle.plan_spec.specs.Plan.{Obstacle, is_obstacle_named}
use Rattle.list_laws.proofs.Tests.{filter_none}
use Rattle.plan_check.proofs.boxes.obstacle_box.Goals as goal

pub returns-in-None : goal.returns-in-None
returns-in-None c =
    sym (ap (λ os. box_of_points (flat_map (λ (o : Obstacle). o.points) os)) (filter_none (is_obstacle_named c.args.name.now) c.args.draft.now.obstacles (sym c.in-None.ensures.found)))
