use Rattle.std.specs.Prelude.{◌≡◌, List, ◌∷◌, ◌++◌, map}
use Rattle.std.proofs.lemmas.List.{append_assoc}
use Rattle.plan_spec.specs.declared.item.Item.TheVariants.{Outer}
use Rattle.plan_spec.specs.Plan.{items_of, grid_items, obstacle_item, screen_item, route_item}
use Rattle.plan_check.proofs.plan_parts.listed.Goals as goal

joined : {X : Type 0} (x : X) (g o s r : List X) → x ∷ (((g ++ o) ++ s) ++ r) ≡ x ∷ (g ++ (o ++ (s ++ r)))
joined x g o s r = simp append_assoc

pub returns : goal.returns
unfolding items_of
returns c =
    let plan = c.args.draft.now in
    rw (c.in_ok-push_routes.ensures, c.in_ok-push_screens.ensures, c.in_ok-push_obstacles.ensures, c.in_ok-push_grid.ensures, c.in_ok-push.ensures.ok, c.new-items.ensures, c.in_ok-copied_points.ensures, c.outer.ensures)
    (joined (Outer plan.outer) (grid_items plan.grid) (map obstacle_item plan.obstacles) (map screen_item plan.screens) (map route_item plan.routes))
