-- The items of a plan make that plan again.
use Rattle.std.specs.Prelude.{◌≡◌, true, ◌&&◌, List, [], ◌∷◌, ◌++◌, map, Option, Some, None, Ok}
use Rattle.std.proofs.Common.{refl, sym, ap, ◌∙◌}
use Rattle.std.proofs.Math.Bool.{and_assoc}
use Rattle.std.proofs.lemmas.Bool.{and_from}
use Rattle.std.proofs.lemmas.List.{append-nil, append_assoc}
use Rattle.plane_spec.specs.declared.Point.{Point}
use Rattle.plan_spec.specs.declared.item.GridSpec.{GridSpec}
use Rattle.plan_spec.specs.declared.item.Screen.{Screen}
use Rattle.plan_spec.specs.declared.item.Route.{Route}
use Rattle.plan_spec.specs.declared.item.Item.{Item}
use Rattle.plan_spec.specs.Plan.{Obstacle, Plan, empty_plan, with_outer, with_grid, with_obstacles, with_screens, with_routes, with_item, with_items, grid_items, obstacle_item, screen_item, route_item, items_of}
use Rattle.plan_spec.specs.Accepted.{are_in_order, is_sound, is_accepted}
use Rattle.plan_spec.specs.Refusals.{check_of}
use Rattle.plan_spec.specs.Accepted.{may_follow}
use Rattle.plan_laws.proofs.Checking.{may_all_follow, order_after_outer, accepted_makes}

-- ---- the plan that they make

pub with_items_append : (p : Plan) (items more : List Item) → with_items p (items ++ more) ≡ with_items (with_items p items) more
unfolding with_items
with_items_append p [] more = refl
with_items_append p (i ∷ items) more = with_items_append (with_item p i) items more

with_obstacle_items : (p : Plan) (obstacles : List Obstacle) → with_items p (map obstacle_item obstacles) ≡ with_obstacles p (p.obstacles ++ obstacles)
unfolding with_items with_item
with_obstacle_items p [] = ap (with_obstacles p) (sym (append-nil p.obstacles))
with_obstacle_items p (o ∷ obstacles) =
    with_obstacle_items (with_obstacles p (p.obstacles ++ o ∷ [])) obstacles ∙ ap (with_obstacles p) (append_assoc p.obstacles (o ∷ []) obstacles)

with_screen_items : (p : Plan) (screens : List Screen) → with_items p (map screen_item screens) ≡ with_screens p (p.screens ++ screens)
unfolding with_items with_item
with_screen_items p [] = ap (with_screens p) (sym (append-nil p.screens))
with_screen_items p (s ∷ screens) =
    with_screen_items (with_screens p (p.screens ++ s ∷ [])) screens ∙ ap (with_screens p) (append_assoc p.screens (s ∷ []) screens)

with_route_items : (p : Plan) (routes : List Route) → with_items p (map route_item routes) ≡ with_routes p (p.routes ++ routes)
unfolding with_items with_item
with_route_items p [] = ap (with_routes p) (sym (append-nil p.routes))
with_route_items p (r ∷ routes) =
    with_route_items (with_routes p (p.routes ++ r ∷ [])) routes ∙ ap (with_routes p) (append_assoc p.routes (r ∷ []) routes)

with_grid_items : (points : List Point) (grid : Option GridSpec) → with_items (with_outer empty_plan points) (grid_items grid) ≡ with_grid (with_outer empty_plan points) grid
unfolding with_items with_item
with_grid_items points None = refl
with_grid_items points (Some g) = refl

-- the items of any plan make that plan
pub items_make : (p : Plan) → with_items empty_plan (items_of p) ≡ p
unfolding items_of with_items with_item
items_make p =
    let begun : Plan = with_outer empty_plan p.outer in
    let obstacles : List Item = map obstacle_item p.obstacles in
    let screens : List Item = map screen_item p.screens in
    let routes : List Item = map route_item p.routes in
    with_items_append begun (grid_items p.grid) (obstacles ++ (screens ++ routes))
    ∙ ap (λ q. with_items q (obstacles ++ (screens ++ routes))) (with_grid_items p.outer p.grid)
    ∙ with_items_append (with_grid begun p.grid) obstacles (screens ++ routes)
    ∙ ap (λ q. with_items q (screens ++ routes)) (with_obstacle_items (with_grid begun p.grid) p.obstacles)
    ∙ with_items_append (with_obstacles (with_grid begun p.grid) p.obstacles) screens routes
    ∙ ap (λ q. with_items q routes) (with_screen_items (with_obstacles (with_grid begun p.grid) p.obstacles) p.screens)
    ∙ with_route_items (with_screens (with_obstacles (with_grid begun p.grid) p.obstacles) p.screens) p.routes

-- ---- their order

follow_append : (p : Plan) (items more : List Item) → may_all_follow p (items ++ more) ≡ (may_all_follow p items && may_all_follow (with_items p items) more)
unfolding may_all_follow with_items
follow_append p [] more = refl
follow_append p (i ∷ items) more =
    ap (λ t. may_follow p i && t) (follow_append (with_item p i) items more)
    ∙ sym (and_assoc (may_follow p i) (may_all_follow (with_item p i) items) (may_all_follow (with_items (with_item p i) items) more))

obstacles_follow : (p : Plan) (obstacles : List Obstacle) → may_all_follow p (map obstacle_item obstacles) ≡ true
unfolding may_all_follow
obstacles_follow p [] = refl
obstacles_follow p (o ∷ obstacles) = obstacles_follow (with_item p (obstacle_item o)) obstacles

screens_follow : (p : Plan) (screens : List Screen) → may_all_follow p (map screen_item screens) ≡ true
unfolding may_all_follow
screens_follow p [] = refl
screens_follow p (s ∷ screens) = screens_follow (with_item p (screen_item s)) screens

routes_follow : (p : Plan) (routes : List Route) → may_all_follow p (map route_item routes) ≡ true
unfolding may_all_follow
routes_follow p [] = refl
routes_follow p (r ∷ routes) = routes_follow (with_item p (route_item r)) routes

grid_follows : (points : List Point) (grid : Option GridSpec) → may_all_follow (with_outer empty_plan points) (grid_items grid) ≡ true
unfolding may_all_follow
grid_follows points None = refl
grid_follows points (Some g) = refl

-- the items of any plan are in order
pub items_in_order : (p : Plan) → are_in_order (items_of p) ≡ true
unfolding items_of
items_in_order p =
    let begun : Plan = with_outer empty_plan p.outer in
    let obstacles : List Item = map obstacle_item p.obstacles in
    let screens : List Item = map screen_item p.screens in
    let routes : List Item = map route_item p.routes in
    order_after_outer p.outer (grid_items p.grid ++ (obstacles ++ (screens ++ routes)))
    ∙ all_follow begun (grid_items p.grid) (obstacles ++ (screens ++ routes)) (grid_follows p.outer p.grid)
    (λ q. all_follow q obstacles (screens ++ routes) (obstacles_follow q p.obstacles)
    (λ q. all_follow q screens routes (screens_follow q p.screens) (λ q. routes_follow q p.routes)))
  where
    all_follow : (p : Plan) (items more : List Item) → may_all_follow p items ≡ true → ((q : Plan) → may_all_follow q more ≡ true) → may_all_follow p (items ++ more) ≡ true
    all_follow p items more h k = follow_append p items more ∙ and_from (may_all_follow p items) (may_all_follow (with_items p items) more) h (k (with_items p items))

-- ---- so they are accepted again

pub items_accepted : (p : Plan) → is_accepted (items_of p) ≡ is_sound p
unfolding is_accepted
items_accepted p = ap (λ t. t && is_sound (with_items empty_plan (items_of p))) (items_in_order p) ∙ ap is_sound (items_make p)

pub checked_again : (p : Plan) → is_sound p ≡ true → check_of (items_of p) ≡ Ok p
checked_again p h = accepted_makes (items_of p) (items_accepted p ∙ h) ∙ ap Ok (items_make p)
