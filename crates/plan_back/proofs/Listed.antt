-- The items of a plan with one more at its place.
use Rattle.std.specs.Prelude.{◌≡◌, ◌≤◌, ℕ, ◌+◌, List, ◌∷◌, ◌++◌, length, map}
use Rattle.std.proofs.Common.{sym, ap, ◌∙◌, arith}
use Rattle.std.proofs.lemmas.List.{length-map}
use Rattle.plan_spec.specs.declared.item.Screen.{Screen}
use Rattle.plan_spec.specs.declared.item.Route.{Route}
use Rattle.plan_spec.specs.declared.item.Item.{Item}
use Rattle.plan_spec.specs.declared.item.Item.TheVariants.{Outer}
use Rattle.plan_spec.specs.Plan.{Obstacle, Plan, with_obstacles, with_screens, with_routes, grid_items, obstacle_item, screen_item, route_item, items_of}
use Rattle.plan_back.specs.Places.{put_at}
use Rattle.plan_back.specs.Items.{items_before_obstacles, items_before_screens, items_before_routes}
use Rattle.plan_back.proofs.Places.{put_before, put_behind, put_mapped}

-- the items before the obstacles
abbrev first_items : Plan → List Item
first_items p = Outer p.outer ∷ grid_items p.grid

-- as many items as are counted, put behind
behind : (n : ℕ) (xs ys : List Item) (k : ℕ) (x : Item) → n ≡ length xs → put_at (n + k) x (xs ++ ys) ≡ xs ++ put_at k x ys
behind n xs ys k x e = ap (λ m. put_at (m + k) x (xs ++ ys)) e ∙ put_behind xs ys k x

pub obstacle_listed : (p : Plan) (k : ℕ) (o : Obstacle) → k ≤ length p.obstacles
    → put_at (items_before_obstacles p + k) (obstacle_item o) (items_of p) ≡ items_of (with_obstacles p (put_at k o p.obstacles))
unfolding items_of
obstacle_listed p k o within =
    let screens : List Item = map screen_item p.screens in
    let routes : List Item = map route_item p.routes in
    behind (items_before_obstacles p) (first_items p) (map obstacle_item p.obstacles ++ (screens ++ routes)) k (obstacle_item o) (omega arith)
    ∙ ap (λ t. first_items p ++ t)
    (put_before (map obstacle_item p.obstacles) (screens ++ routes) k (obstacle_item o) (omega (arith, length-map p.obstacles obstacle_item))
    ∙ ap (λ t. t ++ (screens ++ routes)) (put_mapped obstacle_item p.obstacles k o))

pub screen_listed : (p : Plan) (k : ℕ) (s : Screen) → k ≤ length p.screens
    → put_at (items_before_screens p + k) (screen_item s) (items_of p) ≡ items_of (with_screens p (put_at k s p.screens))
unfolding items_of
screen_listed p k s within =
    let obstacles : List Item = map obstacle_item p.obstacles in
    let screens : List Item = map screen_item p.screens in
    let routes : List Item = map route_item p.routes in
    ap (λ n. put_at n (screen_item s) (first_items p ++ (obstacles ++ (screens ++ routes)))) (omega arith)
    ∙ behind (items_before_obstacles p) (first_items p) (obstacles ++ (screens ++ routes)) (length p.obstacles + k) (screen_item s) (omega arith)
    ∙ ap (λ t. first_items p ++ t)
    (behind (length p.obstacles) obstacles (screens ++ routes) k (screen_item s) (sym (length-map p.obstacles obstacle_item))
    ∙ ap (λ t. obstacles ++ t)
    (put_before screens routes k (screen_item s) (omega (arith, length-map p.screens screen_item))
    ∙ ap (λ t. t ++ routes) (put_mapped screen_item p.screens k s)))

pub route_listed : (p : Plan) (k : ℕ) (r : Route) → k ≤ length p.routes
    → put_at (items_before_routes p + k) (route_item r) (items_of p) ≡ items_of (with_routes p (put_at k r p.routes))
unfolding items_of
route_listed p k r within =
    let obstacles : List Item = map obstacle_item p.obstacles in
    let screens : List Item = map screen_item p.screens in
    let routes : List Item = map route_item p.routes in
    ap (λ n. put_at n (route_item r) (first_items p ++ (obstacles ++ (screens ++ routes)))) (omega arith)
    ∙ behind (items_before_obstacles p) (first_items p) (obstacles ++ (screens ++ routes)) (length p.obstacles + (length p.screens + k)) (route_item r) (omega arith)
    ∙ ap (λ t. first_items p ++ t)
    (behind (length p.obstacles) obstacles (screens ++ routes) (length p.screens + k) (route_item r) (sym (length-map p.obstacles obstacle_item))
    ∙ ap (λ t. obstacles ++ t)
    (behind (length p.screens) screens routes k (route_item r) (sym (length-map p.screens screen_item))
    ∙ ap (λ t. screens ++ t) (put_mapped route_item p.routes k r)))
