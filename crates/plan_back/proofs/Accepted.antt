-- The items of a plan with one more at its place are accepted, and make the plan with it there.
use Rattle.std.specs.Prelude.{◌≡◌, ◌≤◌, ℕ, ◌+◌, true, List, ◌++◌, length, map, None, Result, Ok, Err, IfOk}
use Rattle.std.proofs.Common.{ap, ◌∙◌, arith}
use Rattle.std.proofs.lemmas.List.{length-map, length-append}
use Rattle.plane_spec.specs.declared.Point.{Point}
use Rattle.plan_spec.specs.declared.edit.Edit.TheVariants.{Add, AddScreen, AddRoute}
use Rattle.plan_spec.specs.declared.item.Item.{Item}
use Rattle.plan_spec.specs.declared.why.Why.{Why}
use Rattle.plan_spec.specs.Plan.{Plan, obstacle, screen, route, grid_items, obstacle_item, screen_item, route_item, items_of}
use Rattle.plan_spec.specs.Accepted.{is_accepted, is_sound}
use Rattle.plan_spec.specs.Refusals.{check_of}
use Rattle.plan_spec.specs.Edits.{why_not_edit}
use Rattle.plan_laws.proofs.Again.{items_accepted, checked_again}
use Rattle.plan_back.specs.declared.back.Back.TheVariants.{Put, PutScreen, PutRoute}
use Rattle.plan_back.specs.Places.{put_at}
use Rattle.plan_back.specs.Items.{items_before_obstacles, items_before_screens, items_before_routes}
use Rattle.plan_back.specs.Backs.{plan_after_back}
use Rattle.plan_back.proofs.Listed.{obstacle_listed, screen_listed, route_listed}
use Rattle.plan_back.proofs.Obstacles.{obstacle_put_is_sound}
use Rattle.plan_back.proofs.Screens.{screen_put_is_sound}
use Rattle.plan_back.proofs.Routes.{route_put_is_sound}

-- ---- answers

-- what holds of the value where another thing does
pub if_ok : {X E : Type 0} (P Q : X → Type 0) → ((x : X) → P x → Q x) → (r : Result X E) → IfOk r P → IfOk r Q
if_ok P Q f (Ok x) h = f x h
if_ok P Q f (Err e) h = h

-- ---- lists of items

items_count : (p : Plan) → length (items_of p) ≡ items_before_routes p + length p.routes
unfolding items_of
items_count p =
    omega (
      arith,
      length-append (grid_items p.grid) (map obstacle_item p.obstacles ++ (map screen_item p.screens ++ map route_item p.routes)),
      length-append (map obstacle_item p.obstacles) (map screen_item p.screens ++ map route_item p.routes),
      length-append (map screen_item p.screens) (map route_item p.routes),
      length-map p.obstacles obstacle_item,
      length-map p.screens screen_item,
      length-map p.routes route_item,
    )

-- items that are a sound plan's are accepted, and make that plan
accepted_as : (items : List Item) (q : Plan) → items ≡ items_of q → is_sound q ≡ true → is_accepted items ≡ true
accepted_as items q e sound = ap is_accepted e ∙ items_accepted q ∙ sound

one_plan : (r : Result Plan (ℕ × Why)) (a b : Plan) → r ≡ Ok a → r ≡ Ok b → a ≡ b
one_plan r a b h k = cc

checked_as : (items : List Item) (q : Plan) → items ≡ items_of q → is_sound q ≡ true → (new : Plan) → check_of items ≡ Ok new → new ≡ q
checked_as items q e sound new checked = one_plan (check_of items) new q checked (ap check_of e ∙ checked_again q sound)

-- ---- an obstacle

pub obstacle_within : (p : Plan) (k : ℕ) → k ≤ length p.obstacles → items_before_obstacles p + k ≤ length (items_of p)
obstacle_within p k within = omega (arith, items_count p)

pub obstacle_accepted : (p : Plan) (k : ℕ) (name : List ℕ) (points : List Point) → is_sound p ≡ true
    → why_not_edit p (Add name points) ≡ None → k ≤ length p.obstacles
    → is_accepted (put_at (items_before_obstacles p + k) (obstacle_item (obstacle name points)) (items_of p)) ≡ true
unfolding plan_after_back
obstacle_accepted p k name points sound none within =
    accepted_as _ (plan_after_back p (Put k name points)) (obstacle_listed p k (obstacle name points) within) (obstacle_put_is_sound p k name points sound none)

pub obstacle_checked : (p : Plan) (k : ℕ) (name : List ℕ) (points : List Point) → is_sound p ≡ true
    → why_not_edit p (Add name points) ≡ None → k ≤ length p.obstacles
    → (new : Plan) → check_of (put_at (items_before_obstacles p + k) (obstacle_item (obstacle name points)) (items_of p)) ≡ Ok new
    → new ≡ plan_after_back p (Put k name points)
unfolding plan_after_back
obstacle_checked p k name points sound none within =
    checked_as _ (plan_after_back p (Put k name points)) (obstacle_listed p k (obstacle name points) within) (obstacle_put_is_sound p k name points sound none)

-- ---- a screen

pub screen_within : (p : Plan) (k : ℕ) → k ≤ length p.screens → items_before_screens p + k ≤ length (items_of p)
screen_within p k within = omega (arith, items_count p)

pub screen_accepted : (p : Plan) (k : ℕ) (name : List ℕ) (from to : Point) → is_sound p ≡ true
    → why_not_edit p (AddScreen name from to) ≡ None → k ≤ length p.screens
    → is_accepted (put_at (items_before_screens p + k) (screen_item (screen name from to)) (items_of p)) ≡ true
unfolding plan_after_back
screen_accepted p k name from to sound none within =
    accepted_as _ (plan_after_back p (PutScreen k name from to)) (screen_listed p k (screen name from to) within) (screen_put_is_sound p k name from to sound none)

pub screen_checked : (p : Plan) (k : ℕ) (name : List ℕ) (from to : Point) → is_sound p ≡ true
    → why_not_edit p (AddScreen name from to) ≡ None → k ≤ length p.screens
    → (new : Plan) → check_of (put_at (items_before_screens p + k) (screen_item (screen name from to)) (items_of p)) ≡ Ok new
    → new ≡ plan_after_back p (PutScreen k name from to)
unfolding plan_after_back
screen_checked p k name from to sound none within =
    checked_as _ (plan_after_back p (PutScreen k name from to)) (screen_listed p k (screen name from to) within) (screen_put_is_sound p k name from to sound none)

-- ---- a route

pub route_within : (p : Plan) (k : ℕ) → k ≤ length p.routes → items_before_routes p + k ≤ length (items_of p)
route_within p k within = omega (arith, items_count p)

pub route_accepted : (p : Plan) (k : ℕ) (name : List ℕ) (from to : Point) → is_sound p ≡ true
    → why_not_edit p (AddRoute name from to) ≡ None → k ≤ length p.routes
    → is_accepted (put_at (items_before_routes p + k) (route_item (route name from to)) (items_of p)) ≡ true
unfolding plan_after_back
route_accepted p k name from to sound none within =
    accepted_as _ (plan_after_back p (PutRoute k name from to)) (route_listed p k (route name from to) within) (route_put_is_sound p k name from to sound none)

pub route_checked : (p : Plan) (k : ℕ) (name : List ℕ) (from to : Point) → is_sound p ≡ true
    → why_not_edit p (AddRoute name from to) ≡ None → k ≤ length p.routes
    → (new : Plan) → check_of (put_at (items_before_routes p + k) (route_item (route name from to)) (items_of p)) ≡ Ok new
    → new ≡ plan_after_back p (PutRoute k name from to)
unfolding plan_after_back
route_checked p k name from to sound none within =
    checked_as _ (plan_after_back p (PutRoute k name from to)) (route_listed p k (route name from to) within) (route_put_is_sound p k name from to sound none)
