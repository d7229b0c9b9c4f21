-- Items that are checked one after the other: what is accepted, and which plan they make.
use Rattle.std.specs.Prelude.{◌≡◌, ℕ, ◌+◌, nat_le, Bool, true, false, not, ◌&&◌, List, [], ◌∷◌, count_by, cond, Option, Some, None, is_none, Result, Ok, Err, is_ok, if◌then◌else◌}
use Rattle.std.specs.List.{list_any}
use Rattle.std.proofs.Common.{refl, sym, ap, ◌∙◌, arith, zero-add}
use Rattle.std.proofs.Math.Bool.{and_assoc, and-true}
use Rattle.std.proofs.lemmas.Bool.Decides.{nat_tests}
use Rattle.std.proofs.lemmas.List.Sums.{sum_by-cons}
use Rattle.plane_spec.specs.declared.Point.{Point}
use Rattle.plan_spec.specs.declared.item.GridSpec.{GridSpec}
use Rattle.plan_spec.specs.declared.item.Item.{Item}
use Rattle.plan_spec.specs.declared.item.Item.TheVariants.{Grid, Outer, Obstacle as ObstacleItem, Screen as ScreenItem, Route as RouteItem}
use Rattle.plan_spec.specs.declared.why.Why.{Why}
use Rattle.plan_spec.specs.declared.why.Why.TheVariants.{Order}
use Rattle.plan_spec.specs.Plan.{Plan, empty_plan, with_item, with_items, with_outer, with_grid, has_outer}
use Rattle.plan_spec.specs.Accepted.{is_outer, is_grid, may_follow, are_in_order, is_sound, is_accepted}
use Rattle.plan_spec.specs.Refusals.{why_not_item, why_not_grid, why_not_outer, why_not_obstacle, why_not_screen, why_not_route, refused_at, check_from, check_of}
use Rattle.plan_laws.proofs.Adding.Causes.{outer_test_drops}
use Rattle.plan_laws.proofs.Adding.Items.{sound_with_item}
use Rattle.plan_laws.proofs.Adding.Outers.{sound_with_outer}

-- ---- the order of the items

-- each item may follow those before it
unfoldable pub may_all_follow : Plan → List Item → Bool
may_all_follow p [] = true
may_all_follow p (i ∷ items) = may_follow p i && may_all_follow (with_item p i) items

grid_count : Option GridSpec → ℕ
grid_count None = 0
grid_count (Some g) = 1

count_next : (i : Item) (items : List Item) → count_by is_grid (i ∷ items) ≡ cond (is_grid i) 1 0 + count_by is_grid items
count_next i items = sum_by-cons (λ x. cond (is_grid x) 1 0) i items

no_second_grid : (grid : Option GridSpec) (b : Bool) (n : ℕ) → (is_none grid && (b && nat_le (1 + n) 1)) ≡ (b && nat_le (grid_count grid + (1 + n)) 1)
unfolding grid_count
no_second_grid None b n = rw zero-add
no_second_grid (Some g) b n = two_are_many b
  where
    two_are_many : (b : Bool) → false ≡ (b && nat_le (1 + (1 + n)) 1)
    two_are_many true = grind (arith, nat_tests)
    two_are_many false = refl

one_grid : (grid : Option GridSpec) → true ≡ nat_le (grid_count grid + 0) 1
unfolding grid_count
one_grid None = refl
one_grid (Some g) = refl

-- no outer polygon and at most one grid, with what is there
in_order : (p : Plan) (items : List Item) → may_all_follow p items ≡ (not (list_any is_outer items) && nat_le (grid_count p.grid + count_by is_grid items) 1)
unfolding may_all_follow with_item grid_count
in_order p [] = one_grid p.grid
in_order p (Grid g ∷ items) =
    ap (λ t. is_none p.grid && t) (in_order (with_grid p (Some g)) items)
    ∙ no_second_grid p.grid (not (list_any is_outer items)) (count_by is_grid items)
    ∙ ap (λ t. not (list_any is_outer items) && nat_le (grid_count p.grid + t) 1) (sym (count_next (Grid g) items))
in_order p (Outer points ∷ items) = refl
in_order p (ObstacleItem name points ∷ items) = in_order (with_item p (ObstacleItem name points)) items
in_order p (ScreenItem name from to ∷ items) = in_order (with_item p (ScreenItem name from to)) items
in_order p (RouteItem name from to ∷ items) = in_order (with_item p (RouteItem name from to)) items

-- ---- the steps of a check

pub checked_at_end : (number : ℕ) (p : Plan) → check_from number p [] ≡ (if has_outer p then Ok p else Err (number, Order))
unfolding check_from
checked_at_end number p = refl

pub checked_next : (number : ℕ) (p : Plan) (i : Item) (items : List Item)
    → check_from number p (i ∷ items) ≡ refused_at number (why_not_item p i) (check_from (number + 1) (with_item p i) items)
unfolding check_from
checked_next number p i items = refl

pub checked_on : (number : ℕ) (p : Plan) (i : Item) (items : List Item)
    → why_not_item p i ≡ None → check_from number p (i ∷ items) ≡ check_from (number + 1) (with_item p i) items
checked_on number p i items e = checked_next number p i items ∙ ap (λ t. refused_at number t (check_from (number + 1) (with_item p i) items)) e

pub checked_no_further : (number : ℕ) (p : Plan) (i : Item) (items : List Item) (why : Why)
    → why_not_item p i ≡ Some why → check_from number p (i ∷ items) ≡ Err (number, why)
checked_no_further number p i items why e = checked_next number p i items ∙ ap (λ t. refused_at number t (check_from (number + 1) (with_item p i) items)) e

-- ---- what is accepted

ok_unless_refused : (number : ℕ) (o : Option Why) (next : Result Plan (ℕ × Why)) → is_ok (refused_at number o next) ≡ (is_none o && is_ok next)
ok_unless_refused number None next = refl
ok_unless_refused number (Some why) next = refl

ok_with_outer : (number : ℕ) (p : Plan) → is_ok (check_from number p []) ≡ has_outer p
ok_with_outer number p = ap is_ok (checked_at_end number p) ∙ step (has_outer p)
  where
    step : (t : Bool) → is_ok {T = Plan} {E = ℕ × Why} (if t then Ok p else Err (number, Order)) ≡ t
    step true = refl
    step false = refl

-- further items may all follow and leave a sound plan exactly where the plan is sound and none of them is refused
pub accepted_from : (number : ℕ) (p : Plan) (items : List Item)
    → (may_all_follow p items && is_sound (with_items p items)) ≡ (is_sound p && is_ok (check_from number p items))
unfolding may_all_follow with_items
accepted_from number p [] = sym (ap (λ t. is_sound p && t) (ok_with_outer number p) ∙ (simp and-true at (outer_test_drops p true)))
accepted_from number p (i ∷ items) =
    and_assoc (may_follow p i) (may_all_follow (with_item p i) items) (is_sound (with_items (with_item p i) items))
    ∙ ap (λ t. may_follow p i && t) (accepted_from (number + 1) (with_item p i) items)
    ∙ sym (and_assoc (may_follow p i) (is_sound (with_item p i)) (is_ok (check_from (number + 1) (with_item p i) items)))
    ∙ ap (λ t. t && is_ok (check_from (number + 1) (with_item p i) items)) (sound_with_item p i)
    ∙ and_assoc (is_sound p) (is_none (why_not_item p i)) (is_ok (check_from (number + 1) (with_item p i) items))
    ∙ ap (λ t. is_sound p && t) (sym (ok_unless_refused number (why_not_item p i) (check_from (number + 1) (with_item p i) items)))
    ∙ ap (λ t. is_sound p && is_ok t) (sym (checked_next number p i items))

-- behind an outer polygon, items are in order where each may follow those before it
pub order_after_outer : (points : List Point) (items : List Item) → are_in_order (Outer points ∷ items) ≡ may_all_follow (with_outer empty_plan points) items
unfolding are_in_order grid_count
order_after_outer points items =
    ap (λ n. not (list_any is_outer items) && nat_le n 1) (sym (zero-add (count_by is_grid items)))
    ∙ sym (in_order (with_outer empty_plan points) items)

-- the outer polygon comes first
accepted_with_outer : (points : List Point) (items : List Item) → is_accepted (Outer points ∷ items) ≡ is_ok (check_of (Outer points ∷ items))
unfolding is_accepted with_items with_item
accepted_with_outer points items =
    let plan : Plan = with_outer empty_plan points in
    ap (λ t. t && is_sound (with_items plan items)) (order_after_outer points items)
    ∙ accepted_from 1 plan items
    ∙ ap (λ t. t && is_ok (check_from 1 plan items)) (sound_with_outer points)
    ∙ sym (ok_unless_refused 0 (why_not_outer empty_plan points) (check_from 1 plan items))
    ∙ ap is_ok (sym (checked_next 0 empty_plan (Outer points) items))

-- adding one after the other accepts what the condition on the whole list accepts
pub accepted_is_ok : (items : List Item) → is_accepted items ≡ is_ok (check_of items)
unfolding is_accepted are_in_order check_from why_not_grid why_not_obstacle why_not_screen why_not_route
accepted_is_ok [] = refl
accepted_is_ok (Grid g ∷ items) = refl
accepted_is_ok (Outer points ∷ items) = accepted_with_outer points items
accepted_is_ok (ObstacleItem name points ∷ items) = refl
accepted_is_ok (ScreenItem name from to ∷ items) = refl
accepted_is_ok (RouteItem name from to ∷ items) = refl

-- ---- the plan that the items make

pub checked_from_is : (number : ℕ) (p : Plan) (items : List Item) (q : Plan) → check_from number p items ≡ Ok q → q ≡ with_items p items
unfolding check_from with_items
checked_from_is number p [] q e = by_outer (has_outer p) e
  where
    by_outer : (t : Bool) → cond {A = Result Plan (ℕ × Why)} t (Ok p) (Err (number, Order)) ≡ Ok q → q ≡ p
    by_outer true e = cc
    by_outer false e = cc
checked_from_is number p (i ∷ items) q e = by_cause (why_not_item p i) (checked_from_is (number + 1) (with_item p i) items q) e
  where
    by_cause : (o : Option Why) → (check_from (number + 1) (with_item p i) items ≡ Ok q → q ≡ with_items (with_item p i) items)
        → refused_at number o (check_from (number + 1) (with_item p i) items) ≡ Ok q → q ≡ with_items (with_item p i) items
    by_cause None h e = h e
    by_cause (Some why) h e = cc

pub checked_is : (items : List Item) (p : Plan) → check_of items ≡ Ok p → p ≡ with_items empty_plan items
checked_is items p e = checked_from_is 0 empty_plan items p e

pub checked_is_accepted : (items : List Item) (p : Plan) → check_of items ≡ Ok p → is_accepted items ≡ true
checked_is_accepted items p e = accepted_is_ok items ∙ ap is_ok e

accepted_plan_is_sound : (items : List Item) → is_accepted items ≡ true → is_sound (with_items empty_plan items) ≡ true
unfolding is_accepted
accepted_plan_is_sound items h = second (are_in_order items) (is_sound (with_items empty_plan items)) h
  where
    second : (a b : Bool) → (a && b) ≡ true → b ≡ true
    second a b h = grind arith

pub checked_is_sound : (items : List Item) (p : Plan) → check_of items ≡ Ok p → is_sound p ≡ true
checked_is_sound items p e = ap is_sound (checked_is items p e) ∙ accepted_plan_is_sound items (checked_is_accepted items p e)

pub accepted_makes : (items : List Item) → is_accepted items ≡ true → check_of items ≡ Ok (with_items empty_plan items)
accepted_makes items h = by_answer (check_of items) refl (sym (accepted_is_ok items) ∙ h)
  where
    by_answer : (r : Result Plan (ℕ × Why)) → check_of items ≡ r → is_ok r ≡ true → r ≡ Ok (with_items empty_plan items)
    by_answer (Ok p) e h = ap Ok (checked_is items p e)
    by_answer (Err why) e h = cc
