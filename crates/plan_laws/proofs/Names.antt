-- The one obstacle, or screen, of a name in a sound plan.
use Rattle.std.specs.Prelude.{◌≡◌, ℕ, true, false, not, List}
use Rattle.std.specs.List.{list_any}
use Rattle.std.specs.Str.{bytes_eq}
use Rattle.std.proofs.Common.{sym, ◌∙◌}
use Rattle.std.proofs.lemmas.Bool.{and_parts, not-true, false_from_ne_true, both_ways}
use Rattle.std.proofs.lemmas.Slice.Eq.{bytes_eq-Decides}
use Rattle.plane_spec.specs.Segments.{do_touch}
use Rattle.plan_spec.specs.declared.item.Screen.{Screen}
use Rattle.plan_spec.specs.Plan.{Obstacle, Plan, is_obstacle_named, is_screen_named}
use Rattle.plan_spec.specs.Accepted.{polygons_meet, obstacles_apart, screens_apart, is_sound}
use Rattle.list_laws.proofs.Single.{Single, single}
use Rattle.plan_laws.proofs.Parts.{parts_of_sound, parts_of_obstacles, parts_of_screens}

-- two names that differ aren't both the third
not_both_named : (first second name : List ℕ) → bytes_eq first second ≡ false → bytes_eq first name ≡ true
    → bytes_eq second name ≡ false
not_both_named first second name differ here =
    false_from_ne_true (bytes_eq second name)
    (λ there. both_ways (bytes_eq first second) differ
    ((bytes_eq-Decides first second).1
    ((bytes_eq-Decides first name).0 here ∙ sym ((bytes_eq-Decides second name).0 there))))

-- an obstacle of a name is the only one in a sound plan
pub obstacle_alone : (plan : Plan) (name : List ℕ) → is_sound plan ≡ true
    → list_any (is_obstacle_named name) plan.obstacles ≡ true → Single (is_obstacle_named name) plan.obstacles
obstacle_alone plan name sound there =
    single (is_obstacle_named name) obstacles_apart only plan.obstacles
    (parts_of_obstacles plan (parts_of_sound plan sound).obstacles).apart there
  where
    only : (o q : Obstacle) → obstacles_apart o q ≡ true → is_obstacle_named name o ≡ true
        → is_obstacle_named name q ≡ false
    only o q e here =
        not_both_named o.name q.name name
        (not-true (bytes_eq o.name q.name)
        (and_parts (not (polygons_meet o.points q.points)) (not (bytes_eq o.name q.name)) e).1) here

-- and so is a screen
pub screen_alone : (plan : Plan) (name : List ℕ) → is_sound plan ≡ true
    → list_any (is_screen_named name) plan.screens ≡ true → Single (is_screen_named name) plan.screens
screen_alone plan name sound there =
    single (is_screen_named name) screens_apart only plan.screens
    (parts_of_screens plan (parts_of_sound plan sound).screens).apart there
  where
    only : (s t : Screen) → screens_apart s t ≡ true → is_screen_named name s ≡ true
        → is_screen_named name t ≡ false
    only s t e here =
        not_both_named s.name t.name name
        (not-true (bytes_eq s.name t.name)
        (and_parts (not (do_touch s.from s.to t.from t.to)) (not (bytes_eq s.name t.name)) e).1) here
