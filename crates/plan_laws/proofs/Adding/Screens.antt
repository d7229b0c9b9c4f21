-- One more screen.
use Rattle.std.specs.Prelude.{◌≡◌, ℕ, ◌+◌, nat_le, nat_lt, Bool, false, not, ◌&&◌, List, [], ◌∷◌, ◌++◌, length, None, is_none}
use Rattle.std.specs.List.{list_all, list_any}
use Rattle.std.specs.Str.{bytes_eq}
use Rattle.std.proofs.Common.{refl, sym, ap, arith, ◌∙◌}
use Rattle.std.proofs.Math.Bool.{and_assoc, not-not, and-true}
use Rattle.plane_spec.specs.declared.Point.{Point}
use Rattle.plane_spec.specs.Segments.{do_touch}
use Rattle.plan_spec.specs.declared.item.Screen.{Screen}
use Rattle.plan_spec.specs.declared.item.Item.TheVariants.{Screen as ScreenItem}
use Rattle.plan_spec.specs.declared.limits.TheConstants.{MAX_SCREENS, MAX_CORNERS}
use Rattle.plan_spec.specs.Plan.{Plan, screen, with_screens, with_item, has_outer, corner_count, is_screen_named}
use Rattle.plan_spec.specs.Accepted.{is_proper_segment, segment_lies_within, segment_meets_polygon, screens_apart, are_obstacles_sound, are_screens_sound, are_routes_sound, is_sound}
use Rattle.plan_spec.specs.Refusals.{why_not_screen}
use Rattle.list_laws.proofs.Conditions.{and_left_comm}
use Rattle.list_laws.proofs.Tests.{list_all_push, list_all_and, list_all_not}
use Rattle.plan_laws.proofs.Pairs.{each_two_push}
use Rattle.plan_laws.proofs.Adding.Causes.{none_refuses, none_when, none_of_line, none_of_line_in, outer_test_drops}
use Rattle.plan_laws.proofs.Adding.Limits.{limits_with_screen}

-- each screen stands apart from a new one where it touches none of them and has a name of its own
apart_from_each : (screens : List Screen) (name : List ℕ) (from to : Point)
    → list_all (λ s. screens_apart s (screen name from to)) screens
    ≡ (not (list_any (λ s. do_touch s.from s.to from to) screens) && not (list_any (is_screen_named name) screens))
apart_from_each screens name from to =
    simp (list_all_and (λ s. not (do_touch s.from s.to from to)) (λ s. not (bytes_eq s.name name)) screens, list_all_not (λ s. do_touch s.from s.to from to) screens, list_all_not (is_screen_named name) screens)

screen_tests_last : (l l' c c' e m n : Bool) → ((l && l') && ((c && c') && (e && (m && n)))) ≡ ((l && (c && e)) && (l' && (c' && (m && n))))
screen_tests_last l l' c c' e m n = simp (and_assoc, and_left_comm)

pub screens_with_screen : (p : Plan) (name : List ℕ) (from to : Point)
    → are_screens_sound (with_screens p (p.screens ++ screen name from to ∷ []))
    ≡ (are_screens_sound p && ((is_proper_segment from to && segment_lies_within p.outer from to)
    && (not (list_any (λ o. segment_meets_polygon from to o.points) p.obstacles)
    && (not (list_any (λ s. do_touch s.from s.to from to) p.screens) && not (list_any (is_screen_named name) p.screens)))))
unfolding are_screens_sound
screens_with_screen p name from to =
    rw (
      list_all_push (λ s. is_proper_segment s.from s.to && segment_lies_within p.outer s.from s.to) p.screens (screen name from to),
      list_all_push (λ s. not (list_any (λ o. segment_meets_polygon s.from s.to o.points) p.obstacles)) p.screens (screen name from to),
      each_two_push screens_apart p.screens (screen name from to),
      apart_from_each p.screens name from to,
      screen_tests_last,
    )

-- the obstacles and the routes aren't compared with screens
pub obstacles_with_screens : (p : Plan) (name : List ℕ) (from to : Point)
    → are_obstacles_sound (with_screens p (p.screens ++ screen name from to ∷ [])) ≡ are_obstacles_sound p
unfolding are_obstacles_sound
obstacles_with_screens p name from to = refl

pub routes_with_screens : (p : Plan) (name : List ℕ) (from to : Point)
    → are_routes_sound (with_screens p (p.screens ++ screen name from to ∷ [])) ≡ are_routes_sound p
unfolding are_routes_sound
routes_with_screens p name from to = refl

-- the new screen passes each test for which it might be refused
pub fits_as_screen : (p : Plan) (name : List ℕ) (from to : Point)
    → is_none (why_not_screen p name from to)
    ≡ (has_outer p && (is_proper_segment from to && (segment_lies_within p.outer from to
    && (not (list_any (λ o. segment_meets_polygon from to o.points) p.obstacles) && (not (list_any (λ s. do_touch s.from s.to from to) p.screens)
    && (not (list_any (is_screen_named name) p.screens)
    && (not (nat_le MAX_SCREENS (length p.screens)) && not (nat_lt MAX_CORNERS (corner_count p + 2)))))))))
unfolding why_not_screen
fits_as_screen p name from to =
    rw none_refuses (simp (none_when, none_of_line, none_of_line_in, not-not, and_assoc, and-true))

-- a screen that isn't refused has a name of its own
pub new_screen : (p : Plan) (name : List ℕ) (from to : Point)
    → why_not_screen p name from to ≡ None → list_any (is_screen_named name) p.screens ≡ false
new_screen p name from to none =
    let fits = sym (fits_as_screen p name from to) ∙ ap is_none none in
    grind arith

new_tests_last : (a o s r w l i m t n f c : Bool)
    → (a && ((o && (s && ((l && i) && (m && (t && n))))) && (r && (w && (f && c)))))
    ≡ ((a && ((o && s) && (r && w))) && (l && (i && (m && (t && (n && (f && c)))))))
new_tests_last a o s r w l i m t n f c = simp (and_assoc, and_left_comm)

-- a plan with one more screen is sound where the plan is and the screen isn't refused
pub sound_with_screen : (p : Plan) (name : List ℕ) (from to : Point)
    → is_sound (with_item p (ScreenItem name from to)) ≡ (is_sound p && is_none (why_not_screen p name from to))
unfolding is_sound with_item
sound_with_screen p name from to =
    rw (fits_as_screen p name from to, outer_test_drops, obstacles_with_screens p name from to, screens_with_screen p name from to, routes_with_screens p name from to, limits_with_screen p name from to, new_tests_last)
