-- Which sector tells of a place, and what a view answers by it.
use Rattle.std.proofs.Common.{◌≡◌, ℕ, ◌+◌, ◌<◌, ◌≤◌, ◌∙◌, [], ◌∷◌, ap, List, refl, arith, length, get_or, suc, zero}
use Rattle.std.proofs.Common.{sym, subst}
use Rattle.std.specs.Option.{option_map}
use Rattle.std.specs.Prelude.{if◌then◌else◌, ◌==◌, cond, Option, false, true}
use Rattle.plane_spec.specs.Fractions.{reduced}
use Rattle.plane_spec.specs.Vectors.{vector, same_point, IsDirection, IsDirected}
use Rattle.plane_spec.specs.declared.Point.{Point}
use Rattle.sight_spec.specs.Scene.{Scene}
use Rattle.sight_spec.specs.Sight.{are_in_sight}
use Rattle.sight_spec.specs.Stops.{near_wall_of, stop_of}
use Rattle.front_laws.proofs.Tests.{number_less_tested, number_not_less}
use Rattle.view_laws.proofs.Answers.{sight_of_radial, near_wall_of_radial}
use Rattle.view_laws.proofs.Stops.{stop_of_radial}
use Rattle.view_laws.specs.Views.{radial_between, radial_on, radial_by, AreInOrder, radial_at, is_in_arc, radial_of}
use Rattle.view_laws.specs.Views.{is_led_into, IsViewOf, is_seen_by, number_by, stop_by}
use Rattle.view_laws.specs.declared.view.Arc.{Arc}
use Rattle.view_laws.specs.declared.view.Front.{Front}
use Rattle.view_laws.specs.declared.view.Sector.{Sector}
use Rattle.view_laws.specs.declared.view.View.{View}

-- ---- sectors

radial_below : (before : Option Front) (s : Sector) (rest : List Sector) (place : ℕ) → place < s.place
    → radial_by before (s ∷ rest) place ≡ radial_between before
unfolding radial_by
radial_below before s rest place h = ap (λ t. cond t (radial_between before)
    (cond (place == s.place) (radial_on s) (radial_by s.after rest place))) (number_less_tested place s.place h)

same_radial : (before : Option Front) (s : Sector) (rest : List Sector) (place : ℕ) → s.place ≤ place
    → radial_by before (s ∷ rest) place ≡ (if place == s.place then radial_on s else radial_by s.after rest place)
unfolding radial_by
same_radial before s rest place h = ap (λ t. cond t (radial_between before)
    (cond (place == s.place) (radial_on s) (radial_by s.after rest place))) (number_not_less place s.place h)

radial_none : (before : Option Front) (place : ℕ) → radial_by before [] place ≡ radial_between before
unfolding radial_by
radial_none before place = refl

-- before the first sector
pub radial_before : (before : Option Front) (sectors : List Sector) (place : ℕ) (e : Sector)
    → (0 < length sectors → place < (get_or sectors 0 e).place) → radial_by before sectors place ≡ radial_between before
radial_before before [] place e h = radial_none before place
radial_before before (s ∷ rest) place e h = radial_below before s rest place (h (omega arith))

rest_ordered : (s : Sector) (rest : List Sector) → AreInOrder (s ∷ rest) → AreInOrder rest
rest_ordered s rest order = λ i j e lt within. order (suc i) (suc j) e (omega arith) (omega arith)

radial_at_suc : (before : Option Front) (sectors : List Sector) (k place : ℕ) (e : Sector) → AreInOrder sectors
    → k < length sectors → (get_or sectors k e).place ≤ place
    → (suc k < length sectors → place < (get_or sectors (suc k) e).place) → radial_by before sectors place
    ≡ radial_at (get_or sectors k e) place
radial_at_suc before [] k place e order within low high = absurd (omega arith)
radial_at_suc before (s ∷ rest) zero place e order within low high =
    same_radial before s rest place low
    ∙ ap (λ t. cond (place == s.place) (radial_on s) t)
    (radial_before s.after rest place e (λ h. high (omega arith)))
radial_at_suc before (s ∷ rest) (suc k) place e order within low high =
    let below = order 0 (suc k) e (omega arith) within in
    same_radial before s rest place (chain s.place (get_or rest k e).place place below low)
    ∙ ap (λ t. cond t (radial_on s) (radial_by s.after rest place))
    (unlike s.place (get_or rest k e).place place below low)
    ∙ radial_at_suc s.after rest k place e (rest_ordered s rest order) (omega arith) low (λ h. high (omega arith))
  where
    chain : (a b c : ℕ) → a < b → b ≤ c → a ≤ c
    chain a b c h k = omega (arith, h, k)

    unlike : (a b c : ℕ) → a < b → b ≤ c → (c == a) ≡ false
    unlike a b c h k = no c a (λ e. omega (arith, h, k, e))
      where
        no : (c a : ℕ) → (c ≡ a → ⊥) → (c == a) ≡ false
        no c a f = grind arith

-- from a sector's place up to the next it is what the sector tells
pub radial_from : (before : Option Front) (sectors : List Sector) (k place : ℕ) (e : Sector) → AreInOrder sectors
    → k < length sectors → (get_or sectors k e).place ≤ place
    → (k + 1 < length sectors → place < (get_or sectors (k + 1) e).place) → radial_by before sectors place
    ≡ radial_at (get_or sectors k e) place
radial_from before sectors k place e order within low high =
    radial_at_suc before sectors k place e order within low
    (λ h. subst (λ n. place < (get_or sectors n e).place) (sym (one k))
    (high (subst (λ n. n < length sectors) (one k) h)))
  where
    one : (k : ℕ) → suc k ≡ k + 1
    one k = omega arith

-- ---- views

pub sight_by_view : (scene : Scene) (p q : Point) (arc : Arc) (view : View) → IsViewOf scene p arc view
    → same_point p q ≡ false → IsDirection (vector p q) → IsDirected (vector p q) → is_in_arc arc (vector p q) ≡ true
    → are_in_sight scene p q ≡ is_seen_by (is_led_into view.ground (vector p q)) (radial_of view (vector p q))
    (vector p q)
sight_by_view scene p q arc view v differ direction directed within =
    sight_of_radial scene p q (radial_of view (vector p q)) (is_led_into view.ground (vector p q)) differ directed
    (v.ground (vector p q) direction directed) (v.tells (vector p q) direction directed within)

pub near_wall_by_view : (scene : Scene) (p d : Point) (arc : Arc) (view : View) → IsViewOf scene p arc view
    → IsDirection d → IsDirected d → is_in_arc arc d ≡ true
    → near_wall_of scene p d ≡ number_by (radial_of view d).front
near_wall_by_view scene p d arc view v direction directed within = near_wall_of_radial scene p d (radial_of view d)
    (v.tells d direction directed within)

pub stop_by_view : (scene : Scene) (p d : Point) (arc : Arc) (view : View) → IsViewOf scene p arc view → IsDirection d
    → IsDirected d → is_in_arc arc d ≡ true
    → stop_of scene p d ≡ option_map reduced (stop_by (is_led_into view.ground d) (radial_of view d) d)
stop_by_view scene p d arc view v direction directed within =
    stop_of_radial scene p d (radial_of view d) (is_led_into view.ground d) directed (v.ground d direction directed)
    (v.tells d direction directed within)
