-- A group of corners that is passed: what the list holds within it and after it, and what is told.
use Rattle.std.proofs.Common.{◌≡◌, ◌≢◌, ℕ, zero, suc, ◌+◌, ◌<◌, ◌≤◌, ◌==◌, ℤ, pos, ◌<ℤ◌, arith, ap, refl, sym, ◌∙◌}
use Rattle.std.proofs.Common.{subst, List, [], ◌∷◌, ◌++◌, length, get_or, map}
use Rattle.std.specs.Prelude.{Bool, true, false, cond, ◌&&◌, ◌||◌, not, nat_lt, Option, Some, None, All}
use Rattle.std.specs.List.{list_any}
use Rattle.std.specs.Option.{option_map}
use Rattle.std.specs.Prelude.{int_lt, neg_ℤ}
use Rattle.std.specs.Ordering.{int_eq}
use Rattle.std.proofs.lemmas.Int.{ints}
use Rattle.std.proofs.lemmas.List.Elements.{All-push}
use Rattle.plane_spec.specs.declared.Point.{Point}
use Rattle.plane_spec.specs.declared.Corner.{Corner}
use Rattle.plane_spec.specs.Vectors.{vector, cross_of, dot_of, same_point, IsDirection, IsDirected, reversed_direction}
use Rattle.sight_spec.specs.Scene.{Scene, blockers_of_scene}
use Rattle.front_laws.specs.Seen.{Seen, seen_at}
use Rattle.front_laws.proofs.Tests.{by_cases, tested_same_number, own_number, both_of, both_true}
use Rattle.front_laws.proofs.Tests.{either_first, either_second, some_same}
use Rattle.front_laws.proofs.Lists.{some_of}
use Rattle.turn_laws.specs.Places.{place_of}
use Rattle.turn_laws.specs.Turns.{just_after}
use Rattle.apart_laws.proofs.Plans.{points_same}
use Rattle.sweep_laws.specs.First.{IsFirst}
use Rattle.sweep_laws.specs.Groups.{no_corner, stands_in, is_ahead, is_behind}
use Rattle.sweep_laws.proofs.Grouped.{stands_where}
use Rattle.view_laws.specs.declared.view.Arc.{Arc}
use Rattle.view_laws.specs.declared.view.Front.{Front}
use Rattle.view_laws.specs.declared.view.Sector.{Sector}
use Rattle.view_laws.specs.Views.{is_in_arc, front_of, length_of, is_up_to_end_of, is_past_first, IsSoFarOrNone, IsReached, number_by}
use Rattle.view_laws.specs.Views.{IsAlong}
use Rattle.view_laws.proofs.Answers.{ahead_along, behind_along}
use Rattle.round_laws.specs.Rounds.{is_open_at, is_spanned_at, from_place, to_place, first_held}
use Rattle.round_laws.specs.Rounds.{AreWalls, AreHidden, HoldsAt}
use Rattle.round_laws.specs.Kept.{ArePast}
use Rattle.round_laws.proofs.Without.{first_without, behind_first}
use Rattle.round_laws.proofs.Steps.{spanned_of_open, open_of_spanned, differ, first_at}
use Rattle.round_laws.proofs.Placing.{cone_along, cone_back, spans_goes_on, spans_begun}
use Rattle.round_laws.proofs.Endings.{along_some}
use Rattle.round_laws.proofs.Sectors.{sector_added, no_sector_added}
use Rattle.sight_sweep.specs.declared.blocker.Blocker.{Blocker}
use Rattle.sight_sweep.specs.Actives.{seen, front, numbered, first_of, IsOf, IsActive, SpansAll}
use Rattle.sight_sweep.specs.Ways.{IsToCorner}
use Rattle.sight_sweep.specs.Events.{way_at, corner_of, place_at}
use Rattle.sight_sweep.specs.Rounds.{is_held_at, IsUnderway, ends_among, begins_among, IsGroup, leads_ahead}
use Rattle.sight_sweep.specs.Rounds.{leads_behind, far_of, lesser_of, least_from, is_past}
use Rattle.sight_sweep.specs.LeftOut.{AreLeftOut}
use Rattle.sight_sweep.specs.Stations.{IsStation}
use Rattle.sight_sweep.proofs.Actives.{active_so}

-- ---- which walls end and begin at the place

is_same : (a b : Bool) → (a ≡ true → b ≡ true) → (b ≡ true → a ≡ true) → a ≡ b
is_same true true f g = refl
is_same true false f g = sym (f refl)
is_same false true f g = g refl
is_same false false f g = refl

same_number_is : (m n : ℕ) → m ≡ n → (m == n) ≡ true
same_number_is m n e = subst (λ k. (m == k) ≡ true) e (own_number m)

-- a direction that leads to an event's corner has the group's place
place_of_event : (scene : Scene) (p v : Point) (arc : Arc) (kept shown : ℕ → Bool) (place : ℕ) (group : List ℕ)
    → IsGroup scene p arc kept shown place group
    → list_any (λ e. same_point v (way_at p scene.corners (corner_of e))) group ≡ true → place_of v ≡ place
place_of_event scene p v arc kept shown place group g h =
    let s = some_of (λ e. same_point v (way_at p scene.corners (corner_of e))) group 0 h in
    ap place_of (points_same v (way_at p scene.corners (corner_of (get_or group s.place 0))) s.holds)
    ∙ sym (g.each s.place 0 s.within).place ∙ g.places s.place 0 s.within

ends_where : (scene : Scene) (p : Point) (arc : Arc) (kept shown : ℕ → Bool) (place : ℕ) (group : List ℕ) (n : ℕ)
    (s : Seen)
    → IsGroup scene p arc kept shown place group → n < length (blockers_of_scene scene) → kept n ≡ true
    → seen_at p (blockers_of_scene scene) n ≡ Some s → ends_among p scene.corners group s ≡ (to_place s == place)
ends_where scene p arc kept shown place group n s g within own is = is_same (ends_among p scene.corners group s)
    (to_place s == place)
    (λ h. same_number_is (to_place s) place (place_of_event scene p s.to arc kept shown place group g h))
    (λ h. g.ends n s within own is (tested_same_number (to_place s) place h))

begins_where : (scene : Scene) (p : Point) (arc : Arc) (kept shown : ℕ → Bool) (place : ℕ) (group : List ℕ) (n : ℕ)
    (s : Seen)
    → IsGroup scene p arc kept shown place group → n < length (blockers_of_scene scene) → kept n ≡ true
    → seen_at p (blockers_of_scene scene) n ≡ Some s → begins_among p scene.corners group s ≡ (from_place s == place)
begins_where scene p arc kept shown place group n s g within own is = is_same (begins_among p scene.corners group s)
    (from_place s == place)
    (λ h. same_number_is (from_place s) place (place_of_event scene p s.from arc kept shown place group g h))
    (λ h. g.begins n s within own is (tested_same_number (from_place s) place h))

-- once all that end there are out, the list holds what is spanned there
pub held_within : (scene : Scene) (p : Point) (arc : Arc) (kept shown : ℕ → Bool) (start place : ℕ) (group : List ℕ)
    (active : List Blocker)
    → AreWalls scene p → IsGroup scene p arc kept shown place group
    → IsActive scene p kept (λ n s. is_held_at start (from_place s) (to_place s) place
    && not (ends_among p scene.corners group s)) active
    → IsActive scene p kept (λ n s. is_spanned_at (from_place s) (to_place s) place) active
held_within scene p arc kept shown start place group active walls g a =
    active_so scene p kept (λ n s. is_held_at start (from_place s) (to_place s) place
    && not (ends_among p scene.corners group s)) (λ n s. is_spanned_at (from_place s) (to_place s) place) active a
    (λ n s within own is.
    ap (λ t. is_held_at start (from_place s) (to_place s) place && not t)
    (ends_where scene p arc kept shown place group n s g within own is)
    ∙ by_end (is_open_at (from_place s) (to_place s) place) (to_place s == start) (place == start)
    (to_place s == place) (λ h k. at_start (to_place s) start place h k)
    ∙ sym (spanned_of_open (from_place s) (to_place s) place (differ s (walls.blockers n s within is))))
  where
    at_start : (t start place : ℕ) → (t == start) ≡ true → (place == start) ≡ true → (t == place) ≡ true
    at_start t start place h k = same_number_is t place
        (tested_same_number t start h ∙ sym (tested_same_number place start k))

    by_end : (o t q e : Bool) → (t ≡ true → q ≡ true → e ≡ true) → ((o && not (t && q)) && not e) ≡ (o && not e)
    by_end true true true e f = ap not (sym (f refl refl))
    by_end true true false e f = refl
    by_end true false q e f = refl
    by_end false t q e f = refl

-- once all that begin there are in, it holds what is open just after
pub held_next : (scene : Scene) (p : Point) (arc : Arc) (kept shown : ℕ → Bool) (start place : ℕ) (group : List ℕ)
    (active : List Blocker)
    → AreWalls scene p → IsGroup scene p arc kept shown place group
    → IsActive scene p kept (λ n s. is_spanned_at (from_place s) (to_place s) place
    || begins_among p scene.corners group s) active
    → IsActive scene p kept (λ n s. is_open_at (from_place s) (to_place s) (place + 1)) active
held_next scene p arc kept shown start place group active walls g a =
    active_so scene p kept (λ n s. is_spanned_at (from_place s) (to_place s) place
    || begins_among p scene.corners group s) (λ n s. is_open_at (from_place s) (to_place s) (place + 1)) active a
    (λ n s within own is.
    ap (λ t. is_spanned_at (from_place s) (to_place s) place || t)
    (begins_where scene p arc kept shown place group n s g within own is)
    ∙ sym (open_of_spanned (from_place s) (to_place s) place (differ s (walls.blockers n s within is))))

-- after the start what is open is held
pub held_as_open : (scene : Scene) (p : Point) (kept : ℕ → Bool) (start place : ℕ) (active : List Blocker)
    → place ≢ start
    → IsActive scene p kept (λ n s. is_open_at (from_place s) (to_place s) place) active
    → IsActive scene p kept (λ n s. is_held_at start (from_place s) (to_place s) place) active
held_as_open scene p kept start place active other a =
    active_so scene p kept (λ n s. is_open_at (from_place s) (to_place s) place)
    (λ n s. is_held_at start (from_place s) (to_place s) place) active a
    (λ n s within own is. away (is_open_at (from_place s) (to_place s) place) (to_place s == start) (place == start)
    (unlike place start other))
  where
    unlike : (m n : ℕ) → m ≢ n → (m == n) ≡ false
    unlike m n f = by_cases (m == n) (λ h. absurd (f (tested_same_number m n h))) (λ h. h)

    away : (o t q : Bool) → q ≡ false → o ≡ (o && not (t && q))
    away o t q h = grind arith

-- ---- one direction spans all of them just after the place

pub spanned_next : (scene : Scene) (p v : Point) (kept : ℕ → Bool) (place : ℕ) → AreWalls scene p → IsDirection v
    → IsDirected v → place_of v ≡ place
    → SpansAll scene p kept (λ n s. is_spanned_at (from_place s) (to_place s) place) (just_after v)
spanned_next scene p v kept place walls v_in v_some e n s within own is h =
    spans_goes_on v s v_in v_some (walls.blockers n s within is)
    (subst (λ m. is_spanned_at (from_place s) (to_place s) m ≡ true) (sym e) h)

pub begun_next : (scene : Scene) (p v : Point) (arc : Arc) (kept shown : ℕ → Bool) (place : ℕ) (group : List ℕ)
    → AreWalls scene p
    → IsGroup scene p arc kept shown place group → IsDirection v → IsDirected v → place_of v ≡ place
    → SpansAll scene p kept (λ n s. begins_among p scene.corners group s) (just_after v)
begun_next scene p v arc kept shown place group walls g v_in v_some e n s within own is h =
    spans_begun v s v_in v_some (walls.blockers n s within is)
    (place_of_event scene p s.from arc kept shown place group g h ∙ sym e)

-- ---- the least length

kept_by : (P : Option ℕ → Type 0) (b : Bool) (least : Option ℕ) (far : ℕ) → P least → (b ≡ true → P (Some far))
    → P (cond b (lesser_of least far) least)
kept_by P true None far old new = new refl
kept_by P true (Some x) far old new = either_of (nat_lt far x)
  where
    either_of : (c : Bool) → P (Some (cond c far x))
    either_of true = new refl
    either_of false = old
kept_by P false least far old new = old

pub least_keeps : (P : Option ℕ → Type 0) (test : ℕ → Bool) (far : ℕ → ℕ) (least : Option ℕ) (events : List ℕ) → P least
    → ((i : ℕ) → i < length events → test (get_or events i 0) ≡ true → P (Some (far (get_or events i 0))))
    → P (least_from test far least events)
unfolding least_from
least_keeps P test far least [] old new = old
least_keeps P test far least (e ∷ rest) old new =
    least_keeps P test far (cond (test e) (lesser_of least (far e)) least) rest
    (kept_by P (test e) least (far e) old (new 0 (omega arith))) (λ i lt h. new (suc i) (omega arith) h)

-- there is a length, which isn't more than n
abbrev pub is_up_to : Option ℕ → ℕ → Bool
is_up_to None n = false
is_up_to (Some x) n = not (nat_lt n x)

up_to_lesser : (b : Bool) (least : Option ℕ) (far n : ℕ) → is_up_to least n ≡ true
    → is_up_to (cond b (lesser_of least far) least) n ≡ true
up_to_lesser true None far n h = absurd (grind arith)
up_to_lesser true (Some x) far n h = by_cases (nat_lt far x)
    (λ k. ap (λ t. not (nat_lt n (cond t far x))) k ∙ chain n far x k h)
    (λ k. ap (λ t. not (nat_lt n (cond t far x))) k ∙ h)
  where
    chain : (n far x : ℕ) → nat_lt far x ≡ true → not (nat_lt n x) ≡ true → not (nat_lt n far) ≡ true
    chain n far x h k = grind arith
up_to_lesser false least far n h = h

up_to_own : (least : Option ℕ) (far : ℕ) → is_up_to (lesser_of least far) far ≡ true
up_to_own None far = grind arith
up_to_own (Some x) far = by_cases (nat_lt far x)
    (λ k. ap (λ t. not (nat_lt far (cond t far x))) k ∙ own far)
    (λ k. ap (λ t. not (nat_lt far (cond t far x))) k ∙ ap not k)
  where
    own : (n : ℕ) → not (nat_lt n n) ≡ true
    own n = grind arith

least_stays : (test : ℕ → Bool) (far : ℕ → ℕ) (least : Option ℕ) (events : List ℕ) (n : ℕ) → is_up_to least n ≡ true
    → is_up_to (least_from test far least events) n ≡ true
unfolding least_from
least_stays test far least [] n h = h
least_stays test far least (e ∷ rest) n h = least_stays test far
    (cond (test e) (lesser_of least (far e)) least) rest n (up_to_lesser (test e) least (far e) n h)

pub least_all : (test : ℕ → Bool) (far : ℕ → ℕ) (least : Option ℕ) (events : List ℕ) (i : ℕ) → i < length events
    → test (get_or events i 0) ≡ true
    → is_up_to (least_from test far least events) (far (get_or events i 0)) ≡ true
unfolding least_from
least_all test far least [] i lt h = absurd (omega arith)
least_all test far least (e ∷ rest) zero lt h =
    least_stays test far (cond (test e) (lesser_of least (far e)) least) rest (far e)
    (subst (λ t. is_up_to (cond t (lesser_of least (far e)) least) (far e) ≡ true) (sym h) (up_to_own least (far e)))
least_all test far least (e ∷ rest) (suc i) lt h = least_all test far
    (cond (test e) (lesser_of least (far e)) least) rest i (omega arith) h

-- ---- corners of the direction

-- a corner that isn't shown is behind what is first
pub untold_past : (scene : Scene) (p d : Point) (shown : ℕ → Bool) (first : Option (ℕ × Seen)) (j : ℕ)
    → IsFirst scene p d first → IsDirected d → ArePast scene p d shown → j < length scene.corners → shown j ≡ false
    → stands_in p d (get_or scene.corners j no_corner).here ≡ true → IsAlong d (way_at p scene.corners j)
    → is_past_first first (way_at p scene.corners j) ≡ true
untold_past scene p d shown first j is d_some past lt out stands along =
    let c = past j lt out stands in
    behind_first scene p d (way_at p scene.corners j) first c.number c.cover is d_some along c.within c.seen c.spanned
    c.past

-- so all corners of the direction are behind the first, if those are that are shown
pub hidden_if_shown : (scene : Scene) (p d : Point) (shown : ℕ → Bool) (first : Option (ℕ × Seen))
    → IsFirst scene p d first → IsDirected d → ArePast scene p d shown
    → ((j : ℕ) → j < length scene.corners → shown j ≡ true
    → stands_in p d (get_or scene.corners j no_corner).here ≡ true → IsDirected (way_at p scene.corners j)
    → is_past_first first (way_at p scene.corners j) ≡ true)
    → AreHidden scene p d first
hidden_if_shown scene p d shown first is d_some past told = record {
  ahead = λ j lt h. each j lt (both_of _ _ h).0 (ahead_along p d (get_or scene.corners j no_corner) h);
  behind = λ j lt h. each j lt (both_of _ _ h).0 (behind_along p d (get_or scene.corners j no_corner) h);
}
  where
    each : (j : ℕ) → j < length scene.corners → stands_in p d (get_or scene.corners j no_corner).here ≡ true
        → IsAlong d (way_at p scene.corners j) → is_past_first first (way_at p scene.corners j) ≡ true
    each j lt stands along = by_cases (shown j)
        (λ own. told j lt own stands (along_some d (way_at p scene.corners j) along))
        (λ out. untold_past scene p d shown first j is d_some past lt out stands along)

-- what the list has first in the group's direction is the first of all
pub first_of_all : (scene : Scene) (p d : Point) (arc : Arc) (kept shown : ℕ → Bool) (place : ℕ) (at : List Blocker)
    → AreWalls scene p → AreLeftOut scene p arc kept shown → IsDirection d → IsDirected d → is_in_arc arc d ≡ true
    → place_of d ≡ place → IsActive scene p kept (λ n s. is_spanned_at (from_place s) (to_place s) place) at
    → IsFirst scene p d (first_held (map numbered at))
first_of_all scene p d arc kept shown place at walls left d_in d_some within e held =
    first_without scene p d kept (first_held (map numbered at))
    (first_at p d (blockers_of_scene scene) kept (map numbered at) d_in d_some walls.blockers (walls.apart d)
    (subst (λ n. HoldsAt p (blockers_of_scene scene) kept n (map numbered at)) (sym e) held.held))
    (left.covered d d_in d_some within)

-- a corner in the direction is one of the group
in_group : (scene : Scene) (p d : Point) (arc : Arc) (kept shown : ℕ → Bool) (place : ℕ) (group : List ℕ) (j : ℕ)
    → IsGroup scene p arc kept shown place group → IsDirection d → IsDirected d → place_of d ≡ place
    → ((k : ℕ) → k < length scene.corners → IsDirection (way_at p scene.corners k)) → j < length scene.corners
    → shown j ≡ true → stands_in p d (get_or scene.corners j no_corner).here ≡ true
    → IsDirected (way_at p scene.corners j) → list_any (λ e. corner_of e == j) group ≡ true
in_group scene p d arc kept shown place group j g d_in d_some e ways lt own stands some =
    g.corners j lt own some (sym (tested_same_number (place_of d) (place_of (way_at p scene.corners j))
    (sym (stands_where p d (get_or scene.corners j no_corner).here d_in d_some (ways j lt) some) ∙ stands)) ∙ e)

-- what the events of a group say of its corners
pub record Kind (p d : Point) (corners : List Corner) (test : Corner → Bool) (leads : ℕ → Bool) : Type 0 where
  pub stands : (j : ℕ) → test (get_or corners j no_corner) ≡ true → stands_in p d (get_or corners j no_corner).here
      ≡ true
  pub along : (j : ℕ) → test (get_or corners j no_corner) ≡ true → IsAlong d (way_at p corners j)
  pub led : (e : ℕ) → test (get_or corners (corner_of e) no_corner) ≡ true → leads e ≡ true
  pub passes : (e : ℕ) → leads e ≡ true → stands_in p d (get_or corners (corner_of e) no_corner).here ≡ true
      → test (get_or corners (corner_of e) no_corner) ≡ true

pub along_of : (p d x : Point) → stands_in p d x ≡ true → IsAlong d (vector p x)
along_of p d x h =
    let two = both_of _ _ h in
    record { line = zero_of (cross_of d (vector p x)) two.0; ahead = up_of (dot_of d (vector p x)) two.1 }
  where
    zero_of : (z : ℤ) → int_eq z (pos 0) ≡ true → z ≡ pos 0
    zero_of z h = grind (arith, ints)

    up_of : (z : ℤ) → int_lt (pos 0) z ≡ true → pos 0 <ℤ z
    up_of z h = omega (arith, ints, h)

ahead_kind : (p d : Point) (corners : List Corner) → IsDirected d
    → Kind p d corners (is_ahead p d) (leads_ahead p corners)
ahead_kind p d corners some = record {
  stands = λ j h. (both_of _ _ h).0;
  along = λ j h. ahead_along p d (get_or corners j no_corner) h;
  led = λ e h. cone_along (get_or corners (corner_of e) no_corner) d (way_at p corners (corner_of e)) some
      (ahead_along p d (get_or corners (corner_of e) no_corner) h) ∙ (both_of _ _ h).1;
  passes = λ e h s. both_true _ _ s
      (sym (cone_along (get_or corners (corner_of e) no_corner) d (way_at p corners (corner_of e)) some
      (along_of p d (get_or corners (corner_of e) no_corner).here s)) ∙ h);
}

back_some : (d : Point) → IsDirected d → IsDirected (reversed_direction d)
back_some d some = record { somewhere = turned d.x d.y some.somewhere }
  where
    turned : (x y : ℤ) → (int_eq x (pos 0) && int_eq y (pos 0)) ≡ false
        → (int_eq (neg_ℤ x) (pos 0) && int_eq (neg_ℤ y) (pos 0)) ≡ false
    turned x y h = grind (arith, ints)

behind_kind : (p d : Point) (corners : List Corner) → IsDirected d
    → Kind p d corners (is_behind p d) (leads_behind p corners)
behind_kind p d corners some = record {
  stands = λ j h. (both_of _ _ h).0;
  along = λ j h. behind_along p d (get_or corners j no_corner) h;
  led = λ e h. cone_back (get_or corners (corner_of e) no_corner) d (way_at p corners (corner_of e))
      (back_some d some) (behind_along p d (get_or corners (corner_of e) no_corner) h) ∙ (both_of _ _ h).1;
  passes = λ e h s. both_true _ _ s
      (sym (cone_back (get_or corners (corner_of e) no_corner) d (way_at p corners (corner_of e)) (back_some d some)
      (along_of p d (get_or corners (corner_of e) no_corner).here s)) ∙ h);
}

from_up_to : (told : Option ℕ) (v : Point) → is_up_to told (length_of v) ≡ true → is_up_to_end_of told v ≡ true
from_up_to None v h = h
from_up_to (Some far) v h = h

-- the least of the group is what is reached
pub group_reached : (scene : Scene) (p d : Point) (arc : Arc) (kept shown : ℕ → Bool) (place : ℕ) (group : List ℕ)
    (test : Corner → Bool) (leads : ℕ → Bool) (first : Option (ℕ × Seen))
    → IsGroup scene p arc kept shown place group → IsDirection d → IsDirected d → place_of d ≡ place
    → ((k : ℕ) → k < length scene.corners → IsDirection (way_at p scene.corners k))
    → IsFirst scene p d first → ArePast scene p d shown
    → Kind p d scene.corners test leads
    → IsReached p test scene.corners first (least_from leads (far_of p scene.corners) None group)
group_reached scene p d arc kept shown place group test leads first g d_in d_some e ways is past k = record {
  some = least_keeps (IsSoFarOrNone p test scene.corners) leads (far_of p scene.corners) None group refl
      (λ i lt h. let event = get_or group i 0 in let own = g.each i 0 lt in
      record {
        at = corner_of event;
        within = own.within;
        passes = k.passes event h (stands_where p d
            (get_or scene.corners (corner_of event) no_corner).here d_in d_some
            (ways (corner_of event) own.within) own.directed
            ∙ same_number_is (place_of d) (place_of (way_at p scene.corners (corner_of event)))
            (e ∙ sym (g.places i 0 lt) ∙ own.place));
        far_is = refl;
      });
  all = λ j lt h. by_cases (shown j)
      (λ own. told j lt h own)
      (λ out. either_second (is_up_to_end_of (least_from leads (far_of p scene.corners) None group) (way_at p scene.corners j))
      (is_past_first first (way_at p scene.corners j))
      (untold_past scene p d shown first j is d_some past lt out (k.stands j h) (k.along j h)));
}
  where
    told : (j : ℕ) → j < length scene.corners → test (get_or scene.corners j no_corner) ≡ true → shown j ≡ true
        → (is_up_to_end_of (least_from leads (far_of p scene.corners) None group) (way_at p scene.corners j)
        || is_past_first first (way_at p scene.corners j)) ≡ true
    told j lt h own =
        let found = some_of (λ event. corner_of event == j) group 0
        (in_group scene p d arc kept shown place group j g d_in d_some e ways lt own (k.stands j h)
        (along_some d (way_at p scene.corners j) (k.along j h))) in
        let event = get_or group found.place 0 in
        let same : corner_of event ≡ j = tested_same_number (corner_of event) j found.holds in
        let led : leads event ≡ true = k.led event
        (subst (λ n. test (get_or scene.corners n no_corner) ≡ true) (sym same) h) in
        either_first _ (is_past_first first (way_at p scene.corners j))
        (from_up_to (least_from leads (far_of p scene.corners) None group) (way_at p scene.corners j)
        (subst (λ n. is_up_to (least_from leads (far_of p scene.corners) None group)
        (length_of (way_at p scene.corners n)) ≡ true) same
        (least_all leads (far_of p scene.corners) None group found.place found.within led)))

-- ---- what is first

front_is : (scene : Scene) (p : Point) (b : Blocker) → IsOf scene p b → front b ≡ front_of scene p (numbered b)
front_is scene p b of =
    ap (λ t. record { edge = t; spread = b.spread; number = b.number; hides = b.hides }) b.edge_is
    ∙ ap (λ t. record { edge = vector b.from b.to; spread = t; number = b.number; hides = b.hides }) b.spread_is
    ∙ ap (λ t. record { edge = vector b.from b.to; spread = cross_of b.from b.to; number = b.number; hides = t })
    of.hides

pub first_front : (scene : Scene) (p : Point) (active : List Blocker) → All (IsOf scene p) active
    → option_map front (first_of active) ≡ option_map (front_of scene p) (first_held (map numbered active))
first_front scene p [] known = refl
first_front scene p (b ∷ rest) known = ap Some (front_is scene p b (known 0 b (omega arith)))

-- the same number is the same first
pub first_same : (scene : Scene) (p : Point) (xs ys : List Blocker) → All (IsOf scene p) xs → All (IsOf scene p) ys
    → number_by (option_map front (first_of xs)) ≡ number_by (option_map front (first_of ys))
    → first_held (map numbered xs) ≡ first_held (map numbered ys)
first_same scene p [] [] x_known y_known e = refl
first_same scene p [] (y ∷ ys) x_known y_known e = none_some e
  where
    none_some : {P : Type 0} → None ≡ Some y.number → P
    none_some h = absurd (grind arith)
first_same scene p (x ∷ xs) [] x_known y_known e = some_none e
  where
    some_none : {P : Type 0} → Some x.number ≡ None → P
    some_none h = absurd (grind arith)
first_same scene p (x ∷ xs) (y ∷ ys) x_known y_known e =
    let same : x.number ≡ y.number = some_same x.number y.number e in
    let x_of = x_known 0 x (omega arith) in let y_of = y_known 0 y (omega arith) in
    let alike : seen x ≡ seen y = some_same (seen x) (seen y)
    (sym x_of.known ∙ ap (seen_at p (blockers_of_scene scene)) same ∙ y_of.known) in
    ap (λ n. Some (n, seen x)) same ∙ ap (λ s. Some (y.number, s)) alike

past_first : (active : List Blocker) (v : Point) → is_past (first_of active) v
    ≡ is_past_first (first_held (map numbered active)) v
past_first [] v = refl
past_first (b ∷ rest) v = refl

-- all corners of the direction are behind the first, if those of the group are
pub group_hidden : (scene : Scene) (p d : Point) (arc : Arc) (kept shown : ℕ → Bool) (place : ℕ) (group : List ℕ)
    (active : List Blocker) → IsGroup scene p arc kept shown place group → IsDirection d → IsDirected d
    → place_of d ≡ place
    → ((k : ℕ) → k < length scene.corners → IsDirection (way_at p scene.corners k))
    → IsFirst scene p d (first_held (map numbered active)) → ArePast scene p d shown
    → All (λ e. is_past (first_of active) (way_at p scene.corners (corner_of e)) ≡ true) group
    → AreHidden scene p d (first_held (map numbered active))
group_hidden scene p d arc kept shown place group active g d_in d_some e ways is untold past =
    hidden_if_shown scene p d shown (first_held (map numbered active)) is d_some untold
    (λ j lt own stands some.
    let found = some_of (λ event. corner_of event == j) group 0
    (in_group scene p d arc kept shown place group j g d_in d_some e ways lt own stands some) in
    let event = get_or group found.place 0 in
    let same : corner_of event ≡ j = tested_same_number (corner_of event) j found.holds in
    subst (λ n. is_past_first (first_held (map numbered active)) (way_at p scene.corners n) ≡ true) same
    (sym (past_first active (way_at p scene.corners (corner_of event))) ∙ past found.place 0 found.within))

-- ---- the group is passed

pub passed_with_sector : (scene : Scene) (p : Point) (arc : Arc) (kept shown : ℕ → Bool) (start : ℕ)
    (before : Option Front)
    (sectors : List Sector) (s : Sector) (group : List ℕ) (active at after : List Blocker)
    → AreWalls scene p → ((k : ℕ) → k < length scene.corners → IsDirection (way_at p scene.corners k))
    → AreLeftOut scene p arc kept shown → IsGroup scene p arc kept shown s.place group
    → IsUnderway scene p arc kept start before sectors s.place active
    → IsActive scene p kept (λ n s'. is_spanned_at (from_place s') (to_place s') s.place) at
    → IsActive scene p kept (λ n s'. is_open_at (from_place s') (to_place s') (s.place + 1)) after
    → s.on ≡ option_map front (first_of at) → s.after ≡ option_map front (first_of after) → place_of s.way ≡ s.place
    → s.ahead ≡ least_from (leads_ahead p scene.corners) (far_of p scene.corners) None group
    → s.behind ≡ least_from (leads_behind p scene.corners) (far_of p scene.corners) None group
    → IsToCorner scene p s
    → IsUnderway scene p arc kept start before (sectors ++ s ∷ []) (s.place + 1) after
passed_with_sector scene p arc kept shown start before sectors s group active at after walls ways left g u held_at
    held_after on_is
    after_is way_is ahead_is behind_is to_corner = record {
      radials = (sector_added scene p arc kept before sectors s (map numbered active) (map numbered at)
          (map numbered after) walls left.covered u.radials held_at.held held_after.held
          (on_is ∙ first_front scene p at held_at.known) (after_is ∙ first_front scene p after held_after.known)
          (λ d d_in d_some within e. subst (IsReached p (is_ahead p d) scene.corners (first_held (map numbered at)))
          (sym ahead_is)
          (group_reached scene p d arc kept shown s.place group (is_ahead p d) (leads_ahead p scene.corners)
          (first_held (map numbered at)) g d_in d_some e ways
          (first_of_all scene p d arc kept shown s.place at walls left d_in d_some within e held_at)
          (left.past d d_in d_some within) (ahead_kind p d scene.corners d_some)))
          (λ d d_in d_some within e. subst (IsReached p (is_behind p d) scene.corners (first_held (map numbered at)))
          (sym behind_is)
          (group_reached scene p d arc kept shown s.place group (is_behind p d) (leads_behind p scene.corners)
          (first_held (map numbered at)) g d_in d_some e ways
          (first_of_all scene p d arc kept shown s.place at walls left d_in d_some within e held_at)
          (left.past d d_in d_some within) (behind_kind p d scene.corners d_some)))).radials;
      holds = held_as_open scene p kept start (s.place + 1) after (later start s.place u.since) held_after;
      ways = All-push (λ t. place_of t.way ≡ t.place) sectors s u.ways way_is;
      to_corners = All-push (IsToCorner scene p) sectors s u.to_corners to_corner;
      since = more start s.place u.since;
    }
  where
    later : (start place : ℕ) → start ≤ place → place + 1 ≡ start → ⊥
    later start place h e = omega (arith, h, e)

    more : (start place : ℕ) → start ≤ place → start ≤ place + 1
    more start place h = omega (arith, h)

pub passed_without_sector : (scene : Scene) (p : Point) (arc : Arc) (kept shown : ℕ → Bool) (start place : ℕ)
    (before : Option Front)
    (sectors : List Sector) (group : List ℕ) (active at after : List Blocker)
    → AreWalls scene p → ((k : ℕ) → k < length scene.corners → IsDirection (way_at p scene.corners k))
    → AreLeftOut scene p arc kept shown → IsGroup scene p arc kept shown place group
    → IsUnderway scene p arc kept start before sectors place active
    → IsActive scene p kept (λ n s. is_spanned_at (from_place s) (to_place s) place) at
    → IsActive scene p kept (λ n s. is_open_at (from_place s) (to_place s) (place + 1)) after
    → number_by (option_map front (first_of active)) ≡ number_by (option_map front (first_of at))
    → number_by (option_map front (first_of at)) ≡ number_by (option_map front (first_of after))
    → All (λ e. is_past (first_of at) (way_at p scene.corners (corner_of e)) ≡ true) group
    → IsUnderway scene p arc kept start before sectors (place + 1) after
passed_without_sector scene p arc kept shown start place before sectors group active at after walls ways left g u
    held_at held_after
    same same_after past = record {
      radials = (no_sector_added scene p arc kept before sectors place (map numbered active) (map numbered at)
          (map numbered after) walls left.covered u.radials held_at.held held_after.held
          (sym (first_same scene p active at u.holds.known held_at.known same))
          (sym (first_same scene p active after u.holds.known held_after.known (same ∙ same_after)))
          (λ d d_in d_some within e. group_hidden scene p d arc kept shown place group at g d_in d_some e ways
          (first_of_all scene p d arc kept shown place at walls left d_in d_some within e held_at)
          (left.past d d_in d_some within) past)).radials;
      holds = held_as_open scene p kept start (place + 1) after (later start place u.since) held_after;
      ways = u.ways;
      to_corners = u.to_corners;
      since = more start place u.since;
    }
  where
    later : (start place : ℕ) → start ≤ place → place + 1 ≡ start → ⊥
    later start place h e = omega (arith, h, e)

    more : (start place : ℕ) → start ≤ place → start ≤ place + 1
    more start place h = omega (arith, h)

-- ---- as the code does it

-- all that end there are taken out, whatever the list holds
abbrev pub TakesOut : Scene → Point → List ℕ → List Blocker → List Blocker → Type 0
TakesOut scene p group active at = (kept : ℕ → Bool) (test : ℕ → Seen → Bool) → IsActive scene p kept test active
    → IsActive scene p kept (λ n s. test n s && not (ends_among p scene.corners group s)) at

-- all that begin there are put in, if one direction spans all of them
abbrev pub PutsIn : Scene → Point → (ℕ → Bool) → List ℕ → List Blocker → List Blocker → Type 0
PutsIn scene p kept group at after = (test : ℕ → Seen → Bool) (way : Point) → IsActive scene p kept test at
    → SpansAll scene p kept test way
    → SpansAll scene p kept (λ n s. begins_among p scene.corners group s) way
    → IsActive scene p kept (λ n s. test n s || begins_among p scene.corners group s) after

pub list_at : (scene : Scene) (p : Point) (arc : Arc) (kept shown : ℕ → Bool) (start place : ℕ) (before : Option Front)
    (sectors : List Sector) (group : List ℕ) (active at : List Blocker) → IsStation scene p
    → IsGroup scene p arc kept shown place group → IsUnderway scene p arc kept start before sectors place active
    → TakesOut scene p group active at
    → IsActive scene p kept (λ n s. is_spanned_at (from_place s) (to_place s) place) at
list_at scene p arc kept shown start place before sectors group active at station g u taken =
    held_within scene p arc kept shown start place group at station.walls g
    (taken kept (λ n s. is_held_at start (from_place s) (to_place s) place) u.holds)

pub list_after : (scene : Scene) (p : Point) (arc : Arc) (kept shown : ℕ → Bool) (start place : ℕ) (group : List ℕ)
    (at after : List Blocker)
    → IsStation scene p → IsGroup scene p arc kept shown place group
    → IsActive scene p kept (λ n s. is_spanned_at (from_place s) (to_place s) place) at
    → PutsIn scene p kept group at after
    → IsActive scene p kept (λ n s. is_open_at (from_place s) (to_place s) (place + 1)) after
list_after scene p arc kept shown start place group at after station g held put =
    let e = g.each 0 0 g.some in
    let v = way_at p scene.corners (corner_of (get_or group 0 0)) in
    let v_in = station.ways (corner_of (get_or group 0 0)) e.within in
    let v_place : place_of v ≡ place = sym e.place ∙ g.places 0 0 g.some in
    held_next scene p arc kept shown start place group after station.walls g
    (put (λ n s. is_spanned_at (from_place s) (to_place s) place) (just_after v) held
    (spanned_next scene p v kept place station.walls v_in e.directed v_place)
    (begun_next scene p v arc kept shown place group station.walls g v_in e.directed v_place))

pub pass_silently : (scene : Scene) (p : Point) (arc : Arc) (kept shown : ℕ → Bool) (start place : ℕ)
    (before : Option Front)
    (sectors : List Sector) (group : List ℕ) (active at after : List Blocker) → IsStation scene p
    → AreLeftOut scene p arc kept shown
    → IsGroup scene p arc kept shown place group → IsUnderway scene p arc kept start before sectors place active
    → TakesOut scene p group active at → PutsIn scene p kept group at after
    → number_by (option_map front (first_of active)) ≡ number_by (option_map front (first_of at))
    → number_by (option_map front (first_of at)) ≡ number_by (option_map front (first_of after))
    → All (λ e. is_past (first_of at) (way_at p scene.corners (corner_of e)) ≡ true) group
    → IsUnderway scene p arc kept start before sectors (place + 1) after
pass_silently scene p arc kept shown start place before sectors group active at after station left g u taken put same
    same_after past =
    let held_at = list_at scene p arc kept shown start place before sectors group active at station g u taken in
    passed_without_sector scene p arc kept shown start place before sectors group active at after station.walls
    station.ways left g u
    held_at
    (list_after scene p arc kept shown start place group at after station g held_at put) same same_after past

-- what a sector tells of a group
pub record TellsOf (scene : Scene) (p : Point) (group : List ℕ) (at after : List Blocker) (s : Sector) : Type 0 where
  pub place : s.place ≡ place_at (get_or group 0 0)
  pub way : s.way ≡ way_at p scene.corners (corner_of (get_or group 0 0))
  pub on : s.on ≡ option_map front (first_of at)
  pub next : s.after ≡ option_map front (first_of after)
  pub ahead : s.ahead ≡ least_from (leads_ahead p scene.corners) (far_of p scene.corners) None group
  pub behind : s.behind ≡ least_from (leads_behind p scene.corners) (far_of p scene.corners) None group

pub pass_telling : (scene : Scene) (p : Point) (arc : Arc) (kept shown : ℕ → Bool) (start place : ℕ)
    (before : Option Front)
    (sectors : List Sector) (s : Sector) (group : List ℕ) (active at after : List Blocker) → IsStation scene p
    → AreLeftOut scene p arc kept shown
    → IsGroup scene p arc kept shown place group → IsUnderway scene p arc kept start before sectors place active
    → TakesOut scene p group active at → PutsIn scene p kept group at after → TellsOf scene p group at after s
    → IsUnderway scene p arc kept start before (sectors ++ s ∷ []) (place + 1) after
pass_telling scene p arc kept shown start place before sectors s group active at after station left g u taken put
    tells =
    let held_at = list_at scene p arc kept shown start place before sectors group active at station g u taken in
    let held_after = list_after scene p arc kept shown start place group at after station g held_at put in
    let e = g.each 0 0 g.some in
    let own : s.place ≡ place = tells.place ∙ g.places 0 0 g.some in
    subst (λ n. IsUnderway scene p arc kept start before (sectors ++ s ∷ []) (n + 1) after) own
    (passed_with_sector scene p arc kept shown start before sectors s group active at after station.walls station.ways
    left
    (subst (λ n. IsGroup scene p arc kept shown n group) (sym own) g)
    (subst (λ n. IsUnderway scene p arc kept start before sectors n active) (sym own) u)
    (subst (λ n. IsActive scene p kept (λ m t. is_spanned_at (from_place t) (to_place t) n) at) (sym own) held_at)
    (subst (λ n. IsActive scene p kept (λ m t. is_open_at (from_place t) (to_place t) (n + 1)) after)
    (sym own) held_after)
    tells.on tells.next (ap place_of tells.way ∙ sym e.place ∙ sym tells.place) tells.ahead tells.behind
    (record {
      at = corner_of (get_or group 0 0);
      within = e.within;
      way = tells.way;
      directed = subst IsDirected (sym tells.way) e.directed;
    }))
