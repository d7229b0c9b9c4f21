-- What a view shows between two directions is what is seen there.
use Rattle.std.proofs.Common.{◌≡◌, ◌≢◌, ◌∙◌, ℕ, zero, suc, ◌+◌, ◌-◌, ◌<◌, ◌≤◌, ℤ, pos, ◌+ℤ◌, ◌*ℤ◌, ◌<ℤ◌, List, [], ◌∷◌, map, get_or, length, refl, sym, ap}
use Rattle.std.proofs.Common.{subst, arith}
use Rattle.std.specs.Ordering.{int_eq}
use Rattle.std.specs.Prelude.{Bool, true, false, cond, not, int_lt, int_le, unsigned_abs, Option, Some, None}
use Rattle.std.specs.Option.{option_map}
use Rattle.std.specs.List.Sorted.{IsNonDecreasingBy}
use Rattle.std.proofs.lemmas.Int.{ints}
use Rattle.plane_spec.specs.declared.Point.{Point}
use Rattle.plane_spec.specs.declared.Corner.{Corner}
use Rattle.plane_spec.specs.Vectors.{point, vector, cross_of, dot_of, turns_left, InRange, IsDirection, IsDirected, IsWithin}
use Rattle.plane_spec.specs.Cones.{IsCornerInRange}
use Rattle.plane_spec.specs.Segments.{IsSegmentInRange}
use Rattle.plane_spec.specs.Fractions.{Fraction, is_before, reduced, whole}
use Rattle.sight_spec.specs.Scene.{Scene}
use Rattle.sight_spec.specs.Stops.{stop_of, nearer}
use Rattle.sight_spec.specs.Isovist.{sum_of, stops_at_once, wall_between, sector_in, no_segment}
use Rattle.sight_core.specs.Scenes.{IsOfSoundPlan}
use Rattle.sight_core.proofs.Seen.{corners-in_range, walls-in_range}
use Rattle.front_laws.specs.Seen.{Seen}
use Rattle.front_laws.proofs.Tests.{by_cases, by_lt, tested_zero}
use Rattle.sweep_laws.specs.First.{IsFirst}
use Rattle.sweep_laws.specs.Groups.{is_ahead, no_corner}
use Rattle.sweep_laws.specs.Parts.{start_stop}
use Rattle.round_laws.specs.Rounds.{AreWalls}
use Rattle.view_laws.specs.declared.view.Arc.TheVariants as arcs
use Rattle.view_laws.specs.declared.view.Front.{Front}
use Rattle.view_laws.specs.declared.view.Ground.{Ground}
use Rattle.view_laws.specs.declared.view.Sector.{Sector}
use Rattle.view_laws.specs.declared.view.View.{View}
use Rattle.view_laws.specs.Views.{IsViewOf, IsRadial, IsSoFarOrNone, corner_by, front_of, hit_by, is_led_into}
use Rattle.view_laws.specs.Views.{AreInOrder, is_in_arc, length_of, radial_at, radial_between, radial_by, number_by, radial_of, stop_by}
use Rattle.view_laws.proofs.Answers.{ahead_along}
use Rattle.view_laws.proofs.Cursor.{near_wall_by_view, radial_before, radial_from, stop_by_view}
use Rattle.sight_sweep.specs.Grounds.{IsGroundInRange}
use Rattle.station_laws.specs.Grounds.{IsGroundOf, at_corner, on_wall, on_nothing}
use Rattle.station_laws.proofs.Ranges.{walls_of_sound}
use Rattle.exact_geom.specs.declared.limits.TheConstants.{MAX_DIFFERENCE}
use Rattle.exact_geom.proofs.Lowest.{divisor_of, whole_is_reduced}
use Rattle.exact_geom.proofs.Values.{numerator_is, reduced_again}
use Rattle.isovist_core.specs.declared.gap.Gap.{Gap}
use Rattle.isovist_core.specs.Gaps.{pair_of}
use Rattle.isovist_core.specs.Shown.{IsCountUpTo, sector_shown, wall_shown}
use Rattle.isovist_core.proofs.Steps.{not_left, sum_directed}

-- ---- where a ray is stopped at once

-- at a t above 0, if anywhere
abbrev IsAway : Option Fraction → Type 0
IsAway None = true ≡ true
IsAway (Some f) = pos 0 <ℤ f.num

zero_first : (o : Option Fraction) → IsAway o → nearer o (Some (whole (pos 0))) ≡ Some (whole (pos 0))
zero_first None away = refl
zero_first (Some f) away = ap (λ t. cond t (Some (whole (pos 0))) (Some f)) (before f.num f.den away)
  where
    before : (n d : ℤ) → pos 0 <ℤ n → int_lt (pos 0 *ℤ d) (n *ℤ pos 1) ≡ true
    before n d h = grind (arith, ints)

both_away : (a b : Option Fraction) → IsAway a → IsAway b → IsAway (nearer a b)
both_away None b h k = k
both_away (Some f) None h k = h
both_away (Some f) (Some g) h k = by (is_before g f)
  where
    by : (t : Bool) → IsAway (cond t (Some g) (Some f))
    by true = k
    by false = h

away_lowest : (o : Option Fraction) → IsAway o → stops_at_once (option_map reduced o) ≡ false
away_lowest None h = refl
away_lowest (Some f) h = nonzero (reduced f).num (divisor_of f) f.num (numerator_is f) h
  where
    zero_times : (m : ℕ) → pos 0 *ℤ pos m ≡ pos 0
    zero_times m = omega (arith, ints)

    nonzero : (n : ℤ) (m : ℕ) (k : ℤ) → n *ℤ pos m ≡ k → pos 0 <ℤ k → int_eq n (pos 0) ≡ false
    nonzero n m k e up =
        by_cases (int_eq n (pos 0))
        (λ yes. let none : k ≡ pos 0 = sym e ∙ ap (λ t. t *ℤ pos m) (tested_zero n yes) ∙ zero_times m in
        absurd (omega (arith, ints, none, up)))
        (λ no. no)

zero_lowest : stops_at_once (option_map reduced (Some (whole (pos 0)))) ≡ true
zero_lowest = ap (λ f. stops_at_once (Some f)) (reduced_again (whole (pos 0)) (whole_is_reduced (pos 0)))

by_start : (a b : Option Fraction) (begins : Bool) → IsAway a → IsAway b
    → stops_at_once (option_map reduced (nearer a (nearer b (start_stop begins)))) ≡ begins
by_start a b true h k =
    ap (λ t. stops_at_once (option_map reduced (nearer a t))) (zero_first b k)
    ∙ ap (λ t. stops_at_once (option_map reduced t)) (zero_first a h) ∙ zero_lowest
by_start a b false h k = away_lowest (nearer a (nearer b None)) (both_away a (nearer b None) h (both_away b None k refl))

-- ---- what a view tells is away from the point

front_away : (scene : Scene) (p d : Point) (first : Option (ℕ × Seen)) → IsOfSoundPlan scene → InRange p
    → IsFirst scene p d first → IsAway (hit_by d (option_map (front_of scene p) first))
front_away scene p d None of p_in h = refl
front_away scene p d (Some f) of p_in h =
    ((subst (λ t. AreWalls t p) (sym of.seen) (walls_of_sound of.plan p of.sound p_in)).blockers f.0 f.1 h.within h.seen).up

corner_away : (p d : Point) (corners : List Corner) (far : Option ℕ) → IsSoFarOrNone p (is_ahead p d) corners far
    → IsAway (corner_by d far)
corner_away p d corners None h = refl
corner_away p d corners (Some far) h =
    let v = vector p (get_or corners h.at no_corner).here in
    positive far v h.far_is (ahead_along p d (get_or corners h.at no_corner) h.passes).ahead
  where
    none : (v : Point) → unsigned_abs v.x + unsigned_abs v.y ≡ 0 → dot_of d v ≡ pos 0
    none v e = let x : v.x ≡ pos 0 = omega (arith, ints, e) in let y : v.y ≡ pos 0 = omega (arith, ints, e) in
        rw (x, y) (omega (arith, ints))

    positive : (n : ℕ) (v : Point) → length_of v ≡ n → pos 0 <ℤ dot_of d v → pos 0 <ℤ pos n
    positive zero v e up = let zero = none v e in absurd (omega (arith, ints, zero, up))
    positive (suc n) v e up = omega (arith, ints)

in_all : (d : Point) → is_in_arc arcs.All d ≡ true
unfolding is_in_arc
in_all d = refl

stops_by_ground : (scene : Scene) (p d : Point) (view : View) → IsOfSoundPlan scene → InRange p
    → IsViewOf scene p arcs.All view → IsDirection d → IsDirected d
    → stops_at_once (stop_of scene p d) ≡ is_led_into view.ground d
unfolding stop_by
stops_by_ground scene p d view of p_in v d_in d_some =
    let r : IsRadial scene p d (radial_of view d) = v.tells d d_in d_some (in_all d) in
    ap stops_at_once (stop_by_view scene p d arcs.All view v d_in d_some (in_all d))
    ∙ by_start (hit_by d (radial_of view d).front) (corner_by d (radial_of view d).ahead) (is_led_into view.ground d)
    (subst (λ t. IsAway (hit_by d t)) (sym r.front) (front_away scene p d r.first of p_in r.is_first))
    (corner_away p d scene.corners (radial_of view d).ahead r.ahead.some)

-- ---- what the point stands on

pub ground_in : (scene : Scene) (p : Point) (under : Ground) → IsOfSoundPlan scene → IsGroundOf scene p under
    → IsGroundInRange under
ground_in scene p under of (at_corner c f) = subst IsCornerInRange f.corner
    ((corners-in_range scene of) f.number no_corner f.within)
ground_in scene p under of (on_wall w none o) = subst IsSegmentInRange o.wall
    ((walls-in_range scene of) o.number no_segment o.within)
ground_in scene p under of (on_nothing none bare) = refl

-- ---- what it tells of a place

pub by_place : (sectors : List Sector) → AreInOrder sectors → IsNonDecreasingBy (λ s. s.place) sectors
by_place sectors order i j d le lt =
    by_lt i j (λ early. at_most (get_or sectors i d).place (get_or sectors j d).place (order i j d early lt))
    (λ late. same i j late le)
  where
    at_most : (m n : ℕ) → m < n → m ≤ n
    at_most m n h = omega (arith, h)

    own : (n : ℕ) → n ≤ n
    own n = omega arith

    same : (i j : ℕ) → j ≤ i → i ≤ j → (get_or sectors i d).place ≤ (get_or sectors j d).place
    same i j h k =
        let e : i ≡ j = omega (arith, h, k) in
        subst (λ m. (get_or sectors i d).place ≤ (get_or sectors m d).place) e (own (get_or sectors i d).place)

no_sector : Sector
no_sector = record { place = 0; way = point (pos 0) (pos 0); on = None; ahead = None; behind = None; after = None }

-- before the first sector
pub shown_first : (before : Option Front) (sectors : List Sector) (place count : ℕ) → count ≡ 0
    → IsCountUpTo sectors place count → radial_by before sectors place ≡ radial_between before
shown_first before sectors place count none c =
    radial_before before sectors place no_sector
    (λ some. subst (λ n. place < (get_or sectors n no_sector).place) none
    (c.beyond no_sector (subst (λ n. n < length sectors) (sym none) some)))

-- from a sector on
pub shown_from : (before : Option Front) (sectors : List Sector) (place count : ℕ) (s : Sector) → AreInOrder sectors
    → count ≢ 0 → IsCountUpTo sectors place count → s ≡ get_or sectors (count - 1) s
    → radial_by before sectors place ≡ radial_at s place
shown_from before sectors place count s order some c read =
    radial_from before sectors (count - 1) place s order (within count (length sectors) some c.within)
    (c.reached s (above count some))
    (λ more. subst (λ n. place < (get_or sectors n s).place) (sym (next count some))
    (c.beyond s (subst (λ n. n < length sectors) (next count some) more)))
    ∙ ap (λ t. radial_at t place) (sym read)
  where
    within : (n m : ℕ) → n ≢ 0 → n ≤ m → n - 1 < m
    within n m h k = omega (arith, h, k)

    above : (n : ℕ) → n ≢ 0 → 0 < n
    above n h = omega (arith, h)

    next : (n : ℕ) → n ≢ 0 → n - 1 + 1 ≡ n
    next n h = omega (arith, h)

-- ---- what it shows in a gap

-- the sum of the directions of a gap is one
pub sum_direction : (gap : Gap) → IsDirection (sum_of gap.from.step gap.to.step)
sum_direction gap = record {
  x = within gap.from.step.x gap.to.step.x gap.from.small.x gap.to.small.x;
  y = within gap.from.step.y gap.to.step.y gap.from.small.y gap.to.small.y;
}
  where
    within : (a b : ℤ) → IsWithin MAX_DIFFERENCE a → IsWithin MAX_DIFFERENCE b → IsWithin (pos 400000) (a +ℤ b)
    within a b h k = record { low = omega (arith, ints, h, k); high = omega (arith, ints, h, k) }

wall_is_shown : (scene : Scene) (p : Point) (view : View) → IsOfSoundPlan scene → InRange p
    → IsViewOf scene p arcs.All view → (gap : Gap)
    → wall_shown view (pair_of gap) ≡ wall_between scene p gap.from.step gap.to.step
unfolding wall_between
wall_is_shown scene p view of p_in v gap = by gap.from.step gap.to.step (turns_left gap.from.step gap.to.step) (sum_direction gap) refl
  where
    half : (e f : Point) → turns_left e f ≡ false → int_le (cross_of e f) (pos 0) ≡ true
    half e f h = sym (not_left (cross_of e f)) ∙ ap not h

    less : (e f : Point) → turns_left e f ≡ true → int_le (cross_of e f) (pos 0) ≡ false
    less e f h = sym (not_left (cross_of e f)) ∙ ap not h

    by : (e f : Point) (t : Bool) → IsDirection (sum_of e f) → turns_left e f ≡ t
        → wall_shown view (e, f) ≡ wall_between scene p e f
    by e f false d_in h = rw (half e f h) refl
    by e f true d_in h =
        let w = sum_of e f in
        let d_some = sum_directed e f h in
        rw (less e f h)
        (ap (λ t. cond t None (number_by (radial_of view w).front)) (sym (stops_by_ground scene p w view of p_in v d_in d_some))
        ∙ ap (λ n. cond (stops_at_once (stop_of scene p w)) None n)
        (sym (near_wall_by_view scene p w arcs.All view v d_in d_some (in_all w))))

pub sectors_are_shown : (scene : Scene) (p : Point) (view : View) → IsOfSoundPlan scene → InRange p
    → IsViewOf scene p arcs.All view → (gaps : List Gap)
    → map (sector_shown view) gaps ≡ map (sector_in scene p) (map pair_of gaps)
sectors_are_shown scene p view of p_in v [] = refl
sectors_are_shown scene p view of p_in v (gap ∷ gaps) =
    ap (λ w. record { from = gap.from.step; to = gap.to.step; wall = w } ∷ map (sector_shown view) gaps)
    (wall_is_shown scene p view of p_in v gap)
    ∙ ap (λ t. sector_in scene p (pair_of gap) ∷ t) (sectors_are_shown scene p view of p_in v gaps)
