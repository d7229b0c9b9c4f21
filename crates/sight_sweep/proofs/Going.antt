-- From one group of corners to the next.
use Rattle.std.proofs.Common.{◌≡◌, ◌≢◌, ℕ, zero, suc, ◌+◌, ◌-◌, ◌*◌, ◌/◌, ◌%◌, ◌<◌, ◌≤◌, ◌==◌, arith, ap, refl, sym}
use Rattle.std.proofs.Common.{◌∙◌, subst, List, [], ◌∷◌, length, get_or, map}
use Rattle.std.specs.Prelude.{Bool, true, false, ◌&&◌, not, nat_lt, pos, Option}
use Rattle.std.specs.List.{list_any, slice_range}
use Rattle.std.proofs.lemmas.List.Edits.{get_or-between, length-between}
use Rattle.std.proofs.lemmas.Int.{ints}
use Rattle.plane_spec.specs.declared.Point.{Point}
use Rattle.plane_spec.specs.Vectors.{point, same_point, turns_before, turns_left, turns_by, is_upper}
use Rattle.plane_spec.specs.Vectors.{IsDirection, IsDirected}
use Rattle.sight_spec.specs.Scene.{Scene, blockers_of_scene}
use Rattle.front_laws.proofs.Tests.{by_cases, by_lt, both_of, both_true, tested_same_number, own_number, clash}
use Rattle.front_laws.proofs.Tests.{number_not_less, number_less_tested, tested_number_less, tested_number_not_less}
use Rattle.front_laws.proofs.Lists.{any_at, some_of}
use Rattle.turn_laws.specs.Places.{place_of}
use Rattle.turn_laws.proofs.Places.{place_tells, half_turn, whole_turn}
use Rattle.view_laws.specs.declared.view.Arc.{Arc}
use Rattle.view_laws.specs.declared.view.Arc.TheVariants as arcs
use Rattle.view_laws.specs.declared.view.Front.{Front}
use Rattle.view_laws.specs.declared.view.Sector.{Sector}
use Rattle.view_laws.specs.Views.{is_in_arc}
use Rattle.view_laws.proofs.Arcs.{arc_places}
use Rattle.round_laws.specs.Rounds.{is_open_at, from_place, to_place, first_held, EndNowhere, AreWalls}
use Rattle.round_laws.proofs.Sectors.{round_goes_on}
use Rattle.round_laws.proofs.Steps.{first_between}
use Rattle.round_laws.proofs.Without.{first_without}
use Rattle.sweep_laws.specs.First.{IsFirst}
use Rattle.sweep_laws.specs.Groups.{no_corner, stands_in}
use Rattle.sweep_laws.proofs.Grouped.{stands_where}
use Rattle.sight_sweep.specs.declared.blocker.Blocker.{Blocker}
use Rattle.sight_sweep.specs.Arcs.{IsArc, start_place, end_place}
use Rattle.sight_sweep.specs.LeftOut.{HasShownCorner, AreLeftOut}
use Rattle.sight_sweep.specs.Stations.{IsStation}
use Rattle.sight_sweep.specs.Events.{way_at, corner_of, place_at, IsEvent, AreEvents}
use Rattle.sight_sweep.specs.Actives.{numbered, IsActive}
use Rattle.sight_sweep.proofs.Actives.{active_so}
use Rattle.sight_sweep.proofs.Passing.{held_as_open, hidden_if_shown}
use Rattle.sight_sweep.specs.Rounds.{is_held_at, IsGoing}
use Rattle.sight_sweep.specs.Rounds.{IsGroup, IsUnderway}

-- ---- arcs by places

upper_before : (d e : Point) → is_upper d ≡ true → is_upper e ≡ true → turns_before d e ≡ turns_left d e
unfolding turns_before
upper_before d e h k = ap (λ t. turns_by t (is_upper e) (turns_left d e)) h
    ∙ ap (λ t. turns_by true t (turns_left d e)) k

start_none : place_of (point (pos 1) (pos 0)) ≡ 0
unfolding place_of
start_none = refl

-- the places of an arc's directions
pub in_arc_from : (arc : Arc) (d : Point) → IsArc arc → IsDirection d → IsDirected d → is_in_arc arc d ≡ true
    → start_place arc ≤ place_of d
in_arc_from arcs.All d a d_in d_some h = subst (λ n. n ≤ place_of d) (sym start_none) (omega arith)
in_arc_from arcs.Later d a d_in d_some h = subst (λ n. n ≤ place_of d) (sym start_none) (omega arith)
in_arc_from (arcs.Between first last) d a d_in d_some h =
    (arc_places first last d a.first_later.direction a.first_later.directed a.first_later.upper a.last_later.direction
    a.last_later.directed a.last_later.upper d_in d_some h).0

pub in_arc_below : (arc : Arc) (d : Point) → IsArc arc → IsDirection d → IsDirected d → is_in_arc arc d ≡ true
    → place_of d < end_place arc
unfolding is_in_arc
in_arc_below arcs.All d a d_in d_some h = whole_turn d d_in d_some
in_arc_below arcs.Later d a d_in d_some h = tested_number_less (place_of d) 2199023255552
    (sym (half_turn d d_in d_some) ∙ h)
in_arc_below (arcs.Between first last) d a d_in d_some h =
    more (place_of d) (place_of last)
    (arc_places first last d a.first_later.direction a.first_later.directed a.first_later.upper a.last_later.direction
    a.last_later.directed a.last_later.upper d_in d_some h).1
  where
    more : (m n : ℕ) → m ≤ n → m < n + 1
    more m n h = omega (arith, h)

-- a direction whose place is among them is in the arc
pub arc_by_place : (arc : Arc) (d : Point) → IsArc arc → IsDirection d → IsDirected d → start_place arc ≤ place_of d
    → place_of d < end_place arc → is_in_arc arc d ≡ true
unfolding is_in_arc
arc_by_place arcs.All d a d_in d_some low high = refl
arc_by_place arcs.Later d a d_in d_some low high = half_turn d d_in d_some
    ∙ number_less_tested (place_of d) 2199023255552 high
arc_by_place (arcs.Between first last) d a d_in d_some low high =
    let f = a.first_later in let l = a.last_later in
    let last_low : place_of last < 2199023255552 = tested_number_less (place_of last) 2199023255552
    (sym (half_turn last l.direction l.directed) ∙ l.upper) in
    let up : is_upper d ≡ true = half_turn d d_in d_some
    ∙ number_less_tested (place_of d) 2199023255552
    (chain (place_of d) (place_of last) 2199023255552 high last_low) in
    both_true (is_upper d) (not (turns_left d first) && not (turns_left last d)) up
    (both_true (not (turns_left d first)) (not (turns_left last d))
    (ap not (sym (upper_before d first up f.upper) ∙ place_tells d first d_in d_some f.direction f.directed
    ∙ number_not_less (place_of d) (place_of first) low))
    (ap not (sym (upper_before last d l.upper up) ∙ place_tells last d l.direction l.directed d_in d_some
    ∙ number_not_less (place_of last) (place_of d) (at_most (place_of d) (place_of last) high))))
  where
    chain : (m n k : ℕ) → m < n + 1 → n < k → m < k
    chain m n k h j = omega (arith, h, j)

    at_most : (m n : ℕ) → m < n + 1 → m ≤ n
    at_most m n h = omega (arith, h)

pub starts_before_end : (arc : Arc) → IsArc arc → start_place arc ≤ end_place arc
starts_before_end arcs.All a = subst (λ n. n ≤ 4398046511104) (sym start_none) (omega arith)
starts_before_end arcs.Later a = subst (λ n. n ≤ 2199023255552) (sym start_none) (omega arith)
starts_before_end (arcs.Between first last) a =
    let f = a.first_later in let l = a.last_later in
    up (place_of first) (place_of last) (tested_number_not_less (place_of last) (place_of first)
    (sym (place_tells last first l.direction l.directed f.direction f.directed)
    ∙ upper_before last first l.upper f.upper ∙ a.in_order))
  where
    up : (m n : ℕ) → m ≤ n → m ≤ n + 1
    up m n h = omega (arith, h)

-- ---- events

event_place : (place number : ℕ) → number < 2048 → (place * 2048 + number) / 2048 ≡ place
event_place place number h = omega (arith, h)

event_number : (place number : ℕ) → number < 2048 → (place * 2048 + number) % 2048 ≡ number
event_number place number h = omega (arith, h)

places_rise : (a b : ℕ) → a ≤ b → a / 2048 ≤ b / 2048
places_rise a b h = omega (arith, h)

-- all that is known on the way round
pub record IsWay (scene : Scene) (p : Point) (arc : Arc) (kept shown : ℕ → Bool) (events : List ℕ) : Type 0 where
  pub is_arc : IsArc arc
  pub walls : AreWalls scene p
  pub few : length scene.corners ≤ 1024
  pub ways : (k : ℕ) → k < length scene.corners → IsDirection (way_at p scene.corners k)
  pub left : AreLeftOut scene p arc kept shown
  pub events_are : AreEvents scene.corners p arc shown events

-- where the event of a corner is that leads in a direction of the arc
pub record IsEventAt (events : List ℕ) (place number : ℕ) : Type 0 where
  pub at : ℕ
  pub within : at < length events
  pub place_is : place_at (get_or events at 0) ≡ place
  pub number_is : corner_of (get_or events at 0) ≡ number

event_at : (scene : Scene) (p : Point) (arc : Arc) (kept shown : ℕ → Bool) (events : List ℕ) (k : ℕ)
    → IsWay scene p arc kept shown events
    → k < length scene.corners → shown k ≡ true → IsDirected (way_at p scene.corners k)
    → start_place arc ≤ place_of (way_at p scene.corners k) → place_of (way_at p scene.corners k) < end_place arc
    → IsEventAt events (place_of (way_at p scene.corners k)) k
event_at scene p arc kept shown events k w lt own some low high =
    let c = w.events_are.all k lt own some
    (arc_by_place arc (way_at p scene.corners k) w.is_arc (w.ways k lt) some low high) in
    let place = place_of (way_at p scene.corners k) in
    let small : k < 2048 = fits k (length scene.corners) lt w.few in
    let is : get_or events c.0 0 ≡ place * 2048 + k = default events c.0 0 (place * 2048 + k) c.1 ∙ c.2 in
    record {
      at = c.0;
      within = c.1;
      place_is = ap place_at is
          ∙ event_place place k small;
      number_is = ap corner_of is ∙ event_number place k small;
    }
  where
    fits : (k n : ℕ) → k < n → n ≤ 1024 → k < 2048
    fits k n h j = omega (arith, h, j)

    default : (xs : List ℕ) (i d e : ℕ) → i < length xs → get_or xs i d ≡ get_or xs i e
    default [] i d e lt = absurd (omega arith)
    default (x ∷ xs) zero d e lt = refl
    default (x ∷ xs) (suc i) d e lt = default xs i d e (omega arith)

-- a part of the events: all of one place, with none of it outside
pub record IsRun (events : List ℕ) (from upto place : ℕ) : Type 0 where
  pub some : from < upto
  pub within : upto ≤ length events
  pub same : (i : ℕ) → from ≤ i → i < upto → place_at (get_or events i 0) ≡ place
  pub before : (i : ℕ) → i < from → place_at (get_or events i 0) < place
  pub after : (i : ℕ) → upto ≤ i → i < length events → place < place_at (get_or events i 0)

-- an event of the place is in the run
run_has : (events : List ℕ) (from upto place number : ℕ) → IsRun events from upto place
    → IsEventAt events place number → list_any (λ e. corner_of e == number) (slice_range events from upto) ≡ true
run_has events from upto place number r e = by_lt e.at from
    (λ low. absurd (never (place_at (get_or events e.at 0)) place (r.before e.at low) e.place_is))
    (λ high. by_lt e.at upto
    (λ inside. any_at (λ t. corner_of t == number) (slice_range events from upto) 0 (record {
      place = e.at - from;
      within = subst (λ n. e.at - from < n) (sym (length-between events from upto r.within))
          (part e.at from upto high inside);
      holds = ap (λ t. corner_of t == number)
          (get_or-between events from upto (e.at - from) 0 (part_of e.at from upto high inside)
          ∙ ap (λ i. get_or events i 0) (whole e.at from high))
          ∙ subst (λ t. (t == number) ≡ true) (sym e.number_is) (own_number number);
    }))
    (λ outside. absurd (never_back place (place_at (get_or events e.at 0)) (r.after e.at outside e.within) e.place_is)))
  where
    never : (m n : ℕ) → m < n → m ≡ n → ⊥
    never m n h e = omega (arith, h, e)

    never_back : (m n : ℕ) → m < n → n ≡ m → ⊥
    never_back m n h e = omega (arith, h, e)

    part : (i from upto : ℕ) → from ≤ i → i < upto → i - from < upto - from
    part i from upto h j = omega (arith, h, j)

    part_of : (i from upto : ℕ) → from ≤ i → i < upto → from + (i - from) < upto
    part_of i from upto h j = omega (arith, h, j)

    whole : (i from : ℕ) → from ≤ i → from + (i - from) ≡ i
    whole i from h = omega (arith, h)

-- ---- ends of walls and screens have events

same_itself : (x : Point) → same_point x x ≡ true
same_itself x = grind (arith, ints)

-- the event of the corner at v
met_event : (scene : Scene) (p v : Point) (arc : Arc) (kept shown : ℕ → Bool) (events : List ℕ)
    → IsWay scene p arc kept shown events
    → (m : HasShownCorner p scene.corners shown v) → IsDirected v → start_place arc ≤ place_of v
    → place_of v < end_place arc → IsEventAt events (place_of v) m.corner.number
met_event scene p v arc kept shown events w m some low high =
    let c = m.corner in
    subst (λ n. IsEventAt events n c.number) (ap place_of c.there)
    (event_at scene p arc kept shown events c.number w c.within m.is_shown (subst IsDirected (sym c.there) some)
    (subst (λ t. start_place arc ≤ place_of t) (sym c.there) low)
    (subst (λ t. place_of t < end_place arc) (sym c.there) high))

-- it is among the run's corners
met_among : (scene : Scene) (p v : Point) (arc : Arc) (kept shown : ℕ → Bool) (events : List ℕ) (from upto place : ℕ)
    → IsWay scene p arc kept shown events → IsRun events from upto place → HasShownCorner p scene.corners shown v
    → IsDirected v
    → place_of v ≡ place
    → start_place arc ≤ place → place < end_place arc
    → list_any (λ e. same_point v (way_at p scene.corners (corner_of e))) (slice_range events from upto) ≡ true
met_among scene p v arc kept shown events from upto place w r m some is low high =
    let e = subst (λ n. IsEventAt events n m.corner.number) is
    (met_event scene p v arc kept shown events w m some (subst (λ n. start_place arc ≤ n) (sym is) low)
    (subst (λ n. n < end_place arc) (sym is) high)) in
    let found = some_of (λ t. corner_of t == m.corner.number) (slice_range events from upto) 0
    (run_has events from upto place m.corner.number r e) in
    let same : corner_of (get_or (slice_range events from upto) found.place 0)
    ≡ m.corner.number = tested_same_number _ m.corner.number found.holds in
    any_at (λ t. same_point v (way_at p scene.corners (corner_of t))) (slice_range events from upto) 0 (record {
      place = found.place;
      within = found.within;
      holds = subst (λ k. same_point v (way_at p scene.corners k) ≡ true) (sym same)
          (subst (λ t. same_point v t ≡ true) (sym m.corner.there) (same_itself v));
    })

-- ---- a run is a group

pub group_of : (scene : Scene) (p : Point) (arc : Arc) (kept shown : ℕ → Bool) (events : List ℕ) (from upto place : ℕ)
    → IsWay scene p arc kept shown events → IsRun events from upto place → start_place arc ≤ place
    → place < end_place arc
    → IsGroup scene p arc kept shown place (slice_range events from upto)
group_of scene p arc kept shown events from upto place w r low high = record {
  some = subst (λ n. 0 < n) (sym (length-between events from upto r.within)) (up from upto r.some);
  each = λ i d lt. let j = inner i lt in subst (IsEvent scene.corners p arc)
      (sym (get_or-between events from upto i d j))
      (w.events_are.each (from + i) d (short (from + i) upto (length events) j r.within));
  places = λ i d lt. let j = inner i lt in ap place_at (get_or-between events from upto i d j)
      ∙ ap place_at (default events (from + i) d 0 (short (from + i) upto (length events) j r.within))
      ∙ r.same (from + i) (after from i) j;
  ends = λ n s within own is e. let b = w.walls.blockers n s within is in
      met_among scene p s.to arc kept shown events from upto
      place w r (w.left.ends n s within own is).1 b.to_some e low high;
  begins = λ n s within own is e. let b = w.walls.blockers n s within is in
      met_among scene p s.from arc kept shown events from upto
      place w r (w.left.ends n s within own is).0 b.from_some e low high;
  corners = λ k lt own some e. run_has events from upto place k r (subst (λ n. IsEventAt events n k) e
      (event_at scene p arc kept shown events k w lt own some (subst (λ n. start_place arc ≤ n) (sym e) low)
      (subst (λ n. n < end_place arc) (sym e) high)));
}
  where
    up : (from upto : ℕ) → from < upto → 0 < upto - from
    up from upto h = omega (arith, h)

    short : (i upto n : ℕ) → i < upto → upto ≤ n → i < n
    short i upto n h j = omega (arith, h, j)

    after : (from i : ℕ) → from ≤ from + i
    after from i = omega arith

    inner : (i : ℕ) → i < length (slice_range events from upto) → from + i < upto
    inner i lt = let e = length-between events from upto r.within in sum_of i from upto
        (length (slice_range events from upto)) lt e
      where
        sum_of : (i from upto n : ℕ) → i < n → n ≡ upto - from → from + i < upto
        sum_of i from upto n h e = omega (arith, h, e)

    default : (xs : List ℕ) (i d e : ℕ) → i < length xs → get_or xs i d ≡ get_or xs i e
    default [] i d e lt = absurd (omega arith)
    default (x ∷ xs) zero d e lt = refl
    default (x ∷ xs) (suc i) d e lt = default xs i d e (omega arith)

-- ---- between groups

-- no event has a place from low up to high
pub record IsGap (events : List ℕ) (low high : ℕ) : Type 0 where
  pub none : (i : ℕ) → i < length events → low ≤ place_at (get_or events i 0) → place_at (get_or events i 0) < high → ⊥

no_end_test : (x low high : ℕ) → low ≤ high → (low ≤ x → x < high → ⊥) → nat_lt x low ≡ nat_lt x high
no_end_test x low high le none = by_lt x low
    (λ lt. number_less_tested x low lt ∙ sym (number_less_tested x high (omega (arith, lt, le))))
    (λ ge. by_lt x high
    (λ lt. absurd (none ge lt))
    (λ far. number_not_less x low ge ∙ sym (number_not_less x high far)))

pub gap_ends_nowhere : (scene : Scene) (p : Point) (arc : Arc) (kept shown : ℕ → Bool) (events : List ℕ) (low high : ℕ)
    → IsWay scene p arc kept shown events → IsGap events low high → low ≤ high → start_place arc ≤ low
    → high ≤ end_place arc
    → EndNowhere p (blockers_of_scene scene) kept low high
gap_ends_nowhere scene p arc kept shown events low high w gap le first last n s within own is =
    let b = w.walls.blockers n s within is in
    let m = w.left.ends n s within own is in
    record {
      no_from = no_end_test (from_place s) low high le (λ h k. away s.from m.0 b.from_some h k);
      no_to = no_end_test (to_place s) low high le (λ h k. away s.to m.1 b.to_some h k);
    }
  where
    from_low : (a b c : ℕ) → a ≤ b → b ≤ c → a ≤ c
    from_low a b c h k = omega (arith, h, k)

    to_high : (a b c : ℕ) → a < b → b ≤ c → a < c
    to_high a b c h k = omega (arith, h, k)

    away : (v : Point) → HasShownCorner p scene.corners shown v → IsDirected v → low ≤ place_of v
        → place_of v < high → ⊥
    away v m some h k =
        let e = met_event scene p v arc kept shown events w m some (from_low (start_place arc) low (place_of v) first h)
        (to_high (place_of v) high (end_place arc) k last) in
        gap.none e.at e.within (subst (λ n. low ≤ n) (sym e.place_is) h) (subst (λ n. n < high) (sym e.place_is) k)

-- ---- what is known of a station

pub way_of : (scene : Scene) (p : Point) (arc : Arc) (kept shown : ℕ → Bool) (events : List ℕ) → IsStation scene p
    → IsArc arc → AreLeftOut scene p arc kept shown → AreEvents scene.corners p arc shown events
    → IsWay scene p arc kept shown events
way_of scene p arc kept shown events station is_arc left events_are = record {
  is_arc = is_arc;
  walls = station.walls;
  few = station.few;
  ways = station.ways;
  left = left;
  events_are = events_are;
}

-- ---- on to the next group

event_in_gap : (scene : Scene) (p d : Point) (arc : Arc) (kept shown : ℕ → Bool) (events : List ℕ) (low high : ℕ)
    (j : ℕ)
    → IsWay scene p arc kept shown events → IsGap events low high → start_place arc ≤ low → high ≤ end_place arc
    → IsDirection d → IsDirected d → low ≤ place_of d → place_of d < high → j < length scene.corners
    → shown j ≡ true → stands_in p d (get_or scene.corners j no_corner).here ≡ true
    → IsDirected (way_at p scene.corners j) → ⊥
event_in_gap scene p d arc kept shown events low high j w gap first last d_in d_some above below lt own stands some =
    let same : place_of d ≡ place_of (way_at p scene.corners j) = tested_same_number (place_of d)
    (place_of (way_at p scene.corners j))
    (sym (stands_where p d (get_or scene.corners j no_corner).here d_in d_some (w.ways j lt) some) ∙ stands) in
    let e = subst (λ n. IsEventAt events n j) (sym same) (event_at scene p arc kept shown events j w lt own some
    (subst (λ n. start_place arc ≤ n) same (up (start_place arc) low (place_of d) first above))
    (subst (λ n. n < end_place arc) same (down (place_of d) high (end_place arc) below last))) in
    gap.none e.at e.within (subst (λ n. low ≤ n) (sym e.place_is) above) (subst (λ n. n < high) (sym e.place_is) below)
  where
    up : (a b c : ℕ) → a ≤ b → b ≤ c → a ≤ c
    up a b c h k = omega (arith, h, k)

    down : (a b c : ℕ) → a < b → b ≤ c → a < c
    down a b c h k = omega (arith, h, k)

-- what is held is open, if nothing ends at the start
held_open : (scene : Scene) (p : Point) (kept : ℕ → Bool) (start low high : ℕ) (active : List Blocker) → low < high
    → EndNowhere p (blockers_of_scene scene) kept low high
    → IsActive scene p kept (λ n s. is_held_at start (from_place s) (to_place s) low) active
    → IsActive scene p kept (λ n s. is_open_at (from_place s) (to_place s) low) active
held_open scene p kept start low high active lt nowhere a =
    active_so scene p kept (λ n s. is_held_at start (from_place s) (to_place s) low)
    (λ n s. is_open_at (from_place s) (to_place s) low) active a
    (λ n s within own is. by_cases ((to_place s == start) && (low == start))
    (λ h. absurd (let two = both_of (to_place s == start) (low == start) h in
    ends (to_place s) start low high two.0 two.1 lt (nowhere n s within own is).no_to))
    (λ h. all_of (is_open_at (from_place s) (to_place s) low) ((to_place s == start) && (low == start)) h))
  where
    ends : (t start low high : ℕ) → (t == start) ≡ true → (low == start) ≡ true → low < high → nat_lt t low
        ≡ nat_lt t high → ⊥
    ends t start low high h k lt e =
        let same : t ≡ low = tested_same_number t start h ∙ sym (tested_same_number low start k) in
        clash (nat_lt t high) (number_less_tested t high (subst (λ n. n < high) (sym same) lt))
        (sym e ∙ number_not_less t low (subst (λ n. n ≤ t) same (own t)))
      where
        own : (n : ℕ) → n ≤ n
        own n = omega arith

    all_of : (o b : Bool) → b ≡ false → (o && not b) ≡ o
    all_of o b h = grind arith

-- between two groups what the list has first is the first of all
first_in_gap : (scene : Scene) (p d : Point) (arc : Arc) (kept shown : ℕ → Bool) (events : List ℕ) (low high : ℕ)
    (active : List Blocker) → IsWay scene p arc kept shown events → IsGap events low high → low ≤ high
    → start_place arc ≤ low → high ≤ end_place arc → IsDirection d → IsDirected d → is_in_arc arc d ≡ true
    → low ≤ place_of d → place_of d < high
    → IsActive scene p kept (λ n s. is_open_at (from_place s) (to_place s) low) active
    → IsFirst scene p d (first_held (map numbered active))
first_in_gap scene p d arc kept shown events low high active w gap le first last d_in d_some within above below opened =
    first_without scene p d kept (first_held (map numbered active))
    (first_between p d (blockers_of_scene scene) kept low (map numbered active) d_in d_some w.walls.blockers
    (w.walls.apart d) opened.held
    (gap_ends_nowhere scene p arc kept shown events low (place_of d + 1) w
    (record {
      none = λ i lt ge under. gap.none i lt ge (chain (place_at (get_or events i 0)) (place_of d) high under
          below);
    })
    (up low (place_of d) above) first (most (place_of d) high (end_place arc) below last))
    above) (w.left.covered d d_in d_some within)
  where
    chain : (a b c : ℕ) → a < b + 1 → b < c → a < c
    chain a b c h k = omega (arith, h, k)

    up : (a b : ℕ) → a ≤ b → a ≤ b + 1
    up a b h = omega (arith, h)

    most : (a b c : ℕ) → a < b → b ≤ c → a + 1 ≤ c
    most a b c h k = omega (arith, h, k)

pub goes_on : (scene : Scene) (p : Point) (arc : Arc) (kept shown : ℕ → Bool) (before : Option Front)
    (sectors : List Sector)
    (events : List ℕ) (low high : ℕ) (active : List Blocker) → IsWay scene p arc kept shown events
    → IsGap events low high
    → low < high → high ≤ end_place arc → IsUnderway scene p arc kept (start_place arc) before sectors low active
    → IsUnderway scene p arc kept (start_place arc) before sectors high active
goes_on scene p arc kept shown before sectors events low high active w gap lt last u =
    let le : low ≤ high = omega (arith, lt) in
    let nowhere = gap_ends_nowhere scene p arc kept shown events low high w gap le u.since last in
    let opened = held_open scene p kept (start_place arc) low high active lt nowhere u.holds in
    let r = round_goes_on scene p arc kept before sectors low high (map numbered active) w.walls
    w.left.covered (record { radials = u.radials; held = opened.held }) le nowhere
    (λ d d_in d_some within above below.
    hidden_if_shown scene p d shown (first_held (map numbered active))
    (first_in_gap scene p d arc kept shown events low high active w gap le u.since last d_in d_some within above below
    opened) d_some (w.left.past d d_in d_some within)
    (λ j j_in own stands some. absurd (event_in_gap scene p d arc kept shown events low high j w gap u.since last d_in
    d_some above below j_in own stands some))) in
    record {
      radials = r.radials;
      holds = held_as_open scene p kept (start_place arc) high active (unlike (start_place arc) low high u.since lt)
          (record { held = r.held; known = u.holds.known });
      ways = u.ways;
      to_corners = u.to_corners;
      since = up (start_place arc) low high u.since le;
    }
  where
    unlike : (start low high : ℕ) → start ≤ low → low < high → high ≡ start → ⊥
    unlike start low high h k e = omega (arith, h, k, e)

    up : (a b c : ℕ) → a ≤ b → b ≤ c → a ≤ c
    up a b c h k = omega (arith, h, k)

pub goes_on_or_stays : (scene : Scene) (p : Point) (arc : Arc) (kept shown : ℕ → Bool) (before : Option Front)
    (sectors : List Sector)
    (events : List ℕ) (low high : ℕ) (active : List Blocker) → IsWay scene p arc kept shown events
    → IsGap events low high
    → low ≤ high → high ≤ end_place arc → IsUnderway scene p arc kept (start_place arc) before sectors low active
    → IsUnderway scene p arc kept (start_place arc) before sectors high active
goes_on_or_stays scene p arc kept shown before sectors events low high active w gap le last u = by_lt low high
    (λ lt. goes_on scene p arc kept shown before sectors events low high active w gap lt last u)
    (λ ge. subst (λ n. IsUnderway scene p arc kept (start_place arc) before sectors n active) (same low high le ge) u)
  where
    same : (low high : ℕ) → low ≤ high → high ≤ low → low ≡ high
    same low high h k = omega (arith, h, k)

-- ---- the loop over the events

rises : (scene : Scene) (p : Point) (arc : Arc) (kept shown : ℕ → Bool) (events : List ℕ) (i j : ℕ)
    → IsWay scene p arc kept shown events → i ≤ j
    → j < length events → place_at (get_or events i 0) ≤ place_at (get_or events j 0)
rises scene p arc kept shown events i j w le lt = places_rise (get_or events i 0) (get_or events j 0)
    (w.events_are.sorted i j 0 le lt)

pub place_in : (scene : Scene) (p : Point) (arc : Arc) (kept shown : ℕ → Bool) (events : List ℕ) (i : ℕ)
    → IsWay scene p arc kept shown events
    → i < length events → (start_place arc ≤ place_at (get_or events i 0))
    × (place_at (get_or events i 0) < end_place arc)
place_in scene p arc kept shown events i w lt =
    let e = w.events_are.each i 0 lt in
    let v = way_at p scene.corners (corner_of (get_or events i 0)) in
    let v_in = w.ways (corner_of (get_or events i 0)) e.within in (
      subst (λ n. start_place arc ≤ n) (sym e.place) (in_arc_from arc v w.is_arc v_in e.directed e.in_arc),
      subst (λ n. n < end_place arc) (sym e.place) (in_arc_below arc v w.is_arc v_in e.directed e.in_arc),
    )

pub going_begins : (scene : Scene) (p : Point) (arc : Arc) (kept shown : ℕ → Bool) (before : Option Front)
    (sectors : List Sector)
    (events : List ℕ) (active : List Blocker) → IsWay scene p arc kept shown events → start_place arc ≤ end_place arc
    → IsUnderway scene p arc kept (start_place arc) before sectors (start_place arc) active
    → IsGoing scene p arc kept before sectors events 0 0 active
going_begins scene p arc kept shown before sectors events active w le u = record {
  place = start_place arc;
  underway = u;
  last = le;
  order = omega arith;
  passed = λ i lt. absurd (omega arith);
  coming = λ i ge lt. (place_in scene p arc kept shown events i w lt).0;
  same = λ i ge le lt. let e : i ≡ 0 = omega arith in ap (λ n. place_at (get_or events n 0)) e;
  all_passed = λ h. refl;
}

pub going_more : (scene : Scene) (p : Point) (arc : Arc) (kept : ℕ → Bool) (before : Option Front)
    (sectors : List Sector)
    (events : List ℕ) (from k : ℕ) (active : List Blocker) → k + 1 < length events
    → place_at (get_or events k 0) ≡ place_at (get_or events (k + 1) 0)
    → IsGoing scene p arc kept before sectors events from k active
    → IsGoing scene p arc kept before sectors events from (k + 1) active
going_more scene p arc kept before sectors events from k active more e g = record {
  place = g.place;
  underway = g.underway;
  last = g.last;
  order = let h = g.order in omega (arith, h);
  passed = g.passed;
  coming = g.coming;
  same = λ i ge le lt. by_lt i (k + 1)
      (λ low. g.same i ge (omega (arith, low)) lt)
      (λ high. let i_is : i ≡ k + 1 = omega (arith, le, high) in
      ap (λ n. place_at (get_or events n 0)) i_is ∙ sym e ∙ g.same k g.order (omega arith) (omega (arith, more)));
  all_passed = λ h. absurd (omega (arith, h, more));
}

-- the run that ends at k
pub run_at : (scene : Scene) (p : Point) (arc : Arc) (kept shown : ℕ → Bool) (before : Option Front)
    (sectors : List Sector) (events : List ℕ)
    (from k : ℕ) (active : List Blocker) → IsWay scene p arc kept shown events → k < length events
    → (k + 1 < length events → place_at (get_or events k 0) ≢ place_at (get_or events (k + 1) 0))
    → IsGoing scene p arc kept before sectors events from k active
    → IsRun events from (k + 1) (place_at (get_or events from 0))
run_at scene p arc kept shown before sectors events from k active w inside other g = record {
  some = let h = g.order in omega (arith, h);
  within = omega (arith, inside);
  same = λ i ge lt. g.same i ge (omega (arith, lt)) (short i k (length events) lt inside);
  before = λ i lt. chain (place_at (get_or events i 0)) g.place (place_at (get_or events from 0)) (g.passed i lt)
      (g.coming from (omega arith) (within from k (length events) g.order inside));
  after = λ i ge lt.
      let more : k + 1 < length events = above (k + 1) i (length events) ge lt in
      beyond (place_at (get_or events from 0)) (place_at (get_or events k 0)) (place_at (get_or events (k + 1) 0))
      (place_at (get_or events i 0))
      (g.same k g.order (omega arith) inside) (rises scene p arc kept shown events k (k + 1) w (omega arith) more)
      (other more)
      (rises scene p arc kept shown events (k + 1) i w ge lt);
}
  where
    short : (i k n : ℕ) → i < k + 1 → k < n → i < n
    short i k n h j = omega (arith, h, j)

    chain : (a b c : ℕ) → a < b → b ≤ c → a < c
    chain a b c h k = omega (arith, h, k)

    within : (from k n : ℕ) → from ≤ k → k < n → from < n
    within from k n h j = omega (arith, h, j)

    above : (a b c : ℕ) → a ≤ b → b < c → a < c
    above a b c h k = omega (arith, h, k)

    beyond : (p q r s : ℕ) → q ≡ p → q ≤ r → q ≢ r → r ≤ s → p < s
    beyond p q r s e le other le_too = by_lt q r (λ lt. omega (arith, e, lt, le_too))
        (λ ge. absurd (other (omega (arith, le, ge))))

pub run_gap : (events : List ℕ) (from upto low place : ℕ) → IsRun events from upto place
    → ((i : ℕ) → i < from → place_at (get_or events i 0) < low) → IsGap events low place
run_gap events from upto low place r passed = record {
  none = λ i lt ge below. by_lt i from
      (λ early. absurd (never (place_at (get_or events i 0)) low (passed i early) ge))
      (λ late. by_lt i upto
      (λ inside. absurd (same (place_at (get_or events i 0)) place (r.same i late inside) below))
      (λ outside. absurd (beyond (place_at (get_or events i 0)) place (r.after i outside lt) below)));
}
  where
    never : (a b : ℕ) → a < b → b ≤ a → ⊥
    never a b h k = omega (arith, h, k)

    same : (a b : ℕ) → a ≡ b → a < b → ⊥
    same a b e h = omega (arith, e, h)

    beyond : (a b : ℕ) → b < a → a < b → ⊥
    beyond a b h k = omega (arith, h, k)

-- before the group is passed
pub going_to : (scene : Scene) (p : Point) (arc : Arc) (kept shown : ℕ → Bool) (before : Option Front)
    (sectors : List Sector)
    (events : List ℕ) (from k : ℕ) (active : List Blocker) → IsWay scene p arc kept shown events → k < length events
    → IsRun events from (k + 1) (place_at (get_or events from 0))
    → IsGoing scene p arc kept before sectors events from k active
    → IsUnderway scene p arc kept (start_place arc) before sectors (place_at (get_or events from 0)) active
going_to scene p arc kept shown before sectors events from k active w inside r g =
    let lt : from < length events = within from k (length events) g.order inside in
    goes_on_or_stays scene p arc kept shown before sectors events g.place (place_at (get_or events from 0)) active w
    (run_gap events from (k + 1) g.place (place_at (get_or events from 0)) r g.passed)
    (g.coming from (omega arith) lt) (at_most _ _ (place_in scene p arc kept shown events from w lt).1) g.underway
  where
    within : (from k n : ℕ) → from ≤ k → k < n → from < n
    within from k n h j = omega (arith, h, j)

    at_most : (a b : ℕ) → a < b → a ≤ b
    at_most a b h = omega (arith, h)

-- after it
pub going_past : (scene : Scene) (p : Point) (arc : Arc) (kept shown : ℕ → Bool) (before : Option Front)
    (sectors : List Sector)
    (events : List ℕ) (from k : ℕ) (active : List Blocker) → IsWay scene p arc kept shown events → k < length events
    → from ≤ k → IsRun events from (k + 1) (place_at (get_or events from 0))
    → IsUnderway scene p arc kept (start_place arc) before sectors (place_at (get_or events from 0) + 1) active
    → IsGoing scene p arc kept before sectors events (k + 1) (k + 1) active
going_past scene p arc kept shown before sectors events from k active w inside le r u = record {
  place = place_at (get_or events from 0) + 1;
  underway = u;
  last = more _ _ (place_in scene p arc kept shown events from w (within from k (length events) le inside)).1;
  order = omega arith;
  passed = λ i lt. by_lt i from
      (λ early. low _ _ (r.before i early))
      (λ late. own _ _ (r.same i late lt));
  coming = λ i ge lt. more _ _ (r.after i ge lt);
  same = λ i ge le lt. ap (λ n. place_at (get_or events n 0)) (between i (k + 1) le ge);
  all_passed = λ h. refl;
}
  where
    within : (from k n : ℕ) → from ≤ k → k < n → from < n
    within from k n h j = omega (arith, h, j)

    more : (a b : ℕ) → a < b → a + 1 ≤ b
    more a b h = omega (arith, h)

    low : (a b : ℕ) → a < b → a < b + 1
    low a b h = omega (arith, h)

    own : (a b : ℕ) → a ≡ b → a < b + 1
    own a b e = omega (arith, e)

    between : (i k : ℕ) → i ≤ k → k ≤ i → i ≡ k
    between i k h j = omega (arith, h, j)

pub going_ends : (scene : Scene) (p : Point) (arc : Arc) (kept shown : ℕ → Bool) (before : Option Front)
    (sectors : List Sector)
    (events : List ℕ) (from k : ℕ) (active : List Blocker) → IsWay scene p arc kept shown events → length events ≤ k
    → IsGoing scene p arc kept before sectors events from k active
    → IsUnderway scene p arc kept (start_place arc) before sectors (end_place arc) active
going_ends scene p arc kept shown before sectors events from k active w end g =
    goes_on_or_stays scene p arc kept shown before sectors events g.place (end_place arc) active w
    (record {
      none = λ i lt ge below. absurd
          (never (place_at (get_or events i 0)) g.place
          (g.passed i (inside i k from (length events) lt end (g.all_passed end))) ge);
    })
    g.last (own (end_place arc)) g.underway
  where
    never : (a b : ℕ) → a < b → b ≤ a → ⊥
    never a b h k = omega (arith, h, k)

    inside : (i k from n : ℕ) → i < n → n ≤ k → from ≡ k → i < from
    inside i k from n h j e = omega (arith, h, j, e)

    own : (n : ℕ) → n ≤ n
    own n = omega arith

-- ---- which event is the last of its direction

pub last_so : (a b : ℕ) (r : Bool) → r ≡ true → r ≡ not (a == b) → a ≢ b
last_so a b r h k e = clash_of (a == b) (subst (λ n. (a == n) ≡ true) e (own_number a)) (sym k ∙ h)
  where
    clash_of : (t : Bool) → t ≡ true → not t ≡ true → ⊥
    clash_of t h k = grind arith

pub not_last_so : (a b : ℕ) (r : Bool) → r ≡ false → r ≡ not (a == b) → a ≡ b
not_last_so a b r h k = tested_same_number a b (turned (a == b) (sym k ∙ h))
  where
    turned : (t : Bool) → not t ≡ false → t ≡ true
    turned t h = grind arith

pub not_at_end : (k n : ℕ) (r : Bool) → k < n → r ≡ false → (k + 1 ≡ n → r ≡ true) → k + 1 < n
not_at_end k n r lt h end = by_lt (k + 1) n (λ more. more) (λ ge. absurd (clash r (end (same k n lt ge)) h))
  where
    same : (k n : ℕ) → k < n → n ≤ k + 1 → k + 1 ≡ n
    same k n h j = omega (arith, h, j)
