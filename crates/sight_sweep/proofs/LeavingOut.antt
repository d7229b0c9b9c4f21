-- What may be left out of a round: walls and screens that a kept one hides whole, and corners that one hides.
use Rattle.std.proofs.Common.{◌≡◌, ℕ, ◌<◌, ◌<ℤ◌, ◌≤ℤ◌, pos, arith, ap, sym, ◌∙◌, subst, length, get_or}
use Rattle.std.proofs.lemmas.Int.{ints, by_lt_z}
use Rattle.std.specs.Prelude.{Bool, true, int_lt, Some}
use Rattle.int_laws.proofs.Signs.{tested_positive, positive_tested}
use Rattle.plane_spec.specs.declared.Point.{Point}
use Rattle.plane_spec.specs.Vectors.{vector, cross_of, same_point, IsDirection, IsDirected}
use Rattle.sight_spec.specs.Scene.{Scene, blockers_of_scene}
use Rattle.front_laws.specs.Seen.{Seen, spans, side_of, seen_at}
use Rattle.sight_spec.specs.Isovist.{no_segment}
use Rattle.front_laws.proofs.Tests.{by_cases, clash_to, both_of, both_true, tested_same_number}
use Rattle.turn_laws.specs.Places.{place_of}
use Rattle.apart_laws.proofs.Beside.{same_itself}
use Rattle.apart_laws.proofs.Through.{by_ends}
use Rattle.sweep_laws.specs.Groups.{no_corner, stands_in}
use Rattle.sweep_laws.proofs.Grouped.{stands_where}
use Rattle.view_laws.specs.declared.view.Arc.{Arc}
use Rattle.round_laws.specs.Kept.{IsCovered, IsPastOne}
use Rattle.round_laws.specs.Rounds.{AreBlockers, is_spanned_at, from_place, to_place}
use Rattle.round_laws.proofs.Without.{cover_before, right_of_arc, left_of_arc}
use Rattle.round_laws.proofs.Steps.{spans_at}
use Rattle.round_laws.proofs.Bodies.{seen_of_number}
use Rattle.round_laws.proofs.Endings.{along_some}
use Rattle.station_laws.specs.Grounds.{HasCornerAt}
use Rattle.sight_sweep.specs.LeftOut.{is_hidden, HasShownCorner, AreLeftOut, IsBehind, IsCoveredWhole, AreCoveredWhole}
use Rattle.sight_sweep.specs.LeftOut.{AreUntold}
use Rattle.sight_sweep.specs.Stations.{IsStation}
use Rattle.sight_sweep.specs.Tables.{ends_at}
use Rattle.sight_sweep.proofs.Groups.{ends_there, begins_there}
use Rattle.sight_sweep.proofs.Passing.{along_of}

-- ---- walls and screens

-- a direction between two that span a cover spans it
pub cone_spanned : (d : Point) (cover w : Seen) → pos 0 <ℤ cross_of w.from w.to → spans d w ≡ true
    → spans w.from cover ≡ true → spans w.to cover ≡ true → spans d cover ≡ true
cone_spanned d cover w up spanned first last =
    let f = both_of (int_lt (pos 0) (cross_of cover.from w.from)) (int_lt (pos 0) (cross_of w.from cover.to)) first in
    let l = both_of (int_lt (pos 0) (cross_of cover.from w.to)) (int_lt (pos 0) (cross_of w.to cover.to)) last in
    both_true (int_lt (pos 0) (cross_of cover.from d)) (int_lt (pos 0) (cross_of d cover.to))
    (by_lt_z (pos 0) (cross_of cover.from d)
    (λ lt. positive_tested (cross_of cover.from d) lt)
    (λ le. clash_to (spans d w) spanned (left_of_arc cover.from d w up le
    (tested_positive (cross_of cover.from w.from) f.0) (tested_positive (cross_of cover.from w.to) l.0))))
    (by_lt_z (pos 0) (cross_of d cover.to)
    (λ lt. positive_tested (cross_of d cover.to) lt)
    (λ le. clash_to (spans d w) spanned (right_of_arc cover.to d w up (other d cover.to le)
    (turned w.from cover.to f.1) (turned w.to cover.to l.1))))
  where
    other : (a b : Point) → cross_of a b ≤ℤ pos 0 → pos 0 ≤ℤ cross_of b a
    other a b h = omega (arith, ints, h)

    turned : (a b : Point) → int_lt (pos 0) (cross_of a b) ≡ true → cross_of b a <ℤ pos 0
    turned a b h = omega (arith, ints, h)

-- what a cover hides at both ends is met after it
pub covered_whole : (scene : Scene) (p d : Point) (kept : ℕ → Bool) (j : ℕ) (t : Seen)
    → AreBlockers p (blockers_of_scene scene) → j < length (blockers_of_scene scene)
    → seen_at p (blockers_of_scene scene) j ≡ Some t → spans d t ≡ true → IsCoveredWhole scene p kept j
    → IsCovered p d (blockers_of_scene scene) kept t
covered_whole scene p d kept j t are within is spanned c =
    let two = by_ends (λ v. is_hidden c.cover v ≡ true) p (get_or (blockers_of_scene scene) j no_segment) t c.first c.last
    (seen_of_number p (blockers_of_scene scene) j t within is) in
    let f = both_of (spans t.from c.cover) (int_lt (side_of c.cover t.from) (pos 0)) two.0 in
    let l = both_of (spans t.to c.cover) (int_lt (side_of c.cover t.to) (pos 0)) two.1 in
    record {
      number = c.number;
      cover = c.cover;
      within = c.within;
      is_kept = c.is_kept;
      seen = c.seen;
      spanned = cone_spanned d c.cover t (are j t within is).up spanned f.0 l.0;
      before = cover_before d c.cover t spanned f.1 l.1;
    }

-- ---- corners

-- a corner that a cover hides is behind it, and the corner's direction spans it
pub hidden_past : (scene : Scene) (p d x : Point) (kept : ℕ → Bool) → AreBlockers p (blockers_of_scene scene)
    → IsDirection d → IsDirected d → IsDirection (vector p x) → stands_in p d x ≡ true → IsBehind scene p kept x
    → IsPastOne p d (blockers_of_scene scene) (vector p x)
hidden_past scene p d x kept are d_in d_some v_in stands c =
    let v = vector p x in
    let v_some = along_some d v (along_of p d x stands) in
    let two = both_of (spans v c.cover) (int_lt (side_of c.cover v) (pos 0)) c.hides in
    let b = are c.number c.cover c.within c.seen in
    let same = tested_same_number (place_of d) (place_of v) (sym (stands_where p d x d_in d_some v_in v_some) ∙ stands)
    in
    record {
      number = c.number;
      cover = c.cover;
      within = c.within;
      seen = c.seen;
      spanned = spans_at d c.cover d_in d_some b
          ∙ ap (is_spanned_at (from_place c.cover) (to_place c.cover)) same
          ∙ sym (spans_at v c.cover v_in v_some b) ∙ two.0;
      past = two.1;
    }

-- the corner at which something ends that is kept is shown
shown_at : (scene : Scene) (p v : Point) (kept shown : ℕ → Bool) (n : ℕ) → AreUntold scene p kept shown
    → n < length (blockers_of_scene scene) → kept n ≡ true
    → ((x : Point) → same_point v (vector p x) ≡ true → ends_at (get_or (blockers_of_scene scene) n no_segment) x ≡ true)
    → HasCornerAt p scene.corners v → HasShownCorner p scene.corners shown v
shown_at scene p v kept shown n untold within own ends c = record {
  corner = c;
  is_shown = by_cases (shown c.number)
      (λ h. h)
      (λ h. clash_to (kept n) own ((untold c.number c.within h).none n within
      (ends (get_or scene.corners c.number no_corner).here
      (subst (λ t. same_point v t ≡ true) (sym c.there) (same_itself v)))));
}

-- ---- both

-- where each wall or screen that isn't kept is covered whole, and each corner that isn't shown is untold, they may be
-- left out in any arc
pub left_out_of : (scene : Scene) (p : Point) (arc : Arc) (kept shown : ℕ → Bool) → IsStation scene p
    → AreCoveredWhole scene p kept → AreUntold scene p kept shown → AreLeftOut scene p arc kept shown
left_out_of scene p arc kept shown station whole untold = record {
  covered = λ d d_in d_some within j t j_in out is spanned.
      covered_whole scene p d kept j t station.walls.blockers j_in is spanned (whole j j_in out);
  past = λ d d_in d_some within j j_in out stands.
      hidden_past scene p d (get_or scene.corners j no_corner).here kept station.walls.blockers d_in d_some
      (station.ways j j_in) stands (untold j j_in out).behind;
  ends = λ n s within own is.
      let two = station.corners n s within is in
      let line = get_or (blockers_of_scene scene) n no_segment in
      let seen = seen_of_number p (blockers_of_scene scene) n s within is in (
        shown_at scene p s.from kept shown n untold within own (λ x h. begins_there p x line s seen h) two.0,
        shown_at scene p s.to kept shown n untold within own (λ x h. ends_there p x line s seen h) two.1,
      );
}
