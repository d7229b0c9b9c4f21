-- Bodies that are hidden may be left out: their walls are covered and their corners past.
--
-- A body is hidden where in each bin of places that it takes up some kept wall begins in a lower bin and ends in a
-- higher
-- one, and has all of the body's points strictly behind its line. Let a direction span a wall of the body that doesn't
-- pass (1,0). Its place is between those of the wall's ends, so its bin is one of the body's, and it spans the cover of
-- that bin. Both ends of the wall are behind the cover, so the wall is hit after it. A corner of the body is behind the
-- cover of its own bin, which the direction to it spans.
use Rattle.std.proofs.Common.{◌≡◌, ℕ, ◌<◌, ◌≤◌, pos, arith, ap, refl, sym, ◌∙◌, List, length}
use Rattle.std.proofs.Common.{get_or, nat_lt}
use Rattle.std.specs.Prelude.{Bool, true, false, Some, int_lt}
use Rattle.std.specs.Ordering.{int_eq}
use Rattle.plane_spec.specs.declared.Point.{Point}
use Rattle.plane_spec.specs.declared.Segment.{Segment}
use Rattle.plane_spec.specs.Vectors.{vector, cross_of, dot_of, IsDirection, IsDirected}
use Rattle.sight_spec.specs.Scene.{Scene, blockers_of_scene}
use Rattle.int_laws.proofs.Signs.{tested_positive}
use Rattle.front_laws.specs.Seen.{Seen, spans, seen_at}
use Rattle.sight_spec.specs.Isovist.{no_segment}
use Rattle.front_laws.proofs.Tests.{both_of, tested_zero, tested_number_less, tested_same_number, number_less_tested}
use Rattle.turn_laws.specs.Places.{place_of}
use Rattle.turn_laws.specs.Turns.{among_by}
use Rattle.sweep_laws.specs.Groups.{stands_in, no_corner}
use Rattle.sweep_laws.proofs.Grouped.{stands_where}
use Rattle.view_laws.specs.declared.view.Arc.{Arc}
use Rattle.view_laws.specs.Views.{IsAlong}
use Rattle.round_laws.specs.Kept.{IsCovered, IsPastOne, ArePast, bin_of, IsBinCovered, IsHiddenWall}
use Rattle.round_laws.specs.Kept.{IsHiddenPoint}
use Rattle.round_laws.specs.Rounds.{AreBlockers, AreCoveredIn, is_spanned_at, from_place, to_place}
use Rattle.round_laws.proofs.Steps.{spans_at}
use Rattle.round_laws.proofs.Bodies.{bin_spanned, covered_by}
use Rattle.round_laws.proofs.Endings.{along_some}

bin_rises : (m n : ℕ) → m ≤ n → bin_of m ≤ bin_of n
bin_rises m n h = omega (arith, h)

-- a direction that spans a wall that doesn't pass (1,0) has its place between those of the wall's ends
between_ends : (from to place : ℕ) → from < to → is_spanned_at from to place ≡ true → (from < place) × (place < to)
between_ends from to place lt h =
    let two = both_of (nat_lt from place) (nat_lt place to)
    (sym (ap (λ t. among_by t (nat_lt from place) (nat_lt place to)) (number_less_tested from to lt)) ∙ h) in
    (tested_number_less from place two.0, tested_number_less place to two.1)

-- a wall of a hidden body is covered
pub wall_covered : (p d : Point) (blockers : List Segment) (kept : ℕ → Bool) (j : ℕ) (t : Seen) → IsDirection d
    → IsDirected d → AreBlockers p blockers → j < length blockers → seen_at p blockers j ≡ Some t
    → IsHiddenWall p blockers kept j t → spans d t ≡ true → IsCovered p d blockers kept t
wall_covered p d blockers kept j t d_in d_some are j_in t_seen h spanned =
    covered_by p d blockers kept c.number c.cover j t c.within c.is_kept c.seen
    (bin_spanned d c.cover (bin_of (place_of d)) d_in d_some (are c.number c.cover c.within c.seen) c.starts c.ends
    refl)
    j_in t_seen spanned (c.behind (get_or blockers j no_segment).a h.first) (c.behind (get_or blockers j no_segment).b h.last)
  where
    ends : (from_place t < place_of d) × (place_of d < to_place t)
    ends = between_ends (from_place t) (to_place t) (place_of d) h.in_turn
        (sym (spans_at d t d_in d_some (are j t j_in t_seen)) ∙ spanned)

    above : (low a b : ℕ) → low ≤ bin_of a → a < b → low ≤ bin_of b
    above low a b h k = omega (arith, h, k)

    below : (a b high : ℕ) → a < b → bin_of b ≤ high → bin_of a ≤ high
    below a b high h k = omega (arith, h, k)

    c : IsBinCovered p blockers kept h.has (bin_of (place_of d))
    c = h.covers (bin_of (place_of d)) (above h.low (from_place t) (place_of d) h.from_low ends.0)
        (below (place_of d) (to_place t) h.high ends.1 h.to_high)

-- a corner of a hidden body is behind a wall that its direction spans
pub point_past : (p d x : Point) (blockers : List Segment) (kept : ℕ → Bool) → IsDirection d → IsDirected d
    → AreBlockers p blockers → IsDirection (vector p x) → IsHiddenPoint p blockers kept x → stands_in p d x ≡ true
    → IsPastOne p d blockers (vector p x)
point_past p d x blockers kept d_in d_some are v_in h there = record {
  number = c.number;
  cover = c.cover;
  within = c.within;
  seen = c.seen;
  spanned = bin_spanned d c.cover (bin_of (place_of (vector p x))) d_in d_some
      (are c.number c.cover c.within c.seen) c.starts c.ends (ap bin_of same);
  past = c.behind x h.own;
}
  where
    c : IsBinCovered p blockers kept h.has (bin_of (place_of (vector p x)))
    c = h.covers (bin_of (place_of (vector p x))) h.from_low h.to_high

    along : IsAlong d (vector p x)
    along =
        let two = both_of (int_eq (cross_of d (vector p x)) (pos 0)) (int_lt (pos 0) (dot_of d (vector p x))) there in
        record {
          line = tested_zero (cross_of d (vector p x)) two.0;
          ahead = tested_positive (dot_of d (vector p x)) two.1;
        }

    same : place_of d ≡ place_of (vector p x)
    same = tested_same_number (place_of d) (place_of (vector p x))
        (sym (stands_where p d x d_in d_some v_in (along_some d (vector p x) along)) ∙ there)

-- where each wall that is left out is of a hidden body, all that are left out are covered
pub all_covered : (scene : Scene) (p : Point) (arc : Arc) (kept : ℕ → Bool) → AreBlockers p (blockers_of_scene scene)
    → ((j : ℕ) (t : Seen) → j < length (blockers_of_scene scene) → kept j ≡ false
    → seen_at p (blockers_of_scene scene) j ≡ Some t → IsHiddenWall p (blockers_of_scene scene) kept j t)
    → AreCoveredIn scene p arc kept
all_covered scene p arc kept are hidden d d_in d_some in_arc j t j_in out seen spanned =
    wall_covered p d (blockers_of_scene scene) kept j t d_in d_some are j_in seen (hidden j t j_in out seen) spanned

-- and where each corner that is left out is of one, all that are left out are past
pub all_past : (scene : Scene) (p d : Point) (kept corners_kept : ℕ → Bool) → IsDirection d → IsDirected d
    → AreBlockers p (blockers_of_scene scene)
    → ((j : ℕ) → j < length scene.corners → IsDirection (vector p (get_or scene.corners j no_corner).here))
    → ((j : ℕ) → j < length scene.corners → corners_kept j ≡ false
    → IsHiddenPoint p (blockers_of_scene scene) kept (get_or scene.corners j no_corner).here)
    → ArePast scene p d corners_kept
all_past scene p d kept corners_kept d_in d_some are corners_in hidden j j_in out there =
    point_past p d (get_or scene.corners j no_corner).here (blockers_of_scene scene) kept d_in d_some are
    (corners_in j j_in) (hidden j j_in out) there
