-- Bodies that are left out: behind covers, or outside the arc; and the walls of a sound plan.
use Rattle.std.proofs.Common.{◌≡◌, ◌≢◌, ℕ, ◌/◌, ◌<◌, ℤ, ◌<ℤ◌, ◌≤ℤ◌, ◌∙◌, pos, arith, sym, List, length, get_or, nat_lt}
use Rattle.std.proofs.Common.{ap, subst}
use Rattle.std.proofs.lemmas.Int.{ints, by_lt_z}
use Rattle.std.specs.Ordering.{int_eq}
use Rattle.std.specs.Prelude.{◌&&◌, ◌||◌, Bool, true, false, int_lt, Some, None}
use Rattle.plan_spec.specs.Accepted.{is_sound}
use Rattle.plan_spec.specs.Plan.{Plan}
use Rattle.plane_spec.specs.Vectors.{cross_of, vector, IsDirection, IsDirected, InRange}
use Rattle.plane_spec.specs.declared.Point.{Point}
use Rattle.plane_spec.specs.declared.Segment.{Segment}
use Rattle.sight_spec.specs.Scene.{scene_of, blockers_of_scene}
use Rattle.apart_laws.proofs.Through.{by_ends}
use Rattle.sight_spec.specs.Isovist.{no_segment}
use Rattle.front_laws.proofs.Tests.{zero_between, mapped_at, number_less_tested}
use Rattle.front_laws.specs.Seen.{Seen, spans, side_of, is_in_front, are_apart, seen_of, seen_at}
use Rattle.round_laws.proofs.Corners.{begins_behind, begins_before, begin_together}
use Rattle.round_laws.proofs.Endings.{blocker_of}
use Rattle.round_laws.proofs.Steps.{spans_at}
use Rattle.round_laws.specs.Rounds.{AreWalls}
use Rattle.round_laws.proofs.Without.{cover_before, right_of_arc, left_of_arc}
use Rattle.round_laws.specs.Kept.{IsCovered}
use Rattle.round_laws.specs.Rounds.{is_spanned_at, from_place, to_place, IsBlocker, AreApartAhead}
use Rattle.sweep_laws.proofs.Found.{all_apart}
use Rattle.turn_laws.specs.Places.{place_of}
use Rattle.turn_laws.specs.Turns.{among_by}

-- ---- one side and the other end

-- whether a wall that begins at a corner is in front of one that the corner's direction spans, by the sides of its ends
pub new_where : (s t : Seen) → pos 0 <ℤ cross_of t.from t.to → spans t.from s ≡ true → are_apart t s ≡ true
    → is_in_front t s ≡ (int_lt (pos 0) (side_of s t.from)
    || (int_eq (side_of s t.from) (pos 0) && int_lt (pos 0) (side_of s t.to)))
new_where s t up spanned apart = by_lt_z (side_of s t.from) (pos 0)
    (λ lt. begins_behind s t up spanned lt ∙ sym (when_less (side_of s t.from) (int_lt (pos 0) (side_of s t.to)) lt))
    (λ le. by_lt_z (pos 0) (side_of s t.from)
    (λ gt. begins_before s t up spanned apart gt
    ∙ sym (when_more (side_of s t.from) (int_eq (side_of s t.from) (pos 0) && int_lt (pos 0) (side_of s t.to)) gt))
    (λ ge. let e = zero_between (side_of s t.from) le ge in begin_together s t e
    ∙ sym (when_none (side_of s t.from) (int_lt (pos 0) (side_of s t.to)) e)))
  where
    when_less : (x : ℤ) (b : Bool) → x <ℤ pos 0 → (int_lt (pos 0) x || (int_eq x (pos 0) && b)) ≡ false
    when_less x b h = grind (arith, ints)

    when_more : (x : ℤ) (b : Bool) → pos 0 <ℤ x → (int_lt (pos 0) x || b) ≡ true
    when_more x b h = grind (arith, ints)

    when_none : (x : ℤ) (b : Bool) → x ≡ pos 0 → (int_lt (pos 0) x || (int_eq x (pos 0) && b)) ≡ b
    when_none x b h = grind (arith, ints)

-- ---- the ends of what is seen

pub seen_of_number : (p : Point) (blockers : List Segment) (j : ℕ) (t : Seen) → j < length blockers
    → seen_at p blockers j
    ≡ Some t → seen_of p (get_or blockers j no_segment) ≡ Some t
seen_of_number p blockers j t within h = sym (mapped_at (seen_of p) blockers j no_segment None within) ∙ h

-- ---- covers

-- a wall whose ends are strictly behind a kept wall that the direction spans is covered
pub covered_by : (p d : Point) (blockers : List Segment) (kept : ℕ → Bool) (c : ℕ) (cover : Seen) (j : ℕ) (t : Seen)
    → c < length blockers → kept c ≡ true → seen_at p blockers c ≡ Some cover → spans d cover ≡ true
    → j < length blockers → seen_at p blockers j ≡ Some t → spans d t ≡ true
    → int_lt (side_of cover (vector p (get_or blockers j no_segment).a)) (pos 0) ≡ true
    → int_lt (side_of cover (vector p (get_or blockers j no_segment).b)) (pos 0) ≡ true
    → IsCovered p d blockers kept t
covered_by p d blockers kept c cover j t c_in c_kept c_seen c_spans j_in t_seen t_spans first last =
    let e = by_ends (λ v. int_lt (side_of cover v) (pos 0) ≡ true) p (get_or blockers j no_segment) t first last
    (seen_of_number p blockers j t j_in t_seen) in
    record {
      number = c;
      cover = cover;
      within = c_in;
      is_kept = c_kept;
      seen = c_seen;
      spanned = c_spans;
      before = cover_before d cover t t_spans e.0 e.1;
    }

between : (f t : ℕ) → f / 17179869184 < t / 17179869184 → f < t
between f t h = omega (arith, h)

-- a wall with ends in bins below and above a bin is spanned by each direction of that bin
pub bin_spanned : (d : Point) (cover : Seen) (bin : ℕ) → IsDirection d → IsDirected d → IsBlocker cover
    → from_place cover / 17179869184 < bin → bin < to_place cover / 17179869184 → place_of d / 17179869184 ≡ bin
    → spans d cover ≡ true
bin_spanned d cover bin d_in d_some b low high own =
    spans_at d cover d_in d_some b ∙ by_places (from_place cover) (to_place cover) (place_of d) bin low high own
  where
    by_places : (f t x bin : ℕ) → f / 17179869184 < bin → bin < t / 17179869184 → x / 17179869184 ≡ bin
        → is_spanned_at f t x ≡ true
    by_places f t x bin low high own =
        let fx : f < x = between f x (subst (λ n. (f / 17179869184) < n) (sym own) low) in
        let xt : x < t = between x t (subst (λ n. n < (t / 17179869184)) (sym own) high) in
        let ft : f < t = omega (arith, fx, xt) in
        ap (λ u. among_by u (nat_lt f x) (nat_lt x t)) (number_less_tested f t ft)
        ∙ ap (λ u. among_by true u (nat_lt x t)) (number_less_tested f x fx) ∙ number_less_tested x t xt

-- ---- outside the arc

-- a wall of a body that is strictly right of a direction before the arc isn't spanned in it
pub right_unspanned : (a p d : Point) (blockers : List Segment) (j : ℕ) (t : Seen) → j < length blockers
    → seen_at p blockers j ≡ Some t → IsBlocker t → pos 0 ≤ℤ cross_of a d
    → cross_of a (vector p (get_or blockers j no_segment).a) <ℤ pos 0
    → cross_of a (vector p (get_or blockers j no_segment).b) <ℤ pos 0 → spans d t ≡ false
right_unspanned a p d blockers j t within seen b left first last =
    let e = by_ends (λ v. cross_of a v <ℤ pos 0) p (get_or blockers j no_segment) t first last
    (seen_of_number p blockers j t within seen) in
    right_of_arc a d t b.up left e.0 e.1

-- and one strictly left of a direction after the arc isn't
pub left_unspanned : (a p d : Point) (blockers : List Segment) (j : ℕ) (t : Seen) → j < length blockers
    → seen_at p blockers j ≡ Some t → IsBlocker t → cross_of a d ≤ℤ pos 0
    → pos 0 <ℤ cross_of a (vector p (get_or blockers j no_segment).a)
    → pos 0 <ℤ cross_of a (vector p (get_or blockers j no_segment).b) → spans d t ≡ false
left_unspanned a p d blockers j t within seen b right first last =
    let e = by_ends (λ v. pos 0 <ℤ cross_of a v) p (get_or blockers j no_segment) t first last
    (seen_of_number p blockers j t within seen) in
    left_of_arc a d t b.up right e.0 e.1

-- ---- the walls of a sound plan

-- the lines of an accepted plan, as they are seen from a point in range
pub walls_of_plan : (plan : Plan) (p : Point) → is_sound plan ≡ true → InRange p
    → ((n : ℕ) → n < length (blockers_of_scene (scene_of plan))
    → InRange (get_or (blockers_of_scene (scene_of plan)) n no_segment).a)
    → ((n : ℕ) → n < length (blockers_of_scene (scene_of plan))
    → InRange (get_or (blockers_of_scene (scene_of plan)) n no_segment).b)
    → AreWalls (scene_of plan) p
walls_of_plan plan p sound p_in a_in b_in = record {
  blockers = λ n s within seen. blocker_of p (get_or (blockers_of_scene (scene_of plan)) n no_segment) s p_in
      (a_in n within) (b_in n within) (seen_of_number p (blockers_of_scene (scene_of plan)) n s within seen);
  apart = λ d. all_apart plan p d sound;
}

-- two of them are apart wherever one direction spans both
pub apart_ahead : (plan : Plan) (p : Point) (i j : ℕ) (s t : Seen) → is_sound plan ≡ true → i ≢ j
    → i < length (blockers_of_scene (scene_of plan)) → j < length (blockers_of_scene (scene_of plan))
    → seen_at p (blockers_of_scene (scene_of plan)) i ≡ Some s → seen_at p (blockers_of_scene (scene_of plan)) j
    ≡ Some t → AreApartAhead s t
apart_ahead plan p i j s t sound other i_in j_in s_is t_is d s_spans t_spans = (
  all_apart plan p d sound i j s t other i_in j_in s_is t_is s_spans t_spans,
  all_apart plan p d sound j i t s
      (λ e. other (sym e)) j_in i_in t_is s_is t_spans s_spans,
)
