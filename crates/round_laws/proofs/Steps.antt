-- What the list of the round holds, by places.
--
-- A blocker is open just before a place X where it began before X and ends at X or later, round the circle. Three
-- equations on three numbers say all that the round needs: with no end between two places, what is open at one is open
-- at the other (`open_on`); what is spanned at X is what is open just before X and doesn't end at X
-- (`spanned_of_open`); and what is open just after X is what is spanned at X or begins there (`open_of_spanned`). With
-- the law of places, what is spanned by a direction is what is spanned at its place (`spans_at`). And the first of a
-- list in order that holds exactly what is kept and spanned is the first of what is kept (`first_kept`).
use Rattle.std.proofs.Common.{◌≡◌, ◌≢◌, ℕ, ◌+◌, ◌<◌, ◌≤◌, ◌==◌, ℤ, ◌<ℤ◌, ◌∙◌, [], ◌∷◌, nat_lt, ap, arith, sym, zero}
use Rattle.std.proofs.Common.{suc, subst, List, length, get_or, pos}
use Rattle.std.proofs.lemmas.Int.{ints}
use Rattle.std.specs.List.{list_any}
use Rattle.std.specs.Prelude.{◌&&◌, ◌||◌, not, Bool, true, Some, false}
use Rattle.plane_spec.specs.Fractions.{is_before}
use Rattle.plane_spec.specs.Vectors.{turns_before, IsDirection, IsDirected, cross_of}
use Rattle.plane_spec.specs.declared.Point.{Point}
use Rattle.plane_spec.specs.declared.Segment.{Segment}
use Rattle.front_laws.proofs.InFront.{front_is_before}
use Rattle.front_laws.proofs.Lists.{some_of}
use Rattle.front_laws.proofs.Tests.{by_cases, tested_number_less, tested_number_not_less, some_same, tested_same_number}
use Rattle.front_laws.proofs.Tests.{own_number_or, either_second, by_lt, number_less_tested, number_not_less, guarded}
use Rattle.front_laws.specs.Seen.{Seen, spans, hit_of, is_in_front, seen_at}
use Rattle.round_laws.proofs.Edits.{held_so}
use Rattle.round_laws.specs.Kept.{IsKeptFirst}
use Rattle.round_laws.specs.Rounds.{IsBlocker, is_spanned_at, from_place, to_place, is_open_at, HasNoEnd, Numbered}
use Rattle.round_laws.specs.Rounds.{is_number, Holds, first_held, EndNowhere, HoldsBefore, AreBlockers, HoldsAt}
use Rattle.sweep_laws.specs.First.{AreAllApart}
use Rattle.turn_laws.proofs.After.{neither_before}
use Rattle.turn_laws.proofs.Among.{spans_is_among}
use Rattle.turn_laws.proofs.Places.{place_tells}
use Rattle.turn_laws.specs.Places.{place_of}
use Rattle.turn_laws.specs.Turns.{among_by}

-- ---- places

-- the places tell what a direction spans
pub spans_at : (d : Point) (s : Seen) → IsDirection d → IsDirected d → IsBlocker s → spans d s
    ≡ is_spanned_at (from_place s) (to_place s) (place_of d)
spans_at d s d_in d_some b =
    spans_is_among d s b.from_some d_some b.to_some b.up
    ∙ ap (λ t. among_by t (turns_before s.from d) (turns_before d s.to))
    (place_tells s.from s.to b.from_in b.from_some b.to_in b.to_some)
    ∙ ap (λ t. among_by (nat_lt (place_of s.from) (place_of s.to)) t (turns_before d s.to))
    (place_tells s.from d b.from_in b.from_some d_in d_some)
    ∙ ap (λ t. among_by (nat_lt (place_of s.from) (place_of s.to)) (nat_lt (place_of s.from) (place_of d)) t)
    (place_tells d s.to d_in d_some b.to_in b.to_some)

-- where no end is, the same are open
pub open_on : (from to low high : ℕ) → HasNoEnd from to low high → is_open_at from to low ≡ is_open_at from to high
open_on from to low high none =
    ap (λ t. among_by (nat_lt from to) t (not (nat_lt to low))) none.no_from
    ∙ ap (λ t. among_by (nat_lt from to) (nat_lt from high) (not t)) none.no_to

-- at a place those are spanned that are open and don't end there
pub spanned_of_open : (from to place : ℕ) → from ≢ to → is_spanned_at from to place
    ≡ (is_open_at from to place && not (to == place))
spanned_of_open from to place other = by_cases (nat_lt from to)
    (λ h. ap (λ t. among_by t (nat_lt from place) (nat_lt place to)) h ∙ in_turn (tested_number_less from to h)
    ∙ sym (ap (λ t. among_by t (nat_lt from place) (not (nat_lt to place)) && not (to == place)) h))
    (λ h. ap (λ t. among_by t (nat_lt from place) (nat_lt place to)) h ∙ round (tested_number_not_less from to h)
    ∙ sym (ap (λ t. among_by t (nat_lt from place) (not (nat_lt to place)) && not (to == place)) h))
  where
    in_turn : from < to → (nat_lt from place && nat_lt place to)
        ≡ ((nat_lt from place && not (nat_lt to place)) && not (to == place))
    in_turn h = grind arith

    round : to ≤ from → (nat_lt from place || nat_lt place to)
        ≡ ((nat_lt from place || not (nat_lt to place)) && not (to == place))
    round h = grind arith

-- just after a place those are open that are spanned there or begin there
pub open_of_spanned : (from to place : ℕ) → from ≢ to → is_open_at from to (place + 1)
    ≡ (is_spanned_at from to place || (from == place))
open_of_spanned from to place other = by_cases (nat_lt from to)
    (λ h. ap (λ t. among_by t (nat_lt from (place + 1)) (not (nat_lt to (place + 1)))) h
    ∙ in_turn (tested_number_less from to h)
    ∙ sym (ap (λ t. among_by t (nat_lt from place) (nat_lt place to) || (from == place)) h))
    (λ h. ap (λ t. among_by t (nat_lt from (place + 1)) (not (nat_lt to (place + 1)))) h
    ∙ round (tested_number_not_less from to h)
    ∙ sym (ap (λ t. among_by t (nat_lt from place) (nat_lt place to) || (from == place)) h))
  where
    in_turn : from < to → (nat_lt from (place + 1) && not (nat_lt to (place + 1)))
        ≡ ((nat_lt from place && nat_lt place to) || (from == place))
    in_turn h = grind arith

    round : to ≤ from → (nat_lt from (place + 1) || not (nat_lt to (place + 1)))
        ≡ ((nat_lt from place || nat_lt place to) || (from == place))
    round h = grind arith

-- ---- the first of the list

-- what the list has by a number is the line of the number, behind the first
later : (p d : Point) (blockers : List Segment) (kept : ℕ → Bool) (test : ℕ → Seen → Bool) (b : Numbered)
    (rest : List Numbered) (k j : ℕ) (t : Seen) → Holds p blockers kept test (b ∷ rest) → AreAllApart p d blockers
    → spans d b.1 ≡ true → k < length (b ∷ rest) → is_number j (get_or (b ∷ rest) k b) ≡ true
    → j < length blockers → j ≢ b.0 → seen_at p blockers j ≡ Some t → spans d t ≡ true
    → is_before (hit_of d b.1) (hit_of d t) ≡ true
later p d blockers kept test b rest zero j t a apart spanned lt h j_in other t_is t_spans = absurd
    (other (sym (tested_same_number b.0 j h)))
later p d blockers kept test b rest (suc k) j t a apart spanned lt h j_in other t_is t_spans =
    let c = get_or (b ∷ rest) (suc k) b in
    let number : c.0 ≡ j = tested_same_number c.0 j h in
    let same : c.1 ≡ t = some_same c.1 t (sym (a.known (suc k) b lt) ∙ ap (seen_at p blockers) number ∙ t_is) in
    let front : is_in_front b.1 t ≡ true = subst (λ w. is_in_front b.1 w ≡ true) same
    (a.order 0 (suc k) b (omega arith) lt) in
    sym (front_is_before d b.1 t spanned t_spans (apart b.0 j b.1 t (λ e. other (sym e)) (a.numbers 0 b (omega arith))
    j_in (a.known 0 b (omega arith)) t_is spanned t_spans)) ∙ front

-- where the list holds what a direction spans, its first is the first of the kept ones
pub first_kept : (p d : Point) (blockers : List Segment) (kept : ℕ → Bool) (active : List Numbered)
    → Holds p blockers kept (λ n s. spans d s) active → AreAllApart p d blockers
    → IsKeptFirst p d blockers kept (first_held active)
first_kept p d blockers kept [] a apart = record { none = λ j t within k seen. sym (a.exactly j t within k seen) }
first_kept p d blockers kept (b ∷ rest) a apart =
    let seen = a.known 0 b (omega arith) in
    let within = a.numbers 0 b (omega arith) in
    let spanned : spans d b.1 ≡ true = sym (a.exactly b.0 b.1 within (a.are_kept 0 b (omega arith)) seen)
    ∙ own_number_or b.0 (list_any (is_number b.0) rest) in
    record {
      within = within;
      seen = seen;
      spanned = spanned;
      nearest = λ j t j_in j_kept other t_is t_spans.
          let s = some_of (is_number j) (b ∷ rest) b (a.exactly j t j_in j_kept t_is ∙ t_spans) in
          later p d blockers kept (λ n s. spans d s) b rest s.place j t a apart spanned s.within s.holds j_in other
          t_is t_spans;
    }

-- ---- the list, from place to place

-- up to the next corner the list stays as it is
pub held_on : (p : Point) (blockers : List Segment) (kept : ℕ → Bool) (low high : ℕ) (active : List Numbered)
    → HoldsBefore p blockers kept low active → EndNowhere p blockers kept low high
    → HoldsBefore p blockers kept high active
held_on p blockers kept low high active h none =
    held_so p blockers kept (λ n s. is_open_at (from_place s) (to_place s) low)
    (λ n s. is_open_at (from_place s) (to_place s) high) active h
    (λ n s within k seen. open_on (from_place s) (to_place s) low high (none n s within k seen))

-- no blocker begins and ends in one direction
pub differ : (s : Seen) → IsBlocker s → from_place s ≢ to_place s
differ s b e = never (turns_before s.from s.to) (turns_before s.to s.from) (sides_by s b)
    (place_tells s.from s.to b.from_in b.from_some b.to_in b.to_some ∙ no (place_of s.from) (place_of s.to) e)
    (place_tells s.to s.from b.to_in b.to_some b.from_in b.from_some ∙ no (place_of s.to) (place_of s.from) (sym e))
  where
    no : (m n : ℕ) → m ≡ n → nat_lt m n ≡ false
    no m n h = grind arith

    never : (a b : Bool) → ((a || b) ≡ true) → a ≡ false → b ≡ false → ⊥
    never a b h k l = grind arith

    sides_by : (s : Seen) → IsBlocker s → (turns_before s.from s.to || turns_before s.to s.from) ≡ true
    sides_by s b = by_cases (turns_before s.from s.to)
        (λ h. ap (λ t. t || turns_before s.to s.from) h)
        (λ h. by_cases (turns_before s.to s.from)
        (λ k. either_second (turns_before s.from s.to) (turns_before s.to s.from) k)
        (λ k. absurd (none (cross_of s.from s.to) (neither_before s.from s.to b.from_some b.to_some h k).line b.up)))
      where
        none : (z : ℤ) → z ≡ pos 0 → pos 0 <ℤ z → ⊥
        none z e h = omega (arith, ints, e, h)

-- between two corners: the first of the list is the first of the kept ones
pub first_between : (p d : Point) (blockers : List Segment) (kept : ℕ → Bool) (place : ℕ) (active : List Numbered)
    → IsDirection d → IsDirected d → AreBlockers p blockers → AreAllApart p d blockers
    → HoldsBefore p blockers kept place active → EndNowhere p blockers kept place (place_of d + 1) → place ≤ place_of d
    → IsKeptFirst p d blockers kept (first_held active)
first_between p d blockers kept place active d_in d_some are apart h none le =
    first_kept p d blockers kept active
    (held_so p blockers kept (λ n s. is_open_at (from_place s) (to_place s) place) (λ n s. spans d s) active h
    (λ n s within k seen.
    let b = are n s within seen in
    let e = none n s within k seen in
    same (from_place s) (to_place s) place (place_of d) (differ s b) e le ∙ sym (spans_at d s d_in d_some b)))
    apart
  where
    same : (from to low at : ℕ) → from ≢ to → HasNoEnd from to low (at + 1) → low ≤ at → is_open_at from to low
        ≡ is_spanned_at from to at
    same from to low at other none le =
        let to_is = tests to low at none.no_to le in
        let from_is = tests from low at none.no_from le in
        ap (λ t. among_by (nat_lt from to) t (not (nat_lt to low))) from_is
        ∙ ap (λ t. among_by (nat_lt from to) (nat_lt from at) t) (turn to low at none.no_to)
      where
        tests : (x low at : ℕ) → nat_lt x low ≡ nat_lt x (at + 1) → low ≤ at → nat_lt x low ≡ nat_lt x at
        tests x low at h le = by_lt x low (λ lt. number_less_tested x low lt
            ∙ sym (number_less_tested x at (omega (arith, lt, le))))
            (λ ge. number_not_less x low ge ∙ sym (number_not_less x at (high x at (sym h ∙ number_not_less x low ge))))
          where
            high : (x at : ℕ) → nat_lt x (at + 1) ≡ false → at ≤ x
            high x at h = let r = tested_number_not_less x (at + 1) h in omega (arith, r)

        turn : (to low at : ℕ) → nat_lt to low ≡ nat_lt to (at + 1) → not (nat_lt to low) ≡ nat_lt at to
        turn to low at h = ap not h ∙ flip to at
          where
            flip : (to at : ℕ) → not (nat_lt to (at + 1)) ≡ nat_lt at to
            flip to at = by_lt at to (λ lt. ap not (number_not_less to (at + 1) (omega (arith, lt)))
                ∙ sym (number_less_tested at to lt)) (λ ge. ap not (number_less_tested to (at + 1) (omega (arith, ge)))
                ∙ sym (number_not_less at to ge))

-- at a corner's direction, once all that end there are out
pub first_at : (p d : Point) (blockers : List Segment) (kept : ℕ → Bool) (active : List Numbered) → IsDirection d
    → IsDirected d → AreBlockers p blockers → AreAllApart p d blockers
    → HoldsAt p blockers kept (place_of d) active → IsKeptFirst p d blockers kept (first_held active)
first_at p d blockers kept active d_in d_some are apart h =
    first_kept p d blockers kept active
    (held_so p blockers kept (λ n s. is_spanned_at (from_place s) (to_place s) (place_of d)) (λ n s. spans d s) active h
    (λ n s within k seen. sym (spans_at d s d_in d_some (are n s within seen))))
    apart

-- once those are out that end at a place, the list holds what is spanned there
pub all_out : (p : Point) (blockers : List Segment) (kept : ℕ → Bool) (place : ℕ) (out : ℕ → Bool)
    (active : List Numbered) → AreBlockers p blockers
    → Holds p blockers kept (λ n s. is_open_at (from_place s) (to_place s) place && not (out n)) active
    → ((n : ℕ) (s : Seen) → n < length blockers → kept n ≡ true → seen_at p blockers n ≡ Some s
    → is_open_at (from_place s) (to_place s) place ≡ true → out n ≡ (to_place s == place))
    → HoldsAt p blockers kept place active
all_out p blockers kept place out active are h ends =
    held_so p blockers kept (λ n s. is_open_at (from_place s) (to_place s) place && not (out n))
    (λ n s. is_spanned_at (from_place s) (to_place s) place) active h
    (λ n s within k seen. guarded (is_open_at (from_place s) (to_place s) place) (not (out n))
    (not (to_place s == place)) (λ o. ap not (ends n s within k seen o))
    ∙ sym (spanned_of_open (from_place s) (to_place s) place (differ s (are n s within seen))))

-- once those are in that begin there, it holds what is open just after it
pub all_in : (p : Point) (blockers : List Segment) (kept : ℕ → Bool) (place : ℕ) (new : ℕ → Bool)
    (active : List Numbered) → AreBlockers p blockers
    → Holds p blockers kept (λ n s. is_spanned_at (from_place s) (to_place s) place || new n) active
    → ((n : ℕ) (s : Seen) → n < length blockers → kept n ≡ true → seen_at p blockers n ≡ Some s → new n
    ≡ (from_place s == place))
    → HoldsBefore p blockers kept (place + 1) active
all_in p blockers kept place new active are h begins =
    held_so p blockers kept (λ n s. is_spanned_at (from_place s) (to_place s) place || new n)
    (λ n s. is_open_at (from_place s) (to_place s) (place + 1)) active h
    (λ n s within k seen. ap (λ t. is_spanned_at (from_place s) (to_place s) place || t) (begins n s within k seen)
    ∙ sym (open_of_spanned (from_place s) (to_place s) place (differ s (are n s within seen))))
