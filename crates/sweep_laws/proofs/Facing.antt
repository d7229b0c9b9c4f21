-- What hides a point, by the first of the walls and screens that its direction spans: also the wall that it lies on.
use Rattle.std.proofs.Common.{◌≡◌, ℤ, ℕ, ◌<◌, pos, ◌<ℤ◌, ◌≤ℤ◌, ◌∙◌, [], ◌∷◌, ◌++◌, List, length, get_or, nat_lt, ap}
use Rattle.std.proofs.Common.{zero, suc, arith, refl, sym, subst}
use Rattle.std.proofs.lemmas.Int.{ints}
use Rattle.std.specs.List.{list_any}
use Rattle.std.specs.Ordering.{int_eq}
use Rattle.std.specs.Prelude.{◌&&◌, ◌||◌, int_lt, true, cond, Some, None, false}
use Rattle.plane_spec.specs.Vectors.{vector, cross_of}
use Rattle.plane_spec.specs.declared.Point.{Point}
use Rattle.plane_spec.specs.declared.Segment.{Segment}
use Rattle.sight_spec.specs.Sight.{starts_into_wall, crosses}
use Rattle.apart_laws.proofs.Between.{faces_where, leaves_where}
use Rattle.sight_spec.specs.Isovist.{no_segment}
use Rattle.front_laws.proofs.Lists.{any_is, by_same}
use Rattle.front_laws.proofs.Tests.{mapped_at, both_of, tested_zero, both_true, zero_tested, number_less_tested}
use Rattle.front_laws.proofs.Tests.{some_same, tested_number_less, by_cases, clash}
use Rattle.front_laws.specs.Seen.{Seen, seen_of, seen_at, spans, side_of}
use Rattle.sweep_laws.proofs.Crossing.{front_is_behind, crossed_by_front, crossed_by_none}
use Rattle.sweep_laws.specs.First.{IsFront, IsBare}
use Rattle.sweep_laws.specs.Parts.{has_on_left, hides_itself}

abbrev ahead_of : Point → Segment → Seen
ahead_of p w = record { from = vector p w.a; to = vector p w.b }

seen_ahead : (p : Point) (w : Segment) → has_on_left p w ≡ true → seen_of p w ≡ Some (ahead_of p w)
unfolding seen_of
seen_ahead p w h = ap (λ t. cond t (Some (ahead_of p w))
    (cond (int_lt (cross_of (vector p w.a) (vector p w.b)) (pos 0))
    (Some (record { from = vector p w.b; to = vector p w.a })) None)) h

append_at : {X : Type 0} (xs ys : List X) (k : ℕ) (d : X) → k < length xs → get_or (xs ++ ys) k d ≡ get_or xs k d
append_at [] ys k d lt = absurd (omega arith)
append_at (x ∷ xs) ys zero d lt = refl
append_at (x ∷ xs) ys (suc k) d lt = append_at xs ys k d (omega arith)

append_within : {X : Type 0} (xs ys : List X) (k : ℕ) → k < length xs → k < length (xs ++ ys)
append_within [] ys k lt = absurd (omega arith)
append_within (x ∷ xs) ys zero lt = omega arith
append_within (x ∷ xs) ys (suc k) lt = let r = append_within xs ys k (omega arith) in omega (arith, r)

wall_at : (p : Point) (walls screens : List Segment) (k : ℕ) → k < length walls → seen_at p (walls ++ screens) k
    ≡ seen_of p (get_or walls k no_segment)
wall_at p walls screens k lt = mapped_at (seen_of p) (walls ++ screens) k no_segment None
    (append_within walls screens k lt) ∙ ap (seen_of p) (append_at walls screens k no_segment lt)

pub record Faces (p q : Point) (w : Segment) : Type 0 where
  pub left : has_on_left p w ≡ true
  pub spanned : spans (vector p q) (ahead_of p w) ≡ true
  pub on : side_of (ahead_of p w) (vector p q) ≡ pos 0

faces_of : (p q : Point) (w : Segment) → starts_into_wall q p w ≡ true → Faces p q w
unfolding faces_where
faces_of p q w h =
    let one = both_of (has_on_left p w) (spans (vector p q) (ahead_of p w)
    && int_eq (side_of (ahead_of p w) (vector p q)) (pos 0)) (sym (leaves_where p q w) ∙ h) in
    let two = both_of (spans (vector p q) (ahead_of p w)) (int_eq (side_of (ahead_of p w) (vector p q)) (pos 0)) one.1
    in
    record { left = one.0; spanned = two.0; on = tested_zero (side_of (ahead_of p w) (vector p q)) two.1 }

leaves_of : (p q : Point) (w : Segment) → Faces p q w → starts_into_wall q p w ≡ true
unfolding faces_where
leaves_of p q w f =
    leaves_where p q w
    ∙ both_true (has_on_left p w) (spans (vector p q) (ahead_of p w)
    && int_eq (side_of (ahead_of p w) (vector p q)) (pos 0)) f.left
    (both_true (spans (vector p q) (ahead_of p w)) (int_eq (side_of (ahead_of p w) (vector p q)) (pos 0)) f.spanned
    (zero_tested (side_of (ahead_of p w) (vector p q)) f.on))

not_negative : (z : ℤ) → int_lt z (pos 0) ≡ false → z <ℤ pos 0 → ⊥
not_negative z h k = omega (arith, ints, h, k)

at_most_zero : (z : ℤ) → z ≡ pos 0 → z ≤ℤ pos 0
at_most_zero z h = omega (arith, ints, h)

faced_by_front : (p q : Point) (walls screens : List Segment) (k : ℕ) (s : Seen)
    → IsFront p (vector p q) (walls ++ screens) k s → int_lt (side_of s (vector p q)) (pos 0) ≡ false
    → list_any (λ w. starts_into_wall q p w) walls ≡ (int_eq (side_of s (vector p q)) (pos 0) && hides_itself p walls k)
faced_by_front p q walls screens k s front uncrossed =
    let d = vector p q in
    any_is (λ w. starts_into_wall q p w) walls no_segment (int_eq (side_of s d) (pos 0) && hides_itself p walls k)
    (λ some. let w = get_or walls some.place no_segment in
    let f = faces_of p q w some.holds in
    let seen : seen_at p (walls ++ screens) some.place
    ≡ Some (ahead_of p w) = wall_at p walls screens some.place some.within ∙ seen_ahead p w f.left in
    by_same some.place k
    (λ e. let same : ahead_of p w ≡ s = some_same (ahead_of p w) s
    (sym seen ∙ ap (seen_at p (walls ++ screens)) e ∙ front.seen) in
    both_true (int_eq (side_of s d) (pos 0)) (hides_itself p walls k)
    (zero_tested (side_of s d) (subst (λ t. side_of t d ≡ pos 0) same f.on))
    (both_true (nat_lt k (length walls)) (has_on_left p (get_or walls k no_segment))
    (number_less_tested k (length walls) (subst (λ t. t < length walls) e some.within))
    (subst (λ t. has_on_left p (get_or walls t no_segment) ≡ true) e f.left)))
    (λ n. absurd (not_negative (side_of s d) uncrossed
    (front_is_behind d s (ahead_of p w) front.spanned f.spanned
    (front.nearest some.place (ahead_of p w) (append_within walls screens some.place some.within) n
    seen f.spanned) (at_most_zero _ f.on)))))
    (λ h. let one = both_of (int_eq (side_of s d) (pos 0)) (hides_itself p walls k) h in
    let two = both_of (nat_lt k (length walls)) (has_on_left p (get_or walls k no_segment)) one.1 in
    let w = get_or walls k no_segment in
    let within = tested_number_less k (length walls) two.0 in
    let same : ahead_of p w ≡ s = some_same (ahead_of p w) s
    (sym (wall_at p walls screens k within ∙ seen_ahead p w two.1) ∙ front.seen) in
    record {
      place = k;
      within = within;
      holds = leaves_of p q w (record {
        left = two.1;
        spanned = subst (λ t. spans d t ≡ true) (sym same) front.spanned;
        on = subst (λ t. side_of t d ≡ pos 0) (sym same) (tested_zero (side_of s d) one.0);
      });
    })

-- a point is hidden by walls and screens exactly where it is behind the first one that is spanned, or on it and that
-- hides itself
pub hidden_by_front : (p q : Point) (walls screens : List Segment) (k : ℕ) (s : Seen)
    → IsFront p (vector p q) (walls ++ screens) k s
    → (list_any (crosses p q) (walls ++ screens) || list_any (λ w. starts_into_wall q p w) walls)
    ≡ (int_lt (side_of s (vector p q)) (pos 0) || (int_eq (side_of s (vector p q)) (pos 0) && hides_itself p walls k))
hidden_by_front p q walls screens k s front =
    let d = vector p q in
    ap (λ t. t || list_any (λ w. starts_into_wall q p w) walls) (crossed_by_front p q (walls ++ screens) k s front)
    ∙ by_cases (int_lt (side_of s d) (pos 0))
    (λ h. ap (λ t. t || list_any (λ w. starts_into_wall q p w) walls) h
    ∙ sym (ap (λ t. t || (int_eq (side_of s d) (pos 0) && hides_itself p walls k)) h))
    (λ h. ap (λ t. int_lt (side_of s d) (pos 0) || t) (faced_by_front p q walls screens k s front h))

pub hidden_by_none : (p q : Point) (walls screens : List Segment) → IsBare p (vector p q) (walls ++ screens)
    → (list_any (crosses p q) (walls ++ screens) || list_any (λ w. starts_into_wall q p w) walls) ≡ false
hidden_by_none p q walls screens bare =
    ap (λ t. t || list_any (λ w. starts_into_wall q p w) walls) (crossed_by_none p q (walls ++ screens) bare)
    ∙ any_is (λ w. starts_into_wall q p w) walls no_segment false
    (λ some. let w = get_or walls some.place no_segment in
    let f = faces_of p q w some.holds in
    absurd (clash (spans (vector p q) (ahead_of p w)) f.spanned
    (bare.none some.place (ahead_of p w) (append_within walls screens some.place some.within)
    (wall_at p walls screens some.place some.within ∙ seen_ahead p w f.left))))
    (λ h. absurd (grind arith))
