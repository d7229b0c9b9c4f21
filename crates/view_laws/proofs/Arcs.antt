-- Arcs by places.
use Rattle.std.proofs.Common.{◌≡◌, ℕ, ◌<◌, ◌≤◌, arith, ap, ◌∙◌, sym, nat_lt}
use Rattle.std.specs.Prelude.{true, ◌&&◌, not}
use Rattle.plane_spec.specs.Vectors.{is_upper, turns_left, turns_by, turns_before, IsDirection, IsDirected}
use Rattle.plane_spec.specs.declared.Point.{Point}
use Rattle.front_laws.proofs.Tests.{both_of, both_true, number_less_tested, number_not_less, tested_not}
use Rattle.front_laws.proofs.Tests.{tested_number_less, tested_number_not_less}
use Rattle.int_laws.proofs.Tests.{agree}
use Rattle.turn_laws.proofs.Places.{half_turn, place_tells}
use Rattle.turn_laws.specs.Places.{place_of}
use Rattle.view_laws.specs.Views.{is_in_arc}
use Rattle.view_laws.specs.declared.view.Arc.TheVariants as arcs

-- within the first half turn, what isn't right of another isn't before it
upper_before : (d e : Point) → is_upper d ≡ true → is_upper e ≡ true → turns_before d e ≡ turns_left d e
unfolding turns_before
upper_before d e h k = ap (λ t. turns_by t (is_upper e) (turns_left d e)) h
    ∙ ap (λ t. turns_by true t (turns_left d e)) k

-- the places of an arc's directions are between those of its ends
pub arc_places : (first last d : Point) → IsDirection first → IsDirected first → is_upper first ≡ true
    → IsDirection last → IsDirected last → is_upper last ≡ true
    → IsDirection d → IsDirected d → is_in_arc (arcs.Between first last) d ≡ true → (place_of first ≤ place_of d)
    × (place_of d ≤ place_of last)
unfolding is_in_arc
arc_places first last d f_in f_some f_up l_in l_some l_up d_in d_some h =
    let one = both_of (is_upper d) (not (turns_left d first) && not (turns_left last d)) h in
    let two = both_of (not (turns_left d first)) (not (turns_left last d)) one.1 in (
      tested_number_not_less (place_of d) (place_of first)
          (sym (place_tells d first d_in d_some f_in f_some) ∙ upper_before d first one.0 f_up
          ∙ tested_not (turns_left d first) two.0),
      tested_number_not_less (place_of last) (place_of d)
          (sym (place_tells last d l_in l_some d_in d_some) ∙ upper_before last d l_up one.0
          ∙ tested_not (turns_left last d) two.1),
    )

-- a part of the half turn is a range of places
pub part_is_range : (first last d : Point) → IsDirection first → IsDirected first → is_upper first ≡ true
    → IsDirection last → IsDirected last → is_upper last ≡ true → IsDirection d → IsDirected d
    → is_in_arc (arcs.Between first last) d
    ≡ (not (nat_lt (place_of d) (place_of first)) && not (nat_lt (place_of last) (place_of d)))
unfolding is_in_arc
part_is_range first last d f_in f_some f_up l_in l_some l_up d_in d_some =
    agree (is_upper d && (not (turns_left d first) && not (turns_left last d)))
    (not (nat_lt (place_of d) (place_of first)) && not (nat_lt (place_of last) (place_of d)))
    (λ h. let two = arc_places first last d f_in f_some f_up l_in l_some l_up d_in d_some h in
    both_true (not (nat_lt (place_of d) (place_of first))) (not (nat_lt (place_of last) (place_of d)))
    (ap not (number_not_less (place_of d) (place_of first) two.0))
    (ap not (number_not_less (place_of last) (place_of d) two.1)))
    (λ h.
    let two = both_of (not (nat_lt (place_of d) (place_of first))) (not (nat_lt (place_of last) (place_of d))) h in
    let up : is_upper d ≡ true =
    half_turn d d_in d_some
    ∙ number_less_tested (place_of d) 2199023255552 (below (place_of d) (place_of last)
    (tested_number_not_less (place_of last) (place_of d)
    (tested_not (nat_lt (place_of last) (place_of d)) two.1))
    (tested_number_less (place_of last) 2199023255552 (sym (half_turn last l_in l_some) ∙ l_up))) in
    both_true (is_upper d) (not (turns_left d first) && not (turns_left last d)) up
    (both_true (not (turns_left d first)) (not (turns_left last d))
    (ap not (sym (upper_before d first up f_up) ∙ place_tells d first d_in d_some f_in f_some) ∙ two.0)
    (ap not (sym (upper_before last d l_up up) ∙ place_tells last d l_in l_some d_in d_some) ∙ two.1)))
  where
    below : (m n : ℕ) → m ≤ n → n < 2199023255552 → m < 2199023255552
    below m n h k = omega (arith, h, k)

-- so is the half turn
pub later_is_range : (d : Point) → IsDirection d → IsDirected d
    → is_in_arc arcs.Later d ≡ nat_lt (place_of d) 2199023255552
unfolding is_in_arc
later_is_range d d_in d_some = half_turn d d_in d_some
