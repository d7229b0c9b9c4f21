-- Directions of the half turn, by their places.
use Rattle.std.specs.Prelude.{◌≡◌, ℕ, ◌<◌, ◌≤◌, ◌&&◌, not, nat_lt, true, false, pos}
use Rattle.std.proofs.Common.{refl, sym, ap, ◌∙◌, arith}
use Rattle.std.proofs.lemmas.Int.{ints}
use Rattle.front_laws.proofs.Tests.{both_true, number_not_less, tested_number_less, tested_number_not_less}
use Rattle.plane_spec.specs.declared.Point.{Point}
use Rattle.plane_spec.specs.Vectors.{is_upper, point, same_point, turns_before, turns_by, turns_left}
use Rattle.sight_sweep.specs.Arcs.{IsLater}
use Rattle.turn_laws.proofs.Places.{place_tells}
use Rattle.turn_laws.specs.Places.{place_of}
use Rattle.view_laws.proofs.Arcs.{part_is_range}
use Rattle.view_laws.specs.Views.{is_in_arc}
use Rattle.view_laws.specs.declared.view.Arc.TheVariants as arcs

-- a direction of the half turn leads somewhere
pub upper_is_directed : (d : Point) → is_upper d ≡ true → same_point d (point (pos 0) (pos 0)) ≡ false
upper_is_directed d h = grind (arith, ints)

upper_before : (d e : Point) → is_upper d ≡ true → is_upper e ≡ true → turns_before d e ≡ turns_left d e
unfolding turns_before
upper_before d e h k = ap (λ t. turns_by t (is_upper e) (turns_left d e)) h
    ∙ ap (λ t. turns_by true t (turns_left d e)) k

-- within the half turn what is left of a direction has a greater place
left_is : (d e : Point) → IsLater d → IsLater e → turns_left d e ≡ nat_lt (place_of d) (place_of e)
left_is d e h k =
    sym (upper_before d e h.upper k.upper) ∙ place_tells d e h.direction h.directed k.direction k.directed

at_most : (m n : ℕ) → m < n → m ≤ n
at_most m n h = omega (arith, h)

pub before : (d e : Point) → IsLater d → IsLater e → turns_left d e ≡ true → place_of d ≤ place_of e
before d e h k left = at_most (place_of d) (place_of e)
    (tested_number_less (place_of d) (place_of e) (sym (left_is d e h k) ∙ left))

pub not_before : (d e : Point) → IsLater d → IsLater e → turns_left d e ≡ false → place_of e ≤ place_of d
not_before d e h k other =
    tested_number_not_less (place_of d) (place_of e) (sym (left_is d e h k) ∙ other)

-- what has no lesser place isn't right of a direction
pub no_left : (d e : Point) → IsLater d → IsLater e → place_of e ≤ place_of d → turns_left d e ≡ false
no_left d e h k most = left_is d e h k ∙ number_not_less (place_of d) (place_of e) most

-- a direction whose place is between those of an arc's ends is one of the arc
pub in_part : (first last d : Point) → IsLater first → IsLater last → IsLater d → place_of first ≤ place_of d
    → place_of d ≤ place_of last → is_in_arc (arcs.Between first last) d ≡ true
in_part first last d f l h low high =
    part_is_range first last d f.direction f.directed f.upper l.direction l.directed l.upper h.direction h.directed
    ∙ both_true (not (nat_lt (place_of d) (place_of first))) (not (nat_lt (place_of last) (place_of d)))
    (ap not (number_not_less (place_of d) (place_of first) low))
    (ap not (number_not_less (place_of last) (place_of d) high))

-- ---- between two directions

-- the direction is one of the half turn, and its place is between those of both
pub record IsBetween (first last d : Point) : Type 0 where
  pub later : IsLater d
  pub low : place_of first ≤ place_of d
  pub high : place_of d ≤ place_of last

chain : (a b c : ℕ) → a ≤ b → b ≤ c → a ≤ c
chain a b c h k = omega (arith, h, k)

pub wider : (first last first_too last_too d : Point) → place_of first_too ≤ place_of first
    → place_of last ≤ place_of last_too → IsBetween first last d → IsBetween first_too last_too d
wider first last first_too last_too d low high b = record {
  later = b.later;
  low = chain (place_of first_too) (place_of first) (place_of d) low b.low;
  high = chain (place_of d) (place_of last) (place_of last_too) b.high high;
}

pub through : (a b c : Point) → place_of a ≤ place_of b → place_of b ≤ place_of c → place_of a ≤ place_of c
through a b c h k = chain (place_of a) (place_of b) (place_of c) h k
