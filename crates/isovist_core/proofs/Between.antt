-- What a view shows in a gap without a sector: the place of the sum of its two directions is strictly between theirs.
use Rattle.std.proofs.Common.{◌≡◌, ◌≢◌, ◌∙◌, ℕ, ◌-◌, ◌<◌, ◌≤◌, List, get_or, refl, sym, subst, arith}
use Rattle.std.specs.Prelude.{true, Option}
use Rattle.std.proofs.lemmas.Bool.{true_from_ne_false, ne_eqb}
use Rattle.std.proofs.lemmas.Int.{ints}
use Rattle.int_laws.proofs.Ring.{sum_times, product_swapped}
use Rattle.int_laws.proofs.Signs.{tested_positive}
use Rattle.plane_spec.specs.declared.Point.{Point}
use Rattle.plane_spec.specs.Vectors.{cross_of, turns_left, turns_before}
use Rattle.sight_spec.specs.Isovist.{sum_of}
use Rattle.front_laws.proofs.Tests.{never_equal, number_less_tested, tested_number_less}
use Rattle.turn_laws.specs.Places.{place_of}
use Rattle.turn_laws.proofs.Places.{place_tells}
use Rattle.view_laws.specs.declared.view.Front.{Front}
use Rattle.view_laws.specs.declared.view.Sector.{Sector}
use Rattle.view_laws.specs.Views.{AreInOrder, radial_at, radial_between, radial_by}
use Rattle.isovist_laws.proofs.Between.{IsBetween, not_after, not_before}
use Rattle.isovist_core.specs.declared.gap.Gap.{Gap}
use Rattle.isovist_core.specs.Shown.{IsCountBetween, IsCountUpTo}
use Rattle.isovist_core.proofs.Shown.{shown_first, shown_from, sum_direction}
use Rattle.isovist_core.proofs.Steps.{step_is_direction, sum_directed, sum_left}

-- ---- the sum lies between

-- right of the second of two directions is their sum, where the first is
sum_right : (e f : Point) → cross_of (sum_of e f) f ≡ cross_of e f
sum_right e f =
    let x = sum_times e.x f.x f.y in
    let y = sum_times e.y f.y f.x in
    let same = product_swapped f.x f.y in
    omega (arith, ints, x, y, same)

sum_between : (e f : Point) → turns_left e f ≡ true → IsBetween e f (sum_of e f)
sum_between e f left =
    let up = tested_positive (cross_of e f) left in
    let first = sum_left e f in
    let second = sum_right e f in
    record { turned = up; after = omega (arith, ints, up, first); before = omega (arith, ints, up, second) }

module _ (gap : Gap) (left : turns_left gap.from.step gap.to.step ≡ true) (forward : gap.from.place < gap.to.place)
  where
    abbrev e : Point
    e = gap.from.step

    abbrev f : Point
    f = gap.to.step

    in_order : turns_before e f ≡ true
    in_order =
        place_tells e f (step_is_direction e gap.from.small) gap.from.directed (step_is_direction f gap.to.small)
        gap.to.directed
        ∙ number_less_tested (place_of e) (place_of f)
        (subst (λ n. place_of e < n) gap.to.placed (subst (λ n. n < gap.to.place) gap.from.placed forward))

    pub sum_after : gap.from.place < place_of (sum_of e f)
    sum_after =
        subst (λ n. n < place_of (sum_of e f)) (sym gap.from.placed)
        (tested_number_less (place_of e) (place_of (sum_of e f))
        (sym
        (place_tells e (sum_of e f) (step_is_direction e gap.from.small) gap.from.directed (sum_direction gap)
        (sum_directed e f left))
        ∙ true_from_ne_false (turns_before e (sum_of e f))
        (λ n. not_before e f (sum_of e f) (sum_between e f left) gap.from.directed gap.to.directed
        (sum_directed e f left) in_order n)))

    pub sum_before : place_of (sum_of e f) < gap.to.place
    sum_before =
        subst (λ n. place_of (sum_of e f) < n) (sym gap.to.placed)
        (tested_number_less (place_of (sum_of e f)) (place_of f)
        (sym
        (place_tells (sum_of e f) f (sum_direction gap) (sum_directed e f left) (step_is_direction f gap.to.small)
        gap.to.directed)
        ∙ true_from_ne_false (turns_before (sum_of e f) f)
        (λ n. not_after e f (sum_of e f) (sum_between e f left) gap.from.directed gap.to.directed
        (sum_directed e f left) in_order n)))

-- ---- what is told there

counted : (sectors : List Sector) (first second place count : ℕ) → IsCountBetween sectors first second count
    → first < place → place < second → IsCountUpTo sectors place count
counted sectors first second place count c low high = record {
  within = c.within;
  reached = λ s some. up_to (get_or sectors (count - 1) s).place first place (c.reached s some) low;
  beyond = λ s more. past place second (get_or sectors count s).place high (c.beyond s more);
}
  where
    up_to : (a b p : ℕ) → a ≤ b → b < p → a ≤ p
    up_to a b p h k = omega (arith, h, k)

    past : (p b a : ℕ) → p < b → b ≤ a → p < a
    past p b a h k = omega (arith, h, k)

pub told_first : (before : Option Front) (sectors : List Sector) (first second place count : ℕ) → count ≡ 0
    → IsCountBetween sectors first second count → first < place → place < second
    → radial_by before sectors place ≡ radial_between before
told_first before sectors first second place count none c low high =
    shown_first before sectors place count none (counted sectors first second place count c low high)

pub told_after : (before : Option Front) (sectors : List Sector) (first second place count : ℕ) (s : Sector)
    → AreInOrder sectors → count ≢ 0 → IsCountBetween sectors first second count → first < place → place < second
    → s ≡ get_or sectors (count - 1) s → radial_by before sectors place ≡ radial_between s.after
told_after before sectors first second place count s order some c low high read =
    shown_from before sectors place count s order some (counted sectors first second place count c low high) read
    ∙ past
    (chain s.place first place (subst (λ (t : Sector). t.place ≤ first) (sym read) (c.reached s (above count some)))
    low)
  where
    above : (n : ℕ) → n ≢ 0 → 0 < n
    above n h = omega (arith, h)

    chain : (a b p : ℕ) → a ≤ b → b < p → a < p
    chain a b p h k = omega (arith, h, k)

    past : s.place < place → radial_at s place ≡ radial_between s.after
    past h = rw (ne_eqb place s.place (λ e. never_equal s.place place h (sym e))) refl
