-- What crosses a segment, by the first of the walls and screens that its direction spans.
use Rattle.std.proofs.Common.{◌≡◌, ℤ, ℕ, ◌<◌, neg_ℤ, ◌+ℤ◌, ◌-ℤ◌, ◌*ℤ◌, ◌<ℤ◌, ◌≤ℤ◌, ◌∙◌, arith, pos, sym, subst, refl}
use Rattle.std.proofs.Common.{ap, List, length, get_or}
use Rattle.std.proofs.lemmas.Int.{ints, by_lt_z}
use Rattle.std.specs.List.{list_any}
use Rattle.std.specs.Prelude.{true, int_lt, Option, Some, None, false}
use Rattle.plane_spec.specs.Fractions.{is_before}
use Rattle.plane_spec.specs.Vectors.{cross_of, vector}
use Rattle.plane_spec.specs.declared.Point.{Point}
use Rattle.plane_spec.specs.declared.Segment.{Segment}
use Rattle.sight_spec.specs.Sight.{crosses}
use Rattle.int_laws.proofs.Ring.{product_swapped, times_minus}
use Rattle.int_laws.proofs.Signs.{not_negative_product}
use Rattle.exact_geom.proofs.Turns.{cross_of_exchanged}
use Rattle.front_laws.proofs.Hits.{crosses_where}
use Rattle.front_laws.proofs.InOrder.{den_up}
use Rattle.sight_spec.specs.Isovist.{no_segment}
use Rattle.front_laws.proofs.Lists.{any_is, by_same}
use Rattle.front_laws.proofs.Tests.{clash, both_of, tested_negative, mapped_at, both_true, negative_tested, not_above}
use Rattle.front_laws.proofs.Tests.{some_same}
use Rattle.front_laws.specs.Seen.{Seen, hit_of, side_of, spans, crossed_where, seen_of, seen_at}
use Rattle.sweep_laws.specs.First.{IsFront, IsBare}

-- ---- some element of a list

-- ---- behind the first

-- where the hit of w is reached before the end of d, the end is behind w
side_is : (n to from : ℤ) (a b : ℤ) → a ≡ neg_ℤ to → n +ℤ a -ℤ b ≡ n -ℤ (to +ℤ b)
side_is n to from a b h = omega (arith, ints, h)

pub side_by_hit : (w : Seen) (d : Point) → side_of w d ≡ (hit_of d w).num -ℤ (hit_of d w).den
side_by_hit w d = side_is (cross_of w.from w.to) (cross_of d w.to) (cross_of w.from d) (cross_of w.to d)
    (cross_of w.from d) (cross_of_exchanged d w.to)

-- a hit before one that isn't after 1 is before 1
before_one : (a b c e : ℤ) → pos 0 <ℤ b → pos 0 <ℤ e → int_lt (a *ℤ e) (c *ℤ b) ≡ true → (c -ℤ e) ≤ℤ pos 0
    → (a -ℤ b) <ℤ pos 0
before_one a b c e b_up e_up h k = by_lt_z a b (λ low. omega (arith, ints, low))
    (λ high. absurd (clash high))
  where
    clash : b ≤ℤ a → ⊥
    clash high =
        let p = not_negative_product (e -ℤ c) b (omega (arith, ints, k)) (omega (arith, ints, b_up)) in
        let q = not_negative_product (a -ℤ b) e (omega (arith, ints, high)) (omega (arith, ints, e_up)) in
        let x : (e -ℤ c) *ℤ b ≡ b *ℤ e -ℤ b *ℤ c = product_swapped (e -ℤ c) b ∙ times_minus b e c in
        let y : (a -ℤ b) *ℤ e ≡ e *ℤ a -ℤ e *ℤ b = product_swapped (a -ℤ b) e ∙ times_minus e a b in
        omega (arith, ints, p, q, x, y, h)

pub front_is_behind : (d : Point) (s t : Seen) → spans d s ≡ true → spans d t ≡ true
    → is_before (hit_of d s) (hit_of d t) ≡ true → side_of t d ≤ℤ pos 0 → side_of s d <ℤ pos 0
front_is_behind d s t s_spans t_spans before behind =
    subst (λ z. z <ℤ pos 0) (sym (side_by_hit s d))
    (before_one (hit_of d s).num (hit_of d s).den (hit_of d t).num (hit_of d t).den (den_up d s s_spans)
    (den_up d t t_spans) before (subst (λ z. z ≤ℤ pos 0) (side_by_hit t d) behind))

-- ---- proper crossings

pub record Crossed (d : Point) (o : Option Seen) : Type 0 where
  pub seen : Seen
  pub is : o ≡ Some seen
  pub spanned : spans d seen ≡ true
  pub behind : side_of seen d <ℤ pos 0

crossed_of : (d : Point) (o : Option Seen) → crossed_where d o ≡ true → Crossed d o
crossed_of d None h = absurd (grind arith)
crossed_of d (Some s) h =
    let two = both_of (spans d s) (int_lt (side_of s d) (pos 0)) h in
    record { seen = s; is = refl; spanned = two.0; behind = tested_negative (side_of s d) two.1 }

crosses_at : (p q : Point) (blockers : List Segment) (k : ℕ) → k < length blockers
    → crosses p q (get_or blockers k no_segment) ≡ crossed_where (vector p q) (seen_at p blockers k)
crosses_at p q blockers k within = crosses_where p q (get_or blockers k no_segment)
    ∙ ap (crossed_where (vector p q)) (sym (mapped_at (seen_of p) blockers k no_segment None within))

-- a wall or screen is crossed exactly where the first one that is spanned is
pub crossed_by_front : (p q : Point) (blockers : List Segment) (k : ℕ) (s : Seen) → IsFront p (vector p q) blockers k s
    → list_any (crosses p q) blockers ≡ int_lt (side_of s (vector p q)) (pos 0)
crossed_by_front p q blockers k s front =
    any_is (crosses p q) blockers no_segment (int_lt (side_of s (vector p q)) (pos 0))
    (λ some. let d = vector p q in
    let c = crossed_of d (seen_at p blockers some.place)
    (sym (crosses_at p q blockers some.place some.within) ∙ some.holds) in
    negative_tested _ (by_same some.place k
    (λ e. subst (λ t. side_of t d <ℤ pos 0)
    (some_same c.seen s (sym c.is ∙ ap (seen_at p blockers) e ∙ front.seen)) c.behind)
    (λ n. front_is_behind d s c.seen front.spanned c.spanned
    (front.nearest some.place c.seen some.within n c.is c.spanned) (not_above _ c.behind))))
    (λ h. record {
      place = k;
      within = front.within;
      holds = crosses_at p q blockers k front.within
          ∙ ap (crossed_where (vector p q)) front.seen ∙ both_true (spans (vector p q) s) _ front.spanned h;
    })

pub crossed_by_none : (p q : Point) (blockers : List Segment) → IsBare p (vector p q) blockers
    → list_any (crosses p q) blockers ≡ false
crossed_by_none p q blockers bare =
    any_is (crosses p q) blockers no_segment false
    (λ some. let c = crossed_of (vector p q) (seen_at p blockers some.place)
    (sym (crosses_at p q blockers some.place some.within) ∙ some.holds) in
    absurd (clash (spans (vector p q) c.seen) c.spanned (bare.none some.place c.seen some.within c.is)))
    (λ h. absurd (grind arith))
