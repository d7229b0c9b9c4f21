-- One side decides where the blockers of a corner stand in the list.
--
-- Let the direction to v span s. If v is strictly behind s, each blocker that begins or ends at v is behind s, and if
-- v is strictly before s, in front of it: the other sides that `is_in_front` asks are fixed by a weighted sum, whose
-- sign is that of v's side. So the blockers that have v behind them come first in the list (`behind_both`), those that
-- end at v stand right after them (`before_ended`, `after_ended`), and what begins at v comes in at the same place:
-- one search by the sign of one side gives both.
use Rattle.std.proofs.Common.{◌≡◌, ℤ, neg_ℤ, ◌+ℤ◌, ◌-ℤ◌, ◌*ℤ◌, ◌<ℤ◌, ◌≤ℤ◌, ◌∙◌, pos, arith, ap, refl, sym}
use Rattle.std.proofs.lemmas.Int.{ints, by_lt_z}
use Rattle.std.specs.Ordering.{int_eq}
use Rattle.std.specs.Prelude.{if◌then◌else◌, ◌&&◌, ◌||◌, Bool, not, int_lt, true, false, cond}
use Rattle.plane_spec.specs.Segments.{are_opposite}
use Rattle.plane_spec.specs.Vectors.{cross_of, IsDirected, dot_of}
use Rattle.plane_spec.specs.declared.Point.{Point}
use Rattle.int_laws.proofs.Ring.{times_minus, product_swapped}
use Rattle.int_laws.proofs.Signs.{positive_product, tested_positive}
use Rattle.exact_geom.proofs.Circle.{dot_itself}
use Rattle.front_laws.proofs.InFront.{sides_are, front_is_before}
use Rattle.front_laws.proofs.InOrder.{before_chain, den_up}
use Rattle.front_laws.proofs.Tests.{by_cases, both_of, clash, negative_tested, tested_negative}
use Rattle.front_laws.specs.Seen.{Seen, side_of, spans, is_in_front, are_apart, hit_of}
use Rattle.view_laws.proofs.Lengths.{hit_before, past_of_hit}
use Rattle.view_laws.specs.Views.{IsAlong}

-- ---- one side decides

abbrev front_by : ℤ → ℤ → ℤ → ℤ → Bool
front_by x y z u = if are_opposite x y then not (int_lt (pos 0) z || int_lt (pos 0) u)
    else (int_lt (pos 0) x || int_lt (pos 0) y)

-- where the sides of the other's ends weigh up to more than nothing, one of them does
one_up : (a b z u p : ℤ) → pos 0 <ℤ a → pos 0 <ℤ b → a *ℤ z +ℤ b *ℤ u ≡ p → pos 0 <ℤ p
    → (int_lt (pos 0) z || int_lt (pos 0) u) ≡ true
one_up a b z u p a_up b_up e p_up = by_lt_z (pos 0) z
    (λ h. first z u h)
    (λ h. by_lt_z (pos 0) u (λ k. second z u k) (λ k. absurd (
    let f = none_up a z a_up h in let g = none_up b u b_up k in omega (arith, ints, e, f, g, p_up))))
  where
    first : (z u : ℤ) → pos 0 <ℤ z → (int_lt (pos 0) z || int_lt (pos 0) u) ≡ true
    first z u h = grind (arith, ints)

    second : (z u : ℤ) → pos 0 <ℤ u → (int_lt (pos 0) z || int_lt (pos 0) u) ≡ true
    second z u h = grind (arith, ints)

    none_up : (a z : ℤ) → pos 0 <ℤ a → z ≤ℤ pos 0 → (a *ℤ z) ≤ℤ pos 0
    none_up a z h k = by_lt_z z (pos 0)
        (λ lt. let r = positive_product a (pos 0 -ℤ z) h (omega (arith, ints, lt)) in let t = times_minus a (pos 0) z
        in omega (arith, ints, r, t))
        (λ le. let i : z ≡ pos 0 = omega (arith, ints, k, le) in let r : a *ℤ z ≡ a *ℤ pos 0 = ap (λ t. a *ℤ t) i in
        omega (arith, ints, r))

-- where they weigh up to less than nothing, and aren't on different sides, none does
none_up : (a b z u p : ℤ) → pos 0 <ℤ a → pos 0 <ℤ b → a *ℤ z +ℤ b *ℤ u ≡ p → p <ℤ pos 0 → are_opposite z u ≡ false
    → (int_lt (pos 0) z || int_lt (pos 0) u) ≡ false
none_up a b z u p a_up b_up e p_down apart = by_cases (int_lt (pos 0) z || int_lt (pos 0) u)
    (λ h. absurd (
    let s = signs z u apart h in
    let f = not_down a z a_up s.0 in let g = not_down b u b_up s.1 in omega (arith, ints, e, f, g, p_down)))
    (λ h. h)
  where
    signs : (z u : ℤ) → are_opposite z u ≡ false → (int_lt (pos 0) z || int_lt (pos 0) u) ≡ true → (pos 0 ≤ℤ z)
        × (pos 0 ≤ℤ u)
    signs z u h k = (first z u h k, second z u h k)
      where
        first : (z u : ℤ) → are_opposite z u ≡ false → (int_lt (pos 0) z || int_lt (pos 0) u) ≡ true → pos 0 ≤ℤ z
        first z u h k = by_lt_z z (pos 0) (λ lt. absurd (never z u lt h k)) (λ le. le)
          where
            never : (z u : ℤ) → z <ℤ pos 0 → are_opposite z u ≡ false → (int_lt (pos 0) z || int_lt (pos 0) u) ≡ true
                → ⊥
            never z u l h k = grind (arith, ints)

        second : (z u : ℤ) → are_opposite z u ≡ false → (int_lt (pos 0) z || int_lt (pos 0) u) ≡ true → pos 0 ≤ℤ u
        second z u h k = by_lt_z u (pos 0) (λ lt. absurd (never z u lt h k)) (λ le. le)
          where
            never : (z u : ℤ) → u <ℤ pos 0 → are_opposite z u ≡ false → (int_lt (pos 0) z || int_lt (pos 0) u) ≡ true
                → ⊥
            never z u l h k = grind (arith, ints)

    not_down : (a z : ℤ) → pos 0 <ℤ a → pos 0 ≤ℤ z → pos 0 ≤ℤ (a *ℤ z)
    not_down a z h k = by_lt_z (pos 0) z
        (λ lt. let r = positive_product a z h lt in omega (arith, ints, r))
        (λ le. let i : z ≡ pos 0 = omega (arith, ints, k, le) in let r : a *ℤ z ≡ a *ℤ pos 0 = ap (λ t. a *ℤ t) i in
        omega (arith, ints, r))

-- one end is behind the line: not in front
not_front : (x y z u : ℤ) (b : Bool) → x <ℤ pos 0 → (int_lt (pos 0) z || int_lt (pos 0) u) ≡ b → b ≡ true
    → front_by x y z u ≡ false
not_front x y z u b h e k = ap (λ t. cond (are_opposite x y) (not t) (int_lt (pos 0) x || int_lt (pos 0) y)) (e ∙ k)
    ∙ by_side x y h
  where
    by_side : (x y : ℤ) → x <ℤ pos 0 → cond (are_opposite x y) false (int_lt (pos 0) x || int_lt (pos 0) y) ≡ false
    by_side x y h = grind (arith, ints)

not_front_last : (x y z u : ℤ) → y <ℤ pos 0 → (int_lt (pos 0) z || int_lt (pos 0) u) ≡ true → front_by x y z u ≡ false
not_front_last x y z u h e = ap (λ t. cond (are_opposite x y) (not t) (int_lt (pos 0) x || int_lt (pos 0) y)) e
    ∙ by_side x y h
  where
    by_side : (x y : ℤ) → y <ℤ pos 0 → cond (are_opposite x y) false (int_lt (pos 0) x || int_lt (pos 0) y) ≡ false
    by_side x y h = grind (arith, ints)

-- one end is before the line, and they don't cross: in front
front_first : (x y z u : ℤ) → pos 0 <ℤ x → (are_opposite x y ≡ true → (int_lt (pos 0) z || int_lt (pos 0) u) ≡ false)
    → front_by x y z u ≡ true
front_first x y z u h f = by_cases (are_opposite x y)
    (λ k. ap (λ t. cond t (not (int_lt (pos 0) z || int_lt (pos 0) u)) (int_lt (pos 0) x || int_lt (pos 0) y)) k
    ∙ ap not (f k))
    (λ k. ap (λ t. cond t (not (int_lt (pos 0) z || int_lt (pos 0) u)) (int_lt (pos 0) x || int_lt (pos 0) y)) k
    ∙ up x y h)
  where
    up : (x y : ℤ) → pos 0 <ℤ x → (int_lt (pos 0) x || int_lt (pos 0) y) ≡ true
    up x y h = grind (arith, ints)

front_last : (x y z u : ℤ) → pos 0 <ℤ y → (are_opposite x y ≡ true → (int_lt (pos 0) z || int_lt (pos 0) u) ≡ false)
    → front_by x y z u ≡ true
front_last x y z u h f = by_cases (are_opposite x y)
    (λ k. ap (λ t. cond t (not (int_lt (pos 0) z || int_lt (pos 0) u)) (int_lt (pos 0) x || int_lt (pos 0) y)) k
    ∙ ap not (f k))
    (λ k. ap (λ t. cond t (not (int_lt (pos 0) z || int_lt (pos 0) u)) (int_lt (pos 0) x || int_lt (pos 0) y)) k
    ∙ up x y h)
  where
    up : (x y : ℤ) → pos 0 <ℤ y → (int_lt (pos 0) x || int_lt (pos 0) y) ≡ true
    up x y h = grind (arith, ints)

apart_of : (x y z u : ℤ) (b : Bool) → (not (are_opposite x y && are_opposite z u) && b) ≡ true → are_opposite x y
    ≡ true → are_opposite z u ≡ false
apart_of x y z u b h k = by_tests (are_opposite x y) (are_opposite z u) b h k
  where
    by_tests : (o q b : Bool) → (not (o && q) && b) ≡ true → o ≡ true → q ≡ false
    by_tests o q b h k = grind arith

-- the sides of s's ends by that of t's first end, which s spans; and by that of its last
weights_first : (s t : Seen) → cross_of t.from s.to *ℤ side_of t s.from +ℤ cross_of s.from t.from *ℤ side_of t s.to
    ≡ neg_ℤ (cross_of t.from t.to *ℤ side_of s t.from)
weights_first s t = by_hits _ (cross_of t.from t.to) (cross_of t.from s.to +ℤ cross_of s.from t.from)
    (cross_of s.from s.to) (cross_of t.from t.to +ℤ cross_of t.from t.from) (side_of s t.from) (sides_are t.from s t)
    own side
  where
    own : cross_of t.from t.to +ℤ cross_of t.from t.from ≡ cross_of t.from t.to
    own = omega (arith, ints)

    side : side_of s t.from ≡ cross_of s.from s.to -ℤ (cross_of t.from s.to +ℤ cross_of s.from t.from)
    side = omega (arith, ints)

    by_hits : (w o n p k x : ℤ) → w ≡ o *ℤ n -ℤ p *ℤ k → k ≡ o → x ≡ p -ℤ n → w ≡ neg_ℤ (o *ℤ x)
    by_hits w o n p k x e f g =
        let h : p *ℤ k ≡ o *ℤ p = ap (λ t. p *ℤ t) f ∙ product_swapped p o in
        let i : o *ℤ x ≡ o *ℤ (p -ℤ n) = ap (λ t. o *ℤ t) g in
        let j = times_minus o p n in
        omega (arith, ints, e, h, i, j)

weights_last : (s t : Seen) → cross_of t.to s.to *ℤ side_of t s.from +ℤ cross_of s.from t.to *ℤ side_of t s.to
    ≡ neg_ℤ (cross_of t.from t.to *ℤ side_of s t.to)
weights_last s t = by_hits _ (cross_of t.from t.to) (cross_of t.to s.to +ℤ cross_of s.from t.to) (cross_of s.from s.to)
    (cross_of t.to t.to +ℤ cross_of t.from t.to) (side_of s t.to) (sides_are t.to s t) own side
  where
    own : cross_of t.to t.to +ℤ cross_of t.from t.to ≡ cross_of t.from t.to
    own = omega (arith, ints)

    side : side_of s t.to ≡ cross_of s.from s.to -ℤ (cross_of t.to s.to +ℤ cross_of s.from t.to)
    side = omega (arith, ints)

    by_hits : (w o n p k x : ℤ) → w ≡ o *ℤ n -ℤ p *ℤ k → k ≡ o → x ≡ p -ℤ n → w ≡ neg_ℤ (o *ℤ x)
    by_hits w o n p k x e f g =
        let h : p *ℤ k ≡ o *ℤ p = ap (λ t. p *ℤ t) f ∙ product_swapped p o in
        let i : o *ℤ x ≡ o *ℤ (p -ℤ n) = ap (λ t. o *ℤ t) g in
        let j = times_minus o p n in
        omega (arith, ints, e, h, i, j)

flip_up : (o x : ℤ) → pos 0 <ℤ o → x <ℤ pos 0 → pos 0 <ℤ neg_ℤ (o *ℤ x)
flip_up o x h k = let r = positive_product o (pos 0 -ℤ x) h (omega (arith, ints, k)) in let t = times_minus o (pos 0) x
    in omega (arith, ints, r, t)

flip_down : (o x : ℤ) → pos 0 <ℤ o → pos 0 <ℤ x → neg_ℤ (o *ℤ x) <ℤ pos 0
flip_down o x h k = let r = positive_product o x h k in omega (arith, ints, r)

-- t begins behind the line of s, which spans its first direction: it isn't in front of s
pub begins_behind : (s t : Seen) → pos 0 <ℤ cross_of t.from t.to → spans t.from s ≡ true → side_of s t.from <ℤ pos 0
    → is_in_front t s ≡ false
unfolding is_in_front
begins_behind s t up spanned past =
    let two = both_of (int_lt (pos 0) (cross_of s.from t.from)) (int_lt (pos 0) (cross_of t.from s.to)) spanned in
    not_front (side_of s t.from) (side_of s t.to) (side_of t s.from) (side_of t s.to) true past
    (one_up (cross_of t.from s.to) (cross_of s.from t.from) (side_of t s.from) (side_of t s.to) _
    (tested_positive _ two.1) (tested_positive _ two.0) (weights_first s t)
    (flip_up (cross_of t.from t.to) (side_of s t.from) up past)) refl

-- it begins before the line of s: it is in front
pub begins_before : (s t : Seen) → pos 0 <ℤ cross_of t.from t.to → spans t.from s ≡ true → are_apart t s ≡ true
    → pos 0 <ℤ side_of s t.from → is_in_front t s ≡ true
unfolding is_in_front are_apart
begins_before s t up spanned apart before =
    let two = both_of (int_lt (pos 0) (cross_of s.from t.from)) (int_lt (pos 0) (cross_of t.from s.to)) spanned in
    front_first (side_of s t.from) (side_of s t.to) (side_of t s.from) (side_of t s.to) before
    (λ o. none_up (cross_of t.from s.to) (cross_of s.from t.from) (side_of t s.from) (side_of t s.to) _
    (tested_positive _ two.1) (tested_positive _ two.0) (weights_first s t)
    (flip_down (cross_of t.from t.to) (side_of s t.from) up before)
    (apart_of (side_of s t.from) (side_of s t.to) (side_of t s.from) (side_of t s.to) _ apart o))

-- t ends behind the line of s
pub ends_behind : (s t : Seen) → pos 0 <ℤ cross_of t.from t.to → spans t.to s ≡ true → side_of s t.to <ℤ pos 0
    → is_in_front t s ≡ false
unfolding is_in_front
ends_behind s t up spanned past =
    let two = both_of (int_lt (pos 0) (cross_of s.from t.to)) (int_lt (pos 0) (cross_of t.to s.to)) spanned in
    not_front_last (side_of s t.from) (side_of s t.to) (side_of t s.from) (side_of t s.to) past
    (one_up (cross_of t.to s.to) (cross_of s.from t.to) (side_of t s.from) (side_of t s.to) _ (tested_positive _ two.1)
    (tested_positive _ two.0) (weights_last s t) (flip_up (cross_of t.from t.to) (side_of s t.to) up past))

-- t ends before the line of s
pub ends_before : (s t : Seen) → pos 0 <ℤ cross_of t.from t.to → spans t.to s ≡ true → are_apart t s ≡ true
    → pos 0 <ℤ side_of s t.to → is_in_front t s ≡ true
unfolding is_in_front are_apart
ends_before s t up spanned apart before =
    let two = both_of (int_lt (pos 0) (cross_of s.from t.to)) (int_lt (pos 0) (cross_of t.to s.to)) spanned in
    front_last (side_of s t.from) (side_of s t.to) (side_of t s.from) (side_of t s.to) before
    (λ o. none_up (cross_of t.to s.to) (cross_of s.from t.to) (side_of t s.from) (side_of t s.to) _
    (tested_positive _ two.1) (tested_positive _ two.0) (weights_last s t)
    (flip_down (cross_of t.from t.to) (side_of s t.to) up before)
    (apart_of (side_of s t.from) (side_of s t.to) (side_of t s.from) (side_of t s.to) _ apart o))

-- two that begin at one corner: the side of the other end decides
pub begin_together : (s t : Seen) → side_of s t.from ≡ pos 0 → is_in_front t s ≡ int_lt (pos 0) (side_of s t.to)
unfolding is_in_front
begin_together s t h = by_sides (side_of s t.from) (side_of s t.to)
    (int_lt (pos 0) (side_of t s.from) || int_lt (pos 0) (side_of t s.to)) h
  where
    by_sides : (x y : ℤ) (b : Bool) → x ≡ pos 0
        → cond (are_opposite x y) (not b) (int_lt (pos 0) x || int_lt (pos 0) y) ≡ int_lt (pos 0) y
    by_sides x y b h = grind (arith, ints)

-- ---- the corner's place in the list

itself_along : (d : Point) → IsDirected d → IsAlong d d
itself_along d some = record { line = own; ahead = dot_itself d some }
  where
    own : cross_of d d ≡ pos 0
    own = omega (arith, ints)

-- what is before a wall that v is behind, v is behind too: the walls that v is behind come first
pub behind_both : (v : Point) (s t : Seen) → IsDirected v → spans v s ≡ true → spans v t ≡ true → are_apart s t ≡ true
    → is_in_front s t ≡ true → int_lt (side_of t v) (pos 0) ≡ true → int_lt (side_of s v) (pos 0) ≡ true
behind_both v s t some s_spans t_spans apart front past =
    let along = itself_along v some in
    past_of_hit v v s some along (dot_itself v some)
    (before_chain (hit_of v s) (hit_of v t) (record { num = dot_of v v; den = dot_of v v }) (den_up v s s_spans)
    (den_up v t t_spans) (dot_itself v some)
    (sym (front_is_before v s t s_spans t_spans apart) ∙ front) (hit_before v v t some along t_spans past))

-- ---- the place of a wall that ends at the corner

not_front_of : (x y z u : ℤ) → pos 0 <ℤ y → (are_opposite z u ≡ false → (int_lt (pos 0) z || int_lt (pos 0) u) ≡ false)
    → front_by z u x y ≡ false
not_front_of x y z u up f = by_cases (are_opposite z u)
    (λ k. ap (λ t. cond t (not (int_lt (pos 0) x || int_lt (pos 0) y)) (int_lt (pos 0) z || int_lt (pos 0) u)) k
    ∙ ap not (last x y up))
    (λ k. ap (λ t. cond t (not (int_lt (pos 0) x || int_lt (pos 0) y)) (int_lt (pos 0) z || int_lt (pos 0) u)) k ∙ f k)
  where
    last : (x y : ℤ) → pos 0 <ℤ y → (int_lt (pos 0) x || int_lt (pos 0) y) ≡ true
    last x y h = grind (arith, ints)

-- where t ends before the line of s, s isn't in front of it
pub not_before_end : (s t : Seen) → pos 0 <ℤ cross_of t.from t.to → spans t.to s ≡ true → pos 0 <ℤ side_of s t.to
    → is_in_front s t ≡ false
unfolding is_in_front
not_before_end s t up spanned before =
    let two = both_of (int_lt (pos 0) (cross_of s.from t.to)) (int_lt (pos 0) (cross_of t.to s.to)) spanned in
    not_front_of (side_of s t.from) (side_of s t.to) (side_of t s.from) (side_of t s.to) before
    (λ apart. none_up (cross_of t.to s.to) (cross_of s.from t.to) (side_of t s.from) (side_of t s.to) _
    (tested_positive _ two.1) (tested_positive _ two.0) (weights_last s t)
    (flip_down (cross_of t.from t.to) (side_of s t.to) up before) apart)

-- so the corner is behind what stands before a wall that ends there, and it isn't behind what stands after it
pub before_ended : (s t : Seen) → pos 0 <ℤ cross_of t.from t.to → spans t.to s ≡ true → is_in_front s t ≡ true
    → (int_eq (side_of s t.to) (pos 0) ≡ true → ⊥) → int_lt (side_of s t.to) (pos 0) ≡ true
before_ended s t up spanned front other = by_lt_z (side_of s t.to) (pos 0)
    (λ lt. negative_tested (side_of s t.to) lt)
    (λ le. by_lt_z (pos 0) (side_of s t.to)
    (λ gt. absurd (clash (is_in_front s t) front (not_before_end s t up spanned gt)))
    (λ ge. absurd (other (zero (side_of s t.to) le ge))))
  where
    zero : (z : ℤ) → pos 0 ≤ℤ z → z ≤ℤ pos 0 → int_eq z (pos 0) ≡ true
    zero z h k = grind (arith, ints)

pub after_ended : (s t : Seen) → pos 0 <ℤ cross_of t.from t.to → spans t.to s ≡ true → is_in_front t s ≡ true
    → int_lt (side_of s t.to) (pos 0) ≡ false
after_ended s t up spanned front = by_cases (int_lt (side_of s t.to) (pos 0))
    (λ h. absurd (clash (is_in_front t s) front (ends_behind s t up spanned (tested_negative (side_of s t.to) h))))
    (λ h. h)
