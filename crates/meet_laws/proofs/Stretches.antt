-- When two stretches meet, by their directions and parameters.
--
-- Where the lines cross, 0 lies between how far the ends of each lie before the other line (`Meeting`), and this is
-- that the parameter of the crossing lies between theirs (`Within`). Where they are parallel all ends of one lie on one
-- side of the other's line, or all on it, and then the extents decide (`Parallel`). Where all of one lies before the
-- other in a coordinate, no parameter of a crossing can be between those of both, nor do extents share a number
-- (`Apart`, `Extents`).
use Rattle.std.proofs.Common.{◌≡◌, refl, ap, ◌∙◌, arith, ℤ, pos, neg_ℤ, ◌<ℤ◌, Bool, true, false, ◌⊎◌, inl, inr}
use Rattle.std.specs.Prelude.{◌&&◌}
use Rattle.std.proofs.lemmas.Int.{ints}
use Rattle.int_laws.proofs.Ring.{cross_exchanged}
use Rattle.int_laws.proofs.Tests.{equal_tested}
use Rattle.plane_spec.specs.declared.Point.{Point}
use Rattle.plane_spec.specs.Vectors.{vector, cross_of, point, same_point, IsDirected}
use Rattle.plane_spec.specs.Fractions.{RPoint}
use Rattle.plane_spec.specs.RPoints.{do_rsegments_touch}
use Rattle.meet_laws.specs.Stretches.{Stretch, IsStretchOf, AreAllBefore, is_zero_between, is_between_parameters, is_between_parameters_turned, do_reach_crossing, do_reach_crossing_turned, do_extents_meet}
use Rattle.meet_laws.proofs.Identities.{cross_back}
use Rattle.meet_laws.proofs.Signs.{IsNonzero, by_zero}
use Rattle.meet_laws.proofs.Meeting.{ahead, meeting_across}
use Rattle.meet_laws.proofs.Within.{apart_is_within, apart_is_within_turned, within_turned}
use Rattle.meet_laws.proofs.Parallel.{meeting_aside, meeting_in_line, aside_too, in_line_too}
use Rattle.meet_laws.proofs.Extents.{apart_in_x, apart_in_y}

-- ---- lines that cross

back_is : (d e : Point) → neg_ℤ (cross_of e d) ≡ cross_of d e
back_is d e = let x = cross_exchanged e.x e.y d.x d.y in omega (arith, ints, x)

aside_back : (p q d : Point) → neg_ℤ (cross_of (vector q p) d) ≡ cross_of (vector p q) d
aside_back p q d = cross_back p.x p.y q.x q.y d.x d.y

neg_is : (x y : ℤ) → neg_ℤ x ≡ y → x ≡ neg_ℤ y
neg_is x y e = omega (arith, ints, e)

-- 0 lies between how far the ends of the first lie before the second line
abbrev are_ends_across : Stretch → Stretch → Bool
are_ends_across s r =
    is_zero_between (ahead s.p s.d r.p r.d s.from.num s.from.den) (ahead s.p s.d r.p r.d s.to.num s.to.den)

across : (s r : Stretch) (a b c f : RPoint) → IsStretchOf s a b → IsStretchOf r c f → IsNonzero (cross_of s.d r.d)
    → do_rsegments_touch a b c f ≡ (are_ends_across s r && are_ends_across r s)
across s r a b c f h k some =
    meeting_across a b c f s.p s.d r.p r.d s.from.num s.from.den s.to.num s.to.den r.from.num r.from.den r.to.num
    r.to.den
    h.from h.to k.from k.to some h.order k.order

-- t / k lies on the stretch
abbrev is_on : ℤ → ℤ → Stretch → Bool
is_on t k s = is_between_parameters t k s.from.num s.from.den s.to.num s.to.den

pub meet_left : (s r : Stretch) (a b c f : RPoint) → IsStretchOf s a b → IsStretchOf r c f → pos 0 <ℤ cross_of s.d r.d
    → do_rsegments_touch a b c f ≡ do_reach_crossing s r
unfolding do_reach_crossing
meet_left s r a b c f h k up =
    let c0 = cross_of s.d r.d in
    let t = cross_of (vector s.p r.p) r.d in
    let c1 = cross_of r.d s.d in
    let t1 = cross_of (vector r.p s.p) s.d in
    let back = back_is s.d r.d in
    let one = apart_is_within c0 t s.from.num s.from.den s.to.num s.to.den up h.from.x.over h.to.x.over h.order in
    let two = apart_is_within_turned c1 t1 r.from.num r.from.den r.to.num r.to.den (omega (arith, ints, back))
    k.from.x.over k.to.x.over k.order in
    across s r a b c f h k (inr up)
    ∙ ap (λ z. z && are_ends_across r s) one
    ∙ ap (λ z. is_on t c0 s && z) two
    ∙ ap (λ z. is_on t c0 s && is_on z (neg_ℤ c1) r) (aside_back s.p r.p s.d)
    ∙ ap (λ z. is_on t c0 s && is_on (cross_of (vector s.p r.p) s.d) z r) back

meet_below : (s r : Stretch) (a b c f : RPoint) → IsStretchOf s a b → IsStretchOf r c f → cross_of s.d r.d <ℤ pos 0
    → do_rsegments_touch a b c f
    ≡ (is_on (neg_ℤ (cross_of (vector s.p r.p) r.d)) (neg_ℤ (cross_of s.d r.d)) s
    && is_on (neg_ℤ (cross_of (vector s.p r.p) s.d)) (neg_ℤ (cross_of s.d r.d)) r)
meet_below s r a b c f h k down =
    let c0 = cross_of s.d r.d in
    let t = cross_of (vector s.p r.p) r.d in
    let c1 = cross_of r.d s.d in
    let t1 = cross_of (vector r.p s.p) s.d in
    let back = back_is s.d r.d in
    let one = apart_is_within_turned c0 t s.from.num s.from.den s.to.num s.to.den down h.from.x.over h.to.x.over
    h.order in
    let two = apart_is_within c1 t1 r.from.num r.from.den r.to.num r.to.den (omega (arith, ints, back))
    k.from.x.over k.to.x.over k.order in
    across s r a b c f h k (inl down)
    ∙ ap (λ z. z && are_ends_across r s) one
    ∙ ap (λ z. is_on (neg_ℤ t) (neg_ℤ c0) s && z) two
    ∙ ap (λ z. is_on (neg_ℤ t) (neg_ℤ c0) s && is_on z c1 r) (neg_is t1 _ (aside_back s.p r.p s.d))
    ∙ ap (λ z. is_on (neg_ℤ t) (neg_ℤ c0) s && is_on (neg_ℤ (cross_of (vector s.p r.p) s.d)) z r) (neg_is c1 c0 back)

pub meet_right : (s r : Stretch) (a b c f : RPoint) → IsStretchOf s a b → IsStretchOf r c f
    → cross_of s.d r.d <ℤ pos 0
    → do_rsegments_touch a b c f ≡ do_reach_crossing_turned s r
unfolding do_reach_crossing_turned
meet_right s r a b c f h k down =
    let c0 = cross_of s.d r.d in
    let t = cross_of (vector s.p r.p) r.d in
    let u = cross_of (vector s.p r.p) s.d in
    meet_below s r a b c f h k down
    ∙ ap (λ z. z && is_on (neg_ℤ u) (neg_ℤ c0) r) (within_turned c0 t s.from.num s.from.den s.to.num s.to.den)
    ∙ ap (λ z. is_between_parameters_turned t c0 s.from.num s.from.den s.to.num s.to.den && z)
    (within_turned c0 u r.from.num r.from.den r.to.num r.to.den)

-- ---- lines that are parallel

pub directed_parts : (d : Point) → IsDirected d → IsNonzero d.x ⊎ IsNonzero d.y
directed_parts d h = by (by_zero d.x) (by_zero d.y)
  where
    by : (d.x ≡ pos 0) ⊎ IsNonzero d.x → (d.y ≡ pos 0) ⊎ IsNonzero d.y → IsNonzero d.x ⊎ IsNonzero d.y
    by (inr i) j = inl i
    by (inl e) (inr j) = inr j
    by (inl e) (inl f) =
        let x = equal_tested d.x (pos 0) e in
        let y = equal_tested d.y (pos 0) f in
        let s = h.somewhere in
        let t : same_point d (point (pos 0) (pos 0)) ≡ true = rw (x, y) refl in
        absurd (cc (s, t))

nonzero_of_back : (x y : ℤ) → neg_ℤ x ≡ y → IsNonzero y → IsNonzero x
nonzero_of_back x y e (inl h) = inr (omega (arith, ints, e))
nonzero_of_back x y e (inr h) = inl (omega (arith, ints, e))

pub meet_aside : (s r : Stretch) (a b c f : RPoint) → IsStretchOf s a b → IsStretchOf r c f
    → cross_of s.d r.d ≡ pos 0 → IsNonzero (cross_of (vector s.p r.p) s.d) → do_rsegments_touch a b c f ≡ false
meet_aside s r a b c f h k flat some =
    let aside = nonzero_of_back _ _ (aside_back s.p r.p s.d) some in
    meeting_aside a b c f s.p s.d r.p r.d s.from.num s.from.den s.to.num s.to.den r.from.num r.from.den r.to.num
    r.to.den
    h.from h.to k.from k.to flat h.order k.order aside
    (aside_too s.p r.p s.d r.d flat (directed_parts r.d k.directed) aside)

zero_of_back : (x y : ℤ) → neg_ℤ x ≡ y → y ≡ pos 0 → x ≡ pos 0
zero_of_back x y e f = omega (arith, ints, e, f)

pub meet_in_line : (s r : Stretch) (a b c f : RPoint) → IsStretchOf s a b → IsStretchOf r c f
    → cross_of s.d r.d ≡ pos 0 → cross_of (vector s.p r.p) s.d ≡ pos 0
    → do_rsegments_touch a b c f ≡ do_extents_meet a b c f
meet_in_line s r a b c f h k flat line =
    let back = back_is s.d r.d in
    let line' = zero_of_back _ _ (aside_back s.p r.p s.d) line in
    meeting_in_line a b c f s.p s.d r.p r.d s.from.num s.from.den s.to.num s.to.den r.from.num r.from.den r.to.num
    r.to.den
    h.from h.to k.from k.to flat h.order k.order line'
    (in_line_too s.p r.p s.d r.d (zero_of_back _ _ back flat) (directed_parts s.d h.directed) line')

-- ---- lines that are apart in a coordinate

pub no_meeting_in_x : (s r : Stretch) (a b c f : RPoint) → IsStretchOf s a b → IsStretchOf r c f
    → AreAllBefore a.x b.x c.x f.x → do_rsegments_touch a b c f ≡ false
no_meeting_in_x s r a b c f h k before =
    apart_in_x a b c f s.p s.d r.p r.d s.from.num s.from.den s.to.num s.to.den r.from.num r.from.den r.to.num r.to.den
    h.from h.to k.from k.to h.order k.order (directed_parts s.d h.directed) (directed_parts r.d k.directed) before

pub no_meeting_in_y : (s r : Stretch) (a b c f : RPoint) → IsStretchOf s a b → IsStretchOf r c f
    → AreAllBefore a.y b.y c.y f.y → do_rsegments_touch a b c f ≡ false
no_meeting_in_y s r a b c f h k before =
    apart_in_y a b c f s.p s.d r.p r.d s.from.num s.from.den s.to.num s.to.den r.from.num r.from.den r.to.num r.to.den
    h.from h.to k.from k.to h.order k.order (directed_parts s.d h.directed) (directed_parts r.d k.directed) before
