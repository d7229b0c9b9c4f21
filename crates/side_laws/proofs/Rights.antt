-- The right sides: sound edges turned round are sound, and go round 1 - k times there where they went round k times
-- on the left.
--
-- Through the middle of an edge, which is on no other edge, a short segment crosses that edge properly and touches no
-- other; so on its right the winding is k - 1. Turned round, edges count the other way, so it is 1 - k there; and
-- from the middle it is carried back to the corner, as on the left.
use Rattle.std.specs.Prelude.{false, List, map, [], ◌∷◌, true, ◌&&◌}
use Rattle.std.specs.Ordering.{int_eq}
use Rattle.std.proofs.Common.{◌≡◌, ◌∙◌, inl, inr, pos, ℤ, ◌<ℤ◌, arith, refl, subst, sym, ◌⊎◌, ◌+ℤ◌, ◌-ℤ◌, neg_ℤ, ℕ}
use Rattle.std.proofs.Common.{ap, ◌*ℤ◌}
use Rattle.std.proofs.lemmas.Int.{ints}
use Rattle.int_laws.proofs.Ring.{minus_times, times_neg, product_swapped, sum_times}
use Rattle.int_laws.proofs.Signs.{positive_product}
use Rattle.plane_spec.specs.declared.Point.{Point}
use Rattle.plane_spec.specs.declared.Segment.{Segment}
use Rattle.plane_spec.specs.Segments.{do_touch, is_on_segment, is_between}
use Rattle.plane_spec.specs.Vectors.{cross_of, same_point, vector, orient_of}
use Rattle.exact_geom.proofs.Orientation.{orient_of_first_exchanged}
use Rattle.plane_laws.specs.Enlarged.{enlarged, enlarged_wall}
use Rattle.plane_laws.proofs.Segments.Touching.{touch_swapped}
use Rattle.plane_laws.proofs.Points.Between.{IsAlong, apart_back}
use Rattle.plane_laws.proofs.Lists.Members.{IsIn, source, mapped}
use Rattle.plane_laws.proofs.Points.Directions.{at_both, exchanged, minus_cross, none_cross}
use Rattle.plane_laws.proofs.Points.Scaled.{scaled, scaled_wall, cross_scaled}
use Rattle.winding_laws.specs.Windings.{winding, near}
use Rattle.winding_laws.proofs.Strips.{Clears, HasWinding, carried, line_linear, line_positive, side_positive}
use Rattle.winding_laws.proofs.Strips.{clears_far, closed_enlarged, same_value}
use Rattle.winding_laws.proofs.Near.{eventually_then, Eventually, eventually_both, linear, eventually_all}
use Rattle.winding_laws.proofs.Closed.{AreClosed, rises_along}
use Rattle.winding_laws.proofs.OneEdge.{Balanced, one_edge, strip}
use Rattle.winding_laws.proofs.Crossed.{Differs, Crosses, crossed_edge}
use Rattle.winding_laws.proofs.Turned.{closed_turned, has_turned}
use Rattle.winding_laws.proofs.Scaled.{has_scaled}
use Rattle.winding_laws.proofs.Settles.{some_winding}
use Rattle.side_laws.proofs.Sides.{IsCornerOf, KeepsApart, cleared, real, wall, SideAt, side_at, side_middle}
use Rattle.side_laws.proofs.Corners.{clears_before, clears_later, clears_other, clears_own, way_positive}
use Rattle.side_laws.proofs.Sound.{Distinct, IsSound, on_one, SidesOf}
use Rattle.side_laws.proofs.Turned.{back, back_way, turned_along, alone_turned, corner_turned, distinct_turned}
use Rattle.side_laws.proofs.Scaled.{alone_scaled, corner_scaled, scaled_sound}
use Rattle.sight_spec.specs.Scene.{turned_edge}
use Rattle.side_laws.specs.Sides.{middle_of}

-- ---- from the middle of a wall back to its corner

swapped : (a b p d q e : Point) → Clears a b p d q e → Clears a b q e p d
swapped a b p d q e h =
    eventually_then (λ n. do_touch (enlarged n a) (enlarged n b) (near n p d) (near n q e) ≡ false)
    (λ n. do_touch (enlarged n a) (enlarged n b) (near n q e) (near n p d) ≡ false)
    (λ n k. touch_swapped (enlarged n a) (enlarged n b) (near n p d) (near n q e) ∙ k) h

side_back : (edges : List Segment) (u v z w x e : Point) (k : ℤ) → AreClosed edges
    → ((f : Segment) → IsIn edges f → same_point f.a f.b ≡ false)
    → (first : IsCornerOf edges u v z) → IsCornerOf edges v z w → KeepsApart edges (wall v z) → IsAlong v z x
    → same_point x z ≡ false → pos 0 <ℤ cross_of (vector v z) e → HasWinding edges x e k
    → HasWinding edges v first.inner.way k
side_back edges u v z w x e k closed some first second alone here short e_left h =
    let d = first.inner.way in
    let d_before = first.inner.before_left in
    let d_after = first.inner.after_left in
    let y = second.inner.way in
    (carried edges x e v d k closed
    (λ f there. swapped f.a f.b v d x e (elim (first.others f there) [
      | inl i ↦ cleared u v v d x e f i (clears_before u v z x d e here d_before d_after e_left)
      | inr (inl i) ↦ cleared v z v d x e f i (clears_own v z x d e here d_after e_left)
      | inr (inr off) ↦ elim (second.others f there) [
        | inl i ↦ cleared v z v d x e f i (clears_own v z x d e here d_after e_left)
        | inr (inl i) ↦ cleared z w v d x e f i
            (clears_later v z w x d e y here short d_after e_left second.inner.before_left second.inner.after_left)
        | inr (inr off_too) ↦ clears_other f.a f.b v z x d e here (real f.a f.b d (vector v z) (some f there) d_after)
            (alone f there off off_too) d_after e_left
      ]
    ])) h).has

-- ---- through the middle of a wall

-- where one edge is crossed and all others are balanced, the windings differ by 1
one_crossed : (image : Segment → Segment) (p q : Point) (edges : List Segment) (f : Segment) → Distinct edges
    → IsIn edges f → Differs p q (image f) (pos 1) → ((g : Segment) → IsIn edges g → (g ≡ f) ⊎ Balanced p q (image g))
    → winding p (map image edges) -ℤ winding q (map image edges) ≡ rises_along (strip p q) (map image edges) +ℤ pos 1
one_crossed image p q [] f distinct there differs others = absurd there
one_crossed image p q (e ∷ edges) f distinct there differs others =
    by_first (others e (inl refl)) there (λ later. one_crossed image p q edges f distinct.1 later differs
    (λ g h. others g (inr h)))
  where
    all_balanced : (rest : List Segment) → ((g : Segment) → IsIn rest g → Balanced p q (image g))
        → winding p (map image rest) -ℤ winding q (map image rest) ≡ rises_along (strip p q) (map image rest)
    all_balanced [] b = refl
    all_balanced (g ∷ rest) b =
        let first = b g (inl refl) in let later = all_balanced rest (λ h k. b h (inr k)) in
        omega (arith, ints, first, later)

    only : e ≡ f → (g : Segment) → IsIn edges g → (g ≡ f) ⊎ Balanced p q (image g) → Balanced p q (image g)
    only same g h (inl i) = absurd (distinct.0 (subst (λ t. IsIn edges t) (i ∙ sym same) h))
    only same g h (inr b) = b

    here : e ≡ f
        → winding p (map image (e ∷ edges)) -ℤ winding q (map image (e ∷ edges))
        ≡ rises_along (strip p q) (map image (e ∷ edges)) +ℤ pos 1
    here same =
        let rest = all_balanced edges (λ g h. only same g h (others g (inr h))) in
        let own : Differs p q (image e) (pos 1) = subst (λ t. Differs p q (image t) (pos 1)) (sym same) differs in
        omega (arith, ints, rest, own)

    by_first : (e ≡ f) ⊎ Balanced p q (image e) → (e ≡ f) ⊎ IsIn edges f
        → (IsIn edges f
        → winding p (map image edges) -ℤ winding q (map image edges)
        ≡ rises_along (strip p q) (map image edges) +ℤ pos 1)
        → winding p (map image (e ∷ edges)) -ℤ winding q (map image (e ∷ edges))
        ≡ rises_along (strip p q) (map image (e ∷ edges)) +ℤ pos 1
    by_first (inl same) t again = here same
    by_first (inr b) (inl same) again = here same
    by_first (inr b) (inr later) again = let rest = again later in omega (arith, ints, rest, b)

-- the segment from d away to the other side crosses the wall
crosses_middle : (v z x d : Point) → IsAlong v z x → same_point x z ≡ false → pos 0 <ℤ cross_of (vector v z) d
    → Eventually (λ n. Crosses (enlarged n v) (enlarged n z) (near n x d) (near n x (back d)))
crosses_middle v z x d h short left =
    let line = h.between.line in
    let o = orient_of_first_exchanged v z x in
    let left_too = subst (λ t. pos 0 <ℤ t) (sym (back_way v z d)) left in
    let start = way_positive v z x d h left in
    let end = subst (λ t. pos 0 <ℤ t) (back_way x z d)
    (way_positive z v x (back d) (turned_along v z x h short) left_too) in
    eventually_then _ (λ n. Crosses (enlarged n v) (enlarged n z) (near n x d) (near n x (back d)))
    (λ n s.
    let e = orient_of_first_exchanged (enlarged n v) (enlarged n z) (near n x (back d)) in
    let g = orient_of_first_exchanged (near n x d) (near n x (back d)) (enlarged n v) in
    let s1 = s.0.1 in
    let s2 = s.1.0 in
    record {
      p_left = s.0.0;
      q_right = omega (arith, ints, e, s1);
      a_right = omega (arith, ints, g, s2);
      b_left = s.1.1;
    })
    (eventually_both (λ n. (pos 0 <ℤ orient_of (enlarged n v) (enlarged n z) (near n x d)) ×
    (pos 0 <ℤ orient_of (enlarged n z) (enlarged n v) (near n x (back d))))
    (λ n. (pos 0 <ℤ orient_of (near n x (back d)) (near n x d) (enlarged n v)) ×
    (pos 0 <ℤ orient_of (near n x d) (near n x (back d)) (enlarged n z)))
    (eventually_both (λ n. pos 0 <ℤ orient_of (enlarged n v) (enlarged n z) (near n x d))
    (λ n. pos 0 <ℤ orient_of (enlarged n z) (enlarged n v) (near n x (back d)))
    (side_positive v z x d (linear line left)) (side_positive z v x (back d)
    (linear (omega (arith, ints, o, line)) left_too)))
    (eventually_both (λ n. pos 0 <ℤ orient_of (near n x (back d)) (near n x d) (enlarged n v))
    (λ n. pos 0 <ℤ orient_of (near n x d) (near n x (back d)) (enlarged n z))
    (line_positive x (back d) x d v (linear (at_both x v) (lin_v start)))
    (line_positive x d x (back d) z (linear (at_both x z) (lin_z end)))))
  where
    lin_v : pos 0 <ℤ cross_of (vector v x) d → pos 0 <ℤ line_linear x (back d) x d v
    lin_v start =
        let a = minus_cross (back d) d (vector x v) in
        let b = none_cross (back d) x in
        let c = exchanged (vector x v) d in
        let e = back_way v x d in
        let f = exchanged (vector x v) (back d) in
        let g = cross_flip d v x in
        omega (arith, ints, start, a, b, c, e, f, g)
      where
        cross_flip : (d v x : Point) → cross_of (vector x v) d ≡ neg_ℤ (cross_of (vector v x) d)
        cross_flip d v x =
            let e = minus_times v.x x.x d.y in let f = minus_times v.y x.y d.x in
            let g = minus_times x.x v.x d.y in let h = minus_times x.y v.y d.x in
            omega (arith, ints, e, f, g, h)

    lin_z : pos 0 <ℤ cross_of (vector x z) d → pos 0 <ℤ line_linear x d x (back d) z
    lin_z end =
        let a = minus_cross d (back d) (vector x z) in
        let b = none_cross d x in
        let c = exchanged (vector x z) d in
        let f = exchanged (vector x z) (back d) in
        let g = times_neg (z.x -ℤ x.x) d.y in
        let h = times_neg (z.y -ℤ x.y) d.x in
        omega (arith, ints, end, a, b, c, f, g, h)

-- right of the middle of a wall the edges go round once less
right_of_middle : (edges : List Segment) (k : ℤ) (f : Segment) (x d : Point) → IsSound edges k → IsIn edges f
    → IsAlong f.a f.b x → same_point x f.b ≡ false → pos 0 <ℤ cross_of (vector f.a f.b) d
    → HasWinding edges x d k → HasWinding edges x (back d) (k -ℤ pos 1)
right_of_middle edges k f x d sound there here short left h =
    eventually_then _ (λ n. winding (near n x (back d)) (map (enlarged_wall n) edges) ≡ k -ℤ pos 1)
    (λ n s. step n s.0 s.1.0 s.1.1)
    (eventually_both (λ n. winding (near n x d) (map (enlarged_wall n) edges) ≡ k)
    (λ n. Crosses (enlarged n f.a) (enlarged n f.b) (near n x d) (near n x (back d)) ×
    ((g : Segment) → IsIn edges g → (g ≡ f) ⊎ (do_touch (enlarged n g.a) (enlarged n g.b) (near n x d)
    (near n x (back d)) ≡ false)))
    h
    (eventually_both (λ n. Crosses (enlarged n f.a) (enlarged n f.b) (near n x d) (near n x (back d)))
    (λ n. (g : Segment) → IsIn edges g → (g ≡ f) ⊎ (do_touch (enlarged n g.a) (enlarged n g.b) (near n x d)
    (near n x (back d)) ≡ false))
    (crosses_middle f.a f.b x d here short left)
    (eventually_all edges (λ g n. (g ≡ f) ⊎ (do_touch (enlarged n g.a) (enlarged n g.b) (near n x d)
    (near n x (back d)) ≡ false))
    (λ g g_there. one_or_far g (on_one edges k f x sound there here short g g_there)))))
  where
    one_or_far : (g : Segment) → (g ≡ f) ⊎ (is_on_segment x g.a g.b ≡ false)
        → Eventually (λ n. (g ≡ f)
        ⊎ (do_touch (enlarged n g.a) (enlarged n g.b) (near n x d) (near n x (back d)) ≡ false))
    one_or_far g (inl i) = record { after = 0; from_there = λ n l. inl i }
    one_or_far g (inr off) =
        eventually_then (λ n. do_touch (enlarged n g.a) (enlarged n g.b) (near n x d) (near n x (back d)) ≡ false)
        (λ n. (g ≡ f) ⊎ (do_touch (enlarged n g.a) (enlarged n g.b) (near n x d) (near n x (back d)) ≡ false))
        (λ n t. inr t) (clears_far g.a g.b x d (back d) off)

    step : (n : ℕ) → winding (near n x d) (map (enlarged_wall n) edges) ≡ k
        → Crosses (enlarged n f.a) (enlarged n f.b) (near n x d) (near n x (back d))
        → ((g : Segment) → IsIn edges g
        → (g ≡ f) ⊎ (do_touch (enlarged n g.a) (enlarged n g.b) (near n x d) (near n x (back d)) ≡ false))
        → winding (near n x (back d)) (map (enlarged_wall n) edges) ≡ k -ℤ pos 1
    step n w c free =
        let p = near n x d in
        let q = near n x (back d) in
        let e = one_crossed (enlarged_wall n) p q edges f sound.distinct there
        (crossed_edge p q (enlarged_wall n f) c) (λ g g_there. balanced g (free g g_there)) in
        let z = closed_enlarged n edges sound.closed (strip p q) in
        omega (arith, ints, w, e, z)
      where
        balanced : (g : Segment)
            → (g ≡ f) ⊎ (do_touch (enlarged n g.a) (enlarged n g.b) (near n x d) (near n x (back d)) ≡ false)
            → (g ≡ f) ⊎ Balanced (near n x d) (near n x (back d)) (enlarged_wall n g)
        balanced g (inl i) = inl i
        balanced g (inr t) = inr (one_edge (near n x d) (near n x (back d)) (enlarged_wall n g) t)

pub in_the_middle : (f : Segment) → same_point f.a f.b ≡ false
    → IsAlong (scaled (pos 2) (pos 2) f.a) (scaled (pos 2) (pos 2) f.b) (middle_of f)
    × (same_point (middle_of f) (scaled (pos 2) (pos 2) f.b) ≡ false)
in_the_middle f apart = (
  record {
    between = record { line = on_line f.a.x f.a.y f.b.x f.b.y; x = half f.a.x f.b.x; y = half f.a.y f.b.y };
    apart = first_same f.a.x f.b.x f.a.y f.b.y apart;
  },
  last_same f.a.x f.b.x f.a.y f.b.y apart,
)
  where
    half : (a b : ℤ) → is_between (a +ℤ b) (pos 2 *ℤ a) (pos 2 *ℤ b) ≡ true
    half a b = grind (arith, ints)

    first_test : (a b : ℤ) → int_eq (a +ℤ b) (pos 2 *ℤ a) ≡ int_eq a b
    first_test a b = grind (arith, ints)

    last_test : (a b : ℤ) → int_eq (a +ℤ b) (pos 2 *ℤ b) ≡ int_eq a b
    last_test a b = grind (arith, ints)

    first_same : (a b c d : ℤ) → (int_eq a b && int_eq c d) ≡ false
        → (int_eq (a +ℤ b) (pos 2 *ℤ a) && int_eq (c +ℤ d) (pos 2 *ℤ c)) ≡ false
    first_same a b c d h = rw (first_test a b, first_test c d) h

    last_same : (a b c d : ℤ) → (int_eq a b && int_eq c d) ≡ false
        → (int_eq (a +ℤ b) (pos 2 *ℤ b) && int_eq (c +ℤ d) (pos 2 *ℤ d)) ≡ false
    last_same a b c d h = rw (last_test a b, last_test c d) h

    on_line : (ax ay bx by : ℤ)
        → (pos 2 *ℤ bx -ℤ pos 2 *ℤ ax) *ℤ ((ay +ℤ by) -ℤ pos 2 *ℤ ay)
        -ℤ (pos 2 *ℤ by -ℤ pos 2 *ℤ ay) *ℤ ((ax +ℤ bx) -ℤ pos 2 *ℤ ax) ≡ pos 0
    on_line ax ay bx by =
        let u : (ax +ℤ bx) -ℤ pos 2 *ℤ ax ≡ bx -ℤ ax = omega (arith, ints) in
        let v : (ay +ℤ by) -ℤ pos 2 *ℤ ay ≡ by -ℤ ay = omega (arith, ints) in
        let w : pos 2 *ℤ bx -ℤ pos 2 *ℤ ax ≡ (bx -ℤ ax) +ℤ (bx -ℤ ax) = omega (arith, ints) in
        let z : pos 2 *ℤ by -ℤ pos 2 *ℤ ay ≡ (by -ℤ ay) +ℤ (by -ℤ ay) = omega (arith, ints) in
        let a = sum_times (bx -ℤ ax) (bx -ℤ ax) (by -ℤ ay) in
        let b = sum_times (by -ℤ ay) (by -ℤ ay) (bx -ℤ ax) in
        let c = product_swapped (bx -ℤ ax) (by -ℤ ay) in
        let first = ap (λ t. t *ℤ ((ay +ℤ by) -ℤ pos 2 *ℤ ay)) w ∙ ap (λ t. ((bx -ℤ ax) +ℤ (bx -ℤ ax)) *ℤ t) v in
        let second = ap (λ t. t *ℤ ((ax +ℤ bx) -ℤ pos 2 *ℤ ax)) z ∙ ap (λ t. ((by -ℤ ay) +ℤ (by -ℤ ay)) *ℤ t) u in
        omega (arith, ints, first, second, a, b, c)

turned_scaled : (edges : List Segment)
    → map turned_edge (map (scaled_wall (pos 2) (pos 2)) edges)
    ≡ map (scaled_wall (pos 2) (pos 2)) (map turned_edge edges)
turned_scaled [] = refl
turned_scaled (f ∷ edges) = ap (λ t. turned_edge (scaled_wall (pos 2) (pos 2) f) ∷ t) (turned_scaled edges)

pub two_up : pos 0 <ℤ pos 2
two_up = omega (arith, ints)

some_turned : (edges : List Segment) → ((f : Segment) → IsIn edges f → same_point f.a f.b ≡ false) → (g : Segment)
    → IsIn (map turned_edge edges) g → same_point g.a g.b ≡ false
some_turned edges some g there =
    let o = source turned_edge edges g there in
    subst (λ t. same_point t.a t.b ≡ false) o.is (apart_back o.it.a o.it.b (some o.it o.is_in))

-- the right side of an edge, at its end
right_at : (edges : List Segment) (k : ℤ) (f : Segment) → IsSound edges k → IsIn edges f → (s : SidesOf edges f k)
    → SideAt (map turned_edge edges) s.after f.b f.a (pos 1 -ℤ k)
right_at edges k f sound there s =
    let twice = map (scaled_wall (pos 2) (pos 2)) edges in
    let twice_sound = scaled_sound (pos 2) (pos 2) edges k two_up two_up sound in
    let f2 = scaled_wall (pos 2) (pos 2) f in
    let f2_there = mapped (scaled_wall (pos 2) (pos 2)) edges f there in
    let s2 = twice_sound.sides f2 f2_there in
    let x = middle_of f in
    let m = in_the_middle f (sound.some f there) in
    let d = s2.first.inner.way in
    let d_left = s2.first.inner.after_left in
    let left = (side_middle twice s2.before f2.a f2.b s2.after x d k twice_sound.closed twice_sound.some s2.first
    s2.second s2.alone s2.side m.0 m.1 d_left).has in
    let right = right_of_middle twice k f2 x d twice_sound f2_there m.0 m.1 d_left left in
    let other = map (scaled_wall (pos 2) (pos 2)) (map turned_edge edges) in
    let same = turned_scaled edges in
    let e : neg_ℤ (k -ℤ pos 1) ≡ pos 1 -ℤ k = omega (arith, ints) in
    let turned_right = subst (λ t. HasWinding other x (back d) t) e
    (subst (λ t. HasWinding t x (back d) (neg_ℤ (k -ℤ pos 1))) same
    (has_turned twice x (back d) (k -ℤ pos 1) right)) in
    let closed = subst AreClosed same (closed_turned twice twice_sound.closed) in
    let some = subst (λ t. (g : Segment) → IsIn t g → same_point g.a g.b ≡ false) same
    (some_turned twice twice_sound.some) in
    let here = corner_turned edges f.a f.b s.after s.second in
    let there_too = corner_turned edges s.before f.a f.b s.first in
    let first = corner_scaled (pos 2) (pos 2) s.after f.b f.a (map turned_edge edges) two_up two_up here in
    let second = corner_scaled (pos 2) (pos 2) f.b f.a s.before (map turned_edge edges) two_up two_up there_too in
    let alone = alone_scaled (pos 2) (pos 2) (turned_edge f) (map turned_edge edges) two_up two_up
    (alone_turned edges f s.alone) in
    let e_left : pos 0 <ℤ cross_of (vector f2.b f2.a) (back d) = subst (λ t. pos 0 <ℤ t)
    (sym (back_way f2.a f2.b d)) d_left in
    let at_corner = side_back other (scaled (pos 2) (pos 2) s.after) f2.b f2.a (scaled (pos 2) (pos 2) s.before) x
    (back d) (pos 1 -ℤ k) closed some first second alone
    (turned_along f2.a f2.b x m.0 m.1) m.0.apart e_left turned_right in
    let around = side_at other (scaled (pos 2) (pos 2) s.after) f2.b f2.a first.inner.way
    (pos 1 -ℤ k) closed first first.inner.before_left first.inner.after_left at_corner in
    let y = here.inner.way in
    let four : pos 0 <ℤ (pos 2 *ℤ pos 2) = positive_product (pos 2) (pos 2) two_up two_up in
    let value = around (scaled (pos 2) (pos 2) y)
    (subst (λ t. pos 0 <ℤ t) (sym (cross_scaled (pos 2) (pos 2) s.after f.b y))
    (positive_product (pos 2 *ℤ pos 2) (cross_of (vector s.after f.b) y) four here.inner.before_left))
    (subst (λ t. pos 0 <ℤ t) (sym (cross_scaled (pos 2) (pos 2) f.b f.a y))
    (positive_product (pos 2 *ℤ pos 2) (cross_of (vector f.b f.a) y) four here.inner.after_left)) in
    let own = some_winding (map turned_edge edges) f.b y in
    let is = same_value other f2.b (scaled (pos 2) (pos 2) y) own.0 (pos 1 -ℤ k)
    (has_scaled (pos 2) (pos 2) f.b y own.0 (map turned_edge edges) two_up two_up own.1) value.has in
    side_at (map turned_edge edges) s.after f.b f.a y (pos 1 -ℤ k)
    (closed_turned edges sound.closed) here here.inner.before_left here.inner.after_left
    (subst (λ t. HasWinding (map turned_edge edges) f.b y t) is own.1)

-- sound edges with k on their left, turned round, are sound with 1 - k on their left
pub turned_sound : (edges : List Segment) (k : ℤ) → IsSound edges k → IsSound (map turned_edge edges) (pos 1 -ℤ k)
turned_sound edges k sound =
    record {
      closed = closed_turned edges sound.closed;
      some = some_turned edges sound.some;
      distinct = distinct_turned edges sound.distinct;
      sides = λ g there. let o = source turned_edge edges g there in
          subst (λ t. SidesOf (map turned_edge edges) t (pos 1 -ℤ k)) o.is (sides_turned o.it o.is_in);
    }
  where
    sides_turned : (f : Segment) → IsIn edges f → SidesOf (map turned_edge edges) (turned_edge f) (pos 1 -ℤ k)
    sides_turned f there =
        let s = sound.sides f there in
        record {
          before = s.after;
          after = s.before;
          before_there = mapped turned_edge edges (wall f.b s.after) s.after_there;
          after_there = mapped turned_edge edges (wall s.before f.a) s.before_there;
          first = corner_turned edges f.a f.b s.after s.second;
          second = corner_turned edges s.before f.a f.b s.first;
          alone = alone_turned edges f s.alone;
          side = right_at edges k f sound there s;
        }
