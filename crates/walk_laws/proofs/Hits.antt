-- A step from a border point into what lies on the left of the walls: a wall there has it on its left, or a corner
-- there has it in its cone.
use Rattle.std.specs.Prelude.{List, false, true, Bool}
use Rattle.std.specs.Ordering.{int_eq}
use Rattle.std.proofs.Common.{pos, ℤ, ◌≡◌, ◌<ℤ◌, ◌⊎◌, refl, sym, arith, neg_ℤ, inl, inr, subst, ◌-ℤ◌, ◌≤ℤ◌, ◌∙◌, ap}
use Rattle.std.proofs.Common.{◌*ℤ◌}
use Rattle.std.proofs.lemmas.Int.{ints, by_lt_z}
use Rattle.int_laws.proofs.Ring.{minus_times, product_swapped, zero_times}
use Rattle.int_laws.proofs.Signs.{not_negative_factor, not_negative_product}
use Rattle.plane_spec.specs.declared.Point.{Point}
use Rattle.plane_spec.specs.declared.Segment.{Segment}
use Rattle.plane_spec.specs.Cones.{corner, is_in_cone}
use Rattle.plane_spec.specs.Vectors.{cross_of, same_point, vector, dot_of}
use Rattle.plane_spec.specs.Segments.{is_on_segment}
use Rattle.plane_laws.proofs.Points.Between.{IsAlong, IsBetween, between, high, on_again, same_from_test}
use Rattle.plane_laws.proofs.Lists.Members.{IsIn}
use Rattle.plane_laws.proofs.Tests.{clash}
use Rattle.plane_laws.proofs.Points.Directions.{cross_back, at_end, back_cross, some_square, parallel}
use Rattle.plane_laws.proofs.Segments.Touching.{on_turned}
use Rattle.plane_laws.proofs.Points.Heights.{height_from}
use Rattle.winding_laws.proofs.Strips.{HasWinding, same_value}
use Rattle.side_laws.proofs.Sound.{IsSound, SidesOf}
use Rattle.side_laws.proofs.Sides.{wall}
use Rattle.cone_laws.proofs.Beside.{out_of_cone, right_of_wall}
use Rattle.cone_laws.proofs.Cones.{lagrange}
use Rattle.walk_laws.proofs.Along.{ends_on_wall, on_part}

-- what stops the step at x: a wall in whose middle x lies, with the step on its left, or a corner at x with the step
-- in its cone
pub data Hit (edges : List Segment) (k : ℤ) (sound : IsSound edges k) (x d : Point) : Type 0 where
  at_wall : (f : Segment) → IsIn edges f → IsAlong f.a f.b x → same_point x f.b ≡ false
      → pos 0 <ℤ cross_of (vector f.a f.b) d → Hit edges k sound x d
  at_corner : (f : Segment) → (there : IsIn edges f) → f.a ≡ x
      → is_in_cone (corner (sound.sides f there).before f.a f.b) d ≡ true → Hit edges k sound x d

-- the step from x to y, which is on no edge; edges end on it at its ends alone
pub record IsStepOff (edges : List Segment) (x y : Point) : Type 0 where
  pub off : (f : Segment) → IsIn edges f → is_on_segment y f.a f.b ≡ false
  pub a_at : (f : Segment) → IsIn edges f → is_on_segment f.a x y ≡ true → (f.a ≡ x) ⊎ (f.a ≡ y)
  pub b_at : (f : Segment) → IsIn edges f → is_on_segment f.b x y ≡ true → (f.b ≡ x) ⊎ (f.b ≡ y)

flip : (a b : Point) → same_point a b ≡ false → same_point b a ≡ false
flip a b e = rw (swap a.x b.x, swap a.y b.y) e
  where
    swap : (p q : ℤ) → int_eq q p ≡ int_eq p q
    swap p q = grind (arith, ints)

dot_back : (a b d : Point) → dot_of (vector b a) d ≡ neg_ℤ (dot_of (vector a b) d)
dot_back a b d =
    let e = minus_times a.x b.x d.x in let f = minus_times a.y b.y d.y in
    let g = minus_times b.x a.x d.x in let h = minus_times b.y a.y d.y in
    omega (arith, ints, e, f, g, h)

-- a corner of which the step leads neither along a wall nor into the cone has the other winding
corner_hit : (edges : List Segment) (k w : ℤ) (sound : IsSound edges k) (x y : Point) → IsStepOff edges x y
    → HasWinding edges x (vector x y) w → (w ≡ k -ℤ pos 1 → ⊥) → (f : Segment) → IsIn edges f → f.a ≡ x
    → Hit edges k sound x (vector x y)
corner_hit edges k w sound x y step h not_right f there at =
    by_test (is_in_cone (corner s.before f.a f.b) (vector x y)) refl
  where
    s : SidesOf edges f k
    s = sound.sides f there

    real_before : same_point s.before f.a ≡ false
    real_before = sound.some (wall s.before f.a) s.before_there

    moved_before : (s.before ≡ x) ⊎ (s.before ≡ y) → (s.before ≡ f.a) ⊎ (s.before ≡ y)
    moved_before (inl e) = inl (e ∙ sym at)
    moved_before (inr e) = inr e

    not_back : cross_of (vector s.before f.a) (vector x y) ≡ pos 0 → pos 0 <ℤ dot_of (vector s.before f.a) (vector x y)
    not_back line =
        by_lt_z (pos 0) (dot_of (vector s.before f.a) (vector x y)) (λ p. p)
        (λ q.
        let c = cross_back (vector x y) s.before f.a in
        let e = dot_back s.before f.a (vector x y) in
        absurd (clash (step.off (wall s.before f.a) s.before_there) (on_turned y s.before f.a
        (ends_on_wall f.a s.before y (flip s.before f.a real_before)
        (subst (λ t. cross_of (vector f.a s.before) (vector t y) ≡ pos 0) (sym at) (omega (arith, ints, c, line)))
        (subst (λ t. pos 0 ≤ℤ dot_of (vector f.a s.before) (vector t y)) (sym at) (omega (arith, ints, e, q)))
        (λ on. moved_before (step.a_at (wall s.before f.a) s.before_there
        (subst (λ t. is_on_segment s.before t y ≡ true) at on)))))))

    not_on : cross_of (vector f.a f.b) (vector x y) ≡ pos 0 → dot_of (vector f.a f.b) (vector x y) <ℤ pos 0
    not_on line =
        by_lt_z (dot_of (vector f.a f.b) (vector x y)) (pos 0) (λ p. p)
        (λ q. absurd (clash (step.off f there) (ends_on_wall f.a f.b y (sound.some f there)
        (subst (λ t. cross_of (vector f.a f.b) (vector t y) ≡ pos 0) (sym at) line)
        (subst (λ t. pos 0 ≤ℤ dot_of (vector f.a f.b) (vector t y)) (sym at) q)
        (λ on. moved (step.b_at f there (subst (λ t. is_on_segment f.b t y ≡ true) at on))))))
      where
        moved : (f.b ≡ x) ⊎ (f.b ≡ y) → (f.b ≡ f.a) ⊎ (f.b ≡ y)
        moved (inl e) = inl (e ∙ sym at)
        moved (inr e) = inr e

    by_test : (t : Bool) → is_in_cone (corner s.before f.a f.b) (vector x y) ≡ t → Hit edges k sound x (vector x y)
    by_test true i = at_corner f there at i
    by_test false i =
        let other = out_of_cone edges k sound f there (vector x y)
        (record { not_back = not_back; not_on = not_on }) i in
        absurd (not_right (same_value edges x (vector x y) w (k -ℤ pos 1) h
        (subst (λ t. HasWinding edges t (vector x y) (k -ℤ pos 1)) at other)))

-- in the middle of a wall
middle_hit : (edges : List Segment) (k w : ℤ) (sound : IsSound edges k) (x y : Point) → IsStepOff edges x y
    → HasWinding edges x (vector x y) w → (w ≡ k -ℤ pos 1 → ⊥) → (f : Segment) → IsIn edges f → IsAlong f.a f.b x
    → same_point x f.b ≡ false → Hit edges k sound x (vector x y)
middle_hit edges k w sound x y step h other f there here short =
    by_lt_z (pos 0) (cross_of (vector f.a f.b) (vector x y))
    (λ left. at_wall f there here short left)
    (λ not_left. by_lt_z (cross_of (vector f.a f.b) (vector x y)) (pos 0)
    (λ right. absurd (other (same_value edges x (vector x y) w (k -ℤ pos 1) h
    (right_of_wall edges k sound f there x (vector x y) here short right))))
    (λ not_right. absurd (clash (step.off f there) (on_wall (omega (arith, ints, not_left, not_right))))))
  where
    real : pos 0 <ℤ dot_of (vector f.a f.b) (vector f.a f.b)
    real = some_square f.a f.b (sound.some f there)

    onward : (u j v : Point) → pos 0 <ℤ dot_of u u → cross_of u j ≡ pos 0 → pos 0 ≤ℤ dot_of u j → pos 0 ≤ℤ dot_of u v
        → pos 0 ≤ℤ dot_of j v
    onward u j v some_u uj a b =
        let l = lagrange u j v in
        let z = ap (λ t. t *ℤ cross_of u v) uj ∙ zero_times (cross_of u v) in
        let p = not_negative_product (dot_of u j) (dot_of u v) a b in
        let t = product_swapped (dot_of u u) (dot_of j v) in
        not_negative_factor (dot_of j v) (dot_of u u) (omega (arith, ints, l, z, p, t)) some_u

    -- the wall from x to its end z, in the direction u of the wall
    to_end : (a z : Point) → same_point a z ≡ false → IsBetween x a z → same_point x z ≡ false
        → cross_of (vector a z) (vector x y) ≡ pos 0 → pos 0 ≤ℤ dot_of (vector a z) (vector x y)
        → (is_on_segment z x y ≡ true → (z ≡ x) ⊎ (z ≡ y)) → is_on_segment x a z ≡ true → is_on_segment y a z ≡ true
    to_end a z apart on short_z line forward at part =
        let k = some_square a z apart in
        let from = height_from a z z x in
        let e = at_end a z in
        let l = on.line in
        let b = back_cross (vector a z) z x in
        let uj : cross_of (vector a z) (vector x z) ≡ pos 0 = omega (arith, ints, from, e, l, b) in
        on_part y x a z (ends_on_wall x z y short_z (parallel (vector a z) (vector x z) (vector x y) k uj line)
        (onward (vector a z) (vector x z) (vector x y) k uj (high x a z on) forward) at) part line

    whole : is_on_segment x f.a f.b ≡ true
    whole = on_again x f.a f.b here.between

    on_wall : cross_of (vector f.a f.b) (vector x y) ≡ pos 0 → is_on_segment y f.a f.b ≡ true
    on_wall line =
        by_lt_z (dot_of (vector f.a f.b) (vector x y)) (pos 0)
        (λ back.
        let c = cross_back (vector x y) f.a f.b in
        let e = dot_back f.a f.b (vector x y) in
        on_turned y f.a f.b (to_end f.b f.a (flip f.a f.b (sound.some f there))
        (between x f.b f.a (on_turned x f.b f.a whole)) here.apart (omega (arith, ints, c, line))
        (omega (arith, ints, e, back)) (step.a_at f there) (on_turned x f.b f.a whole)))
        (λ forward. to_end f.a f.b (sound.some f there) here.between short line forward (step.b_at f there) whole)

-- **the step from a point x of the border, where its winding is not that of the right side, is stopped by a wall or a
-- corner at x**
pub first_hit : (edges : List Segment) (k w : ℤ) (sound : IsSound edges k) (x y : Point) → IsStepOff edges x y
    → HasWinding edges x (vector x y) w → (w ≡ k -ℤ pos 1 → ⊥) → (f : Segment) → IsIn edges f
    → is_on_segment x f.a f.b ≡ true → Hit edges k sound x (vector x y)
first_hit edges k w sound x y step h other f there on = by_start (same_point x f.a) (same_point x f.b) refl refl
  where
    by_start : (s t : Bool) → same_point x f.a ≡ s → same_point x f.b ≡ t → Hit edges k sound x (vector x y)
    by_start true t e g = corner_hit edges k w sound x y step h other f there (same_from_test x f.a e)
    by_start false true e g =
        let s = sound.sides f there in corner_hit edges k w sound x y step h other (wall f.b s.after) s.after_there
        (same_from_test x f.b g)
    by_start false false e g =
        middle_hit edges k w sound x y step h other f there (record { between = between x f.a f.b on; apart = e }) g
