-- Two walls that share a point touch.
use Rattle.std.specs.Prelude.{false, true, Bool, ◌||◌}
use Rattle.std.specs.Ordering.{int_eq}
use Rattle.std.proofs.Common.{arith, pos, ℤ, ◌≡◌, ◌<ℤ◌, ◌-ℤ◌, ◌≤ℤ◌, inl, inr, refl, sym}
use Rattle.std.proofs.lemmas.Int.{by_lt_z, ints}
use Rattle.std.proofs.lemmas.Bool.{and_cases, false_from_ne_true}
use Rattle.int_laws.proofs.Signs.{not_negative_product, positive_factor, positive_product}
use Rattle.int_laws.proofs.Ring.{product_swapped}
use Rattle.plane_spec.specs.declared.Point.{Point}
use Rattle.plane_spec.specs.declared.Segment.{Segment}
use Rattle.plane_spec.specs.Vectors.{dot_of, same_point, vector, orient_of}
use Rattle.plane_spec.specs.Segments.{is_on_segment, is_between, cross_properly, do_touch}
use Rattle.exact_geom.proofs.Orientation.{orient_of_first_exchanged}
use Rattle.plane_laws.proofs.Points.Between.{IsBetween, high, low, mixed, parts_of, in_order, unequal, between}
use Rattle.plane_laws.proofs.Points.Heights.{height}
use Rattle.plane_laws.proofs.Points.Directions.{some_square}
use Rattle.plane_laws.proofs.Segments.Touching.{on_by, on_turned, changes, never_down, never_up}
use Rattle.plane_laws.proofs.Tests.{clash}

-- what is strictly on one side with both ends of a segment has all of it there
pub strictly_between : (v z x : Point) (j : Segment) → same_point v z ≡ false → IsBetween x v z → pos 0 <ℤ height j v
    → pos 0 <ℤ height j z → pos 0 <ℤ height j x
strictly_between v z x j apart on hv hz =
    let m = mixed v z x j on.line in
    let k = some_square v z apart in
    let p = parts_of v z x in
    let from = low x v z on in
    let to = high x v z on in
    let turn = product_swapped (dot_of (vector v z) (vector v z)) (height j x) in
    by_lt_z (pos 0) (dot_of (vector v z) (vector x z))
    (λ more.
    let first = positive_product (dot_of (vector v z) (vector x z)) (height j v) more hv in
    let second = not_negative_product (dot_of (vector v z) (vector v x)) (height j z) from (omega (arith, ints, hz)) in
    positive_factor (height j x) (dot_of (vector v z) (vector v z)) (omega (arith, ints, m, first, second, turn)) k)
    (λ no_more.
    let first = not_negative_product (dot_of (vector v z) (vector x z)) (height j v) to (omega (arith, ints, hv)) in
    let second = positive_product (dot_of (vector v z) (vector v x)) (height j z)
    (omega (arith, ints, p, k, no_more)) hz in
    positive_factor (height j x) (dot_of (vector v z) (vector v z)) (omega (arith, ints, m, first, second, turn)) k)

-- in line with a and b, and between them in one coordinate
on_line_up : (x a b : Point) → orient_of a b x ≡ pos 0 → a.x <ℤ b.x → a.x ≤ℤ x.x → x.x ≤ℤ b.x
    → is_on_segment x a b ≡ true
on_line_up x a b line wide from to =
    let first = product_swapped (b.x -ℤ a.x) (x.x -ℤ a.x) in
    let second = product_swapped (b.y -ℤ a.y) (x.x -ℤ a.x) in
    on_by x a b (b.x -ℤ a.x) (x.x -ℤ a.x) line (omega (arith, ints, wide)) (omega (arith, ints, from))
    (omega (arith, ints, to)) first (omega (arith, ints, line, second))

on_line_tall : (x a b : Point) → orient_of a b x ≡ pos 0 → a.y <ℤ b.y → a.y ≤ℤ x.y → x.y ≤ℤ b.y
    → is_on_segment x a b ≡ true
on_line_tall x a b line tall from to =
    let first = product_swapped (b.y -ℤ a.y) (x.y -ℤ a.y) in
    let second = product_swapped (b.x -ℤ a.x) (x.y -ℤ a.y) in
    on_by x a b (b.y -ℤ a.y) (x.y -ℤ a.y) line (omega (arith, ints, tall)) (omega (arith, ints, from))
    (omega (arith, ints, to)) (omega (arith, ints, line, second)) first

turned_line : (x a b : Point) → orient_of a b x ≡ pos 0 → orient_of b a x ≡ pos 0
turned_line x a b h = let o = orient_of_first_exchanged a b x in omega (arith, ints, o, h)

pub on_line_x : (x a b : Point) → orient_of a b x ≡ pos 0 → int_eq a.x b.x ≡ false → is_between x.x a.x b.x ≡ true
    → is_on_segment x a b ≡ true
on_line_x x a b line wide h = elim (unequal a.x b.x wide) [
  | inl right ↦ elim (in_order x.x a.x b.x h) [
    | inl k ↦ on_line_up x a b line right k.0 k.1
    | inr k ↦ absurd (omega (arith, ints, right, k.0, k.1))
  ]
  | inr left ↦ elim (in_order x.x a.x b.x h) [
    | inl k ↦ absurd (omega (arith, ints, left, k.0, k.1))
    | inr k ↦ on_turned x a b (on_line_up x b a (turned_line x a b line) left k.0 k.1)
  ]
]

pub on_line_y : (x a b : Point) → orient_of a b x ≡ pos 0 → int_eq a.y b.y ≡ false → is_between x.y a.y b.y ≡ true
    → is_on_segment x a b ≡ true
on_line_y x a b line tall h = elim (unequal a.y b.y tall) [
  | inl up ↦ elim (in_order x.y a.y b.y h) [
    | inl k ↦ on_line_tall x a b line up k.0 k.1
    | inr k ↦ absurd (omega (arith, ints, up, k.0, k.1))
  ]
  | inr down ↦ elim (in_order x.y a.y b.y h) [
    | inl k ↦ absurd (omega (arith, ints, down, k.0, k.1))
    | inr k ↦ on_turned x a b (on_line_tall x b a (turned_line x a b line) down k.0 k.1)
  ]
]

-- one coordinate: x is between a and b and between v and z, which aren't between a and b: so a is between v and z
within : (x a b v z : ℤ) → is_between x a b ≡ true → is_between x v z ≡ true → is_between v a b ≡ false
    → is_between z a b ≡ false → is_between a v z ≡ true
within x a b v z h k l m = grind (arith, ints)

apart_too : (x a b v z : ℤ) → is_between x a b ≡ true → is_between x v z ≡ true → is_between v a b ≡ false
    → is_between z a b ≡ false → int_eq v z ≡ false
apart_too x a b v z h k l m = grind (arith, ints)

touches_by_a : (a b v z : Point) → is_on_segment a v z ≡ true → do_touch a b v z ≡ true
unfolding do_touch
touches_by_a a b v z h = by_cases (cross_properly a b v z) (is_on_segment a v z) _ _ h
  where
    by_cases : (c s t u : Bool) → s ≡ true → (c || ((s || t) || u)) ≡ true
    by_cases true s t u h = refl
    by_cases false true t u h = refl
    by_cases false false t u h = let absurdity : true ≡ false = sym h in cc

-- segments in line that share a point touch, where the ends of the second aren't on the first
in_line_touch : (a b v z x : Point) → same_point a b ≡ false → orient_of v z a ≡ pos 0 → orient_of a b v ≡ pos 0
    → orient_of a b z ≡ pos 0
    → IsBetween x a b → IsBetween x v z → is_on_segment v a b ≡ false → is_on_segment z a b ≡ false
    → is_on_segment a v z ≡ true
in_line_touch a b v z x real at_a at_v at_z first second v_off z_off =
    elim (and_cases (int_eq a.x b.x) (int_eq a.y b.y) real) [
      | inl wide ↦
          let v_out = not_between v.x a.x b.x (λ h. clash v_off (on_line_x v a b at_v wide h)) in
          let z_out = not_between z.x a.x b.x (λ h. clash z_off (on_line_x z a b at_z wide h)) in
          on_line_x a v z at_a (apart_too x.x a.x b.x v.x z.x first.x second.x v_out z_out)
          (within x.x a.x b.x v.x z.x first.x second.x v_out z_out)
      | inr tall ↦
          let v_out = not_between v.y a.y b.y (λ h. clash v_off (on_line_y v a b at_v tall h)) in
          let z_out = not_between z.y a.y b.y (λ h. clash z_off (on_line_y z a b at_z tall h)) in
          on_line_y a v z at_a (apart_too x.y a.y b.y v.y z.y first.y second.y v_out z_out)
          (within x.y a.y b.y v.y z.y first.y second.y v_out z_out)
    ]
  where
    not_between : (m p q : ℤ) → (is_between m p q ≡ true → ⊥) → is_between m p q ≡ false
    not_between m p q never = false_from_ne_true (is_between m p q) never

-- a point on both walls, where the ends of the second aren't on the first, and the walls don't touch: there is none
pub none_shared : (a b v z x : Point) → same_point a b ≡ false → same_point v z ≡ false → do_touch a b v z ≡ false
    → is_on_segment x a b ≡ true → is_on_segment x v z ≡ true
    → is_on_segment v a b ≡ false → is_on_segment z a b ≡ false → ⊥
none_shared a b v z x real real_too free on_first on_second v_off z_off =
    let first = between x a b on_first in
    let second = between x v z on_second in
    let c = changes a b v z in
    let line = first.line in
    by_lt_z (pos 0) (orient_of a b v)
    (λ v_up. by_lt_z (pos 0) (orient_of a b z)
    (λ z_up. let m = strictly_between v z x (record { a = a; b = b }) real_too second v_up z_up in
    absurd (omega (arith, ints, m, line)))
    (λ z_down. by_line first second
    (λ at_a at_b. never_down a b v z free (omega (arith, ints, v_up)) z_down at_a at_b
    (omega (arith, ints, v_up, z_down)))
    (λ at_a at_b. absurd (omega (arith, ints, c, at_a, at_b, v_up, z_down)))))
    (λ v_down. by_lt_z (pos 0) (orient_of a b z)
    (λ z_up. by_line first second
    (λ at_a at_b. absurd (omega (arith, ints, c, at_a, at_b, v_down, z_up)))
    (λ at_a at_b. never_up a b v z free v_down (omega (arith, ints, z_up)) at_a at_b
    (omega (arith, ints, v_down, z_up))))
    (λ z_down. by_lt_z (orient_of a b v) (orient_of a b z)
    (λ v_less. by_line first second
    (λ at_a at_b. absurd (omega (arith, ints, c, at_a, at_b, v_less)))
    (λ at_a at_b. v_under first second v_down z_down v_less at_a at_b))
    (λ z_less_or_same. by_lt_z (orient_of a b z) (orient_of a b v)
    (λ z_less. by_line first second
    (λ at_a at_b. z_under first second v_down z_down z_less at_a at_b)
    (λ at_a at_b. absurd (omega (arith, ints, c, at_a, at_b, z_less))))
    (λ v_less_or_same. same_height first second v_down (omega (arith, ints, z_less_or_same, v_less_or_same))))))
  where
    by_line : IsBetween x a b → IsBetween x v z → (orient_of v z a ≤ℤ pos 0 → pos 0 ≤ℤ orient_of v z b → ⊥)
        → (pos 0 ≤ℤ orient_of v z a → orient_of v z b ≤ℤ pos 0 → ⊥) → ⊥
    by_line first second not_down not_up =
        let line = second.line in
        by_lt_z (pos 0) (orient_of v z a)
        (λ a_up. by_lt_z (pos 0) (orient_of v z b)
        (λ b_up. let m = strictly_between a b x (record { a = v; b = z }) real first a_up b_up in
        absurd (omega (arith, ints, m, line)))
        (λ b_down. not_up (omega (arith, ints, a_up)) b_down))
        (λ a_down. by_lt_z (pos 0) (orient_of v z b)
        (λ b_up. not_down a_down (omega (arith, ints, b_up)))
        (λ b_down. by_lt_z (orient_of v z a) (pos 0)
        (λ a_under. by_lt_z (orient_of v z b) (pos 0)
        (λ b_under.
        let o_a = orient_of_first_exchanged v z a in
        let o_b = orient_of_first_exchanged v z b in
        let o_x = orient_of_first_exchanged v z x in
        let m = strictly_between a b x (record { a = z; b = v }) real first (omega (arith, ints, o_a, a_under))
        (omega (arith, ints, o_b, b_under)) in absurd (omega (arith, ints, m, line, o_x)))
        (λ b_on. not_down a_down b_on))
        (λ a_on. not_up a_on b_down)))

    both_under : IsBetween x a b → IsBetween x v z → orient_of a b v <ℤ pos 0 → orient_of a b z <ℤ pos 0 → ⊥
    both_under first second hv hz =
        let line = first.line in
        let o_v = orient_of_first_exchanged a b v in
        let o_z = orient_of_first_exchanged a b z in
        let o_x = orient_of_first_exchanged a b x in
        let m = strictly_between v z x (record { a = b; b = a }) real_too second (omega (arith, ints, o_v, hv))
        (omega (arith, ints, o_z, hz)) in absurd (omega (arith, ints, m, line, o_x))

    v_under : IsBetween x a b → IsBetween x v z → orient_of a b v ≤ℤ pos 0 → orient_of a b z ≤ℤ pos 0
        → orient_of a b v <ℤ orient_of a b z → pos 0 ≤ℤ orient_of v z a → orient_of v z b ≤ℤ pos 0 → ⊥
    v_under first second hv hz less at_a at_b =
        by_lt_z (orient_of a b z) (pos 0)
        (λ under. both_under first second (omega (arith, ints, less, under)) under)
        (λ on. never_up a b v z free hv on at_a at_b (omega (arith, ints, less)))

    z_under : IsBetween x a b → IsBetween x v z → orient_of a b v ≤ℤ pos 0 → orient_of a b z ≤ℤ pos 0
        → orient_of a b z <ℤ orient_of a b v → orient_of v z a ≤ℤ pos 0 → pos 0 ≤ℤ orient_of v z b → ⊥
    z_under first second hv hz less at_a at_b =
        by_lt_z (orient_of a b v) (pos 0)
        (λ under. both_under first second under (omega (arith, ints, less, under)))
        (λ on. never_down a b v z free on hz at_a at_b (omega (arith, ints, less)))

    same_height : IsBetween x a b → IsBetween x v z → orient_of a b v ≤ℤ pos 0 → orient_of a b v ≡ orient_of a b z → ⊥
    same_height first second hv same =
        let c = changes a b v z in
        let line = first.line in
        let line_too = second.line in
        by_lt_z (orient_of a b v) (pos 0)
        (λ under. both_under first second under (omega (arith, ints, same, under)))
        (λ on.
        let at_a = flat first second (omega (arith, ints, c, same)) in
        clash free (touches_by_a a b v z (in_line_touch a b v z x real at_a (omega (arith, ints, hv, on))
        (omega (arith, ints, hv, on, same)) first second v_off z_off)))
      where
        flat : IsBetween x a b → IsBetween x v z → orient_of v z a ≡ orient_of v z b → orient_of v z a ≡ pos 0
        flat first second e =
            let line = second.line in
            by_lt_z (pos 0) (orient_of v z a)
            (λ up. let m = strictly_between a b x (record { a = v; b = z }) real first up
            (omega (arith, ints, e, up)) in absurd (omega (arith, ints, m, line)))
            (λ not_up. by_lt_z (orient_of v z a) (pos 0)
            (λ under.
            let o_a = orient_of_first_exchanged v z a in
            let o_b = orient_of_first_exchanged v z b in
            let o_x = orient_of_first_exchanged v z x in
            let m = strictly_between a b x (record { a = z; b = v }) real first (omega (arith, ints, o_a, under))
            (omega (arith, ints, o_b, under, e)) in absurd (omega (arith, ints, m, line, o_x)))
            (λ on. omega (arith, ints, not_up, on)))
