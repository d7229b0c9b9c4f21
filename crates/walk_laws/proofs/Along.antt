-- A step that leads along a wall from a point of it ends on the wall.
use Rattle.std.specs.Prelude.{false, true}
use Rattle.std.proofs.Common.{ap, arith, inl, inr, pos, sym, ℤ, ◌≡◌, ◌⊎◌, ◌-ℤ◌, ◌*ℤ◌, ◌≤ℤ◌, ◌∙◌, subst, ◌<ℤ◌}
use Rattle.std.proofs.lemmas.Int.{by_lt_z, ints}
use Rattle.int_laws.proofs.Ring.{dot_times, dot_times_across, product_swapped, times_zero}
use Rattle.plane_spec.specs.declared.Point.{Point}
use Rattle.plane_spec.specs.Vectors.{cross_of, dot_of, same_point, vector}
use Rattle.plane_spec.specs.Segments.{is_on_segment, is_between}
use Rattle.plane_laws.proofs.Points.Directions.{exchanged, some_square}
use Rattle.plane_laws.proofs.Segments.Touching.{on_by}
use Rattle.plane_laws.proofs.Points.Between.{on_end, between, on_again}
use Rattle.plane_laws.proofs.Points.Heights.{height_from}

-- from v, in line with the wall to z and not back: y is on the wall, or z is on the way to y
pub along_wall : (v z y : Point) → same_point v z ≡ false → cross_of (vector v z) (vector v y) ≡ pos 0
    → pos 0 ≤ℤ dot_of (vector v z) (vector v y) → (is_on_segment y v z ≡ true) ⊎ (is_on_segment z v y ≡ true)
along_wall v z y real line onward =
    let k = some_square v z real in
    let m = dot_of (vector v z) (vector v y) in
    let a = dot_times_across (y.x -ℤ v.x) (y.y -ℤ v.y) (z.x -ℤ v.x) (z.y -ℤ v.y) in
    let b = dot_times (y.x -ℤ v.x) (y.y -ℤ v.y) (z.x -ℤ v.x) (z.y -ℤ v.y) in
    let s = exchanged (vector v z) (vector v y) in
    let back : cross_of (vector v y) (vector v z) ≡ pos 0 = omega (arith, ints, s, line) in
    let n_y = ap (λ t. (z.y -ℤ v.y) *ℤ t) back ∙ times_zero (z.y -ℤ v.y) in
    let n_x = ap (λ t. (z.x -ℤ v.x) *ℤ t) back ∙ times_zero (z.x -ℤ v.x) in
    let dots : dot_of (vector v y) (vector v z) ≡ m = omega (arith, ints) in
    let first = ap (λ t. t *ℤ (z.x -ℤ v.x)) dots in
    let second = ap (λ t. t *ℤ (z.y -ℤ v.y)) dots in
    let turn_x = product_swapped (y.x -ℤ v.x) (dot_of (vector v z) (vector v z)) in
    let turn_y = product_swapped (y.y -ℤ v.y) (dot_of (vector v z) (vector v z)) in
    let x_is : dot_of (vector v z) (vector v z) *ℤ (y.x -ℤ v.x) ≡ m *ℤ
    (z.x -ℤ v.x) = omega (arith, ints, a, n_y, first, turn_x) in
    let y_is : dot_of (vector v z) (vector v z) *ℤ (y.y -ℤ v.y) ≡ m *ℤ
    (z.y -ℤ v.y) = omega (arith, ints, b, n_x, second, turn_y) in
    by_lt_z (dot_of (vector v z) (vector v z)) m
    (λ past. inr (on_by z v y m (dot_of (vector v z) (vector v z)) back (omega (arith, ints, past, k))
    (omega (arith, ints, k)) (omega (arith, ints, past)) (sym x_is) (sym y_is)))
    (λ within. inl (on_by y v z (dot_of (vector v z) (vector v z)) m line k onward within x_is y_is))

-- a step from the start of a wall along it ends on the wall, where the wall's end isn't passed on the way
pub ends_on_wall : (v z y : Point) → same_point v z ≡ false → cross_of (vector v z) (vector v y) ≡ pos 0
    → pos 0 ≤ℤ dot_of (vector v z) (vector v y) → (is_on_segment z v y ≡ true → (z ≡ v) ⊎ (z ≡ y))
    → is_on_segment y v z ≡ true
ends_on_wall v z y real line onward at = elim (along_wall v z y real line onward) [
  | inl on ↦ on
  | inr there ↦ elim (at there) [
    | inl e ↦ absurd (never e)
    | inr e ↦ subst (λ t. is_on_segment t v z ≡ true) e (on_end v z)
  ]
]
  where
    never : z ≡ v → ⊥
    never e = let k = subst (λ t. pos 0 <ℤ dot_of (vector v t) (vector v t)) e (some_square v z real) in nothing v k
      where
        nothing : (v : Point) → pos 0 <ℤ dot_of (vector v v) (vector v v) → ⊥
        nothing v k =
            let x : v.x -ℤ v.x ≡ pos 0 = omega (arith, ints) in
            let y : v.y -ℤ v.y ≡ pos 0 = omega (arith, ints) in
            let e = ap (λ t. (v.x -ℤ v.x) *ℤ t) x ∙ times_zero (v.x -ℤ v.x) in
            let f = ap (λ t. (v.y -ℤ v.y) *ℤ t) y ∙ times_zero (v.y -ℤ v.y) in
            absurd (omega (arith, ints, k, e, f))

-- what is on a part of a wall is on the wall
pub on_part : (y x a z : Point) → is_on_segment y x z ≡ true → is_on_segment x a z ≡ true
    → cross_of (vector a z) (vector x y) ≡ pos 0 → is_on_segment y a z ≡ true
on_part y x a z on part line =
    let first = between y x z on in
    let second = between x a z part in
    let l = second.line in
    let from = height_from a z x y in
    on_again y a z (record {
      line = omega (arith, ints, from, l, line);
      x = chained y.x x.x a.x z.x first.x second.x;
      y = chained y.y x.y a.y z.y first.y second.y;
    })
  where
    chained : (y x a z : ℤ) → is_between y x z ≡ true → is_between x a z ≡ true → is_between y a z ≡ true
    chained y x a z h k = grind (arith, ints)
