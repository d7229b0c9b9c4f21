-- Products of the directions between points.
use Rattle.std.specs.Prelude.{false, true}
use Rattle.std.specs.Ordering.{int_eq}
use Rattle.std.proofs.Common.{arith, pos, ℤ, ◌≡◌, ◌-ℤ◌, ap, ◌*ℤ◌, ◌∙◌, neg_ℤ, refl, sym, ◌<ℤ◌}
use Rattle.std.proofs.lemmas.Int.{ints, by_lt_z}
use Rattle.int_laws.proofs.Ring.{times_zero, zero_times, minus_times, times_minus, chained, neg_times, times_neg}
use Rattle.int_laws.proofs.Ring.{product_swapped}
use Rattle.int_laws.proofs.Tests.{equal_tested}
use Rattle.int_laws.proofs.Signs.{positive_product, square as square_of, zero_factor}
use Rattle.plane_spec.specs.declared.Point.{Point}
use Rattle.plane_spec.specs.Vectors.{cross_of, vector, orient_of, dot_of, same_point}
use Rattle.plane_laws.proofs.Points.Heights.{along}

-- ---- small identities

self : (z : ℤ) → z -ℤ z ≡ pos 0
self z = omega (arith, ints)

pub cross_none : (d a : Point) → cross_of d (vector a a) ≡ pos 0
cross_none d a =
    let e = ap (λ t. d.x *ℤ t) (self a.y) ∙ times_zero d.x in
    let f = ap (λ t. d.y *ℤ t) (self a.x) ∙ times_zero d.y in
    omega (arith, ints, e, f)

pub none_cross : (d a : Point) → cross_of (vector a a) d ≡ pos 0
none_cross d a =
    let e = ap (λ t. t *ℤ d.y) (self a.x) ∙ zero_times d.y in
    let f = ap (λ t. t *ℤ d.x) (self a.y) ∙ zero_times d.x in
    omega (arith, ints, e, f)

pub at_start : (a b : Point) → orient_of a b a ≡ pos 0
at_start a b = cross_none (vector a b) a

pub at_end : (a b : Point) → orient_of a b b ≡ pos 0
at_end a b = omega (arith, ints)

pub at_both : (a c : Point) → orient_of a a c ≡ pos 0
at_both a c = none_cross (vector a c) a

pub exchanged : (d e : Point) → cross_of e d ≡ neg_ℤ (cross_of d e)
exchanged d e = omega (arith, ints)

-- the cross product with a difference of directions
pub minus_cross : (d e c : Point) → cross_of (vector d e) c ≡ cross_of e c -ℤ cross_of d c
minus_cross d e c =
    let f = minus_times e.x d.x c.y in
    let g = minus_times e.y d.y c.x in
    omega (arith, ints, f, g)

pub back_cross : (c a b : Point) → cross_of c (vector b a) ≡ neg_ℤ (cross_of c (vector a b))
back_cross c a b =
    let e = times_minus c.x a.y b.y in let f = times_minus c.y a.x b.x in
    let g = times_minus c.x b.y a.y in let h = times_minus c.y b.x a.x in
    omega (arith, ints, e, f, g, h)

pub cross_back : (c a b : Point) → cross_of (vector b a) c ≡ neg_ℤ (cross_of (vector a b) c)
cross_back c a b =
    let e = minus_times a.x b.x c.y in let f = minus_times a.y b.y c.x in
    let g = minus_times b.x a.x c.y in let h = minus_times b.y a.y c.x in
    omega (arith, ints, e, f, g, h)

-- the turn at a corner
pub turn_is : (u v z : Point) → cross_of (vector u v) (vector v z) ≡ orient_of u v z
turn_is u v z = chained u.x u.y v.x v.y z.x z.y

pub cross_itself : (d : Point) → cross_of d d ≡ pos 0
cross_itself d = omega (arith, ints)

pub minus_right : (c d e : Point) → cross_of c (vector d e) ≡ cross_of c e -ℤ cross_of c d
minus_right c d e =
    let f = times_minus c.x e.y d.y in
    let g = times_minus c.y e.x d.x in
    omega (arith, ints, f, g)

-- a square of a direction that leads somewhere is positive
pub some_square : (u v : Point) → same_point u v ≡ false → pos 0 <ℤ dot_of (vector u v) (vector u v)
some_square u v apart =
    let x = square_of (v.x -ℤ u.x) in
    let y = square_of (v.y -ℤ u.y) in
    by_lt_z (pos 0) (dot_of (vector u v) (vector u v)) (λ p. p)
    (λ q. absurd (never (no_root (v.x -ℤ u.x) (omega (arith, ints, x, y, q)))
    (no_root (v.y -ℤ u.y) (omega (arith, ints, x, y, q)))))
  where
    no_root : (z : ℤ) → z *ℤ z ≡ pos 0 → z ≡ pos 0
    no_root z e =
        by_lt_z (pos 0) z
        (λ p. zero_factor z z e p)
        (λ q. by_lt_z z (pos 0)
        (λ r. let f = neg_times z (neg_ℤ z) in let g = times_neg z z in
        let h = positive_product (neg_ℤ z) (neg_ℤ z) (omega (arith, ints, r)) (omega (arith, ints, r)) in
        absurd (omega (arith, ints, e, f, g, h)))
        (λ r. omega (arith, ints, q, r)))

    never : v.x -ℤ u.x ≡ pos 0 → v.y -ℤ u.y ≡ pos 0 → ⊥
    never e f =
        let i : int_eq u.x v.x ≡ true = equal_tested u.x v.x (omega (arith, ints, e)) in
        let j : int_eq u.y v.y ≡ true = equal_tested u.y v.y (omega (arith, ints, f)) in
        let k : same_point u v ≡ true = rw (i, j) refl in
        let absurdity : true ≡ false = sym k ∙ apart in
        cc

-- directions in line with a third are in line
pub parallel : (u j v : Point) → pos 0 <ℤ dot_of u u → cross_of u j ≡ pos 0 → cross_of u v ≡ pos 0
    → cross_of j v ≡ pos 0
parallel u j v some_u uj uv =
    let e = along u j v in
    let s = exchanged u j in
    let f = ap (λ t. dot_of u v *ℤ t) (let z : cross_of j u ≡ pos 0 = omega (arith, ints, s, uj) in z)
    ∙ times_zero (dot_of u v) in
    let g = ap (λ t. t *ℤ dot_of j u) uv ∙ zero_times (dot_of j u) in
    let t = product_swapped (dot_of u u) (cross_of j v) in
    zero_factor (cross_of j v) (dot_of u u) (omega (arith, ints, e, f, g, t)) some_u
