-- Heights of points over the line through two others, and products of directions.
use Rattle.std.proofs.Common.{ap, arith, ℤ, ◌≡◌, ◌+ℤ◌, ◌-ℤ◌, ◌*ℤ◌, ◌∙◌, pos, ◌<ℤ◌, ◌≤ℤ◌, ℕ}
use Rattle.std.proofs.lemmas.Int.{ints}
use borrow.Author.Differences.{down, up}
use Rattle.int_laws.proofs.Ring.{times_sum, cross_of_four, product_swapped, diff, minus_diff, product_diff, same_diff}
use Rattle.int_laws.proofs.Ring.{sum_diff, is_diff}
use Rattle.int_laws.proofs.Signs.{none_times, positive_product, up_factor}
use Rattle.plane_spec.specs.declared.Point.{Point}
use Rattle.plane_spec.specs.declared.Segment.{Segment}
use Rattle.plane_spec.specs.Vectors.{cross_of, orient_of, vector, dot_of}

-- ---- the height of a point, from that of another

pub times_steps : (j a c x : ℤ) → j *ℤ (x -ℤ a) ≡ j *ℤ (c -ℤ a) +ℤ j *ℤ (x -ℤ c)
times_steps j a c x =
    let e : x -ℤ a ≡ (c -ℤ a) +ℤ (x -ℤ c) = omega (arith, ints) in
    ap (λ t. j *ℤ t) e ∙ times_sum j (c -ℤ a) (x -ℤ c)

-- from one point to another, the height over a line changes by the cross product of the directions
pub height_from : (a b c x : Point) → orient_of a b x ≡ orient_of a b c +ℤ cross_of (vector a b) (vector c x)
height_from a b c x =
    let first = times_steps (b.x -ℤ a.x) a.y c.y x.y in
    let second = times_steps (b.y -ℤ a.y) a.x c.x x.x in
    omega (arith, ints, first, second)

pub four : (a b c d : Point)
    → cross_of a b *ℤ cross_of c d +ℤ cross_of a d *ℤ cross_of b c ≡ cross_of a c *ℤ cross_of b d
four a b c d = cross_of_four a.x a.y b.x b.y c.x c.y d.x d.y

-- ---- walls in line

-- two walls in line that have a point on their left, both of them, lead the same way: what is left of one is left of
-- the other
pub same_way : (u j y e : Point) → cross_of u j ≡ pos 0 → pos 0 ≤ℤ cross_of u y → pos 0 <ℤ cross_of j y
    → pos 0 <ℤ cross_of u e → pos 0 <ℤ cross_of j e
same_way u j y e line uy jy ue =
    let all = four u j y e in
    let none = none_times (cross_of u j) (cross_of y e) line in
    let some = positive_product (cross_of u e) (cross_of j y) ue jy in
    let turn = product_swapped (cross_of u y) (cross_of j e) in
    up_factor (cross_of j e) (cross_of u y) (omega (arith, ints, all, none, some, turn)) uy

-- ---- a point between two others

along_diff : (a b c d e f g h i j k l : ℕ) →
    (diff a b *ℤ diff a b +ℤ diff c d *ℤ diff c d) *ℤ (diff e f *ℤ diff k l -ℤ diff g h *ℤ diff i j)
    ≡ (diff a b *ℤ diff i j +ℤ diff c d *ℤ diff k l) *ℤ (diff e f *ℤ diff c d -ℤ diff g h *ℤ diff a b)
    +ℤ (diff a b *ℤ diff k l -ℤ diff c d *ℤ diff i j) *ℤ (diff e f *ℤ diff a b +ℤ diff g h *ℤ diff c d)
along_diff a b c d e f g h i j k l = simp (product_diff, minus_diff, sum_diff) (same_diff _ _ _ _ (omega arith))

-- of directions d, j, v: the cross product of j and v, by the parts of v along d and across it
pub along : (d j v : Point) → dot_of d d *ℤ cross_of j v ≡ dot_of d v *ℤ cross_of j d +ℤ cross_of d v *ℤ dot_of j d
along d j v =
    rw (is_diff d.x, is_diff d.y, is_diff j.x, is_diff j.y, is_diff v.x, is_diff v.y)
    (along_diff (up d.x) (down d.x) (up d.y) (down d.y) (up j.x) (down j.x) (up j.y) (down j.y) (up v.x) (down v.x)
    (up v.y) (down v.y))

-- the height of a point over the line of a wall
abbrev pub height : Segment → Point → ℤ
height w x = orient_of w.a w.b x
