-- Identities over the integers. An integer is written as a difference of naturals, so that `omega` can multiply out.
use Rattle.std.proofs.Common.{◌≡◌, ℕ, ◌+◌, ◌*◌, ℤ, pos, ◌+ℤ◌, ◌-ℤ◌, ◌*ℤ◌, neg_ℤ, arith, ap, ◌∙◌}
use Rattle.std.proofs.lemmas.Int.{ints}
use borrow.Author.Differences.{up, down}

-- ---- differences of naturals

-- p - n
pub diff : ℕ → ℕ → ℤ
diff p n = pos p -ℤ pos n

-- the parts of an integer differ as the naturals that it was made of
pub diff_is : (p n : ℕ) → up (diff p n) + n ≡ down (diff p n) + p
unfolding diff
diff_is p n = omega (arith, ints)

-- each integer is a difference
pub is_diff : (z : ℤ) → z ≡ diff (up z) (down z)
unfolding diff
is_diff z = omega (arith, ints)

-- differences are equal where the sums across are
pub same_diff : (p n q m : ℕ) → p + m ≡ q + n → diff p n ≡ diff q m
same_diff p n q m e = omega (arith, ints, diff_is)

-- the sum of two differences
pub sum_diff : (p n q m : ℕ) → diff p n +ℤ diff q m ≡ diff (p + q) (n + m)
sum_diff p n q m = omega (arith, ints, diff_is)

-- the difference of two differences
pub minus_diff : (p n q m : ℕ) → diff p n -ℤ diff q m ≡ diff (p + m) (n + q)
minus_diff p n q m = omega (arith, ints, diff_is)

-- the other way round
pub neg_diff : (p n : ℕ) → neg_ℤ (diff p n) ≡ diff n p
neg_diff p n = omega (arith, ints, diff_is)

-- the product of two differences
pub product_diff : (p n q m : ℕ) → diff p n *ℤ diff q m ≡ diff (p * q + n * m) (p * m + n * q)
product_diff p n q m =
    let a = diff p n in
    let b = diff q m in
    let e = diff_is p n in
    let f = diff_is q m in
    let e_up : up b * (up a + n) ≡ up b * (down a + p) = ap (λ t. up b * t) e in
    let e_down : down b * (up a + n) ≡ down b * (down a + p) = ap (λ t. down b * t) e in
    let f_up : p * (up b + m) ≡ p * (down b + q) = ap (λ t. p * t) f in
    let f_down : n * (up b + m) ≡ n * (down b + q) = ap (λ t. n * t) f in
    omega (arith, ints, diff_is)

-- ---- products

-- factors may be exchanged
pub product_swapped : (x y : ℤ) → x *ℤ y ≡ y *ℤ x
product_swapped x y = omega (arith, ints)

-- nothing times a number
pub zero_times : (z : ℤ) → pos 0 *ℤ z ≡ pos 0
zero_times z = omega (arith, ints)

-- a number times nothing
pub times_zero : (z : ℤ) → z *ℤ pos 0 ≡ pos 0
times_zero z = omega (arith, ints)

-- once a number
pub one_times : (z : ℤ) → pos 1 *ℤ z ≡ z
one_times z = omega (arith, ints)

-- a number once
pub times_one : (z : ℤ) → z *ℤ pos 1 ≡ z
times_one z = omega (arith, ints)

product_grouped_diff : (a b c d e f : ℕ) → (diff a b *ℤ diff c d) *ℤ diff e f ≡ diff a b *ℤ (diff c d *ℤ diff e f)
product_grouped_diff a b c d e f = simp product_diff (same_diff _ _ _ _ (omega arith))

-- a product of three may be grouped either way
pub product_grouped : (x y z : ℤ) → (x *ℤ y) *ℤ z ≡ x *ℤ (y *ℤ z)
product_grouped x y z = rw (is_diff x, is_diff y, is_diff z) (product_grouped_diff (up x) (down x) (up y) (down y) (up z) (down z))

product_turned_diff : (a b c d e f : ℕ) → (diff a b *ℤ diff c d) *ℤ diff e f ≡ (diff a b *ℤ diff e f) *ℤ diff c d
product_turned_diff a b c d e f = simp product_diff (same_diff _ _ _ _ (omega arith))

-- the last two of three factors may be exchanged
pub product_turned : (x y z : ℤ) → (x *ℤ y) *ℤ z ≡ (x *ℤ z) *ℤ y
product_turned x y z = rw (is_diff x, is_diff y, is_diff z) (product_turned_diff (up x) (down x) (up y) (down y) (up z) (down z))

-- the first two factors of three may be exchanged
pub product_moved : (x y z : ℤ) → x *ℤ (y *ℤ z) ≡ y *ℤ (x *ℤ z)
product_moved x y z =
    let e = product_grouped x y z in
    let f = product_grouped y x z in
    let g = ap (λ t. t *ℤ z) (product_swapped x y) in
    omega (arith, ints, e, f, g)

times_sum_diff : (a b c d e f : ℕ) → diff a b *ℤ (diff c d +ℤ diff e f) ≡ diff a b *ℤ diff c d +ℤ diff a b *ℤ diff e f
times_sum_diff a b c d e f = simp (product_diff, sum_diff) (same_diff _ _ _ _ (omega arith))

-- a number times a sum
pub times_sum : (x y z : ℤ) → x *ℤ (y +ℤ z) ≡ x *ℤ y +ℤ x *ℤ z
times_sum x y z = rw (is_diff x, is_diff y, is_diff z) (times_sum_diff (up x) (down x) (up y) (down y) (up z) (down z))

-- a sum times a number
pub sum_times : (x y z : ℤ) → (x +ℤ y) *ℤ z ≡ x *ℤ z +ℤ y *ℤ z
sum_times x y z = let e = times_sum z x y in omega (arith, ints, e)

times_minus_diff : (a b c d e f : ℕ) → diff a b *ℤ (diff c d -ℤ diff e f) ≡ diff a b *ℤ diff c d -ℤ diff a b *ℤ diff e f
times_minus_diff a b c d e f = simp (product_diff, minus_diff) (same_diff _ _ _ _ (omega arith))

-- a number times a difference
pub times_minus : (x y z : ℤ) → x *ℤ (y -ℤ z) ≡ x *ℤ y -ℤ x *ℤ z
times_minus x y z = rw (is_diff x, is_diff y, is_diff z) (times_minus_diff (up x) (down x) (up y) (down y) (up z) (down z))

-- a difference times a number
pub minus_times : (x y z : ℤ) → (x -ℤ y) *ℤ z ≡ x *ℤ z -ℤ y *ℤ z
minus_times x y z = let e = times_minus z x y in omega (arith, ints, e)

neg_times_diff : (a b c d : ℕ) → diff b a *ℤ diff c d ≡ neg_ℤ (diff a b *ℤ diff c d)
neg_times_diff a b c d = simp (product_diff, neg_diff) (same_diff _ _ _ _ (omega arith))

-- the sign of a factor may stand before the product
pub neg_times : (x y : ℤ) → neg_ℤ x *ℤ y ≡ neg_ℤ (x *ℤ y)
neg_times x y = rw (is_diff x, is_diff y) (ap (λ t. t *ℤ diff (up y) (down y)) (neg_diff (up x) (down x)) ∙ neg_times_diff (up x) (down x) (up y) (down y))

-- the same of the second factor
pub times_neg : (x y : ℤ) → x *ℤ neg_ℤ y ≡ neg_ℤ (x *ℤ y)
times_neg x y = let e = neg_times y x in omega (arith, ints, e)

-- two signs undo each other
pub neg_twice : (z : ℤ) → neg_ℤ (neg_ℤ z) ≡ z
neg_twice z = omega (arith, ints)

-- ---- cross products

-- exchanged, a cross product changes its sign
pub cross_exchanged : (ax ay bx by : ℤ) → bx *ℤ ay -ℤ by *ℤ ax ≡ neg_ℤ (ax *ℤ by -ℤ ay *ℤ bx)
cross_exchanged ax ay bx by = omega (arith, ints)

cross_of_three_diff : (a b c d e f g h i j k l : ℕ) →
    (diff a b *ℤ diff k l -ℤ diff c d *ℤ diff i j) *ℤ diff g h
    ≡ (diff a b *ℤ diff g h -ℤ diff c d *ℤ diff e f) *ℤ diff k l +ℤ (diff e f *ℤ diff k l -ℤ diff g h *ℤ diff i j) *ℤ diff c d
cross_of_three_diff a b c d e f g h i j k l = simp (product_diff, minus_diff, sum_diff) (same_diff _ _ _ _ (omega arith))

-- of three directions a, b, c: the cross product of the outer two, by those with the one between them
pub cross_of_three : (ax ay bx by cx cy : ℤ) →
    (ax *ℤ cy -ℤ ay *ℤ cx) *ℤ by ≡ (ax *ℤ by -ℤ ay *ℤ bx) *ℤ cy +ℤ (bx *ℤ cy -ℤ by *ℤ cx) *ℤ ay
cross_of_three ax ay bx by cx cy =
    rw (is_diff ax, is_diff ay, is_diff bx, is_diff by, is_diff cx, is_diff cy)
    (cross_of_three_diff (up ax) (down ax) (up ay) (down ay) (up bx) (down bx) (up by) (down by) (up cx) (down cx) (up cy) (down cy))

cross_of_four_diff : (a b c d e f g h i j k l m n o p : ℕ) →
    (diff a b *ℤ diff g h -ℤ diff c d *ℤ diff e f) *ℤ (diff i j *ℤ diff o p -ℤ diff k l *ℤ diff m n)
    +ℤ (diff a b *ℤ diff o p -ℤ diff c d *ℤ diff m n) *ℤ (diff e f *ℤ diff k l -ℤ diff g h *ℤ diff i j)
    ≡ (diff a b *ℤ diff k l -ℤ diff c d *ℤ diff i j) *ℤ (diff e f *ℤ diff o p -ℤ diff g h *ℤ diff m n)
cross_of_four_diff a b c d e f g h i j k l m n o p = simp (product_diff, minus_diff, sum_diff) (same_diff _ _ _ _ (omega arith))

-- of four directions a, b, c, d: ab cd + ad bc = ac bd
pub cross_of_four : (ax ay bx by cx cy dx dy : ℤ) →
    (ax *ℤ by -ℤ ay *ℤ bx) *ℤ (cx *ℤ dy -ℤ cy *ℤ dx) +ℤ (ax *ℤ dy -ℤ ay *ℤ dx) *ℤ (bx *ℤ cy -ℤ by *ℤ cx)
    ≡ (ax *ℤ cy -ℤ ay *ℤ cx) *ℤ (bx *ℤ dy -ℤ by *ℤ dx)
cross_of_four ax ay bx by cx cy dx dy =
    rw (is_diff ax, is_diff ay, is_diff bx, is_diff by, is_diff cx, is_diff cy, is_diff dx, is_diff dy)
    (cross_of_four_diff (up ax) (down ax) (up ay) (down ay) (up bx) (down bx) (up by) (down by) (up cx) (down cx) (up cy) (down cy) (up dx) (down dx) (up dy) (down dy))

-- ---- cross and dot products together

dot_times_diff : (a b c d e f g h : ℕ) →
    (diff a b *ℤ diff e f +ℤ diff c d *ℤ diff g h) *ℤ diff g h
    ≡ diff c d *ℤ (diff e f *ℤ diff e f +ℤ diff g h *ℤ diff g h) +ℤ diff e f *ℤ (diff a b *ℤ diff g h -ℤ diff c d *ℤ diff e f)
dot_times_diff a b c d e f g h = simp (product_diff, minus_diff, sum_diff) (same_diff _ _ _ _ (omega arith))

-- the dot product of d and e, times a component of e, by their cross product and the square of e
pub dot_times : (dx dy ex ey : ℤ) →
    (dx *ℤ ex +ℤ dy *ℤ ey) *ℤ ey ≡ dy *ℤ (ex *ℤ ex +ℤ ey *ℤ ey) +ℤ ex *ℤ (dx *ℤ ey -ℤ dy *ℤ ex)
dot_times dx dy ex ey =
    rw (is_diff dx, is_diff dy, is_diff ex, is_diff ey)
    (dot_times_diff (up dx) (down dx) (up dy) (down dy) (up ex) (down ex) (up ey) (down ey))

dot_times_across_diff : (a b c d e f g h : ℕ) →
    (diff a b *ℤ diff e f +ℤ diff c d *ℤ diff g h) *ℤ diff e f
    ≡ diff a b *ℤ (diff e f *ℤ diff e f +ℤ diff g h *ℤ diff g h) -ℤ diff g h *ℤ (diff a b *ℤ diff g h -ℤ diff c d *ℤ diff e f)
dot_times_across_diff a b c d e f g h = simp (product_diff, minus_diff, sum_diff) (same_diff _ _ _ _ (omega arith))

-- the same of the other component
pub dot_times_across : (dx dy ex ey : ℤ) →
    (dx *ℤ ex +ℤ dy *ℤ ey) *ℤ ex ≡ dx *ℤ (ex *ℤ ex +ℤ ey *ℤ ey) -ℤ ey *ℤ (dx *ℤ ey -ℤ dy *ℤ ex)
dot_times_across dx dy ex ey =
    rw (is_diff dx, is_diff dy, is_diff ex, is_diff ey)
    (dot_times_across_diff (up dx) (down dx) (up dy) (down dy) (up ex) (down ex) (up ey) (down ey))

-- ---- orientation

turned_diff : (a b c d e f g h i j k l : ℕ) →
    (diff i j -ℤ diff e f) *ℤ (diff c d -ℤ diff g h) -ℤ (diff k l -ℤ diff g h) *ℤ (diff a b -ℤ diff e f)
    ≡ (diff e f -ℤ diff a b) *ℤ (diff k l -ℤ diff c d) -ℤ (diff g h -ℤ diff c d) *ℤ (diff i j -ℤ diff a b)
turned_diff a b c d e f g h i j k l = simp (product_diff, minus_diff) (same_diff _ _ _ _ (omega arith))

-- three points turn alike from whichever one begins: b c a as a b c
pub orient_cycled : (ax ay bx by cx cy : ℤ) →
    (cx -ℤ bx) *ℤ (ay -ℤ by) -ℤ (cy -ℤ by) *ℤ (ax -ℤ bx) ≡ (bx -ℤ ax) *ℤ (cy -ℤ ay) -ℤ (by -ℤ ay) *ℤ (cx -ℤ ax)
orient_cycled ax ay bx by cx cy =
    rw (is_diff ax, is_diff ay, is_diff bx, is_diff by, is_diff cx, is_diff cy)
    (turned_diff (up ax) (down ax) (up ay) (down ay) (up bx) (down bx) (up by) (down by) (up cx) (down cx) (up cy) (down cy))

-- exchanged, two of three points turn the other way: a c b against a b c
pub orient_exchanged : (ax ay bx by cx cy : ℤ) →
    (cx -ℤ ax) *ℤ (by -ℤ ay) -ℤ (cy -ℤ ay) *ℤ (bx -ℤ ax) ≡ neg_ℤ ((bx -ℤ ax) *ℤ (cy -ℤ ay) -ℤ (by -ℤ ay) *ℤ (cx -ℤ ax))
orient_exchanged ax ay bx by cx cy = cross_exchanged (bx -ℤ ax) (by -ℤ ay) (cx -ℤ ax) (cy -ℤ ay)

cross_across_diff : (a b c d e f g h i j k l : ℕ) →
    (diff a b *ℤ diff k l -ℤ diff c d *ℤ diff i j) *ℤ diff e f
    ≡ (diff a b *ℤ diff g h -ℤ diff c d *ℤ diff e f) *ℤ diff i j +ℤ
    (diff e f *ℤ diff k l -ℤ diff g h *ℤ diff i j) *ℤ diff a b
cross_across_diff a b c d e f g h i j k l = simp (product_diff, minus_diff, sum_diff) (same_diff _ _ _ _ (omega arith))

-- `cross_of_three` of the other component
pub cross_across : (ax ay bx by cx cy : ℤ) →
    (ax *ℤ cy -ℤ ay *ℤ cx) *ℤ bx ≡ (ax *ℤ by -ℤ ay *ℤ bx) *ℤ cx +ℤ (bx *ℤ cy -ℤ by *ℤ cx) *ℤ ax
cross_across ax ay bx by cx cy =
    rw (is_diff ax, is_diff ay, is_diff bx, is_diff by, is_diff cx, is_diff cy)
    (cross_across_diff (up ax) (down ax) (up ay) (down ay) (up bx) (down bx) (up by) (down by) (up cx) (down cx)
    (up cy) (down cy))

chained_diff : (a b c d e f g h i j k l : ℕ) →
    (diff e f -ℤ diff a b) *ℤ (diff k l -ℤ diff g h) -ℤ (diff g h -ℤ diff c d) *ℤ (diff i j -ℤ diff e f)
    ≡ (diff e f -ℤ diff a b) *ℤ (diff k l -ℤ diff c d) -ℤ (diff g h -ℤ diff c d) *ℤ (diff i j -ℤ diff a b)
chained_diff a b c d e f g h i j k l = simp (product_diff, minus_diff) (same_diff _ _ _ _ (omega arith))

-- the vectors from a to b and from b to c turn as a, b and c
pub chained : (ax ay bx by cx cy : ℤ) →
    (bx -ℤ ax) *ℤ (cy -ℤ by) -ℤ (by -ℤ ay) *ℤ (cx -ℤ bx) ≡ (bx -ℤ ax) *ℤ (cy -ℤ ay) -ℤ (by -ℤ ay) *ℤ (cx -ℤ ax)
chained ax ay bx by cx cy =
    rw (is_diff ax, is_diff ay, is_diff bx, is_diff by, is_diff cx, is_diff cy)
    (chained_diff (up ax) (down ax) (up ay) (down ay) (up bx) (down bx) (up by) (down by) (up cx) (down cx) (up cy)
    (down cy))

-- ---- points

products_diff : (a b c d e f g h : ℕ)
    → (diff a b *ℤ diff e f) *ℤ (diff c d *ℤ diff g h) ≡ (diff a b *ℤ diff c d) *ℤ (diff e f *ℤ diff g h)
products_diff a b c d e f g h = simp product_diff (same_diff _ _ _ _ (omega arith))

pub products : (r s u v : ℤ) → (r *ℤ u) *ℤ (s *ℤ v) ≡ (r *ℤ s) *ℤ (u *ℤ v)
products r s u v =
    rw (is_diff r, is_diff s, is_diff u, is_diff v) (products_diff (up r) (down r) (up s) (down s) (up u) (down u)
    (up v) (down v))

crossed_diff : (a b c d e f g h : ℕ)
    → (diff a b *ℤ diff c d) *ℤ (diff e f *ℤ diff g h) ≡ (diff a b *ℤ diff g h) *ℤ (diff e f *ℤ diff c d)
crossed_diff a b c d e f g h = simp product_diff (same_diff _ _ _ _ (omega arith))

-- the second factors of two products exchanged
pub crossed : (a b c d : ℤ) → (a *ℤ b) *ℤ (c *ℤ d) ≡ (a *ℤ d) *ℤ (c *ℤ b)
crossed a b c d =
    rw (is_diff a, is_diff b, is_diff c, is_diff d) (crossed_diff (up a) (down a) (up b) (down b) (up c) (down c)
    (up d) (down d))
