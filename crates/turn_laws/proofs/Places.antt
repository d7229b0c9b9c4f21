-- The places of directions tell their order.
--
-- Within a quarter a direction is a pair of sizes, how far it leads along the quarter's first side and how far along
-- the second, and its part is the second's share of their sum. Shares of two directions that differ, differ by at
-- least one over the product of the sums, at most 800000 each. A part is the floor of the share times 2^40, which is
-- more than that product: so the floor keeps what is less, less (`part_rises`), and what is not more, not more
-- (`part_falls`). A quarter turn is one quarter further; so directions of different quarters differ by the
-- quarters alone.
use Rattle.std.proofs.Common.{◌≡◌, ℕ, ◌+◌, ◌-◌, ◌*◌, ◌/◌, ◌<◌, ◌≤◌, ℤ, neg_ℤ, ◌-ℤ◌, ◌*ℤ◌, ◌<ℤ◌, ◌≤ℤ◌, ◌∙◌, arith, subst}
use Rattle.std.proofs.Common.{nat_lt, sym, pos, refl, negsuc, ap, zero, suc}
use Rattle.std.proofs.lemmas.Int.{ints, by_lt_z}
use Rattle.std.proofs.lemmas.Nat.{div_below, le-div}
use Rattle.std.specs.Ordering.{int_eq}
use Rattle.std.specs.Prelude.{if◌then◌else◌, ◌&&◌, ◌||◌, unsigned_abs, false, int_lt, int_le, true, cond, Bool}
use Rattle.plane_spec.specs.Vectors.{IsWithin, IsDirection, IsDirected, is_upper, turns_left, turns_by, turns_before}
use Rattle.plane_spec.specs.declared.Point.{Point}
use Rattle.int_laws.proofs.Ring.{neg_times, times_neg}
use Rattle.front_laws.proofs.Tests.{by_lt, number_less_tested, number_not_less, not_above, not_below}
use Rattle.turn_laws.specs.Places.{part_of, place_of}

-- ---- products

le_times : (m n k : ℕ) → m ≤ n → m * k ≤ n * k
le_times m n k h = let j = n - m in let e : m + j ≡ n = omega (arith, h) in subst (λ z. m * k ≤ z * k) e (more m j k)
  where
    more : (m j k : ℕ) → m * k ≤ (m + j) * k
    more m j k = omega arith

cancel : (m n k : ℕ) → 0 < k → m * k ≤ n * k → m ≤ n
cancel m n k some h = by_lt n m
    (λ lt. let g = le_times (n + 1) m k (omega (arith, lt)) in absurd (clash n k (m * k) some g h))
    (λ le. le)
  where
    clash : (n k x : ℕ) → 0 < k → (n + 1) * k ≤ x → x ≤ n * k → ⊥
    clash n k x some h j = omega (arith, some, h, j)

under : (n k : ℕ) → 0 < k → (n / k) * k ≤ n
under n k some = by_lt n ((n / k) * k) (λ lt. let g = div_below n k (n / k) some lt in absurd (omega (arith, g)))
    (λ le. le)

-- ---- parts of one quarter

-- with s and t the sizes of the two
part_rises : (b s e t : ℕ) → 0 < s → 0 < t → s * t ≤ 1099511627776 → b * t < e * s
    → (b * 1099511627776) / s < (e * 1099511627776) / t
part_rises b s e t s_some t_some small less =
    let x = (b * 1099511627776) / s in
    let low = le_times (x * s) (b * 1099511627776) t (under (b * 1099511627776) s s_some) in
    let wide = le_times (b * t + 1) (e * s) 1099511627776 (omega (arith, less)) in
    let g = le-div (x + 1) (e * 1099511627776) t t_some
    (cancel ((x + 1) * t) (e * 1099511627776) s s_some (all x s t b e low wide small)) in
    omega (arith, g)
  where
    all : (x s t b e : ℕ) → (x * s) * t ≤ (b * 1099511627776) * t
        → (b * t + 1) * 1099511627776 ≤ (e * s) * 1099511627776 → s * t ≤ 1099511627776
        → ((x + 1) * t) * s ≤ (e * 1099511627776) * s
    all x s t b e h k j = omega (arith, h, k, j)

part_falls : (b s e t : ℕ) → 0 < s → 0 < t → e * s ≤ b * t → (e * 1099511627776) / t ≤ (b * 1099511627776) / s
part_falls b s e t s_some t_some more =
    let y = (e * 1099511627776) / t in
    let low = le_times (y * t) (e * 1099511627776) s (under (e * 1099511627776) t t_some) in
    let wide = le_times (e * s) (b * t) 1099511627776 more in
    le-div y (b * 1099511627776) s s_some (cancel (y * s) (b * 1099511627776) t t_some (all y s t b e low wide))
  where
    all : (y s t b e : ℕ) → (y * t) * s ≤ (e * 1099511627776) * s → (e * s) * 1099511627776 ≤ (b * t) * 1099511627776
        → (y * s) * t ≤ (b * 1099511627776) * t
    all y s t b e h k = omega (arith, h, k)

pub record Sizes (a b : ℕ) : Type 0 where
  pub some : 0 < a
  pub first : a ≤ 400000
  pub second : b ≤ 400000

small_product : (a b c e : ℕ) → Sizes a b → Sizes c e → (a + b) * (c + e) ≤ 1099511627776
small_product a b c e h k =
    let g = le_times (a + b) 800000 (c + e) (sum a b h) in
    let f = sum c e k in
    omega (arith, g, f)
  where
    sum : (a b : ℕ) → Sizes a b → a + b ≤ 800000
    sum a b h = let x = h.first in let y = h.second in omega (arith, x, y)

pub part_tells : (a b c e : ℕ) → Sizes a b → Sizes c e → nat_lt (part_of a b) (part_of c e) ≡ nat_lt (b * c) (e * a)
part_tells a b c e h k =
    let s_some = some a b h in
    let t_some = some c e k in
    by_lt (b * c) (e * a)
    (λ lt. number_less_tested (part_of a b) (part_of c e)
    (part_rises b (a + b) e (c + e) s_some t_some (small_product a b c e h k) (wider a b c e lt))
    ∙ sym (number_less_tested (b * c) (e * a) lt))
    (λ le. number_not_less (part_of a b) (part_of c e)
    (part_falls b (a + b) e (c + e) s_some t_some (wider_most a b c e le))
    ∙ sym (number_not_less (b * c) (e * a) le))
  where
    some : (a b : ℕ) → Sizes a b → 0 < a + b
    some a b h = let x = h.some in omega (arith, x)

    wider : (a b c e : ℕ) → b * c < e * a → b * (c + e) < e * (a + b)
    wider a b c e h = omega (arith, h)

    wider_most : (a b c e : ℕ) → e * a ≤ b * c → e * (a + b) ≤ b * (c + e)
    wider_most a b c e h = omega (arith, h)

pub part_below : (a b : ℕ) → Sizes a b → part_of a b < 1099511627776
part_below a b h = let x = h.some in
    div_below (b * 1099511627776) (a + b) 1099511627776 (omega (arith, x)) (omega (arith, x))

-- ---- quarters

-- a direction by its quarter turn: so far along the quarter's first side, and so far along its second
pub data Quarter (d : Point) : Type 0 where
  first : (a b : ℕ) → Sizes a b → d.x ≡ pos a → d.y ≡ pos b → Quarter d
  second : (a b : ℕ) → Sizes a b → d.x ≡ neg_ℤ (pos b) → d.y ≡ pos a → Quarter d
  third : (a b : ℕ) → Sizes a b → d.x ≡ neg_ℤ (pos a) → d.y ≡ neg_ℤ (pos b) → Quarter d
  fourth : (a b : ℕ) → Sizes a b → d.x ≡ pos b → d.y ≡ neg_ℤ (pos a) → Quarter d

size_up : (z : ℤ) → pos 0 ≤ℤ z → z ≡ pos (unsigned_abs z)
size_up (pos n) h = refl
size_up (negsuc n) h = absurd (omega (arith, ints, h))

size_down : (z : ℤ) → z ≤ℤ pos 0 → z ≡ neg_ℤ (pos (unsigned_abs z))
size_down z h = grind (arith, ints)

pub quarter_of : (d : Point) → IsDirection d → IsDirected d → Quarter d
quarter_of d within some =
    let x = size_is d.x within.x in
    let y = size_is d.y within.y in
    by_lt_z (pos 0) d.x
    (λ right. by_lt_z d.y (pos 0)
    (λ down. fourth (unsigned_abs d.y) (unsigned_abs d.x)
    (record { some = size_some_down d.y down; first = y; second = x }) (size_up d.x (not_below d.x right))
    (size_down d.y (not_above d.y down)))
    (λ up. first (unsigned_abs d.x) (unsigned_abs d.y)
    (record { some = size_some d.x right; first = x; second = y }) (size_up d.x (not_below d.x right))
    (size_up d.y up)))
    (λ not_right. by_lt_z (pos 0) d.y
    (λ up. second (unsigned_abs d.y) (unsigned_abs d.x) (record { some = size_some d.y up; first = y; second = x })
    (size_down d.x not_right) (size_up d.y (not_below d.y up)))
    (λ not_up. by_lt_z d.x (pos 0)
    (λ left. third (unsigned_abs d.x) (unsigned_abs d.y)
    (record { some = size_some_down d.x left; first = x; second = y }) (size_down d.x not_right)
    (size_down d.y not_up))
    (λ not_left. let x_is : d.x ≡ pos 0 = omega (arith, ints, not_right, not_left) in
    fourth (unsigned_abs d.y) (unsigned_abs d.x)
    (record { some = size_some_down d.y (down_is d x_is some not_up); first = y; second = x })
    (size_up d.x not_left) (size_down d.y not_up))))
  where
    size_is : (z : ℤ) → IsWithin (pos 400000) z → unsigned_abs z ≤ 400000
    size_is z h = let l = h.low in let k = h.high in grind (arith, ints)

    size_some : (z : ℤ) → pos 0 <ℤ z → 0 < unsigned_abs z
    size_some z h = grind (arith, ints)

    size_some_down : (z : ℤ) → z <ℤ pos 0 → 0 < unsigned_abs z
    size_some_down z h = grind (arith, ints)

    down_is : (d : Point) → d.x ≡ pos 0 → IsDirected d → d.y ≤ℤ pos 0 → d.y <ℤ pos 0
    down_is d h s k = let t = s.somewhere in
        by_lt_z d.y (pos 0) (λ low. low) (λ high. absurd (none d.x d.y h (omega (arith, ints, k, high)) t))
      where
        none : (x y : ℤ) → x ≡ pos 0 → y ≡ pos 0 → (int_eq x (pos 0) && int_eq y (pos 0)) ≡ false → ⊥
        none x y h k t = grind (arith, ints)

-- ---- by coordinates

abbrev place_at : ℤ → ℤ → ℕ
place_at x y =
    if int_lt (pos 0) x && int_le (pos 0) y then part_of (unsigned_abs x) (unsigned_abs y)
    else (if int_le x (pos 0) && int_lt (pos 0) y then 1099511627776 + part_of (unsigned_abs y) (unsigned_abs x)
    else (if int_lt x (pos 0) && int_le y (pos 0) then 2199023255552 + part_of (unsigned_abs x) (unsigned_abs y)
    else (3298534883328 + part_of (unsigned_abs y) (unsigned_abs x))))

place_is : (d : Point) (x y : ℤ) → d.x ≡ x → d.y ≡ y → place_of d ≡ place_at x y
unfolding place_of
place_is d x y h k = ap (λ t. place_at t d.y) h ∙ ap (λ t. place_at x t) k

size_of_back : (n : ℕ) → unsigned_abs (neg_ℤ (pos n)) ≡ n
size_of_back zero = refl
size_of_back (suc n) = refl

first_place : (a b : ℕ) → 0 < a → place_at (pos a) (pos b) ≡ part_of a b
first_place a b some = ap (λ t. cond t (part_of a b) (cond (int_le (pos a) (pos 0) && int_lt (pos 0) (pos b))
    (1099511627776 + part_of b a) (cond (int_lt (pos a) (pos 0) && int_le (pos b) (pos 0))
    (2199023255552 + part_of a b) (3298534883328 + part_of b a)))) (test a b some)
  where
    test : (a b : ℕ) → 0 < a → (int_lt (pos 0) (pos a) && int_le (pos 0) (pos b)) ≡ true
    test a b h = grind (arith, ints)

pick_second : (a b c : Bool) (w x y z : ℕ) → a ≡ false → b ≡ true → cond a w (cond b x (cond c y z)) ≡ x
pick_second false true c w x y z h k = refl
pick_second true b c w x y z h k = absurd (grind arith)
pick_second false false c w x y z h k = absurd (grind arith)

pick_third : (a b c : Bool) (w x y z : ℕ) → a ≡ false → b ≡ false → c ≡ true → cond a w (cond b x (cond c y z)) ≡ y
pick_third false false true w x y z h k j = refl
pick_third true b c w x y z h k j = absurd (grind arith)
pick_third false true c w x y z h k j = absurd (grind arith)
pick_third false false false w x y z h k j = absurd (grind arith)

pick_fourth : (a b c : Bool) (w x y z : ℕ) → a ≡ false → b ≡ false → c ≡ false → cond a w (cond b x (cond c y z)) ≡ z
pick_fourth false false false w x y z h k j = refl
pick_fourth true b c w x y z h k j = absurd (grind arith)
pick_fourth false true c w x y z h k j = absurd (grind arith)
pick_fourth false false true w x y z h k j = absurd (grind arith)

not_up_test : (n : ℕ) (b : Bool) → (int_lt (pos 0) (neg_ℤ (pos n)) && b) ≡ false
not_up_test n b = grind (arith, ints)

second_place : (a b : ℕ) → 0 < a → place_at (neg_ℤ (pos b)) (pos a) ≡ 1099511627776 + part_of a b
second_place a b some =
    pick_second (int_lt (pos 0) (neg_ℤ (pos b)) && int_le (pos 0) (pos a))
    (int_le (neg_ℤ (pos b)) (pos 0) && int_lt (pos 0) (pos a))
    (int_lt (neg_ℤ (pos b)) (pos 0) && int_le (pos a) (pos 0)) _ _ _ _ (not_up_test b _) (test a b some)
    ∙ ap (λ t. 1099511627776 + part_of a t) (size_of_back b)
  where
    test : (a b : ℕ) → 0 < a → (int_le (neg_ℤ (pos b)) (pos 0) && int_lt (pos 0) (pos a)) ≡ true
    test a b h = grind (arith, ints)

third_place : (a b : ℕ) → 0 < a → place_at (neg_ℤ (pos a)) (neg_ℤ (pos b)) ≡ 2199023255552 + part_of a b
third_place a b some =
    pick_third (int_lt (pos 0) (neg_ℤ (pos a)) && int_le (pos 0) (neg_ℤ (pos b)))
    (int_le (neg_ℤ (pos a)) (pos 0) && int_lt (pos 0) (neg_ℤ (pos b)))
    (int_lt (neg_ℤ (pos a)) (pos 0) && int_le (neg_ℤ (pos b)) (pos 0)) _ _ _ _
    (not_up_test a _) (middle (int_le (neg_ℤ (pos a)) (pos 0)) b) (test a b some)
    ∙ ap (λ t. 2199023255552 + part_of t (unsigned_abs (neg_ℤ (pos b)))) (size_of_back a)
    ∙ ap (λ t. 2199023255552 + part_of a t) (size_of_back b)
  where
    middle : (c : Bool) (b : ℕ) → (c && int_lt (pos 0) (neg_ℤ (pos b))) ≡ false
    middle c b = grind (arith, ints)

    test : (a b : ℕ) → 0 < a → (int_lt (neg_ℤ (pos a)) (pos 0) && int_le (neg_ℤ (pos b)) (pos 0)) ≡ true
    test a b h = grind (arith, ints)

fourth_place : (a b : ℕ) → 0 < a → place_at (pos b) (neg_ℤ (pos a)) ≡ 3298534883328 + part_of a b
fourth_place a b some =
    pick_fourth (int_lt (pos 0) (pos b) && int_le (pos 0) (neg_ℤ (pos a)))
    (int_le (pos b) (pos 0) && int_lt (pos 0) (neg_ℤ (pos a)))
    (int_lt (pos b) (pos 0) && int_le (neg_ℤ (pos a)) (pos 0)) _ _ _ _
    (one (int_lt (pos 0) (pos b)) a some) (two (int_le (pos b) (pos 0)) a) (three b (int_le (neg_ℤ (pos a)) (pos 0)))
    ∙ ap (λ t. 3298534883328 + part_of t b) (size_of_back a)
  where
    one : (c : Bool) (a : ℕ) → 0 < a → (c && int_le (pos 0) (neg_ℤ (pos a))) ≡ false
    one c a h = grind (arith, ints)

    two : (c : Bool) (a : ℕ) → (c && int_lt (pos 0) (neg_ℤ (pos a))) ≡ false
    two c a = grind (arith, ints)

    three : (b : ℕ) (c : Bool) → (int_lt (pos b) (pos 0) && c) ≡ false
    three b c = grind (arith, ints)

-- ---- up or down, and left or not

abbrev upper_at : ℤ → ℤ → Bool
upper_at x y = int_lt (pos 0) y || (int_eq y (pos 0) && int_lt (pos 0) x)

upper_is : (d : Point) (x y : ℤ) → d.x ≡ x → d.y ≡ y → is_upper d ≡ upper_at x y
upper_is d x y h k = ap (λ t. upper_at t d.y) h ∙ ap (λ t. upper_at x t) k

first_upper : (a b : ℕ) → 0 < a → upper_at (pos a) (pos b) ≡ true
first_upper a b h = grind (arith, ints)

second_upper : (a b : ℕ) → 0 < a → upper_at (neg_ℤ (pos b)) (pos a) ≡ true
second_upper a b h = grind (arith, ints)

third_upper : (a b : ℕ) → 0 < a → upper_at (neg_ℤ (pos a)) (neg_ℤ (pos b)) ≡ false
third_upper a b h = grind (arith, ints)

fourth_upper : (a b : ℕ) → 0 < a → upper_at (pos b) (neg_ℤ (pos a)) ≡ false
fourth_upper a b h = grind (arith, ints)

abbrev cross_at : ℤ → ℤ → ℤ → ℤ → ℤ
cross_at x y u v = x *ℤ v -ℤ y *ℤ u

left_is : (d e : Point) (x y u v : ℤ) → d.x ≡ x → d.y ≡ y → e.x ≡ u → e.y ≡ v → turns_left d e
    ≡ int_lt (pos 0) (cross_at x y u v)
left_is d e x y u v h k i j =
    ap (λ t. int_lt (pos 0) (cross_at t d.y e.x e.y)) h ∙ ap (λ t. int_lt (pos 0) (cross_at x t e.x e.y)) k
    ∙ ap (λ t. int_lt (pos 0) (cross_at x y t e.y)) i ∙ ap (λ t. int_lt (pos 0) (cross_at x y u t)) j

less_by : (z : ℤ) (m n : ℕ) → z ≡ pos m -ℤ pos n → int_lt (pos 0) z ≡ nat_lt n m
less_by z m n h = by_lt n m (λ lt. up z m n h lt ∙ sym (number_less_tested n m lt))
    (λ le. down z m n h le ∙ sym (number_not_less n m le))
  where
    up : (z : ℤ) (m n : ℕ) → z ≡ pos m -ℤ pos n → n < m → int_lt (pos 0) z ≡ true
    up z m n h k = grind (arith, ints)

    down : (z : ℤ) (m n : ℕ) → z ≡ pos m -ℤ pos n → m ≤ n → int_lt (pos 0) z ≡ false
    down z m n h k = grind (arith, ints)

first_cross : (a b c e : ℕ) → cross_at (pos a) (pos b) (pos c) (pos e) ≡ pos (e * a) -ℤ pos (b * c)
first_cross a b c e = omega (arith, ints)

second_cross : (a b c e : ℕ) → cross_at (neg_ℤ (pos b)) (pos a) (neg_ℤ (pos e)) (pos c) ≡ pos (e * a) -ℤ pos (b * c)
second_cross a b c e = let f = neg_times (pos b) (pos c) in let g = times_neg (pos a) (pos e) in
    omega (arith, ints, f, g)

third_cross : (a b c e : ℕ) → cross_at (neg_ℤ (pos a)) (neg_ℤ (pos b)) (neg_ℤ (pos c)) (neg_ℤ (pos e))
    ≡ pos (e * a) -ℤ pos (b * c)
third_cross a b c e =
    let f = neg_times (pos a) (neg_ℤ (pos e)) in let g = times_neg (pos a) (pos e) in
    let h = neg_times (pos b) (neg_ℤ (pos c)) in let i = times_neg (pos b) (pos c) in omega (arith, ints, f, g, h, i)

fourth_cross : (a b c e : ℕ) → cross_at (pos b) (neg_ℤ (pos a)) (pos e) (neg_ℤ (pos c)) ≡ pos (e * a) -ℤ pos (b * c)
fourth_cross a b c e = let f = times_neg (pos b) (pos c) in let g = neg_times (pos a) (pos e) in
    omega (arith, ints, f, g)

-- a quarter turn on
on_first : (a b c e : ℕ) → cross_at (pos a) (pos b) (neg_ℤ (pos e)) (pos c) ≡ pos (a * c + b * e) -ℤ pos 0
on_first a b c e = let f = times_neg (pos b) (pos e) in omega (arith, ints, f)

on_third : (a b c e : ℕ) → cross_at (neg_ℤ (pos a)) (neg_ℤ (pos b)) (pos e) (neg_ℤ (pos c))
    ≡ pos (a * c + b * e) -ℤ pos 0
on_third a b c e = let f = neg_times (pos a) (neg_ℤ (pos c)) in let g = times_neg (pos a) (pos c) in
    let h = neg_times (pos b) (pos e) in omega (arith, ints, f, g, h)

off_second : (a b c e : ℕ) → cross_at (neg_ℤ (pos b)) (pos a) (pos c) (pos e) ≡ pos 0 -ℤ pos (b * e + a * c)
off_second a b c e = let f = neg_times (pos b) (pos e) in omega (arith, ints, f)

off_fourth : (a b c e : ℕ) → cross_at (pos b) (neg_ℤ (pos a)) (neg_ℤ (pos c)) (neg_ℤ (pos e))
    ≡ pos 0 -ℤ pos (b * e + a * c)
off_fourth a b c e = let f = times_neg (pos b) (pos e) in let g = neg_times (pos a) (neg_ℤ (pos c)) in
    let h = times_neg (pos a) (pos c) in omega (arith, ints, f, g, h)

some_product : (a b c e : ℕ) → 0 < a → 0 < c → nat_lt 0 (a * c + b * e) ≡ true
some_product a b c e h k = number_less_tested 0 (a * c + b * e)
    (let g = le_times 1 a c (omega (arith, h)) in omega (arith, g, k))

-- ---- together

tells_by : (d e : Point) (u v l : Bool) (x y : ℕ) → is_upper d ≡ u → is_upper e ≡ v → turns_left d e ≡ l → place_of d
    ≡ x → place_of e ≡ y → turns_by u v l ≡ nat_lt x y → turns_before d e ≡ nat_lt (place_of d) (place_of e)
unfolding turns_before
tells_by d e u v l x y hu hv hl hx hy h =
    ap (λ t. turns_by t (is_upper e) (turns_left d e)) hu ∙ ap (λ t. turns_by u t (turns_left d e)) hv
    ∙ ap (turns_by u v) hl ∙ h
    ∙ sym (ap (λ t. nat_lt t (place_of e)) hx ∙ ap (nat_lt x) hy)

shifted : (q m n : ℕ) → nat_lt (q + m) (q + n) ≡ nat_lt m n
shifted q m n = by_lt m n (λ lt. number_less_tested (q + m) (q + n) (omega (arith, lt))
    ∙ sym (number_less_tested m n lt)) (λ le. number_not_less (q + m) (q + n) (omega (arith, le))
    ∙ sym (number_not_less m n le))

tells : (d e : Point) → Quarter d → Quarter e → turns_before d e ≡ nat_lt (place_of d) (place_of e)
tells d e (first a b s h k) (first c f t i j) =
    tells_by d e true true (nat_lt (b * c) (f * a)) (part_of a b) (part_of c f)
    (upper_is d _ _ h k ∙ first_upper a b s.some) (upper_is e _ _ i j ∙ first_upper c f t.some)
    (left_is d e _ _ _ _ h k i j ∙ less_by _ (f * a) (b * c) (first_cross a b c f))
    (place_is d _ _ h k ∙ first_place a b s.some) (place_is e _ _ i j ∙ first_place c f t.some)
    (sym (part_tells a b c f s t))
tells d e (second a b s h k) (second c f t i j) =
    tells_by d e true true (nat_lt (b * c) (f * a)) (1099511627776 + part_of a b) (1099511627776 + part_of c f)
    (upper_is d _ _ h k ∙ second_upper a b s.some) (upper_is e _ _ i j ∙ second_upper c f t.some)
    (left_is d e _ _ _ _ h k i j ∙ less_by _ (f * a) (b * c) (second_cross a b c f))
    (place_is d _ _ h k ∙ second_place a b s.some) (place_is e _ _ i j ∙ second_place c f t.some)
    (sym (shifted 1099511627776 (part_of a b) (part_of c f) ∙ part_tells a b c f s t))
tells d e (third a b s h k) (third c f t i j) =
    tells_by d e false false (nat_lt (b * c) (f * a)) (2199023255552 + part_of a b) (2199023255552 + part_of c f)
    (upper_is d _ _ h k ∙ third_upper a b s.some) (upper_is e _ _ i j ∙ third_upper c f t.some)
    (left_is d e _ _ _ _ h k i j ∙ less_by _ (f * a) (b * c) (third_cross a b c f))
    (place_is d _ _ h k ∙ third_place a b s.some) (place_is e _ _ i j ∙ third_place c f t.some)
    (sym (shifted 2199023255552 (part_of a b) (part_of c f) ∙ part_tells a b c f s t))
tells d e (fourth a b s h k) (fourth c f t i j) =
    tells_by d e false false (nat_lt (b * c) (f * a)) (3298534883328 + part_of a b) (3298534883328 + part_of c f)
    (upper_is d _ _ h k ∙ fourth_upper a b s.some) (upper_is e _ _ i j ∙ fourth_upper c f t.some)
    (left_is d e _ _ _ _ h k i j ∙ less_by _ (f * a) (b * c) (fourth_cross a b c f))
    (place_is d _ _ h k ∙ fourth_place a b s.some) (place_is e _ _ i j ∙ fourth_place c f t.some)
    (sym (shifted 3298534883328 (part_of a b) (part_of c f) ∙ part_tells a b c f s t))
tells d e (first a b s h k) (second c f t i j) =
    tells_by d e true true true (part_of a b) (1099511627776 + part_of c f)
    (upper_is d _ _ h k ∙ first_upper a b s.some) (upper_is e _ _ i j ∙ second_upper c f t.some)
    (left_is d e _ _ _ _ h k i j ∙ less_by _ (a * c + b * f) 0 (on_first a b c f)
    ∙ some_product a b c f s.some t.some) (place_is d _ _ h k ∙ first_place a b s.some)
    (place_is e _ _ i j ∙ second_place c f t.some)
    (sym (number_less_tested _ _ (let g = part_below a b s in omega (arith, g))))
tells d e (second a b s h k) (first c f t i j) =
    tells_by d e true true false (1099511627776 + part_of a b) (part_of c f)
    (upper_is d _ _ h k ∙ second_upper a b s.some) (upper_is e _ _ i j ∙ first_upper c f t.some)
    (left_is d e _ _ _ _ h k i j ∙ less_by _ 0 (b * f + a * c) (off_second a b c f)
    ∙ number_not_less (b * f + a * c) 0 (omega arith)) (place_is d _ _ h k ∙ second_place a b s.some)
    (place_is e _ _ i j ∙ first_place c f t.some)
    (sym (number_not_less _ _ (let g = part_below c f t in omega (arith, g))))
tells d e (third a b s h k) (fourth c f t i j) =
    tells_by d e false false true (2199023255552 + part_of a b) (3298534883328 + part_of c f)
    (upper_is d _ _ h k ∙ third_upper a b s.some) (upper_is e _ _ i j ∙ fourth_upper c f t.some)
    (left_is d e _ _ _ _ h k i j ∙ less_by _ (a * c + b * f) 0 (on_third a b c f)
    ∙ some_product a b c f s.some t.some) (place_is d _ _ h k ∙ third_place a b s.some)
    (place_is e _ _ i j ∙ fourth_place c f t.some)
    (sym (number_less_tested _ _ (let g = part_below a b s in omega (arith, g))))
tells d e (fourth a b s h k) (third c f t i j) =
    tells_by d e false false false (3298534883328 + part_of a b) (2199023255552 + part_of c f)
    (upper_is d _ _ h k ∙ fourth_upper a b s.some) (upper_is e _ _ i j ∙ third_upper c f t.some)
    (left_is d e _ _ _ _ h k i j ∙ less_by _ 0 (b * f + a * c) (off_fourth a b c f)
    ∙ number_not_less (b * f + a * c) 0 (omega arith)) (place_is d _ _ h k ∙ fourth_place a b s.some)
    (place_is e _ _ i j ∙ third_place c f t.some)
    (sym (number_not_less _ _ (let g = part_below c f t in omega (arith, g))))
tells d e (first a b s h k) (third c f t i j) =
    tells_by d e true false (turns_left d e) (part_of a b) (2199023255552 + part_of c f)
    (upper_is d _ _ h k ∙ first_upper a b s.some) (upper_is e _ _ i j ∙ third_upper c f t.some) refl
    (place_is d _ _ h k ∙ first_place a b s.some) (place_is e _ _ i j ∙ third_place c f t.some)
    (sym (number_less_tested _ _ (let g = part_below a b s in omega (arith, g))))
tells d e (third a b s h k) (first c f t i j) =
    tells_by d e false true (turns_left d e) (2199023255552 + part_of a b) (part_of c f)
    (upper_is d _ _ h k ∙ third_upper a b s.some) (upper_is e _ _ i j ∙ first_upper c f t.some) refl
    (place_is d _ _ h k ∙ third_place a b s.some) (place_is e _ _ i j ∙ first_place c f t.some)
    (sym (number_not_less _ _ (let g = part_below c f t in omega (arith, g))))
tells d e (first a b s h k) (fourth c f t i j) =
    tells_by d e true false (turns_left d e) (part_of a b) (3298534883328 + part_of c f)
    (upper_is d _ _ h k ∙ first_upper a b s.some) (upper_is e _ _ i j ∙ fourth_upper c f t.some) refl
    (place_is d _ _ h k ∙ first_place a b s.some) (place_is e _ _ i j ∙ fourth_place c f t.some)
    (sym (number_less_tested _ _ (let g = part_below a b s in omega (arith, g))))
tells d e (fourth a b s h k) (first c f t i j) =
    tells_by d e false true (turns_left d e) (3298534883328 + part_of a b) (part_of c f)
    (upper_is d _ _ h k ∙ fourth_upper a b s.some) (upper_is e _ _ i j ∙ first_upper c f t.some) refl
    (place_is d _ _ h k ∙ fourth_place a b s.some) (place_is e _ _ i j ∙ first_place c f t.some)
    (sym (number_not_less _ _ (let g = part_below c f t in omega (arith, g))))
tells d e (second a b s h k) (third c f t i j) =
    tells_by d e true false (turns_left d e) (1099511627776 + part_of a b) (2199023255552 + part_of c f)
    (upper_is d _ _ h k ∙ second_upper a b s.some) (upper_is e _ _ i j ∙ third_upper c f t.some) refl
    (place_is d _ _ h k ∙ second_place a b s.some) (place_is e _ _ i j ∙ third_place c f t.some)
    (sym (number_less_tested _ _ (let g = part_below a b s in omega (arith, g))))
tells d e (third a b s h k) (second c f t i j) =
    tells_by d e false true (turns_left d e) (2199023255552 + part_of a b) (1099511627776 + part_of c f)
    (upper_is d _ _ h k ∙ third_upper a b s.some) (upper_is e _ _ i j ∙ second_upper c f t.some) refl
    (place_is d _ _ h k ∙ third_place a b s.some) (place_is e _ _ i j ∙ second_place c f t.some)
    (sym (number_not_less _ _ (let g = part_below c f t in omega (arith, g))))
tells d e (second a b s h k) (fourth c f t i j) =
    tells_by d e true false (turns_left d e) (1099511627776 + part_of a b) (3298534883328 + part_of c f)
    (upper_is d _ _ h k ∙ second_upper a b s.some) (upper_is e _ _ i j ∙ fourth_upper c f t.some) refl
    (place_is d _ _ h k ∙ second_place a b s.some) (place_is e _ _ i j ∙ fourth_place c f t.some)
    (sym (number_less_tested _ _ (let g = part_below a b s in omega (arith, g))))
tells d e (fourth a b s h k) (second c f t i j) =
    tells_by d e false true (turns_left d e) (3298534883328 + part_of a b) (1099511627776 + part_of c f)
    (upper_is d _ _ h k ∙ fourth_upper a b s.some) (upper_is e _ _ i j ∙ second_upper c f t.some) refl
    (place_is d _ _ h k ∙ fourth_place a b s.some) (place_is e _ _ i j ∙ second_place c f t.some)
    (sym (number_not_less _ _ (let g = part_below c f t in omega (arith, g))))

-- a direction comes before another exactly where its place is smaller
pub place_tells : (d e : Point) → IsDirection d → IsDirected d → IsDirection e → IsDirected e → turns_before d e
    ≡ nat_lt (place_of d) (place_of e)
place_tells d e d_in d_some e_in e_some = tells d e (quarter_of d d_in d_some) (quarter_of e e_in e_some)

-- ---- half a turn, and a whole one

upper_by : (d : Point) (up : Bool) (n : ℕ) → is_upper d ≡ up → place_of d ≡ n → up ≡ nat_lt n 2199023255552
    → is_upper d ≡ nat_lt (place_of d) 2199023255552
upper_by d up n h k e = h ∙ e ∙ ap (λ t. nat_lt t 2199023255552) (sym k)

half : (d : Point) → Quarter d → is_upper d ≡ nat_lt (place_of d) 2199023255552
half d (first a b s h k) =
    upper_by d true (part_of a b) (upper_is d _ _ h k ∙ first_upper a b s.some)
    (place_is d _ _ h k ∙ first_place a b s.some)
    (sym (number_less_tested _ _ (let g = part_below a b s in omega (arith, g))))
half d (second a b s h k) =
    upper_by d true (1099511627776 + part_of a b) (upper_is d _ _ h k ∙ second_upper a b s.some)
    (place_is d _ _ h k ∙ second_place a b s.some)
    (sym (number_less_tested _ _ (let g = part_below a b s in omega (arith, g))))
half d (third a b s h k) =
    upper_by d false (2199023255552 + part_of a b) (upper_is d _ _ h k ∙ third_upper a b s.some)
    (place_is d _ _ h k ∙ third_place a b s.some) (sym (number_not_less _ _ (omega arith)))
half d (fourth a b s h k) =
    upper_by d false (3298534883328 + part_of a b) (upper_is d _ _ h k ∙ fourth_upper a b s.some)
    (place_is d _ _ h k ∙ fourth_place a b s.some) (sym (number_not_less _ _ (omega arith)))

-- a direction is in the first half turn exactly where its place is below that of (-1,0)
pub half_turn : (d : Point) → IsDirection d → IsDirected d → is_upper d ≡ nat_lt (place_of d) 2199023255552
half_turn d d_in d_some = half d (quarter_of d d_in d_some)

below_by : (d : Point) (n : ℕ) → place_of d ≡ n → n < 4398046511104 → place_of d < 4398046511104
below_by d n e h = subst (λ t. t < 4398046511104) (sym e) h

whole : (d : Point) → Quarter d → place_of d < 4398046511104
whole d (first a b s h k) =
    below_by d (part_of a b) (place_is d _ _ h k ∙ first_place a b s.some)
    (let g = part_below a b s in omega (arith, g))
whole d (second a b s h k) =
    below_by d (1099511627776 + part_of a b) (place_is d _ _ h k ∙ second_place a b s.some)
    (let g = part_below a b s in omega (arith, g))
whole d (third a b s h k) =
    below_by d (2199023255552 + part_of a b) (place_is d _ _ h k ∙ third_place a b s.some)
    (let g = part_below a b s in omega (arith, g))
whole d (fourth a b s h k) =
    below_by d (3298534883328 + part_of a b) (place_is d _ _ h k ∙ fourth_place a b s.some)
    (let g = part_below a b s in omega (arith, g))

-- each place is below four quarter turns
pub whole_turn : (d : Point) → IsDirection d → IsDirected d → place_of d < 4398046511104
whole_turn d d_in d_some = whole d (quarter_of d d_in d_some)
