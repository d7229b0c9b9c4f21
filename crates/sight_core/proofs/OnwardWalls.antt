-- A wall or a screen, as a ray meets it from p and from a later point q of the ray that p sees.
--
-- The ray from q is the ray from p, one step later: it is across the same walls and meets their lines a step
-- earlier. So the hits agree but for those in the first step. A wall that is met within that step is crossed
-- properly, which sight excludes. Where it is met at its end, q lies on its middle; p then isn't left of it, so the
-- ray leads to its left, and begins there as seen from q.
use Rattle.std.proofs.Common.{◌≡◌, ◌≢◌, Bool, true, false, not, ◌&&◌, ◌||◌, ℤ, pos, neg_ℤ, ◌-ℤ◌, ◌*ℤ◌, ◌<ℤ◌, ◌≤ℤ◌, ◌⊎◌, inl, inr, refl, sym, ap, ◌∙◌, subst, arith}
use Rattle.std.specs.Prelude.{int_lt, int_le, Option, Some, None, if◌then◌else◌}
use Rattle.std.specs.Ordering.{int_eq}
use Rattle.std.proofs.lemmas.Int.{ints, by_lt_z}
use Rattle.std.proofs.lemmas.Bool.{and_parts, false_from_ne_true}
use Rattle.int_laws.proofs.Ring.{times_minus, minus_times, product_swapped, neg_times, times_neg, zero_times, times_zero, times_one}
use Rattle.int_laws.proofs.Signs.{positive_product, negative_product, not_negative_product, zero_factor, positive_tested, not_positive_tested, tested_positive, tested_not_positive}
use Rattle.int_laws.proofs.Tests.{tested_equal, equal_tested, same_test}
use Rattle.plane_spec.specs.declared.Point.{Point}
use Rattle.plane_spec.specs.declared.Segment.{Segment}
use Rattle.plane_spec.specs.Vectors.{vector, cross_of, orient_of, turns_left, is_left_of_line, same_point}
use Rattle.plane_spec.specs.Segments.{are_opposite, cross_properly, is_between, is_on_segment}
use Rattle.plane_spec.specs.Fractions.{Fraction, fraction, whole, is_before}
use Rattle.exact_geom.proofs.Orientation.{orient_of_cycled, orient_of_first_exchanged, orient_of_last_exchanged}
use Rattle.exact_geom.proofs.Lowest.{fraction_is_positive}
use Rattle.sight_spec.specs.Sight.{crosses, is_in_interior, starts_into_wall, starts_or_ends_in_wall}
use Rattle.sight_spec.specs.Stops.{is_across, wall_parameter, blocker_hit, start_hit}
use Rattle.sight_core.specs.Hits.{one_less}
use Rattle.sight_core.proofs.Sides.{parallel_x, parallel_y, flat_at, not_left_of_both, not_right_of_both}
use Rattle.sight_core.proofs.Widths.{width_is, across_apart}

-- a hit comes before f
abbrev pub is_earlier : Fraction → Option Fraction → Bool
is_earlier f None = false
is_earlier f (Some h) = is_before h f

-- a hit, one step earlier, comes before f
abbrev pub is_step_earlier : Fraction → Option Fraction → Bool
is_step_earlier f None = false
is_step_earlier f (Some h) = is_before (one_less h) f

-- ---- one step later

-- a point lies as far to the left of the ray, seen from its beginning or from a later point
pub left_of_later : (p q x : Point) → cross_of (vector p q) (vector q x) ≡ cross_of (vector p q) (vector p x)
left_of_later p q x =
    let one = times_minus (q.x -ℤ p.x) x.y q.y in
    let two = times_minus (q.y -ℤ p.y) x.x q.x in
    let three = times_minus (q.x -ℤ p.x) x.y p.y in
    let four = times_minus (q.y -ℤ p.y) x.x p.x in
    let five = minus_times q.x p.x q.y in
    let six = minus_times q.y p.y q.x in
    let seven = minus_times q.x p.x p.y in
    let eight = minus_times q.y p.y p.x in
    let nine = product_swapped q.x q.y in
    let ten = product_swapped p.x q.y in
    let eleven = product_swapped q.x p.y in
    let twelve = product_swapped p.x p.y in
    omega (arith, ints, one, two, three, four, five, six, seven, eight, nine, ten, eleven, twelve)

wall_parameter_denominator : Point → Point → Segment → ℤ
wall_parameter_denominator p q w = cross_of (vector p q) (vector p w.b) -ℤ cross_of (vector p q) (vector p w.a)

spread_is : (p : Point) (w : Segment) → cross_of (vector p w.a) (vector p w.b) ≡ orient_of w.a w.b p
spread_is p w = sym (orient_of_cycled p w.a w.b)

-- one step later, the triangle to the wall is smaller by its width
spread_later : (p q : Point) (w : Segment)
    → orient_of w.a w.b q ≡ orient_of w.a w.b p -ℤ cross_of (vector p q) (vector w.a w.b)
spread_later p q w =
    let u = w.b.x -ℤ w.a.x in
    let v = w.b.y -ℤ w.a.y in
    let one = times_minus u q.y w.a.y in
    let two = times_minus v q.x w.a.x in
    let three = times_minus u p.y w.a.y in
    let four = times_minus v p.x w.a.x in
    let five = minus_times q.x p.x v in
    let six = minus_times q.y p.y u in
    let seven = product_swapped q.x v in
    let eight = product_swapped q.y u in
    let nine = product_swapped p.x v in
    let ten = product_swapped p.y u in
    omega (arith, ints, one, two, three, four, five, six, seven, eight, nine, ten)

fraction_less : (n m w : ℤ) → m ≡ n -ℤ w → fraction m w ≡ one_less (fraction n w)
fraction_less n m w e = by_test (int_lt (pos 0) w)
  where
    by_test : (b : Bool) → (if b then record { num = m; den = w } else record { num = neg_ℤ m; den = neg_ℤ w })
        ≡ one_less (if b then record { num = n; den = w } else record { num = neg_ℤ n; den = neg_ℤ w })
    by_test true = ap (λ t. record { num = t; den = w }) e
    by_test false = let f : neg_ℤ m ≡ neg_ℤ n -ℤ neg_ℤ w = omega (arith, ints, e) in ap (λ t. record { num = t; den = neg_ℤ w }) f

across_later : (p q : Point) (w : Segment) → is_across q (vector p q) w ≡ is_across p (vector p q) w
across_later p q w = rw (left_of_later p q w.a, left_of_later p q w.b) refl

meeting_later : (p q : Point) (w : Segment) → wall_parameter q (vector p q) w ≡ one_less (wall_parameter p (vector p q) w)
meeting_later p q w =
    let n = cross_of (vector p w.a) (vector p w.b) in
    let m = cross_of (vector q w.a) (vector q w.b) in
    let wall_parameter_numerator = spread_later p q w in
    let here = spread_is p w in
    let there = spread_is q w in
    let wide = width_is p (vector p q) w in
    ap (λ t. fraction m (t -ℤ cross_of (vector p q) (vector q w.a))) (left_of_later p q w.b)
    ∙ ap (λ t. fraction m (cross_of (vector p q) (vector p w.b) -ℤ t)) (left_of_later p q w.a)
    ∙ fraction_less n m (cross_of (vector p q) (vector p w.b) -ℤ cross_of (vector p q) (vector p w.a))
    (omega (arith, ints, wall_parameter_numerator, here, there, wide))

-- ---- q on the middle of a wall

-- two numbers on different sides of 0, which may be 0
abbrev AreApart : ℤ → ℤ → Type 0
AreApart m n = ((m ≤ℤ pos 0) × (pos 0 ≤ℤ n)) ⊎ ((n ≤ℤ pos 0) × (pos 0 ≤ℤ m))

-- m and n are on different sides where multiples of different signs agree
apart_by : (s r m n : ℤ) → pos 0 <ℤ s → r <ℤ pos 0 → s *ℤ n ≡ r *ℤ m → AreApart m n
apart_by s r m n hs hr e =
    by_lt_z (pos 0) m
    (λ up.
    let less = negative_product r m hr up in
    inr (
      (by_lt_z (pos 0) n (λ n_up. let more = positive_product s n hs n_up in absurd (omega (arith, ints, less, more, e))) (λ n_down. n_down)),
      omega (arith, ints, up),
    ))
    (λ down.
    let more = not_negative_product (neg_ℤ r) (neg_ℤ m) (omega (arith, ints, hr)) (omega (arith, ints, down)) in
    let one = neg_times r (neg_ℤ m) in
    let two = times_neg r m in
    inl (
      down,
      by_lt_z n (pos 0)
          (λ n_down. let less = negative_product n s n_down hs in let three = product_swapped n s in absurd (omega (arith, ints, less, more, one, two, three, e)))
          (λ n_up. n_up),
    ))

between_apart : (m a b : ℤ) → AreApart (a -ℤ m) (b -ℤ m) → is_between m a b ≡ true
between_apart m a b (inl h) = let one = h.0 in let two = h.1 in grind (arith, ints)
between_apart m a b (inr h) = let one = h.0 in let two = h.1 in grind (arith, ints)

opposite_cases : (s r : ℤ) → are_opposite s r ≡ true → ((pos 0 <ℤ s) × (r <ℤ pos 0)) ⊎ ((pos 0 <ℤ r) × (s <ℤ pos 0))
opposite_cases s r h = grind (arith, ints)

apart_either : (s r m n : ℤ) → are_opposite s r ≡ true → s *ℤ n ≡ r *ℤ m → AreApart m n
apart_either s r m n h e = by_case (opposite_cases s r h)
  where
    turned : AreApart n m → AreApart m n
    turned (inl k) = inr k
    turned (inr k) = inl k

    by_case : ((pos 0 <ℤ s) × (r <ℤ pos 0)) ⊎ ((pos 0 <ℤ r) × (s <ℤ pos 0)) → AreApart m n
    by_case (inl k) = apart_by s r m n k.0 k.1 e
    by_case (inr k) = turned (apart_by r s n m k.0 k.1 (sym e))

-- seen from q, the ends of a wall across a ray through q that lies on the wall's line are on both sides of q
on_wall : (q : Point) (d : Point) (w : Segment) → is_across q d w ≡ true → orient_of w.a w.b q ≡ pos 0
    → is_on_segment q w.a w.b ≡ true
unfolding is_on_segment
on_wall q d w across straight =
    let flat = flat_at q w.a w.b straight in
    let s = cross_of d (vector q w.a) in
    let r = cross_of d (vector q w.b) in
    let x = parallel_x d.x d.y (w.a.x -ℤ q.x) (w.a.y -ℤ q.y) (w.b.x -ℤ q.x) (w.b.y -ℤ q.y) flat in
    let y = parallel_y d.x d.y (w.a.x -ℤ q.x) (w.a.y -ℤ q.y) (w.b.x -ℤ q.x) (w.b.y -ℤ q.y) flat in
    let x_is = between_apart q.x w.a.x w.b.x (apart_either s r (w.a.x -ℤ q.x) (w.b.x -ℤ q.x) across x) in
    let y_is = between_apart q.y w.a.y w.b.y (apart_either s r (w.a.y -ℤ q.y) (w.b.y -ℤ q.y) across y) in
    rw (equal_tested (orient_of w.a w.b q) (pos 0) straight, x_is, y_is) refl

none_left_of_itself : (d q x : Point) → same_point q x ≡ true → cross_of d (vector q x) ≡ pos 0
none_left_of_itself d q x h =
    let parts = and_parts (int_eq q.x x.x) (int_eq q.y x.y) h in
    let one = tested_equal q.x x.x parts.0 in
    let two = tested_equal q.y x.y parts.1 in
    let dx : x.x -ℤ q.x ≡ pos 0 = omega (arith, ints, one) in
    let dy : x.y -ℤ q.y ≡ pos 0 = omega (arith, ints, two) in
    let three = times_zero d.x in
    let four = times_zero d.y in
    rw (dx, dy) (omega (arith, ints, three, four))

opposite_some : (s r : ℤ) → are_opposite s r ≡ true → (s ≢ pos 0) × (r ≢ pos 0)
opposite_some s r h = (λ e. grind (arith, ints), λ e. grind (arith, ints))

-- so q is on its middle
on_middle : (q d : Point) (w : Segment) → is_across q d w ≡ true → orient_of w.a w.b q ≡ pos 0 → is_in_interior q w ≡ true
on_middle q d w across straight =
    let nonzero = opposite_some (cross_of d (vector q w.a)) (cross_of d (vector q w.b)) across in
    let a = false_from_ne_true (same_point q w.a) (λ e. nonzero.0 (none_left_of_itself d q w.a e)) in
    let b = false_from_ne_true (same_point q w.b) (λ e. nonzero.1 (none_left_of_itself d q w.b e)) in
    rw (on_wall q d w across straight, a, b) refl

-- ---- what a wall's own direction says

turn_is : (p q : Point) (w : Segment)
    → cross_of (vector w.a w.b) (vector p q) ≡ orient_of w.a w.b q -ℤ orient_of w.a w.b p
turn_is p q w =
    let later = spread_later p q w in
    let one = product_swapped (w.b.x -ℤ w.a.x) (q.y -ℤ p.y) in
    let two = product_swapped (w.b.y -ℤ w.a.y) (q.x -ℤ p.x) in
    omega (arith, ints, later, one, two)

middle_is_straight : (q : Point) (w : Segment) → is_in_interior q w ≡ true → orient_of w.a w.b q ≡ pos 0
unfolding is_on_segment
middle_is_straight q w h =
    let on = (and_parts (is_on_segment q w.a w.b) (not (same_point q w.a) && not (same_point q w.b)) h).0 in
    tested_equal (orient_of w.a w.b q) (pos 0)
    (and_parts (int_eq (orient_of w.a w.b q) (pos 0)) (is_between q.x w.a.x w.b.x && is_between q.y w.a.y w.b.y) on).0

-- p doesn't begin on the wall with the ray to its left, since q isn't left of it then
no_start : (p q : Point) (w : Segment) → starts_into_wall p q w ≡ false
    → (is_in_interior p w && turns_left (vector w.a w.b) (vector p q)) ≡ false
unfolding starts_into_wall
no_start p q w h =
    false_from_ne_true (is_in_interior p w && turns_left (vector w.a w.b) (vector p q)) (λ e.
    let parts = and_parts (is_in_interior p w) (turns_left (vector w.a w.b) (vector p q)) e in
    let straight = middle_is_straight p w parts.0 in
    let turn = turn_is p q w in
    let up = tested_positive (cross_of (vector w.a w.b) (vector p q)) parts.1 in
    let left : is_left_of_line w.a w.b q ≡ true = positive_tested (orient_of w.a w.b q) (omega (arith, ints, up, straight, turn)) in
    let both : (is_in_interior p w && is_left_of_line w.a w.b q) ≡ true = rw (parts.0, left) refl in
    cc)

-- ---- hits of the line

abbrev hit_by : Bool → Fraction → Option Fraction
hit_by across m = if across && int_lt (pos 0) m.num then Some m else None

hit_is : (p d : Point) (w : Segment) → blocker_hit p d w ≡ hit_by (is_across p d w) (wall_parameter p d w)
unfolding blocker_hit
hit_is p d w = refl

hit_later : (p q : Point) (w : Segment)
    → blocker_hit q (vector p q) w ≡ hit_by (is_across p (vector p q) w) (one_less (wall_parameter p (vector p q) w))
hit_later p q w =
    hit_is q (vector p q) w
    ∙ ap (λ t. hit_by t (wall_parameter q (vector p q) w)) (across_later p q w)
    ∙ ap (λ t. hit_by (is_across p (vector p q) w) t) (meeting_later p q w)

same_order : (m f : Fraction) → pos 1 ≤ℤ m.den → (pos 0 <ℤ m.num → m.den <ℤ m.num)
    → is_earlier f (hit_by true (one_less m)) ≡ is_step_earlier f (hit_by true m)
same_order m f up past = by_tests (int_lt (pos 0) m.num) (int_lt (pos 0) (m.num -ℤ m.den)) refl refl
  where
    by_tests : (b c : Bool) → int_lt (pos 0) m.num ≡ b → int_lt (pos 0) (m.num -ℤ m.den) ≡ c
        → is_earlier f (if c then Some (one_less m) else None) ≡ is_step_earlier f (if b then Some m else None)
    by_tests true true d e = refl
    by_tests false false d e = refl
    by_tests false true d e = absurd (omega (arith, ints, d, e, up))
    by_tests true false d e = let more = past (omega (arith, ints, d)) in absurd (omega (arith, ints, e, more))

-- a line that isn't crossed properly isn't met within the first step
abbrev signed : Bool → ℤ → ℤ → Fraction
signed b n w = if b then record { num = n; den = w } else record { num = neg_ℤ n; den = neg_ℤ w }

not_within : (n w : ℤ) → w ≢ pos 0 → are_opposite n (n -ℤ w) ≡ false → pos 0 <ℤ (fraction n w).num
    → (fraction n w).den ≤ℤ (fraction n w).num
not_within n w nonzero apart = by_test (int_lt (pos 0) w) refl
  where
    by_test : (b : Bool) → int_lt (pos 0) w ≡ b → pos 0 <ℤ (signed b n w).num → (signed b n w).den ≤ℤ (signed b n w).num
    by_test true e up = by_lt_z n w (λ less. absurd (grind (arith, ints))) (λ k. k)
    by_test false e up = by_lt_z w n (λ less. absurd (grind (arith, ints))) (λ k. omega (arith, ints, k))

met_at_end : (n w : ℤ) → (fraction n w).num ≡ (fraction n w).den → n ≡ w
met_at_end n w = by_test (int_lt (pos 0) w)
  where
    by_test : (b : Bool) → (signed b n w).num ≡ (signed b n w).den → n ≡ w
    by_test true e = e
    by_test false e = omega (arith, ints, e)

ends_at_one : (n w : ℤ) → n ≡ w → (fraction n w).num ≡ (fraction n w).den
ends_at_one n w e = by_test (int_lt (pos 0) w)
  where
    by_test : (b : Bool) → (signed b n w).num ≡ (signed b n w).den
    by_test true = e
    by_test false = ap neg_ℤ e

abbrev wide : Point → Point → Segment → ℤ
wide p q w = cross_of (vector p q) (vector p w.b) -ℤ cross_of (vector p q) (vector p w.a)

-- the triangle to the wall, one step later, by the width of the wall
triangle_later : (p q : Point) (w : Segment)
    → orient_of w.a w.b q ≡ cross_of (vector p w.a) (vector p w.b) -ℤ wide p q w
triangle_later p q w =
    let one = spread_later p q w in
    let two = width_is p (vector p q) w in
    let three = spread_is p w in
    omega (arith, ints, one, two, three)

first_false : (x y : Bool) → (x && y) ≡ false → y ≡ true → x ≡ false
first_false true true h k = h
first_false true false h k = cc
first_false false y h k = refl

-- a line that isn't crossed properly, and is across, is met after the first step, or at its end
met_later : (p q : Point) (w : Segment) → crosses p q w ≡ false → is_across p (vector p q) w ≡ true
    → pos 0 <ℤ (wall_parameter p (vector p q) w).num → (wall_parameter p (vector p q) w).den ≤ℤ (wall_parameter p (vector p q) w).num
unfolding cross_properly
met_later p q w uncrossed across ahead =
    let n = cross_of (vector p w.a) (vector p w.b) in
    let raw : are_opposite (orient_of w.a w.b p) (orient_of w.a w.b q) ≡ false =
    first_false (are_opposite (orient_of w.a w.b p) (orient_of w.a w.b q)) (is_across p (vector p q) w) uncrossed across in
    let apart : are_opposite n (n -ℤ wide p q w) ≡ false =
    subst (λ t. are_opposite t (n -ℤ wide p q w) ≡ false) (sym (spread_is p w))
    (subst (λ t. are_opposite (orient_of w.a w.b p) t ≡ false) (triangle_later p q w) raw) in
    not_within n (wide p q w) (across_apart p (vector p q) w across) apart ahead

-- where it is met at the end of the first step, q is on its line
straight_at_end : (p q : Point) (w : Segment) → (wall_parameter p (vector p q) w).num ≡ (wall_parameter p (vector p q) w).den
    → orient_of w.a w.b q ≡ pos 0
straight_at_end p q w e =
    let same = met_at_end (cross_of (vector p w.a) (vector p w.b)) (wide p q w) e in
    let later = triangle_later p q w in
    omega (arith, ints, same, later)

-- a line on whose middle q isn't is met alike from both
pub line_onward : (p q : Point) (w : Segment) (f : Fraction) → crosses p q w ≡ false
    → (is_across p (vector p q) w ≡ true → orient_of w.a w.b q ≡ pos 0 → ⊥)
    → is_earlier f (blocker_hit q (vector p q) w) ≡ is_step_earlier f (blocker_hit p (vector p q) w)
line_onward p q w f uncrossed off = rw (hit_later p q w, hit_is p (vector p q) w) (by_across (is_across p (vector p q) w) refl)
  where
    m : Fraction
    m = wall_parameter p (vector p q) w

    by_across : (b : Bool) → is_across p (vector p q) w ≡ b
        → is_earlier f (hit_by b (one_less m)) ≡ is_step_earlier f (hit_by b m)
    by_across false e = refl
    by_across true e =
        let up = fraction_is_positive (cross_of (vector p w.a) (vector p w.b)) (wide p q w) (across_apart p (vector p q) w e) in
        same_order m f up (λ ahead. by_lt_z m.den m.num (λ k. k) (λ k.
        let least = met_later p q w uncrossed e ahead in
        absurd (off e (straight_at_end p q w (omega (arith, ints, k, least))))))

-- a screen
pub screen_onward : (p q : Point) (w : Segment) (f : Fraction) → crosses p q w ≡ false → is_in_interior q w ≡ false
    → is_earlier f (blocker_hit q (vector p q) w) ≡ is_step_earlier f (blocker_hit p (vector p q) w)
screen_onward p q w f uncrossed off =
    line_onward p q w f uncrossed (λ across straight.
    let on = on_middle q (vector p q) w (across_later p q w ∙ across) straight in cc)

-- ---- a wall, with the ray's beginning on it

abbrev start_by : Bool → Option Fraction
start_by b = if b then Some (whole (pos 0)) else None

start_is : (p d : Point) (w : Segment) → start_hit p d w ≡ start_by (is_in_interior p w && turns_left (vector w.a w.b) d)
unfolding start_hit
start_is p d w = refl

same_from : (q x : Point) → x.x -ℤ q.x ≡ pos 0 → x.y -ℤ q.y ≡ pos 0 → same_point q x ≡ true
same_from q x h k =
    rw (equal_tested q.x x.x (omega (arith, ints, h)), equal_tested q.y x.y (omega (arith, ints, k))) refl

opposite_from : (s r : ℤ) → pos 0 <ℤ s → r <ℤ pos 0 → are_opposite s r ≡ true
opposite_from s r h k = grind (arith, ints)

-- a ray that begins on the middle of a wall and leads to its left has the wall's ends on both sides
start_is_across : (q d : Point) (w : Segment) → is_in_interior q w ≡ true → turns_left (vector w.a w.b) d ≡ true
    → is_across q d w ≡ true
start_is_across q d w middle left =
    by_lt_z (pos 0) s
    (λ s_up. by_lt_z r (pos 0) (λ r_down. opposite_from s r s_up r_down) (λ r_up. absurd (none_right s_up r_up)))
    (λ s_down. absurd (none_left s_down))
  where
    s : ℤ
    s = cross_of d (vector q w.a)

    r : ℤ
    r = cross_of d (vector q w.b)

    parts : (is_on_segment q w.a w.b ≡ true) × ((not (same_point q w.a) && not (same_point q w.b)) ≡ true)
    parts = and_parts (is_on_segment q w.a w.b) (not (same_point q w.a) && not (same_point q w.b)) middle

    apart : (not (same_point q w.a) ≡ true) × (not (same_point q w.b) ≡ true)
    apart = and_parts (not (same_point q w.a)) (not (same_point q w.b)) parts.1

    flat : (w.b.x -ℤ q.x) *ℤ (w.a.y -ℤ q.y) -ℤ (w.b.y -ℤ q.y) *ℤ (w.a.x -ℤ q.x) ≡ pos 0
    flat = flat_at q w.a w.b (middle_is_straight q w middle)

    x_alike : s *ℤ (w.b.x -ℤ q.x) ≡ r *ℤ (w.a.x -ℤ q.x)
    x_alike = parallel_x d.x d.y (w.a.x -ℤ q.x) (w.a.y -ℤ q.y) (w.b.x -ℤ q.x) (w.b.y -ℤ q.y) flat

    y_alike : s *ℤ (w.b.y -ℤ q.y) ≡ r *ℤ (w.a.y -ℤ q.y)
    y_alike = parallel_y d.x d.y (w.a.x -ℤ q.x) (w.a.y -ℤ q.y) (w.b.x -ℤ q.x) (w.b.y -ℤ q.y) flat

    -- b lies to the right of a
    falls : r <ℤ s
    falls =
        let up = tested_positive (cross_of (vector w.a w.b) d) left in
        let wide_is = width_is q d w in
        let one = product_swapped (w.b.x -ℤ w.a.x) d.y in
        let two = product_swapped (w.b.y -ℤ w.a.y) d.x in
        omega (arith, ints, up, wide_is, one, two)

    none_at : (x : Point) (k t : ℤ) → pos 0 <ℤ k → (x.x -ℤ q.x) *ℤ k ≡ pos 0 → (x.y -ℤ q.y) *ℤ k ≡ pos 0
        → not (same_point q x) ≡ true → ⊥
    none_at x k t up h g other =
        let same = same_from q x (zero_factor (x.x -ℤ q.x) k h up) (zero_factor (x.y -ℤ q.y) k g up) in
        let both : not (same_point q x) ≡ false = ap not same in
        cc

    none_right : pos 0 <ℤ s → pos 0 ≤ℤ r → ⊥
    none_right s_up r_up =
        by_lt_z (pos 0) r (λ r_some. not_left_of_both q w.a w.b d.x d.y parts.0 s_up r_some)
        (λ r_down.
        let none : r ≡ pos 0 = omega (arith, ints, r_up, r_down) in
        let zx = ap (λ t. t *ℤ (w.a.x -ℤ q.x)) none ∙ zero_times (w.a.x -ℤ q.x) in
        let zy = ap (λ t. t *ℤ (w.a.y -ℤ q.y)) none ∙ zero_times (w.a.y -ℤ q.y) in
        none_at w.b s s s_up (product_swapped (w.b.x -ℤ q.x) s ∙ x_alike ∙ zx) (product_swapped (w.b.y -ℤ q.y) s ∙ y_alike ∙ zy) apart.1)

    none_left : s ≤ℤ pos 0 → ⊥
    none_left s_down =
        by_lt_z s (pos 0) (λ s_some. not_right_of_both q w.a w.b d.x d.y parts.0 s_some (omega (arith, ints, s_some, falls)))
        (λ s_up.
        let none : s ≡ pos 0 = omega (arith, ints, s_up, s_down) in
        let r_down : pos 0 <ℤ neg_ℤ r = omega (arith, ints, falls, none) in
        let zx = sym x_alike ∙ ap (λ t. t *ℤ (w.b.x -ℤ q.x)) none ∙ zero_times (w.b.x -ℤ q.x) in
        let zy = sym y_alike ∙ ap (λ t. t *ℤ (w.b.y -ℤ q.y)) none ∙ zero_times (w.b.y -ℤ q.y) in
        let nx = times_neg (w.a.x -ℤ q.x) r in
        let ny = times_neg (w.a.y -ℤ q.y) r in
        let sx = product_swapped (w.a.x -ℤ q.x) r in
        let sy = product_swapped (w.a.y -ℤ q.y) r in
        none_at w.a (neg_ℤ r) r r_down (omega (arith, ints, zx, nx, sx)) (omega (arith, ints, zy, ny, sy)) apart.0)

or_parts : (x y : Bool) → (x || y) ≡ false → (x ≡ false) × (y ≡ false)
or_parts true y h = cc
or_parts false y h = (refl, h)

or_none : (x : Bool) → (x || false) ≡ x
or_none true = refl
or_none false = refl

-- 0 comes before f whatever it stands over
zero_order : (g f : Fraction) → g.num ≡ pos 0 → pos 1 ≤ℤ g.den → is_before (whole (pos 0)) f ≡ is_before g f
zero_order g f e up =
    ap (λ t. int_lt t (f.num *ℤ pos 1)) (zero_times f.den)
    ∙ ap (λ t. int_lt (pos 0) t) (times_one f.num)
    ∙ sym (same_test (pos 0) f.num g.den up)
    ∙ ap (λ t. int_lt t (f.num *ℤ g.den)) (zero_times g.den ∙ sym (zero_times f.den) ∙ ap (λ t. t *ℤ f.den) (sym e))

-- the ray from p doesn't begin on the wall
start_of_p : (p q : Point) (w : Segment) (f : Fraction) → starts_into_wall p q w ≡ false
    → is_step_earlier f (start_hit p (vector p q) w) ≡ false
start_of_p p q w f h = ap (is_step_earlier f) (start_is p (vector p q) w ∙ ap start_by (no_start p q w h))

-- where q isn't on the wall's line, or the wall isn't across, the ray from q doesn't begin on it either
no_start_of_q : (p q : Point) (w : Segment) (f : Fraction)
    → (is_across p (vector p q) w ≡ true → orient_of w.a w.b q ≡ pos 0 → ⊥)
    → is_earlier f (start_hit q (vector p q) w) ≡ false
no_start_of_q p q w f off =
    let none : (is_in_interior q w && turns_left (vector w.a w.b) (vector p q)) ≡ false =
    false_from_ne_true (is_in_interior q w && turns_left (vector w.a w.b) (vector p q)) (λ e.
    let parts = and_parts (is_in_interior q w) (turns_left (vector w.a w.b) (vector p q)) e in
    off (sym (across_later p q w) ∙ start_is_across q (vector p q) w parts.0 parts.1) (middle_is_straight q w parts.0)) in
    ap (is_earlier f) (start_is q (vector p q) w ∙ ap start_by none)

-- where it is, the ray from q begins on it exactly where the ray from p ends
start_of_q : (p q : Point) (w : Segment) → starts_into_wall q p w ≡ false → is_across p (vector p q) w ≡ true
    → orient_of w.a w.b q ≡ pos 0
    → start_hit q (vector p q) w ≡ Some (whole (pos 0))
unfolding starts_into_wall
start_of_q p q w h across straight =
    let middle = on_middle q (vector p q) w (across_later p q w ∙ across) straight in
    let not_left : is_left_of_line w.a w.b p ≡ false = sym (ap (λ t. t && is_left_of_line w.a w.b p) middle) ∙ h in
    let right = tested_not_positive (orient_of w.a w.b p) not_left in
    let nonzero = across_apart p (vector p q) w across in
    let later = triangle_later p q w in
    let wall_parameter_numerator = spread_is p w in
    let turn = turn_is p q w in
    let up : pos 0 <ℤ cross_of (vector w.a w.b) (vector p q) =
    by_lt_z (pos 0) (cross_of (vector w.a w.b) (vector p q)) (λ k. k)
    (λ k. absurd (nonzero (omega (arith, ints, right, later, wall_parameter_numerator, turn, straight, k)))) in
    let left = positive_tested (cross_of (vector w.a w.b) (vector p q)) up in
    start_is q (vector p q) w ∙ ap start_by (ap (λ t. t && turns_left (vector w.a w.b) (vector p q)) middle ∙ left)

-- a wall
pub wall_onward : (p q : Point) (w : Segment) (f : Fraction) → crosses p q w ≡ false → starts_or_ends_in_wall p q w ≡ false
    → (is_earlier f (blocker_hit q (vector p q) w) || is_earlier f (start_hit q (vector p q) w))
    ≡ (is_step_earlier f (blocker_hit p (vector p q) w) || is_step_earlier f (start_hit p (vector p q) w))
wall_onward p q w f uncrossed unentered = by_place (is_across p (vector p q) w) (int_eq (orient_of w.a w.b q) (pos 0)) refl refl
  where
    m : Fraction
    m = wall_parameter p (vector p q) w

    leaves : (starts_into_wall p q w ≡ false) × (starts_into_wall q p w ≡ false)
    leaves = or_parts (starts_into_wall p q w) (starts_into_wall q p w) unentered

    apart : (is_across p (vector p q) w ≡ true → orient_of w.a w.b q ≡ pos 0 → ⊥)
        → (is_earlier f (blocker_hit q (vector p q) w) || is_earlier f (start_hit q (vector p q) w))
        ≡ (is_step_earlier f (blocker_hit p (vector p q) w) || is_step_earlier f (start_hit p (vector p q) w))
    apart off = rw (line_onward p q w f uncrossed off, no_start_of_q p q w f off, start_of_p p q w f leaves.0) refl

    by_place : (b c : Bool) → is_across p (vector p q) w ≡ b → int_eq (orient_of w.a w.b q) (pos 0) ≡ c
        → (is_earlier f (blocker_hit q (vector p q) w) || is_earlier f (start_hit q (vector p q) w))
        ≡ (is_step_earlier f (blocker_hit p (vector p q) w) || is_step_earlier f (start_hit p (vector p q) w))
    by_place false c d e = apart (λ across straight. cc)
    by_place true false d e = apart (λ across straight. let on = equal_tested (orient_of w.a w.b q) (pos 0) straight in cc)
    by_place true true d e =
        let straight = tested_equal (orient_of w.a w.b q) (pos 0) e in
        let later = triangle_later p q w in
        let up = fraction_is_positive (cross_of (vector p w.a) (vector p w.b)) (wide p q w) (across_apart p (vector p q) w d) in
        let one = ends_at_one (cross_of (vector p w.a) (vector p w.b)) (wide p q w) (omega (arith, ints, straight, later)) in
        let none : int_lt (pos 0) (m.num -ℤ m.den) ≡ false = not_positive_tested (m.num -ℤ m.den) (omega (arith, ints, one)) in
        let nonzero : int_lt (pos 0) m.num ≡ true = positive_tested m.num (omega (arith, ints, one, up)) in
        let there : blocker_hit q (vector p q) w ≡ None =
        hit_later p q w ∙ ap (λ t. hit_by t (one_less m)) d ∙ ap (λ t. if t then Some (one_less m) else None) none in
        let here : blocker_hit p (vector p q) w ≡ Some m =
        hit_is p (vector p q) w ∙ ap (λ t. hit_by t m) d ∙ ap (λ t. if t then Some m else None) nonzero in
        rw (there, start_of_q p q w leaves.1 d straight, here, start_of_p p q w f leaves.0)
        (zero_order (one_less m) f (omega (arith, ints, one)) up ∙ sym (or_none (is_before (one_less m) f)))
