-- The sum of what is passed of the table is the turn.
use Rattle.std.proofs.Common.{◌≡◌, ◌+◌, ℕ, pos, neg_ℤ, Bool, true, false, cond, List, ◌∷◌, refl, ap, ◌∙◌, arith, count_by}
use Rattle.std.specs.Prelude.{int_le}
use Rattle.std.specs.List.{sum_by}
use Rattle.std.proofs.lemmas.List.Sums.{sum_by-cons}
use Rattle.std.proofs.lemmas.List.Recursion.{is_count_by}
use Rattle.plane_spec.specs.declared.Point.{Point}
use Rattle.plane_spec.specs.Vectors.{cross_of, point}
use Rattle.route_spec.specs.Routes.{turn_table, turn_by, turn_of, relative_direction, is_straight_back}

passes : Point → Point → Bool
passes r t = int_le (pos 0) (cross_of t r)

abbrev one : Point → Point → ℕ
one r t = cond (int_le (pos 0) (cross_of t r)) 1 0

step_of_sum : (r t : Point) (ts : List Point)
    → sum_by (one r) (t ∷ ts) ≡ cond (int_le (pos 0) (cross_of t r)) (1 + sum_by (one r) ts) (sum_by (one r) ts)
step_of_sum r t ts = sum_by-cons (one r) t ts ∙ by_test (int_le (pos 0) (cross_of t r))
  where
    by_test : (b : Bool) → cond b 1 0 + sum_by (one r) ts ≡ cond b (1 + sum_by (one r) ts) (sum_by (one r) ts)
    by_test true = refl
    by_test false = omega arith

count_is_sum : (r : Point) (ts : List Point) → sum_by (one r) ts ≡ count_by (λ t. int_le (pos 0) (cross_of t r)) ts
count_is_sum r ts = is_count_by (sum_by (one r)) (λ t. int_le (pos 0) (cross_of t r)) refl (step_of_sum r) ts

pub turn_is : (d e : Point) (r : Point) (back : ℕ) (p1 p2 p3 p4 p5 p6 p7 p8 p9 p10 p11 p12 p13 p14 p15 : ℕ)
    → r ≡ relative_direction d e
    → p1 ≡ cond (int_le (pos 0) (cross_of (point (pos 981) (pos 195)) r)) 1 0
    → p2 ≡ cond (int_le (pos 0) (cross_of (point (pos 924) (pos 383)) r)) 1 0
    → p3 ≡ cond (int_le (pos 0) (cross_of (point (pos 831) (pos 556)) r)) 1 0
    → p4 ≡ cond (int_le (pos 0) (cross_of (point (pos 707) (pos 707)) r)) 1 0
    → p5 ≡ cond (int_le (pos 0) (cross_of (point (pos 556) (pos 831)) r)) 1 0
    → p6 ≡ cond (int_le (pos 0) (cross_of (point (pos 383) (pos 924)) r)) 1 0
    → p7 ≡ cond (int_le (pos 0) (cross_of (point (pos 195) (pos 981)) r)) 1 0
    → p8 ≡ cond (int_le (pos 0) (cross_of (point (pos 0) (pos 1000)) r)) 1 0
    → p9 ≡ cond (int_le (pos 0) (cross_of (point (neg_ℤ (pos 195)) (pos 981)) r)) 1 0
    → p10 ≡ cond (int_le (pos 0) (cross_of (point (neg_ℤ (pos 383)) (pos 924)) r)) 1 0
    → p11 ≡ cond (int_le (pos 0) (cross_of (point (neg_ℤ (pos 556)) (pos 831)) r)) 1 0
    → p12 ≡ cond (int_le (pos 0) (cross_of (point (neg_ℤ (pos 707)) (pos 707)) r)) 1 0
    → p13 ≡ cond (int_le (pos 0) (cross_of (point (neg_ℤ (pos 831)) (pos 556)) r)) 1 0
    → p14 ≡ cond (int_le (pos 0) (cross_of (point (neg_ℤ (pos 924)) (pos 383)) r)) 1 0
    → p15 ≡ cond (int_le (pos 0) (cross_of (point (neg_ℤ (pos 981)) (pos 195)) r)) 1 0
    → back ≡ cond (is_straight_back r) 1 0
    → p1 + p2 + p3 + p4 + p5 + (p6 + p7 + p8 + p9 + p10) + (p11 + p12 + p13 + p14 + p15) + back ≡ turn_of d e
unfolding turn_of
turn_is d e r back p1 p2 p3 p4 p5 p6 p7 p8 p9 p10 p11 p12 p13 p14 p15 is h1 h2 h3 h4 h5 h6 h7 h8 h9 h10 h11 h12 h13
    h14 h15 b =
    let table : sum_by (one r) turn_table ≡ 0 + one r (point (pos 981) (pos 195)) + one r (point (pos 924)
    (pos 383)) + one r (point (pos 831) (pos 556)) + one r (point (pos 707) (pos 707)) + one r (point (pos 556)
    (pos 831)) + one r (point (pos 383) (pos 924)) + one r (point (pos 195) (pos 981)) + one r (point (pos 0)
    (pos 1000)) + one r (point (neg_ℤ (pos 195)) (pos 981)) + one r (point (neg_ℤ (pos 383)) (pos 924)) + one r
    (point (neg_ℤ (pos 556)) (pos 831)) + one r (point (neg_ℤ (pos 707)) (pos 707)) + one r (point (neg_ℤ
    (pos 831)) (pos 556)) + one r (point (neg_ℤ (pos 924)) (pos 383)) + one r (point (neg_ℤ (pos 981))
    (pos 195)) = refl in
    let sum : p1 + p2 + p3 + p4 + p5 + (p6 + p7 + p8 + p9 + p10) + (p11 + p12 + p13 + p14 + p15) + back
    ≡ sum_by (one r) turn_table + cond (is_straight_back r) 1 0 =
    omega (arith, table, b, h1, h2, h3, h4, h5, h6, h7, h8, h9, h10, h11, h12, h13, h14, h15) in
    sum ∙ ap (λ n. n + cond (is_straight_back r) 1 0) (count_is_sum r turn_table) ∙ ap turn_by is
