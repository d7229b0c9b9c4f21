-- Points near others in a plane that is enlarged, and what holds of them from some enlargement on.
use Rattle.std.specs.Prelude.{List, [], ◌∷◌, unsigned_abs}
use Rattle.std.proofs.Common.{ℕ, ◌<◌, arith, ◌+◌, inl, inr, refl, subst, pos, ℤ, ◌≡◌, ◌<ℤ◌, ◌+ℤ◌, ◌*ℤ◌, ap, ◌∙◌, ◌-ℤ◌}
use Rattle.std.proofs.lemmas.Int.{ints}
use borrow.Author.Differences.{down, up}
use Rattle.int_laws.proofs.Signs.{at_least_times, below_size}
use Rattle.int_laws.proofs.Ring.{times_zero, diff, product_diff, same_diff, sum_diff, is_diff, times_minus}
use Rattle.plane_spec.specs.declared.Point.{Point}
use Rattle.plane_spec.specs.Vectors.{cross_of, orient_of, vector}
use Rattle.plane_laws.proofs.Lists.Members.{IsIn}
use Rattle.winding_laws.specs.Windings.{near}

-- ---- from some number on

-- what holds of all numbers after some number
pub record Eventually (holds : ℕ → Type 0) : Type 0 where
  pub after : ℕ
  pub from_there : (n : ℕ) → after < n → holds n

pub eventually_both : (first second : ℕ → Type 0) → Eventually first → Eventually second
    → Eventually (λ n. first n × second n)
eventually_both first second h k =
    record {
      after = h.after + k.after;
      from_there = λ n l.
          (h.from_there n (omega (arith, l)), k.from_there n (omega (arith, l)));
    }

pub eventually_then : (first second : ℕ → Type 0) → ((n : ℕ) → first n → second n) → Eventually first
    → Eventually second
eventually_then first second f h = record { after = h.after; from_there = λ n l. f n (h.from_there n l) }

pub eventually_all : {X : Type 0} (xs : List X) (holds : X → ℕ → Type 0)
    → ((x : X) → IsIn xs x → Eventually (holds x)) → Eventually (λ n. (x : X) → IsIn xs x → holds x n)
eventually_all [] holds h = record { after = 0; from_there = λ n l x k. absurd k }
eventually_all {X = X} (y ∷ ys) holds h =
    eventually_then (λ n. holds y n × ((x : X) → IsIn ys x → holds x n)) (λ n. (x : X) → IsIn (y ∷ ys) x → holds x n)
    (λ n parts x k. pick n parts.0 parts.1 x k)
    (eventually_both (holds y) (λ n. (x : X) → IsIn ys x → holds x n) (h y (inl refl))
    (eventually_all ys holds (λ x k. h x (inr k))))
  where
    pick : (n : ℕ) → holds y n → ((x : X) → IsIn ys x → holds x n) → (x : X) → IsIn (y ∷ ys) x → holds x n
    pick n here there x (inl e) = subst (λ t. holds t n) e here
    pick n here there x (inr k) = there x k

-- ---- signs of n n a + n b + c

-- the first of a, b and c that isn't 0 is positive
pub data Leads (a b c : ℤ) : Type 0 where
  square : pos 0 <ℤ a → Leads a b c
  linear : a ≡ pos 0 → pos 0 <ℤ b → Leads a b c
  constant : a ≡ pos 0 → b ≡ pos 0 → pos 0 <ℤ c → Leads a b c

abbrev pub value_at : ℕ → ℤ → ℤ → ℤ → ℤ
value_at n a b c = pos n *ℤ (pos n *ℤ a +ℤ b) +ℤ c

pub eventually_positive : (a b c : ℤ) → Leads a b c → Eventually (λ n. pos 0 <ℤ value_at n a b c)
eventually_positive a b c (square h) =
    record {
      after = unsigned_abs b + unsigned_abs c;
      from_there = λ n l.
          let first = at_least_times (pos n) a (omega (arith, ints)) (omega (arith, ints, h)) in
          let b_size = below_size b in
          let c_size = below_size c in
          let second = at_least_times (pos n) (pos n *ℤ a +ℤ b) (omega (arith, ints))
          (omega (arith, ints, first, b_size, l)) in
          omega (arith, ints, second, c_size, l);
    }
eventually_positive a b c (linear e h) =
    record {
      after = unsigned_abs c;
      from_there = λ n l.
          let none : pos n *ℤ a ≡ pos 0 = ap (λ t. pos n *ℤ t) e ∙ times_zero (pos n) in
          let c_size = below_size c in
          let second = at_least_times (pos n) (pos n *ℤ a +ℤ b) (omega (arith, ints)) (omega (arith, ints, none, h)) in
          omega (arith, ints, second, c_size, l);
    }
eventually_positive a b c (constant e f h) =
    record {
      after = 0;
      from_there = λ n l.
          let none : pos n *ℤ a ≡ pos 0 = ap (λ t. pos n *ℤ t) e ∙ times_zero (pos n) in
          let all : pos n *ℤ (pos n *ℤ a +ℤ b) ≡ pos 0 = ap (λ t. pos n *ℤ t)
          (let i : pos n *ℤ a +ℤ b ≡ pos 0 = omega (arith, ints, none, f) in i) ∙ times_zero (pos n) in
          omega (arith, ints, all, h);
    }

both_near_diff : (a b c d e f g h i j : ℕ) →
    (diff a b *ℤ diff c d +ℤ diff e f) *ℤ (diff a b *ℤ diff g h +ℤ diff i j)
    ≡ diff a b *ℤ (diff a b *ℤ (diff c d *ℤ diff g h) +ℤ
    (diff c d *ℤ diff i j +ℤ diff e f *ℤ diff g h)) +ℤ diff e f *ℤ diff i j
both_near_diff a b c d e f g h i j = simp (product_diff, sum_diff) (same_diff _ _ _ _ (omega arith))

both_near : (n u r v s : ℤ) → (n *ℤ u +ℤ r) *ℤ (n *ℤ v +ℤ s) ≡ n *ℤ (n *ℤ (u *ℤ v) +ℤ (u *ℤ s +ℤ r *ℤ v)) +ℤ r *ℤ s
both_near n u r v s =
    rw (is_diff n, is_diff u, is_diff r, is_diff v, is_diff s)
    (both_near_diff (up n) (down n) (up u) (down u) (up r) (down r) (up v) (down v) (up s) (down s))

cross_near : (n ux uy rx ry vx vy sx sy : ℤ) →
    (n *ℤ ux +ℤ rx) *ℤ (n *ℤ vy +ℤ sy) -ℤ (n *ℤ uy +ℤ ry) *ℤ (n *ℤ vx +ℤ sx)
    ≡ n *ℤ (n *ℤ (ux *ℤ vy -ℤ uy *ℤ vx) +ℤ ((ux *ℤ sy -ℤ uy *ℤ sx) +ℤ (rx *ℤ vy -ℤ ry *ℤ vx))) +ℤ (rx *ℤ sy -ℤ ry *ℤ sx)
cross_near n ux uy rx ry vx vy sx sy =
    let first = both_near n ux rx vy sy in
    let second = both_near n uy ry vx sx in
    let a = n *ℤ (ux *ℤ vy) +ℤ (ux *ℤ sy +ℤ rx *ℤ vy) in
    let b = n *ℤ (uy *ℤ vx) +ℤ (uy *ℤ sx +ℤ ry *ℤ vx) in
    let third = times_minus n a b in
    let fourth = times_minus n (ux *ℤ vy) (uy *ℤ vx) in
    let same : a -ℤ b ≡ n *ℤ (ux *ℤ vy -ℤ uy *ℤ vx) +ℤ
    ((ux *ℤ sy -ℤ uy *ℤ sx) +ℤ (rx *ℤ vy -ℤ ry *ℤ vx)) = omega (arith, ints, fourth) in
    let fifth = ap (λ t. n *ℤ t) same in
    omega (arith, ints, first, second, third, fifth)

apart_near : (n a b d e : ℤ) → (n *ℤ b +ℤ e) -ℤ (n *ℤ a +ℤ d) ≡ n *ℤ (b -ℤ a) +ℤ (e -ℤ d)
apart_near n a b d e = let m = times_minus n b a in omega (arith, ints, m)

-- how three near points turn
pub orient_near : (n : ℕ) (a d b e c f : Point) → orient_of (near n a d) (near n b e) (near n c f)
    ≡ value_at n (orient_of a b c) (cross_of (vector a b) (vector d f) +ℤ cross_of (vector d e) (vector a c))
    (cross_of (vector d e) (vector d f))
orient_near n a d b e c f =
    rw (
      apart_near (pos n) a.x b.x d.x e.x,
      apart_near (pos n) a.y b.y d.y e.y,
      apart_near (pos n) a.x c.x d.x f.x,
      apart_near (pos n) a.y c.y d.y f.y,
    )
    (cross_near (pos n) (b.x -ℤ a.x) (b.y -ℤ a.y) (e.x -ℤ d.x) (e.y -ℤ d.y) (c.x -ℤ a.x) (c.y -ℤ a.y) (f.x -ℤ d.x)
    (f.y -ℤ d.y))
