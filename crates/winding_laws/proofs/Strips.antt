-- Segments between near points that clear a wall, from some enlargement on.
use Rattle.std.specs.Prelude.{false, true, ◌&&◌, List, map, [], ◌∷◌}
use Rattle.std.proofs.Common.{pos, arith, refl, ℕ, ℤ, ◌≡◌, ◌+ℤ◌, ◌*ℤ◌, ap, sym, ◌-ℤ◌, ◌∙◌, subst, ◌<ℤ◌, neg_ℤ, inl}
use Rattle.std.proofs.Common.{inr, ◌⊎◌, ◌+◌}
use Rattle.std.proofs.lemmas.Int.{ints, by_lt_z}
use Rattle.std.proofs.lemmas.Bool.{and_cases}
use Rattle.int_laws.proofs.Ring.{minus_times, times_minus, times_zero, product_swapped}
use Rattle.int_laws.proofs.Tests.{equal_tested}
use Rattle.plane_spec.specs.declared.Point.{Point}
use Rattle.plane_spec.specs.declared.Segment.{Segment}
use Rattle.plane_spec.specs.Vectors.{point, cross_of, orient_of, vector}
use Rattle.plane_spec.specs.Segments.{do_touch, is_between, is_on_segment}
use Rattle.exact_geom.proofs.Orientation.{orient_of_first_exchanged}
use Rattle.plane_laws.specs.Enlarged.{enlarged, enlarged_wall}
use Rattle.plane_laws.proofs.Segments.Apart.{free_left, free_right, free_up, free_down, AreBefore, free_east}
use Rattle.plane_laws.proofs.Segments.Apart.{free_north}
use Rattle.plane_laws.proofs.Segments.Apart.{free_south, free_west}
use Rattle.plane_laws.proofs.Lists.Members.{IsIn, source}
use Rattle.winding_laws.specs.Windings.{winding, near}
use Rattle.winding_laws.proofs.Near.{value_at, orient_near, Eventually, Leads, eventually_positive, eventually_then}
use Rattle.winding_laws.proofs.Near.{eventually_both, linear, square, eventually_all}
use Rattle.winding_laws.proofs.Closed.{rises_along, AreClosed, same_winding}
use Rattle.plane_laws.proofs.Segments.Touching.{end_off}

-- ---- how a near point lies to a wall, and a wall's corner to two near points

abbrev none : Point
none = point (pos 0) (pos 0)

near_none : (n : ℕ) (v : Point) → near n v none ≡ enlarged n v
near_none n v = both (pos n *ℤ v.x) (pos n *ℤ v.y)
  where
    both : (x y : ℤ) → point (x +ℤ pos 0) (y +ℤ pos 0) ≡ point x y
    both x y =
        let e : x +ℤ pos 0 ≡ x = omega (arith, ints) in let f : y +ℤ pos 0 ≡ y = omega (arith, ints) in rw (e, f) refl

values : (n : ℕ) (a b c b' c' : ℤ) → b ≡ b' → c ≡ c' → value_at n a b c ≡ value_at n a b' c'
values n a b c b' c' e f = rw (e, f) refl

pub side_near : (n : ℕ) (a b p d : Point)
    → orient_of (enlarged n a) (enlarged n b) (near n p d)
    ≡ value_at n (orient_of a b p) (cross_of (vector a b) d) (pos 0)
side_near n a b p d =
    ap (λ t. orient_of t (enlarged n b) (near n p d)) (sym (near_none n a))
    ∙ ap (λ t. orient_of (near n a none) t (near n p d)) (sym (near_none n b))
    ∙ orient_near n a none b none p d
    ∙ values n (orient_of a b p) _ _ (cross_of (vector a b) d) (pos 0)
    (linear_part (b.x -ℤ a.x) (b.y -ℤ a.y) (p.x -ℤ a.x) (p.y -ℤ a.y) d.x d.y) (constant_part d.x d.y)
  where
    linear_part : (ux uy vx vy dx dy : ℤ)
        → (ux *ℤ (dy -ℤ pos 0) -ℤ uy *ℤ (dx -ℤ pos 0)) +ℤ ((pos 0 -ℤ pos 0) *ℤ vy -ℤ (pos 0 -ℤ pos 0) *ℤ vx)
        ≡ ux *ℤ dy -ℤ uy *ℤ dx
    linear_part ux uy vx vy dx dy =
        let a = times_minus ux dy (pos 0) in let b = times_minus uy dx (pos 0) in
        let c = times_zero ux in let d = times_zero uy in
        let e = minus_times (pos 0) (pos 0) vy in let f = minus_times (pos 0) (pos 0) vx in
        omega (arith, ints, a, b, c, d, e, f)

    constant_part : (dx dy : ℤ) → (pos 0 -ℤ pos 0) *ℤ (dy -ℤ pos 0) -ℤ (pos 0 -ℤ pos 0) *ℤ (dx -ℤ pos 0) ≡ pos 0
    constant_part dx dy =
        let e = minus_times (pos 0) (pos 0) (dy -ℤ pos 0) in let f = minus_times (pos 0) (pos 0) (dx -ℤ pos 0) in
        omega (arith, ints, e, f)

abbrev pub line_linear : Point → Point → Point → Point → Point → ℤ
line_linear p d q e a = cross_of (vector d e) (vector p a) -ℤ cross_of (vector p q) d

pub line_near : (n : ℕ) (p d q e a : Point)
    → orient_of (near n p d) (near n q e) (enlarged n a)
    ≡ value_at n (orient_of p q a) (line_linear p d q e a) (cross_of d e)
line_near n p d q e a =
    ap (λ t. orient_of (near n p d) (near n q e) t) (sym (near_none n a))
    ∙ orient_near n p d q e a none
    ∙ values n (orient_of p q a) _ _ (line_linear p d q e a) (cross_of d e)
    (linear_part (q.x -ℤ p.x) (q.y -ℤ p.y) d.x d.y (cross_of (vector d e) (vector p a)))
    (constant_part d.x d.y e.x e.y)
  where
    linear_part : (wx wy dx dy c : ℤ) → (wx *ℤ (pos 0 -ℤ dy) -ℤ wy *ℤ (pos 0 -ℤ dx)) +ℤ c ≡ c -ℤ (wx *ℤ dy -ℤ wy *ℤ dx)
    linear_part wx wy dx dy c =
        let a = times_minus wx (pos 0) dy in let b = times_minus wy (pos 0) dx in let f = times_zero wx in
        let g = times_zero wy in
        omega (arith, ints, a, b, f, g)

    constant_part : (dx dy ex ey : ℤ)
        → (ex -ℤ dx) *ℤ (pos 0 -ℤ dy) -ℤ (ey -ℤ dy) *ℤ (pos 0 -ℤ dx) ≡ dx *ℤ ey -ℤ dy *ℤ ex
    constant_part dx dy ex ey =
        let a = times_minus (ex -ℤ dx) (pos 0) dy in let b = times_minus (ey -ℤ dy) (pos 0) dx in
        let c = times_zero (ex -ℤ dx) in let f = times_zero (ey -ℤ dy) in
        let g = minus_times ex dx dy in let h = minus_times ey dy dx in
        let i = product_swapped dx ey in let j = product_swapped dy ex in let k = product_swapped dx dy in
        omega (arith, ints, a, b, c, f, g, h, i, j, k)

-- ---- clearing a wall

-- from some enlargement on, the segment between the points d away from p and e away from q doesn't touch the wall
abbrev pub Clears : Point → Point → Point → Point → Point → Point → Type 0
Clears a b p d q e = Eventually (λ n. do_touch (enlarged n a) (enlarged n b) (near n p d) (near n q e) ≡ false)

abbrev pub LeansLeft : Point → Point → Point → Point → Type 0
LeansLeft a b p d = Leads (orient_of a b p) (cross_of (vector a b) d) (pos 0)

abbrev pub LeansOver : Point → Point → Point → Point → Point → Type 0
LeansOver p d q e a = Leads (orient_of p q a) (line_linear p d q e a) (cross_of d e)

pub side_positive : (a b p d : Point) → LeansLeft a b p d
    → Eventually (λ n. pos 0 <ℤ orient_of (enlarged n a) (enlarged n b) (near n p d))
side_positive a b p d h =
    eventually_then (λ n. pos 0 <ℤ value_at n (orient_of a b p) (cross_of (vector a b) d) (pos 0))
    (λ n. pos 0 <ℤ orient_of (enlarged n a) (enlarged n b) (near n p d))
    (λ n k. subst (λ t. pos 0 <ℤ t) (sym (side_near n a b p d)) k)
    (eventually_positive (orient_of a b p) (cross_of (vector a b) d) (pos 0) h)

pub line_positive : (p d q e a : Point) → LeansOver p d q e a
    → Eventually (λ n. pos 0 <ℤ orient_of (near n p d) (near n q e) (enlarged n a))
line_positive p d q e a h =
    eventually_then (λ n. pos 0 <ℤ value_at n (orient_of p q a) (line_linear p d q e a) (cross_of d e))
    (λ n. pos 0 <ℤ orient_of (near n p d) (near n q e) (enlarged n a))
    (λ n k. subst (λ t. pos 0 <ℤ t) (sym (line_near n p d q e a)) k)
    (eventually_positive (orient_of p q a) (line_linear p d q e a) (cross_of d e) h)

pub clears_left : (a b p d q e : Point) → LeansLeft a b p d → LeansLeft a b q e → Clears a b p d q e
clears_left a b p d q e h k =
    eventually_then _ (λ n. do_touch (enlarged n a) (enlarged n b) (near n p d) (near n q e) ≡ false)
    (λ n s. free_left (enlarged n a) (enlarged n b) (near n p d) (near n q e) s.0 s.1)
    (eventually_both (λ n. pos 0 <ℤ orient_of (enlarged n a) (enlarged n b) (near n p d))
    (λ n. pos 0 <ℤ orient_of (enlarged n a) (enlarged n b) (near n q e)) (side_positive a b p d h)
    (side_positive a b q e k))

pub clears_right : (a b p d q e : Point) → LeansLeft b a p d → LeansLeft b a q e → Clears a b p d q e
clears_right a b p d q e h k =
    eventually_then _ (λ n. do_touch (enlarged n a) (enlarged n b) (near n p d) (near n q e) ≡ false)
    (λ n s. free_right (enlarged n a) (enlarged n b) (near n p d) (near n q e) s.0 s.1)
    (eventually_both (λ n. pos 0 <ℤ orient_of (enlarged n b) (enlarged n a) (near n p d))
    (λ n. pos 0 <ℤ orient_of (enlarged n b) (enlarged n a) (near n q e)) (side_positive b a p d h)
    (side_positive b a q e k))

pub clears_up : (a b p d q e : Point) → LeansOver p d q e a → LeansOver p d q e b → Clears a b p d q e
clears_up a b p d q e h k =
    eventually_then _ (λ n. do_touch (enlarged n a) (enlarged n b) (near n p d) (near n q e) ≡ false)
    (λ n s. free_up (enlarged n a) (enlarged n b) (near n p d) (near n q e) s.0 s.1)
    (eventually_both (λ n. pos 0 <ℤ orient_of (near n p d) (near n q e) (enlarged n a))
    (λ n. pos 0 <ℤ orient_of (near n p d) (near n q e) (enlarged n b)) (line_positive p d q e a h)
    (line_positive p d q e b k))

pub clears_down : (a b p d q e : Point) → LeansOver q e p d a → LeansOver q e p d b → Clears a b p d q e
clears_down a b p d q e h k =
    eventually_then _ (λ n. do_touch (enlarged n a) (enlarged n b) (near n p d) (near n q e) ≡ false)
    (λ n s. free_down (enlarged n a) (enlarged n b) (near n p d) (near n q e) s.0 s.1)
    (eventually_both (λ n. pos 0 <ℤ orient_of (near n q e) (near n p d) (enlarged n a))
    (λ n. pos 0 <ℤ orient_of (near n q e) (near n p d) (enlarged n b)) (line_positive q e p d a h)
    (line_positive q e p d b k))

-- ---- apart in a coordinate

coordinate_before : (p d a : ℤ) → p <ℤ a → Eventually (λ n. (pos n *ℤ p +ℤ d) <ℤ (pos n *ℤ a))
coordinate_before p d a h =
    eventually_then (λ n. pos 0 <ℤ value_at n (pos 0) (a -ℤ p) (neg_ℤ d)) (λ n. (pos n *ℤ p +ℤ d) <ℤ (pos n *ℤ a))
    (λ n k. let e = times_minus (pos n) a p in
    let z = times_zero (pos n) in
    let s : pos n *ℤ pos 0 +ℤ (a -ℤ p) ≡ a -ℤ p = omega (arith, ints, z) in
    let f = ap (λ t. pos n *ℤ t) s in
    omega (arith, ints, e, f, k))
    (eventually_positive (pos 0) (a -ℤ p) (neg_ℤ d) (linear refl (omega (arith, ints, h))))

coordinate_after : (p d a : ℤ) → a <ℤ p → Eventually (λ n. (pos n *ℤ a) <ℤ (pos n *ℤ p +ℤ d))
coordinate_after p d a h =
    eventually_then (λ n. pos 0 <ℤ value_at n (pos 0) (p -ℤ a) d) (λ n. (pos n *ℤ a) <ℤ (pos n *ℤ p +ℤ d))
    (λ n k. let e = times_minus (pos n) p a in
    let z = times_zero (pos n) in
    let s : pos n *ℤ pos 0 +ℤ (p -ℤ a) ≡ p -ℤ a = omega (arith, ints, z) in
    let f = ap (λ t. pos n *ℤ t) s in
    omega (arith, ints, e, f, k))
    (eventually_positive (pos 0) (p -ℤ a) d (linear refl (omega (arith, ints, h))))

before_near : (p d q e a b : ℤ) → AreBefore p q a b
    → Eventually (λ n. AreBefore (pos n *ℤ p +ℤ d) (pos n *ℤ q +ℤ e) (pos n *ℤ a) (pos n *ℤ b))
before_near p d q e a b h =
    eventually_then _ (λ n. AreBefore (pos n *ℤ p +ℤ d) (pos n *ℤ q +ℤ e) (pos n *ℤ a) (pos n *ℤ b))
    (λ n k. record { pa = k.0.0; pb = k.0.1; qa = k.1.0; qb = k.1.1 })
    (eventually_both (λ n. ((pos n *ℤ p +ℤ d) <ℤ (pos n *ℤ a)) × ((pos n *ℤ p +ℤ d) <ℤ (pos n *ℤ b)))
    (λ n. ((pos n *ℤ q +ℤ e) <ℤ (pos n *ℤ a)) × ((pos n *ℤ q +ℤ e) <ℤ (pos n *ℤ b)))
    (eventually_both (λ n. (pos n *ℤ p +ℤ d) <ℤ (pos n *ℤ a)) (λ n. (pos n *ℤ p +ℤ d) <ℤ (pos n *ℤ b))
    (coordinate_before p d a h.pa) (coordinate_before p d b h.pb))
    (eventually_both (λ n. (pos n *ℤ q +ℤ e) <ℤ (pos n *ℤ a)) (λ n. (pos n *ℤ q +ℤ e) <ℤ (pos n *ℤ b))
    (coordinate_before q e a h.qa) (coordinate_before q e b h.qb)))

after_near : (p d q e a b : ℤ) → AreBefore a b p q
    → Eventually (λ n. AreBefore (pos n *ℤ a) (pos n *ℤ b) (pos n *ℤ p +ℤ d) (pos n *ℤ q +ℤ e))
after_near p d q e a b h =
    eventually_then _ (λ n. AreBefore (pos n *ℤ a) (pos n *ℤ b) (pos n *ℤ p +ℤ d) (pos n *ℤ q +ℤ e))
    (λ n k. record { pa = k.0.0; pb = k.1.0; qa = k.0.1; qb = k.1.1 })
    (eventually_both (λ n. ((pos n *ℤ a) <ℤ (pos n *ℤ p +ℤ d)) × ((pos n *ℤ b) <ℤ (pos n *ℤ p +ℤ d)))
    (λ n. ((pos n *ℤ a) <ℤ (pos n *ℤ q +ℤ e)) × ((pos n *ℤ b) <ℤ (pos n *ℤ q +ℤ e)))
    (eventually_both (λ n. (pos n *ℤ a) <ℤ (pos n *ℤ p +ℤ d)) (λ n. (pos n *ℤ b) <ℤ (pos n *ℤ p +ℤ d))
    (coordinate_after p d a h.pa) (coordinate_after p d b h.qa))
    (eventually_both (λ n. (pos n *ℤ a) <ℤ (pos n *ℤ q +ℤ e)) (λ n. (pos n *ℤ b) <ℤ (pos n *ℤ q +ℤ e))
    (coordinate_after q e a h.pb) (coordinate_after q e b h.qb)))

beside : (v a b : ℤ) → is_between v a b ≡ false → ((v <ℤ a) × (v <ℤ b)) ⊎ ((a <ℤ v) × (b <ℤ v))
beside v a b h =
    by_lt_z v a
    (λ p. by_lt_z v b (λ q. inl (p, q)) (λ q. absurd (let i : is_between v a b ≡ true = grind (arith, ints) in
    let absurdity : true ≡ false = sym i ∙ h in cc)))
    (λ p. by_lt_z b v
    (λ q. by_lt_z a v (λ r. inr (r, q)) (λ r. absurd (let i : is_between v a b ≡ true = grind (arith, ints) in
    let absurdity : true ≡ false = sym i ∙ h in cc)))
    (λ q. absurd (let i : is_between v a b ≡ true = grind (arith, ints) in let absurdity : true ≡ false = sym i ∙ h in
    cc)))

-- round a point that isn't on the wall
pub clears_far : (a b v d e : Point) → is_on_segment v a b ≡ false → Clears a b v d v e
unfolding is_on_segment
clears_far a b v d e off =
    by_lt_z (pos 0) (orient_of a b v)
    (λ left. clears_left a b v d v e (square left) (square left))
    (λ not_left. by_lt_z (orient_of a b v) (pos 0)
    (λ right. let o = orient_of_first_exchanged a b v in
    let s : pos 0 <ℤ orient_of b a v = omega (arith, ints, o, right) in
    clears_right a b v d v e (square s) (square s))
    (λ not_right. let line : orient_of a b v ≡ pos 0 = omega (arith, ints, not_left, not_right) in
    by_extents (and_cases (is_between v.x a.x b.x) (is_between v.y a.y b.y)
    (sym (ap (λ t. t && (is_between v.x a.x b.x && is_between v.y a.y b.y))
    (equal_tested (orient_of a b v) (pos 0) line)) ∙ off))))
  where
    by_extents : (is_between v.x a.x b.x ≡ false) ⊎ (is_between v.y a.y b.y ≡ false) → Clears a b v d v e
    by_extents (inl h) = elim (beside v.x a.x b.x h) [
      | inl k ↦ eventually_then _ (λ n. do_touch (enlarged n a) (enlarged n b) (near n v d) (near n v e) ≡ false)
          (λ n s. free_west (enlarged n a) (enlarged n b) (near n v d) (near n v e) s)
          (before_near v.x d.x v.x e.x a.x b.x (record { pa = k.0; pb = k.1; qa = k.0; qb = k.1 }))
      | inr k ↦ eventually_then _ (λ n. do_touch (enlarged n a) (enlarged n b) (near n v d) (near n v e) ≡ false)
          (λ n s. free_east (enlarged n a) (enlarged n b) (near n v d) (near n v e) s)
          (after_near v.x d.x v.x e.x a.x b.x (record { pa = k.0; pb = k.0; qa = k.1; qb = k.1 }))
    ]
    by_extents (inr h) = elim (beside v.y a.y b.y h) [
      | inl k ↦ eventually_then _ (λ n. do_touch (enlarged n a) (enlarged n b) (near n v d) (near n v e) ≡ false)
          (λ n s. free_south (enlarged n a) (enlarged n b) (near n v d) (near n v e) s)
          (before_near v.y d.y v.y e.y a.y b.y (record { pa = k.0; pb = k.1; qa = k.0; qb = k.1 }))
      | inr k ↦ eventually_then _ (λ n. do_touch (enlarged n a) (enlarged n b) (near n v d) (near n v e) ≡ false)
          (λ n s. free_north (enlarged n a) (enlarged n b) (near n v d) (near n v e) s)
          (after_near v.y d.y v.y e.y a.y b.y (record { pa = k.0; pb = k.0; qa = k.1; qb = k.1 }))
    ]

-- ---- windings near a point

-- from some enlargement on, the edges go round the point d away from x so often
abbrev pub HasWinding : List Segment → Point → Point → ℤ → Type 0
HasWinding edges x d k = Eventually (λ n. winding (near n x d) (map (enlarged_wall n) edges) ≡ k)

rises_enlarged : (n : ℕ) (value : Point → ℤ) (edges : List Segment)
    → rises_along value (map (enlarged_wall n) edges) ≡ rises_along (λ v. value (enlarged n v)) edges
rises_enlarged n value [] = refl
rises_enlarged n value (e ∷ edges) =
    ap (λ t. (value (enlarged n e.b) -ℤ value (enlarged n e.a)) +ℤ t) (rises_enlarged n value edges)

pub closed_enlarged : (n : ℕ) (edges : List Segment) → AreClosed edges → AreClosed (map (enlarged_wall n) edges)
closed_enlarged n edges closed value = rises_enlarged n value edges ∙ closed (λ v. value (enlarged n v))

-- from some enlargement on, the point d away from x is on no edge
abbrev pub IsOff : List Segment → Point → Point → Type 0
IsOff edges x d =
    Eventually (λ n. (f : Segment) → IsIn edges f → is_on_segment (near n x d) (enlarged n f.a)
    (enlarged n f.b) ≡ false)

-- from some enlargement on, the edges go round the point d away from x so often, and it is on none of them
pub record GoesRoundOff (edges : List Segment) (x d : Point) (k : ℤ) : Type 0 where
  pub has : HasWinding edges x d k
  pub off : IsOff edges x d

-- where a strip clears each edge, the edges go round both its ends alike, and its end is on none of them
pub carried : (edges : List Segment) (p d q e : Point) (k : ℤ) → AreClosed edges
    → ((f : Segment) → IsIn edges f → Clears f.a f.b p d q e) → HasWinding edges p d k → GoesRoundOff edges q e k
carried edges p d q e k closed clears h = record {
  has = eventually_then _ (λ n. winding (near n q e) (map (enlarged_wall n) edges) ≡ k)
      (λ n both. sym (same_winding (near n p d) (near n q e) (map (enlarged_wall n) edges)
      (closed_enlarged n edges closed)
      (λ f there. let s = source (enlarged_wall n) edges f there in
      subst (λ t. do_touch t.a t.b (near n p d) (near n q e) ≡ false) s.is (both.1 s.it s.is_in))) ∙ both.0)
      (eventually_both (λ n. winding (near n p d) (map (enlarged_wall n) edges) ≡ k)
      (λ n. (f : Segment) → IsIn edges f → do_touch (enlarged n f.a) (enlarged n f.b) (near n p d) (near n q e) ≡ false)
      h (eventually_all edges (λ f n. do_touch (enlarged n f.a) (enlarged n f.b) (near n p d)
      (near n q e) ≡ false) clears));
  off = eventually_all edges (λ f n. is_on_segment (near n q e) (enlarged n f.a) (enlarged n f.b) ≡ false)
      (λ f there. eventually_then (λ n. do_touch (enlarged n f.a) (enlarged n f.b) (near n p d) (near n q e) ≡ false)
      (λ n. is_on_segment (near n q e) (enlarged n f.a) (enlarged n f.b) ≡ false)
      (λ n t. end_off (enlarged n f.a) (enlarged n f.b) (near n p d) (near n q e) t) (clears f there));
}

-- ---- one direction, one winding

pub same_value : (edges : List Segment) (x d : Point) (k l : ℤ) → HasWinding edges x d k → HasWinding edges x d l
    → k ≡ l
same_value edges x d k l h j =
    let n = h.after + j.after + 1 in
    let first = h.from_there n (omega arith) in
    let second = j.from_there n (omega arith) in
    sym first ∙ second
