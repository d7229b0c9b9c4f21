-- Steps so fine that an edge that touches one has an end of the step on it, and the walk back along them.
--
-- The height of the step's point of number i over an edge's line is n (n h + i r), where r is the edge's rise. If r
-- divides n, this is n r (m h' + i) for a whole number, so between two neighbouring steps the sign doesn't change
-- from positive to negative: no step is crossed properly between its ends. If r is 0, the segment is parallel to the
-- edge. And if n is a multiple of the segment's own width or height, a corner on the segment is a step.
use Rattle.std.specs.Prelude.{Bool, false, true, ◌&&◌, ◌||◌}
use Rattle.std.proofs.Common.{ℕ, ℤ, ◌≡◌, ◌+◌, ◌<◌, ap, arith, refl, subst, suc, sym, zero, ◌∙◌, pos, ◌⊎◌, ◌*ℤ◌, inl}
use Rattle.std.proofs.Common.{inr, neg_ℤ, ◌+ℤ◌, ◌≤ℤ◌, ◌-ℤ◌, ◌<ℤ◌}
use Rattle.std.proofs.lemmas.Int.{by_lt_z, ints}
use Rattle.std.proofs.lemmas.Bool.{and_parts, or_cases}
use Rattle.int_laws.proofs.Ring.{neg_times, product_swapped, times_neg, product_grouped, times_sum, times_zero}
use Rattle.int_laws.proofs.Ring.{times_minus, times_one, one_times, sum_times}
use Rattle.int_laws.proofs.Signs.{not_negative_product, opposite_product, positive_product, negative_product_both}
use Rattle.int_laws.proofs.Signs.{zero_factor}
use Rattle.plane_spec.specs.declared.Point.{Point}
use Rattle.plane_spec.specs.declared.Segment.{Segment}
use Rattle.plane_spec.specs.Segments.{are_opposite, is_between, is_on_segment, cross_properly, do_touch}
use Rattle.plane_spec.specs.Vectors.{cross_of, vector, orient_of, point}
use Rattle.plane_laws.specs.Enlarged.{enlarged, part_way}
use Rattle.plane_laws.proofs.Points.Between.{in_order, IsBetween, between, on_end, on_start, same_coordinates}
use Rattle.plane_laws.proofs.Points.Scaled.{opposite_scaled}
use Rattle.plane_laws.proofs.Tests.{clash}
use Rattle.winding_laws.proofs.Strips.{side_near}

-- ---- steps

-- back from step i over steps that keep a value, to the start, or to the first point on an edge
pub data Walked (on : ℕ → Bool) (value : ℕ → ℤ) (i : ℕ) : Type 0 where
  to_start : on 0 ≡ false → value 0 ≡ value i → Walked on value i
  to_edge : (j : ℕ) → j < i → on j ≡ true → on (j + 1) ≡ false → value (j + 1) ≡ value i → Walked on value i

pub walk : (on : ℕ → Bool) (value : ℕ → ℤ) → ((j : ℕ) → on j ≡ false → on (j + 1) ≡ false → value j ≡ value (j + 1))
    → (i : ℕ) → on i ≡ false → Walked on value i
walk on value keeps zero off = to_start off refl
walk on value keeps (suc i) off = by_test (on i) refl (λ h. walk on value keeps i h)
  where
    next : suc i ≡ i + 1
    next = omega arith

    off' : on (i + 1) ≡ false
    off' = subst (λ t. on t ≡ false) next off

    later : value i ≡ value (suc i) → Walked on value i → Walked on value (suc i)
    later e (to_start h k) = to_start h (k ∙ e)
    later e (to_edge j less h k l) = to_edge j (omega (arith, less)) h k (l ∙ e)

    by_test : (t : Bool) → on i ≡ t → (on i ≡ false → Walked on value i) → Walked on value (suc i)
    by_test true h again = to_edge i (omega arith) h off' (ap value (sym next))
    by_test false h again = later (keeps i h off' ∙ ap value (sym next)) (again h)

-- ---- divisors

-- c is 0 or divides n
abbrev pub Divides : ℤ → ℤ → Type 0
Divides c n = (c ≡ pos 0) ⊎ ((m : ℤ) × (n ≡ c *ℤ m))

one_side : (c t : ℤ) → ((pos 0 ≤ℤ (c *ℤ t)) × (pos 0 ≤ℤ (c *ℤ (t +ℤ pos 1))))
    ⊎ (((c *ℤ t) ≤ℤ pos 0) × ((c *ℤ (t +ℤ pos 1)) ≤ℤ pos 0))
one_side c t =
    let e = times_neg c t in
    let f = times_neg c (t +ℤ pos 1) in
    let g = product_swapped c t in
    let h = product_swapped c (t +ℤ pos 1) in
    by_lt_z t (pos 0)
    (λ below. by_lt_z c (pos 0)
    (λ down.
    let a = not_negative_product (neg_ℤ c) (neg_ℤ t) (omega (arith, ints, down)) (omega (arith, ints, below)) in
    let b = not_negative_product (neg_ℤ c) (neg_ℤ (t +ℤ pos 1)) (omega (arith, ints, down))
    (omega (arith, ints, below)) in
    let i = neg_times c (neg_ℤ t) in
    let j = neg_times c (neg_ℤ (t +ℤ pos 1)) in
    inl (omega (arith, ints, a, i, e), omega (arith, ints, b, j, f)))
    (λ up.
    let a = opposite_product t c (omega (arith, ints, below)) up in
    let b = opposite_product (t +ℤ pos 1) c (omega (arith, ints, below)) up in
    inr (omega (arith, ints, a, g), omega (arith, ints, b, h))))
    (λ above. by_lt_z c (pos 0)
    (λ down.
    let a = opposite_product c t (omega (arith, ints, down)) above in
    let b = opposite_product c (t +ℤ pos 1) (omega (arith, ints, down)) (omega (arith, ints, above)) in
    inr (a, b))
    (λ up.
    let a = not_negative_product c t up above in
    let b = not_negative_product c (t +ℤ pos 1) up (omega (arith, ints, above)) in
    inl (a, b)))

not_opposite : (s t : ℤ) → ((pos 0 ≤ℤ s) × (pos 0 ≤ℤ t)) ⊎ ((s ≤ℤ pos 0) × (t ≤ℤ pos 0)) → are_opposite s t ≡ false
not_opposite s t (inl h) = let a = h.0 in let b = h.1 in grind (arith, ints)
not_opposite s t (inr h) = let a = h.0 in let b = h.1 in grind (arith, ints)

same_not_opposite : (s : ℤ) → are_opposite s s ≡ false
same_not_opposite s = grind (arith, ints)

-- n times the height over a line, at steps of which the rise divides n
heights_beside : (n s c : ℤ) (i : ℕ) → Divides c n
    → are_opposite (n *ℤ s +ℤ pos i *ℤ c) (n *ℤ s +ℤ pos (i + 1) *ℤ c) ≡ false
heights_beside n s c i (inl none) =
    let a = ap (λ t. pos i *ℤ t) none ∙ times_zero (pos i) in
    let b = ap (λ t. pos (i + 1) *ℤ t) none ∙ times_zero (pos (i + 1)) in
    let same : n *ℤ s +ℤ pos (i + 1) *ℤ c ≡ n *ℤ s +ℤ pos i *ℤ c = omega (arith, ints, a, b) in
    ap (λ t. are_opposite (n *ℤ s +ℤ pos i *ℤ c) t) same ∙ same_not_opposite (n *ℤ s +ℤ pos i *ℤ c)
heights_beside n s c i (inr d) =
    let m = d.0 in
    let first : n *ℤ s ≡ c *ℤ (m *ℤ s) = ap (λ t. t *ℤ s) d.1 ∙ product_grouped c m s in
    let a = times_sum c (m *ℤ s) (pos i) in
    let a' = product_swapped c (pos i) in
    let e : n *ℤ s +ℤ pos i *ℤ c ≡ c *ℤ (m *ℤ s +ℤ pos i) = omega (arith, ints, first, a, a') in
    let b = times_sum c (m *ℤ s) (pos (i + 1)) in
    let b' = product_swapped c (pos (i + 1)) in
    let shift : m *ℤ s +ℤ pos (i + 1) ≡ (m *ℤ s +ℤ pos i) +ℤ pos 1 = omega (arith, ints) in
    let f : n *ℤ s +ℤ pos (i + 1) *ℤ c ≡ c *ℤ ((m *ℤ s +ℤ pos i) +ℤ pos 1) = let g = ap (λ t. c *ℤ t) shift in
    omega (arith, ints, first, b, b', g) in
    ap (λ t. are_opposite t (n *ℤ s +ℤ pos (i + 1) *ℤ c)) e ∙ ap (λ t. are_opposite (c *ℤ (m *ℤ s +ℤ pos i)) t) f
    ∙ not_opposite (c *ℤ (m *ℤ s +ℤ pos i)) (c *ℤ ((m *ℤ s +ℤ pos i) +ℤ pos 1)) (one_side c (m *ℤ s +ℤ pos i))

-- a whole number between neighbours is one of them
neighbours : (k t : ℤ) → ((t ≤ℤ k) × (k ≤ℤ (t +ℤ pos 1))) → (k ≡ t) ⊎ (k ≡ t +ℤ pos 1)
neighbours k t h =
    by_lt_z t k (λ p. let a = h.1 in inr (omega (arith, ints, p, a)))
    (λ q. let a = h.0 in inl (omega (arith, ints, q, a)))

ordered : (d a b : ℤ) → pos 0 <ℤ d → (d *ℤ a) ≤ℤ (d *ℤ b) → a ≤ℤ b
ordered d a b up h =
    by_lt_z b a (λ p. let e = positive_product d (a -ℤ b) up (omega (arith, ints, p)) in let f = times_minus d a b in
    absurd (omega (arith, ints, h, e, f))) (λ q. q)

ordered_back : (d a b : ℤ) → d <ℤ pos 0 → (d *ℤ a) ≤ℤ (d *ℤ b) → b ≤ℤ a
ordered_back d a b down h =
    by_lt_z a b (λ p. let e = negative_product_both d (a -ℤ b) down (omega (arith, ints, p)) in
    let f = times_minus d a b in absurd (omega (arith, ints, h, e, f))) (λ q. q)

-- a multiple of a divisor of n that lies between two steps is at one of them
at_step : (n x p d : ℤ) (i : ℕ) → (m : ℤ) → n ≡ d *ℤ m → (d ≡ pos 0 → ⊥)
    → is_between (n *ℤ x) (n *ℤ p +ℤ pos i *ℤ d) (n *ℤ p +ℤ pos (i + 1) *ℤ d) ≡ true
    → (n *ℤ x ≡ n *ℤ p +ℤ pos i *ℤ d) ⊎ (n *ℤ x ≡ n *ℤ p +ℤ pos (i + 1) *ℤ d)
at_step n x p d i m n_is some h =
    let k = m *ℤ x in
    let t = m *ℤ p +ℤ pos i in
    let first : n *ℤ x ≡ d *ℤ k = ap (λ z. z *ℤ x) n_is ∙ product_grouped d m x in
    let second : n *ℤ p ≡ d *ℤ (m *ℤ p) = ap (λ z. z *ℤ p) n_is ∙ product_grouped d m p in
    let a = times_sum d (m *ℤ p) (pos i) in
    let a' = product_swapped d (pos i) in
    let low : n *ℤ p +ℤ pos i *ℤ d ≡ d *ℤ t = omega (arith, ints, second, a, a') in
    let b = times_sum d (m *ℤ p) (pos (i + 1)) in
    let b' = product_swapped d (pos (i + 1)) in
    let shift : m *ℤ p +ℤ pos (i + 1) ≡ t +ℤ pos 1 = omega (arith, ints) in
    let high : n *ℤ p +ℤ pos (i + 1) *ℤ d ≡ d *ℤ (t +ℤ pos 1) = let g = ap (λ z. d *ℤ z) shift in
    omega (arith, ints, second, b, b', g) in
    elim (neighbours k t (whole_between d k t some (in_order (d *ℤ k) (d *ℤ t) (d *ℤ (t +ℤ pos 1))
    (moved first low high h)))) [
      | inl e ↦ inl (first ∙ ap (λ z. d *ℤ z) e ∙ sym low)
      | inr e ↦ inr (first ∙ ap (λ z. d *ℤ z) e ∙ sym high)
    ]
  where
    moved : {a b c a' b' c' : ℤ} → a ≡ a' → b ≡ b' → c ≡ c' → is_between a b c ≡ true → is_between a' b' c' ≡ true
    moved {a = a} {b = b} {c = c} {a' = a'} {b' = b'} {c' = c'} e f g h = sym (three a b c a' b' c' e f g) ∙ h
      where
        three : (a b c a' b' c' : ℤ) → a ≡ a' → b ≡ b' → c ≡ c' → is_between a b c ≡ is_between a' b' c'
        three a b c a' b' c' e f g = rw (e, f, g) refl

    whole_between : (d k t : ℤ) → (d ≡ pos 0 → ⊥) → (((d *ℤ t) ≤ℤ (d *ℤ k)) × ((d *ℤ k) ≤ℤ (d *ℤ (t +ℤ pos 1))))
        ⊎ (((d *ℤ (t +ℤ pos 1)) ≤ℤ (d *ℤ k)) × ((d *ℤ k) ≤ℤ (d *ℤ t))) → (t ≤ℤ k) × (k ≤ℤ (t +ℤ pos 1))
    whole_between d k t some (inl h) =
        let e = times_sum d t (pos 1) in
        let o = times_one d in
        let h0 = h.0 in
        let h1 = h.1 in
        let up : pos 0 <ℤ d = by_lt_z (pos 0) d (λ p. p) (λ q. absurd (some (omega (arith, ints, e, o, h0, h1, q)))) in
        (ordered d t k up h0, ordered d k (t +ℤ pos 1) up h1)
    whole_between d k t some (inr h) =
        let e = times_sum d t (pos 1) in
        let o = times_one d in
        let h0 = h.0 in
        let h1 = h.1 in
        let down : d <ℤ pos 0 = by_lt_z d (pos 0) (λ p. p)
        (λ q. absurd (some (omega (arith, ints, e, o, h0, h1, q)))) in
        (ordered_back d k t down h1, ordered_back d (t +ℤ pos 1) k down h0)

-- ---- an edge and a step

-- what the number of steps from p to q is to be a multiple of, for an edge
pub record IsFine (n : ℕ) (p q : Point) (f : Segment) : Type 0 where
  pub some : 0 < n
  pub rise : Divides (cross_of (vector f.a f.b) (vector p q)) (pos n)
  pub run : (((m : ℤ) × (pos n ≡ (q.x -ℤ p.x) *ℤ m)) × (q.x -ℤ p.x ≡ pos 0 → ⊥))
      ⊎ (((m : ℤ) × (pos n ≡ (q.y -ℤ p.y) *ℤ m)) × (q.y -ℤ p.y ≡ pos 0 → ⊥))

pub height_of_step : (n i : ℕ) (p q : Point) (f : Segment)
    → orient_of (enlarged n f.a) (enlarged n f.b) (part_way i n p q)
    ≡ pos n *ℤ (pos n *ℤ orient_of f.a f.b p +ℤ pos i *ℤ cross_of (vector f.a f.b) (vector p q))
height_of_step n i p q f =
    side_near n f.a f.b p (point (pos i *ℤ (q.x -ℤ p.x)) (pos i *ℤ (q.y -ℤ p.y)))
    ∙ by_parts (pos n) (orient_of f.a f.b p) (f.b.x -ℤ f.a.x) (f.b.y -ℤ f.a.y) (pos i) (q.x -ℤ p.x) (q.y -ℤ p.y)
  where
    by_parts : (n s ux uy i dx dy : ℤ)
        → n *ℤ (n *ℤ s +ℤ (ux *ℤ (i *ℤ dy) -ℤ uy *ℤ (i *ℤ dx))) +ℤ pos 0 ≡ n *ℤ (n *ℤ s +ℤ i *ℤ (ux *ℤ dy -ℤ uy *ℤ dx))
    by_parts n s ux uy i dx dy =
        let a = product_grouped ux i dy in
        let a' = ap (λ t. t *ℤ dy) (product_swapped ux i) in
        let a'' = product_grouped i ux dy in
        let b = product_grouped uy i dx in
        let b' = ap (λ t. t *ℤ dx) (product_swapped uy i) in
        let b'' = product_grouped i uy dx in
        let c = times_minus i (ux *ℤ dy) (uy *ℤ dx) in
        let e : n *ℤ s +ℤ (ux *ℤ (i *ℤ dy) -ℤ uy *ℤ (i *ℤ dx)) ≡ n *ℤ s +ℤ i *ℤ
        (ux *ℤ dy -ℤ uy *ℤ dx) = omega (arith, ints, a, a', a'', b, b', b'', c) in
        let f = ap (λ t. n *ℤ t) e in
        omega (arith, ints, f)

opposite_multiple : (n s t : ℤ) → pos 0 <ℤ n → are_opposite s t ≡ false → are_opposite (n *ℤ s) (n *ℤ t) ≡ false
opposite_multiple n s t h e = opposite_scaled n s t h ∙ e

not_crossing : (n i : ℕ) (p q : Point) (f : Segment) → IsFine n p q f
    → are_opposite (orient_of (enlarged n f.a) (enlarged n f.b) (part_way i n p q))
    (orient_of (enlarged n f.a) (enlarged n f.b) (part_way (i + 1) n p q)) ≡ false
not_crossing n i p q f fine =
    let some = fine.some in
    let s = orient_of f.a f.b p in
    let c = cross_of (vector f.a f.b) (vector p q) in
    ap (λ t. are_opposite t (orient_of (enlarged n f.a) (enlarged n f.b) (part_way (i + 1) n p q)))
    (height_of_step n i p q f)
    ∙ ap (λ t. are_opposite (pos n *ℤ (pos n *ℤ s +ℤ pos i *ℤ c)) t) (height_of_step n (i + 1) p q f)
    ∙ opposite_multiple (pos n) (pos n *ℤ s +ℤ pos i *ℤ c) (pos n *ℤ s +ℤ pos (i + 1) *ℤ c)
    (omega (arith, ints, some)) (heights_beside (pos n) s c i fine.rise)

pub zero_by : (d z : ℤ) → (d ≡ pos 0 → ⊥) → d *ℤ z ≡ pos 0 → z ≡ pos 0
zero_by d z some e =
    let f = product_swapped d z in
    let g = times_neg z d in
    by_lt_z (pos 0) d
    (λ up. zero_factor z d (omega (arith, ints, e, f)) up)
    (λ p. by_lt_z d (pos 0)
    (λ down. zero_factor z (neg_ℤ d) (omega (arith, ints, e, f, g)) (omega (arith, ints, down)))
    (λ q. absurd (some (omega (arith, ints, p, q)))))

same_point_by : (x a : Point) → x.x ≡ a.x → x.y ≡ a.y → x ≡ a
same_point_by x a e f = same_coordinates x.x x.y a.x a.y e f

-- in line with two points that differ in one coordinate, with one's coordinate: that point
same_there_x : (x a b : Point) → orient_of a b x ≡ pos 0 → (b.x -ℤ a.x ≡ pos 0 → ⊥)
    → (x.x ≡ a.x → x ≡ a) × (x.x ≡ b.x → x ≡ b)
same_there_x x a b line wide = (
  λ e. let z : x.x -ℤ a.x ≡ pos 0 = omega (arith, ints, e) in
      let f = ap (λ t. (b.y -ℤ a.y) *ℤ t) z ∙ times_zero (b.y -ℤ a.y) in
      let g = zero_by (b.x -ℤ a.x) (x.y -ℤ a.y) wide (omega (arith, ints, line, f)) in
      same_point_by x a e (omega (arith, ints, g)),
  λ e. let z : x.x -ℤ a.x ≡ b.x -ℤ a.x = omega (arith, ints, e) in
      let f = ap (λ t. (b.y -ℤ a.y) *ℤ t) z ∙ product_swapped (b.y -ℤ a.y) (b.x -ℤ a.x) in
      let h = times_minus (b.x -ℤ a.x) (x.y -ℤ a.y) (b.y -ℤ a.y) in
      let g = zero_by (b.x -ℤ a.x) ((x.y -ℤ a.y) -ℤ (b.y -ℤ a.y)) wide (omega (arith, ints, line, f, h)) in
      same_point_by x b e (omega (arith, ints, g)),
)

same_there_y : (x a b : Point) → orient_of a b x ≡ pos 0 → (b.y -ℤ a.y ≡ pos 0 → ⊥)
    → (x.y ≡ a.y → x ≡ a) × (x.y ≡ b.y → x ≡ b)
same_there_y x a b line tall = (
  λ e. let z : x.y -ℤ a.y ≡ pos 0 = omega (arith, ints, e) in
      let f = ap (λ t. (b.x -ℤ a.x) *ℤ t) z ∙ times_zero (b.x -ℤ a.x) in
      let g = zero_by (b.y -ℤ a.y) (x.x -ℤ a.x) tall (omega (arith, ints, line, f)) in
      same_point_by x a (omega (arith, ints, g)) e,
  λ e. let z : x.y -ℤ a.y ≡ b.y -ℤ a.y = omega (arith, ints, e) in
      let f = ap (λ t. (b.x -ℤ a.x) *ℤ t) z ∙ product_swapped (b.x -ℤ a.x) (b.y -ℤ a.y) in
      let h = times_minus (b.y -ℤ a.y) (x.x -ℤ a.x) (b.x -ℤ a.x) in
      let g = zero_by (b.y -ℤ a.y) ((x.x -ℤ a.x) -ℤ (b.x -ℤ a.x)) tall (omega (arith, ints, line, f, h)) in
      same_point_by x b (omega (arith, ints, g)) e,
)

pub corner_at_step : (n i : ℕ) (p q v : Point) (f : Segment) → IsFine n p q f
    → is_on_segment (enlarged n v) (part_way i n p q) (part_way (i + 1) n p q) ≡ true
    → (enlarged n v ≡ part_way i n p q) ⊎ (enlarged n v ≡ part_way (i + 1) n p q)
corner_at_step n i p q v f fine on =
    by_run fine.run (between (enlarged n v) (part_way i n p q) (part_way (i + 1) n p q) on)
  where
    step_x : (part_way (i + 1) n p q).x -ℤ (part_way i n p q).x ≡ q.x -ℤ p.x
    step_x = one_step (pos n *ℤ p.x) (q.x -ℤ p.x)
      where
        one_step : (z d : ℤ) → (z +ℤ pos (i + 1) *ℤ d) -ℤ (z +ℤ pos i *ℤ d) ≡ d
        one_step z d =
            let e : pos (i + 1) ≡ pos i +ℤ pos 1 = omega (arith, ints) in
            let f = ap (λ t. t *ℤ d) e ∙ sum_times (pos i) (pos 1) d in let o = one_times d in
            omega (arith, ints, f, o)

    step_y : (part_way (i + 1) n p q).y -ℤ (part_way i n p q).y ≡ q.y -ℤ p.y
    step_y = one_step (pos n *ℤ p.y) (q.y -ℤ p.y)
      where
        one_step : (z d : ℤ) → (z +ℤ pos (i + 1) *ℤ d) -ℤ (z +ℤ pos i *ℤ d) ≡ d
        one_step z d =
            let e : pos (i + 1) ≡ pos i +ℤ pos 1 = omega (arith, ints) in
            let f = ap (λ t. t *ℤ d) e ∙ sum_times (pos i) (pos 1) d in let o = one_times d in
            omega (arith, ints, f, o)

    by_run : (((m : ℤ) × (pos n ≡ (q.x -ℤ p.x) *ℤ m)) × (q.x -ℤ p.x ≡ pos 0 → ⊥))
        ⊎ (((m : ℤ) × (pos n ≡ (q.y -ℤ p.y) *ℤ m)) × (q.y -ℤ p.y ≡ pos 0 → ⊥))
        → IsBetween (enlarged n v) (part_way i n p q) (part_way (i + 1) n p q)
        → (enlarged n v ≡ part_way i n p q) ⊎ (enlarged n v ≡ part_way (i + 1) n p q)
    by_run (inl r) b =
        let s = same_there_x (enlarged n v) (part_way i n p q) (part_way (i + 1) n p q) b.line
        (λ z. r.1 (sym step_x ∙ z)) in
        elim (at_step (pos n) v.x p.x (q.x -ℤ p.x) i r.0.0 r.0.1 r.1 b.x) [ inl e ↦ inl (s.0 e) | inr e ↦ inr (s.1 e) ]
    by_run (inr r) b =
        let s = same_there_y (enlarged n v) (part_way i n p q) (part_way (i + 1) n p q) b.line
        (λ z. r.1 (sym step_y ∙ z)) in
        elim (at_step (pos n) v.y p.y (q.y -ℤ p.y) i r.0.0 r.0.1 r.1 b.y) [ inl e ↦ inl (s.0 e) | inr e ↦ inr (s.1 e) ]

-- an edge that touches a step has one of its ends on it
pub met_at_ends : (n i : ℕ) (p q : Point) (f : Segment) → IsFine n p q f
    → do_touch (enlarged n f.a) (enlarged n f.b) (part_way i n p q) (part_way (i + 1) n p q) ≡ true
    → (is_on_segment (part_way i n p q) (enlarged n f.a) (enlarged n f.b) ≡ true)
    ⊎ (is_on_segment (part_way (i + 1) n p q) (enlarged n f.a) (enlarged n f.b) ≡ true)
unfolding do_touch cross_properly
met_at_ends n i p q f fine h =
    let a = enlarged n f.a in
    let b = enlarged n f.b in
    let g = part_way i n p q in
    let g' = part_way (i + 1) n p q in
    elim (or_cases (are_opposite (orient_of a b g) (orient_of a b g') && are_opposite (orient_of g g' a)
    (orient_of g g' b)) ((is_on_segment a g g' || is_on_segment b g g') ||
    (is_on_segment g a b || is_on_segment g' a b)) h) [
      | inl cross ↦ absurd (clash (not_crossing n i p q f fine)
          (and_parts (are_opposite (orient_of a b g) (orient_of a b g'))
          (are_opposite (orient_of g g' a) (orient_of g g' b)) cross).0)
      | inr k ↦ elim (or_cases (is_on_segment a g g' || is_on_segment b g g')
          (is_on_segment g a b || is_on_segment g' a b) k) [
            | inl l ↦ elim (or_cases (is_on_segment a g g') (is_on_segment b g g') l) [
              | inl on ↦ by_corner (on_start a b) (corner_at_step n i p q f.a f fine on)
              | inr on ↦ by_corner (on_end a b) (corner_at_step n i p q f.b f fine on)
            ]
            | inr l ↦ elim (or_cases (is_on_segment g a b) (is_on_segment g' a b) l)
                [ inl on ↦ inl on | inr on ↦ inr on ]
          ]
    ]
  where
    by_corner : {v : Point} → is_on_segment v (enlarged n f.a) (enlarged n f.b) ≡ true
        → (v ≡ part_way i n p q) ⊎ (v ≡ part_way (i + 1) n p q)
        → (is_on_segment (part_way i n p q) (enlarged n f.a) (enlarged n f.b) ≡ true)
        ⊎ (is_on_segment (part_way (i + 1) n p q) (enlarged n f.a) (enlarged n f.b) ≡ true)
    by_corner on (inl e) = inl (subst (λ t. is_on_segment t (enlarged n f.a) (enlarged n f.b) ≡ true) e on)
    by_corner on (inr e) = inr (subst (λ t. is_on_segment t (enlarged n f.a) (enlarged n f.b) ≡ true) e on)
