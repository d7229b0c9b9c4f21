-- From a step on an edge to the next, off all edges: the winding near the first, towards the second, is that of the
-- second.
use Rattle.std.specs.Prelude.{false, true}
use Rattle.std.specs.Ordering.{int_eq}
use Rattle.std.proofs.Common.{pos, ℕ, ℤ, ◌+ℤ◌, ◌*ℤ◌, arith, ◌≡◌, ◌<◌, ◌-ℤ◌, ◌<ℤ◌, ◌≤ℤ◌, ap, ◌∙◌, inl, inr, ◌⊎◌, neg_ℤ}
use Rattle.std.proofs.Common.{sym}
use Rattle.std.proofs.lemmas.Int.{ints, by_lt_z}
use Rattle.std.proofs.lemmas.Bool.{false_from_ne_true}
use Rattle.int_laws.proofs.Signs.{not_negative_product, positive_product}
use Rattle.int_laws.proofs.Ring.{times_minus, minus_times, one_times, times_sum, times_neg, product_swapped}
use Rattle.int_laws.proofs.Ring.{zero_times}
use Rattle.plane_spec.specs.declared.Point.{Point}
use Rattle.plane_spec.specs.Segments.{is_between, do_touch, is_on_segment}
use Rattle.plane_spec.specs.Vectors.{same_point, cross_of, orient_of, point, vector}
use Rattle.exact_geom.proofs.Orientation.{orient_of_first_exchanged}
use Rattle.plane_laws.specs.Enlarged.{enlarged}
use Rattle.plane_laws.proofs.Segments.Apart.{AreBefore, free_east, free_north, free_south, free_west}
use Rattle.plane_laws.proofs.Tests.{clash}
use Rattle.plane_laws.proofs.Points.Heights.{height_from}
use Rattle.plane_laws.proofs.Points.Directions.{at_end, back_cross, cross_back, some_square, parallel}
use Rattle.plane_laws.proofs.Points.Between.{between}
use Rattle.plane_laws.proofs.Segments.Touching.{changes, never_down, never_up}
use Rattle.plane_laws.proofs.Segments.Shared.{on_line_x, on_line_y}
use Rattle.winding_laws.proofs.Near.{Eventually, eventually_then, linear, square}
use Rattle.winding_laws.proofs.Strips.{Clears, clears_down, clears_left, clears_right, clears_up}
use Rattle.walk_laws.proofs.Walk.{zero_by}
use Rattle.winding_laws.specs.Windings.{near}

-- ---- one coordinate

abbrev BeforeNear : ℤ → ℤ → ℤ → ℤ → ℤ → ℕ → Type 0
BeforeNear x d y a b n = AreBefore (pos n *ℤ x +ℤ d) (pos n *ℤ y +ℤ pos 0) (pos n *ℤ a) (pos n *ℤ b)

abbrev AfterNear : ℤ → ℤ → ℤ → ℤ → ℤ → ℕ → Type 0
AfterNear x d y a b n = AreBefore (pos n *ℤ a) (pos n *ℤ b) (pos n *ℤ x +ℤ d) (pos n *ℤ y +ℤ pos 0)

-- a is at x or before it: it is before what is near x, and before y
at_or_before : (n : ℕ) (x d y a : ℤ) → 0 < n → y ≡ x +ℤ d → pos 0 <ℤ d → a ≤ℤ x
    → ((pos n *ℤ a) <ℤ (pos n *ℤ x +ℤ d)) × ((pos n *ℤ a) <ℤ (pos n *ℤ y +ℤ pos 0))
at_or_before n x d y a some e up h =
    let p = not_negative_product (pos n) (x -ℤ a) (omega (arith, ints)) (omega (arith, ints, h)) in
    let q = positive_product (pos n) (y -ℤ a) (omega (arith, ints, some)) (omega (arith, ints, h, e, up)) in
    let f = times_minus (pos n) x a in
    let g = times_minus (pos n) y a in
    (omega (arith, ints, p, f, up), omega (arith, ints, q, g))

-- a is past y
past : (n : ℕ) (x d y a : ℤ) → 0 < n → y ≡ x +ℤ d → pos 0 <ℤ d → y <ℤ a
    → ((pos n *ℤ x +ℤ d) <ℤ (pos n *ℤ a)) × ((pos n *ℤ y +ℤ pos 0) <ℤ (pos n *ℤ a))
past n x d y a some e up h =
    let p = positive_product (pos n) (a -ℤ y) (omega (arith, ints, some)) (omega (arith, ints, h)) in
    let q = not_negative_product (pos n -ℤ pos 1) d (omega (arith, ints, some)) (omega (arith, ints, up)) in
    let f = times_minus (pos n) a y in
    let g = ap (λ t. pos n *ℤ t) e ∙ times_sum (pos n) x d in
    let h' = minus_times (pos n) (pos 1) d in
    let o = one_times d in
    (omega (arith, ints, p, q, f, g, h', o), omega (arith, ints, p, f))

apart_up : (x d y a b : ℤ) → y ≡ x +ℤ d → pos 0 <ℤ d → (is_between a x y ≡ true → a ≡ x)
    → (is_between b x y ≡ true → b ≡ x) → is_between y a b ≡ false
    → Eventually (BeforeNear x d y a b) ⊎ Eventually (AfterNear x d y a b)
apart_up x d y a b e up a_at b_at y_off =
    by_lt_z y a
    (λ a_past. by_lt_z y b
    (λ b_past. inl (record {
      after = 0;
      from_there = λ n l. let p = past n x d y a l e up a_past in
          let q = past n x d y b l e up b_past in record { pa = p.0; pb = q.0; qa = p.1; qb = q.1 };
    }))
    (λ b_low. absurd (clash y_off (between_down y a b (omega (arith, ints, a_past)) b_low))))
    (λ a_low. by_lt_z y b
    (λ b_past. absurd (clash y_off (between_up y a b a_low (omega (arith, ints, b_past)))))
    (λ b_low.
    let a_under = under a a_low a_at in
    let b_under = under b b_low b_at in
    inr (record {
      after = 0;
      from_there = λ n l. let p = at_or_before n x d y a l e up a_under in
          let q = at_or_before n x d y b l e up b_under in record { pa = p.0; pb = p.1; qa = q.0; qb = q.1 };
    })))
  where
    between_down : (y a b : ℤ) → y ≤ℤ a → b ≤ℤ y → is_between y a b ≡ true
    between_down y a b h k = grind (arith, ints)

    between_up : (y a b : ℤ) → a ≤ℤ y → y ≤ℤ b → is_between y a b ≡ true
    between_up y a b h k = grind (arith, ints)

    under : (c : ℤ) → c ≤ℤ y → (is_between c x y ≡ true → c ≡ x) → c ≤ℤ x
    under c low at =
        by_lt_z x c (λ p. let s = at (between_up c x y (omega (arith, ints, p)) low) in omega (arith, ints, s))
        (λ q. q)

neg_between : (m a b : ℤ) → is_between (neg_ℤ m) (neg_ℤ a) (neg_ℤ b) ≡ is_between m a b
neg_between m a b = grind (arith, ints)

-- the two lie apart near x, towards y
apart_along : (x d y a b : ℤ) → y ≡ x +ℤ d → (d ≡ pos 0 → ⊥) → (is_between a x y ≡ true → a ≡ x)
    → (is_between b x y ≡ true → b ≡ x) → is_between y a b ≡ false
    → Eventually (BeforeNear x d y a b) ⊎ Eventually (AfterNear x d y a b)
apart_along x d y a b e some a_at b_at y_off =
    by_lt_z (pos 0) d
    (λ up. apart_up x d y a b e up a_at b_at y_off)
    (λ not_up. by_lt_z d (pos 0)
    (λ down. turned (apart_up (neg_ℤ x) (neg_ℤ d) (neg_ℤ y) (neg_ℤ a) (neg_ℤ b) (omega (arith, ints, e))
    (omega (arith, ints, down))
    (λ h. ap neg_ℤ (a_at (sym (neg_between a x y) ∙ h))) (λ h. ap neg_ℤ (b_at (sym (neg_between b x y) ∙ h)))
    (neg_between y a b ∙ y_off)))
    (λ none. absurd (some (omega (arith, ints, not_up, none)))))
  where
    back_before : (n : ℕ) → BeforeNear (neg_ℤ x) (neg_ℤ d) (neg_ℤ y) (neg_ℤ a) (neg_ℤ b) n → AfterNear x d y a b n
    back_before n h =
        let p = h.pa in let q = h.pb in let r = h.qa in let s = h.qb in
        let ex = times_neg (pos n) x in let ey = times_neg (pos n) y in let ea = times_neg (pos n) a in
        let eb = times_neg (pos n) b in
        record {
          pa = omega (arith, ints, p, ex, ea);
          pb = omega (arith, ints, r, ey, ea);
          qa = omega (arith, ints, q, ex, eb);
          qb = omega (arith, ints, s, ey, eb);
        }

    back_after : (n : ℕ) → AfterNear (neg_ℤ x) (neg_ℤ d) (neg_ℤ y) (neg_ℤ a) (neg_ℤ b) n → BeforeNear x d y a b n
    back_after n h =
        let p = h.pa in let q = h.pb in let r = h.qa in let s = h.qb in
        let ex = times_neg (pos n) x in let ey = times_neg (pos n) y in let ea = times_neg (pos n) a in
        let eb = times_neg (pos n) b in
        record {
          pa = omega (arith, ints, p, ex, ea);
          pb = omega (arith, ints, r, ex, eb);
          qa = omega (arith, ints, q, ey, ea);
          qb = omega (arith, ints, s, ey, eb);
        }

    turned : Eventually (BeforeNear (neg_ℤ x) (neg_ℤ d) (neg_ℤ y) (neg_ℤ a) (neg_ℤ b))
        ⊎ Eventually (AfterNear (neg_ℤ x) (neg_ℤ d) (neg_ℤ y) (neg_ℤ a) (neg_ℤ b))
        → Eventually (BeforeNear x d y a b) ⊎ Eventually (AfterNear x d y a b)
    turned (inl h) =
        inr (eventually_then (BeforeNear (neg_ℤ x) (neg_ℤ d) (neg_ℤ y) (neg_ℤ a) (neg_ℤ b))
        (AfterNear x d y a b) back_before h)
    turned (inr h) =
        inl (eventually_then (AfterNear (neg_ℤ x) (neg_ℤ d) (neg_ℤ y) (neg_ℤ a) (neg_ℤ b))
        (BeforeNear x d y a b) back_after h)

-- ---- an edge

-- an edge from a to b that doesn't touch the step from x to y, or touches it at x alone
pub record MeetsAtStart (a b x y : Point) : Type 0 where
  pub real : same_point a b ≡ false
  pub a_at : is_on_segment a x y ≡ true → a ≡ x
  pub b_at : is_on_segment b x y ≡ true → b ≡ x
  pub y_off : is_on_segment y a b ≡ false
  pub free : (is_on_segment x a b ≡ true → ⊥) → do_touch a b x y ≡ false

abbrev IsStep : Point → Point → Point → Type 0
IsStep x d y = (y.x ≡ x.x +ℤ d.x) × (y.y ≡ x.y +ℤ d.y)

pub clears_step : (a b x d y : Point) → IsStep x d y → (d.x ≡ pos 0 → d.y ≡ pos 0 → ⊥) → MeetsAtStart a b x y
    → Clears a b x d y (point (pos 0) (pos 0))
clears_step a b x d y step some m =
    let from = height_from a b x y in
    let rise : cross_of (vector a b) (vector x y) ≡ cross_of (vector a b) d = ways (b.x -ℤ a.x) (b.y -ℤ a.y) in
    let o_x = orient_of_first_exchanged a b x in
    let o_y = orient_of_first_exchanged a b y in
    let back = cross_back d a b in
    by_lt_z (pos 0) (orient_of a b y)
    (λ y_up. by_lt_z (pos 0) (orient_of a b x)
    (λ x_up. clears_left a b x d y zero (square x_up) (square y_up))
    (λ x_low. by_lt_z (orient_of a b x) (pos 0)
    (λ x_down. crossing (off_line (λ e. omega (arith, ints, e, x_down)))
    (λ free at_a at_b. absurd (never_less (omega (arith, ints, x_down, y_up)) at_a at_b))
    (λ free at_a at_b. never_up a b x y free x_low (omega (arith, ints, y_up)) at_a at_b
    (omega (arith, ints, x_down, y_up))))
    (λ x_on. clears_left a b x d y zero (linear (omega (arith, ints, x_low, x_on))
    (omega (arith, ints, from, rise, x_low, y_up))) (square y_up))))
    (λ y_low. by_lt_z (orient_of a b y) (pos 0)
    (λ y_down. by_lt_z (orient_of a b x) (pos 0)
    (λ x_down. clears_right a b x d y zero (square (omega (arith, ints, o_x, x_down)))
    (square (omega (arith, ints, o_y, y_down))))
    (λ x_high. by_lt_z (pos 0) (orient_of a b x)
    (λ x_up. crossing (off_line (λ e. omega (arith, ints, e, x_up)))
    (λ free at_a at_b. never_down a b x y free x_high y_low at_a at_b (omega (arith, ints, x_up, y_down)))
    (λ free at_a at_b. absurd (never_more (omega (arith, ints, x_up, y_down)) at_a at_b)))
    (λ x_on. clears_right a b x d y zero (linear (omega (arith, ints, o_x, x_high, x_on))
    (omega (arith, ints, back, from, rise, x_high, x_on, y_down))) (square (omega (arith, ints, o_y, y_down))))))
    (λ y_on. by_lt_z (pos 0) (orient_of a b x)
    (λ x_up. crossing (off_line (λ e. omega (arith, ints, e, x_up)))
    (λ free at_a at_b. never_down a b x y free (omega (arith, ints, x_up)) y_low at_a at_b
    (omega (arith, ints, x_up, y_low))) (λ free at_a at_b. absurd
    (never_more (omega (arith, ints, x_up, y_low)) at_a at_b)))
    (λ x_low. by_lt_z (orient_of a b x) (pos 0)
    (λ x_down. crossing (off_line (λ e. omega (arith, ints, e, x_down)))
    (λ free at_a at_b. absurd (never_less (omega (arith, ints, x_down, y_on)) at_a at_b))
    (λ free at_a at_b. never_up a b x y free x_low y_on at_a at_b (omega (arith, ints, x_down, y_on))))
    (λ x_on. in_line (omega (arith, ints, x_low, x_on)) (omega (arith, ints, y_low, y_on))))))
  where
    zero : Point
    zero = point (pos 0) (pos 0)

    ways : (ux uy : ℤ) → ux *ℤ (y.y -ℤ x.y) -ℤ uy *ℤ (y.x -ℤ x.x) ≡ ux *ℤ d.y -ℤ uy *ℤ d.x
    ways ux uy =
        let sx = step.0 in let sy = step.1 in
        let e : y.y -ℤ x.y ≡ d.y = omega (arith, ints, sy) in
        let f : y.x -ℤ x.x ≡ d.x = omega (arith, ints, sx) in
        ap (λ t. ux *ℤ t -ℤ uy *ℤ (y.x -ℤ x.x)) e ∙ ap (λ t. ux *ℤ d.y -ℤ uy *ℤ t) f

    never_less : orient_of a b x <ℤ orient_of a b y → orient_of x y a ≤ℤ pos 0 → pos 0 ≤ℤ orient_of x y b → ⊥
    never_less less at_a at_b = let c = changes a b x y in absurd (omega (arith, ints, c, less, at_a, at_b))

    never_more : orient_of a b y <ℤ orient_of a b x → pos 0 ≤ℤ orient_of x y a → orient_of x y b ≤ℤ pos 0 → ⊥
    never_more more at_a at_b = let c = changes a b x y in absurd (omega (arith, ints, c, more, at_a, at_b))

    off_line : (orient_of a b x ≡ pos 0 → ⊥) → do_touch a b x y ≡ false
    off_line off = m.free (λ on. off (between x a b on).line)

    crossing : do_touch a b x y ≡ false → (do_touch a b x y ≡ false → orient_of x y a ≤ℤ pos 0
        → pos 0 ≤ℤ orient_of x y b → ⊥) → (do_touch a b x y ≡ false → pos 0 ≤ℤ orient_of x y a
        → orient_of x y b ≤ℤ pos 0 → ⊥)
        → Clears a b x d y (point (pos 0) (pos 0))
    crossing free not_down not_up =
        by_lt_z (pos 0) (orient_of x y a)
        (λ a_up. by_lt_z (pos 0) (orient_of x y b)
        (λ b_up. clears_up a b x d y (point (pos 0) (pos 0)) (square a_up) (square b_up))
        (λ b_down. absurd (not_up free (omega (arith, ints, a_up)) b_down)))
        (λ a_down. by_lt_z (pos 0) (orient_of x y b)
        (λ b_up. absurd (not_down free a_down (omega (arith, ints, b_up))))
        (λ b_down. by_lt_z (orient_of x y a) (pos 0)
        (λ a_under. by_lt_z (orient_of x y b) (pos 0)
        (λ b_under. clears_down a b x d y (point (pos 0) (pos 0)) (square (under a a_under)) (square (under b b_under)))
        (λ b_on. absurd (not_down free a_down b_on)))
        (λ a_on. absurd (not_up free a_on b_down))))
      where
        under : (c : Point) → orient_of x y c <ℤ pos 0 → pos 0 <ℤ orient_of y x c
        under c low = let o = orient_of_first_exchanged x y c in omega (arith, ints, o, low)

    differ : (p q r : ℤ) → q ≡ p +ℤ r → (r ≡ pos 0 → ⊥) → int_eq p q ≡ false
    differ p q r e never =
        by_lt_z p q (λ h. grind (arith, ints)) (λ h. by_lt_z q p (λ k. grind (arith, ints))
        (λ k. absurd (never (omega (arith, ints, e, h, k)))))

    -- an edge along the step isn't level where the step isn't, and so across
    wide : (ux uy dx dy : ℤ) → ux *ℤ dy -ℤ uy *ℤ dx ≡ pos 0 → (dx ≡ pos 0 → ⊥) → ux ≡ pos 0 → uy ≡ pos 0
    wide ux uy dx dy e never z =
        let f = ap (λ t. t *ℤ dy) z ∙ zero_times dy in
        let t = product_swapped uy dx in
        zero_by dx uy never (omega (arith, ints, e, f, t))

    tall : (ux uy dx dy : ℤ) → ux *ℤ dy -ℤ uy *ℤ dx ≡ pos 0 → (dy ≡ pos 0 → ⊥) → uy ≡ pos 0 → ux ≡ pos 0
    tall ux uy dx dy e never z =
        let f = ap (λ t. t *ℤ dx) z ∙ zero_times dx in
        let t = product_swapped ux dy in
        zero_by dy ux never (omega (arith, ints, e, f, t))

    nothing : b.x -ℤ a.x ≡ pos 0 → b.y -ℤ a.y ≡ pos 0 → ⊥
    nothing e f =
        let k = some_square a b m.real in
        let g = ap (λ t. t *ℤ (b.x -ℤ a.x)) e ∙ zero_times (b.x -ℤ a.x) in
        let h = ap (λ t. t *ℤ (b.y -ℤ a.y)) f ∙ zero_times (b.y -ℤ a.y) in
        absurd (omega (arith, ints, k, g, h))

    across : orient_of x y a ≡ pos 0 → orient_of x y b ≡ pos 0 → orient_of a b y ≡ pos 0
        → cross_of (vector a b) (vector x y) ≡ pos 0 → (d.x ≡ pos 0 → ⊥) → Clears a b x d y (point (pos 0) (pos 0))
    across at_a at_b y_on par never =
        let sx = step.0 in
        let apart_xy = differ x.x y.x d.x sx never in
        let never_xy : y.x -ℤ x.x ≡ pos 0 → ⊥ = λ e. never (omega (arith, ints, e, sx)) in
        let apart_ab = differ a.x b.x (b.x -ℤ a.x) (omega (arith, ints))
        (λ e. nothing e (wide (b.x -ℤ a.x) (b.y -ℤ a.y) (y.x -ℤ x.x) (y.y -ℤ x.y) par never_xy e)) in
        elim (apart_along x.x d.x y.x a.x b.x sx never (λ h. ap (λ t. t.x) (m.a_at (on_line_x a x y at_a apart_xy h)))
        (λ h. ap (λ t. t.x) (m.b_at (on_line_x b x y at_b apart_xy h)))
        (false_from_ne_true (is_between y.x a.x b.x) (λ h. clash m.y_off (on_line_x y a b y_on apart_ab h)))) [
          | inl h ↦ eventually_then (BeforeNear x.x d.x y.x a.x b.x)
              (λ n. do_touch (enlarged n a) (enlarged n b) (near n x d) (near n y (point (pos 0) (pos 0))) ≡ false)
              (λ n k. free_west (enlarged n a) (enlarged n b) (near n x d) (near n y (point (pos 0) (pos 0))) k) h
          | inr h ↦ eventually_then (AfterNear x.x d.x y.x a.x b.x)
              (λ n. do_touch (enlarged n a) (enlarged n b) (near n x d) (near n y (point (pos 0) (pos 0))) ≡ false)
              (λ n k. free_east (enlarged n a) (enlarged n b) (near n x d) (near n y (point (pos 0) (pos 0))) k) h
        ]

    upwards : orient_of x y a ≡ pos 0 → orient_of x y b ≡ pos 0 → orient_of a b y ≡ pos 0
        → cross_of (vector a b) (vector x y) ≡ pos 0 → (d.y ≡ pos 0 → ⊥) → Clears a b x d y (point (pos 0) (pos 0))
    upwards at_a at_b y_on par never =
        let sy = step.1 in
        let apart_xy = differ x.y y.y d.y sy never in
        let never_xy : y.y -ℤ x.y ≡ pos 0 → ⊥ = λ e. never (omega (arith, ints, e, sy)) in
        let apart_ab = differ a.y b.y (b.y -ℤ a.y) (omega (arith, ints))
        (λ e. nothing (tall (b.x -ℤ a.x) (b.y -ℤ a.y) (y.x -ℤ x.x) (y.y -ℤ x.y) par never_xy e) e) in
        elim (apart_along x.y d.y y.y a.y b.y sy never (λ h. ap (λ t. t.y) (m.a_at (on_line_y a x y at_a apart_xy h)))
        (λ h. ap (λ t. t.y) (m.b_at (on_line_y b x y at_b apart_xy h)))
        (false_from_ne_true (is_between y.y a.y b.y) (λ h. clash m.y_off (on_line_y y a b y_on apart_ab h)))) [
          | inl h ↦ eventually_then (BeforeNear x.y d.y y.y a.y b.y)
              (λ n. do_touch (enlarged n a) (enlarged n b) (near n x d) (near n y (point (pos 0) (pos 0))) ≡ false)
              (λ n k. free_south (enlarged n a) (enlarged n b) (near n x d) (near n y (point (pos 0) (pos 0))) k) h
          | inr h ↦ eventually_then (AfterNear x.y d.y y.y a.y b.y)
              (λ n. do_touch (enlarged n a) (enlarged n b) (near n x d) (near n y (point (pos 0) (pos 0))) ≡ false)
              (λ n k. free_north (enlarged n a) (enlarged n b) (near n x d) (near n y (point (pos 0) (pos 0))) k) h
        ]

    in_line : orient_of a b x ≡ pos 0 → orient_of a b y ≡ pos 0 → Clears a b x d y (point (pos 0) (pos 0))
    in_line x_on y_on =
        let from = height_from a b x y in
        let par : cross_of (vector a b) (vector x y) ≡ pos 0 = omega (arith, ints, from, x_on, y_on) in
        let some_way = some_square a b m.real in
        let to_a = back_cross (vector a b) a x in
        let at_a = parallel (vector a b) (vector x y) (vector x a) some_way par (omega (arith, ints, to_a, x_on)) in
        let turn = height_from a b b x in
        let at_end_b = at_end a b in
        let to_b = back_cross (vector a b) b x in
        let at_b = parallel (vector a b) (vector x y) (vector x b) some_way par
        (omega (arith, ints, turn, at_end_b, to_b, x_on)) in
        by_lt_z d.x (pos 0)
        (λ p. across at_a at_b y_on par (λ e. omega (arith, ints, e, p)))
        (λ p. by_lt_z (pos 0) d.x
        (λ q. across at_a at_b y_on par (λ e. omega (arith, ints, e, q)))
        (λ q. upwards at_a at_b y_on par (λ e. some (omega (arith, ints, p, q)) e)))
