-- Along a row of the grid, from the right to the left: the winding starts at 0 and changes at each wall between the
-- values of its sides.
use Rattle.std.specs.Prelude.{int_lt, if◌then◌else◌, List, map, [], ◌∷◌, true, false}
use Rattle.std.proofs.Common.{ℤ, ◌≡◌, ◌<◌, ◌-ℤ◌, ◌*ℤ◌, ◌<ℤ◌, arith, inl, inr, pos, ℕ, ◌+ℤ◌, ap, neg_ℤ, ◌∙◌, sym}
use Rattle.std.proofs.Common.{refl, subst, ◌⊎◌}
use Rattle.std.proofs.lemmas.Int.{by_lt_z, ints}
use Rattle.std.proofs.lemmas.Bool.{false_from_ne_true}
use Rattle.int_laws.proofs.Signs.{positive_product, not_negative_product, zero_factor}
use Rattle.int_laws.proofs.Ring.{times_minus, product_grouped, product_swapped, times_sum, times_one, zero_times}
use Rattle.int_laws.proofs.Tests.{agree, less_tested, tested_less, not_less}
use Rattle.plane_spec.specs.declared.Segment.{Segment}
use Rattle.plane_spec.specs.declared.Point.{Point}
use Rattle.plane_spec.specs.Vectors.{point, orient_of}
use Rattle.plane_spec.specs.Segments.{is_on_segment}
use Rattle.plane_laws.specs.Enlarged.{enlarged_wall}
use Rattle.plane_laws.proofs.Points.Between.{high, low}
use Rattle.plane_laws.proofs.Lists.Members.{IsIn}
use Rattle.plane_laws.proofs.Segments.Touching.{on_by, on_turned}
use Rattle.plane_laws.proofs.Tests.{clash}
use Rattle.winding_laws.specs.Windings.{wind, winding, near}
use Rattle.winding_laws.proofs.OneEdge.{wind_above, wind_below, wind_turned}
use Rattle.winding_laws.proofs.Strips.{HasWinding}
use Rattle.side_laws.proofs.Sound.{Distinct}
use Rattle.area_laws.proofs.Cells.{IsOnGrid, place_at, wind_at, orient_sloped, back_slope}
use Rattle.sight_spec.specs.Scene.{turned_edge}

-- ---- an edge at a row

-- an edge lies above the height y or below it, or it crosses the height upwards or downwards, with a slope in whole
-- numbers
pub data AtRow (f : Segment) (y : ℤ) : Type 0 where
  under : f.a.y <ℤ y → f.b.y <ℤ y → AtRow f y
  over : y <ℤ f.a.y → y <ℤ f.b.y → AtRow f y
  rises : (slope : ℤ) → f.a.y <ℤ y → y <ℤ f.b.y → f.b.x -ℤ f.a.x ≡ slope *ℤ (f.b.y -ℤ f.a.y) → AtRow f y
  falls : (slope : ℤ) → f.b.y <ℤ y → y <ℤ f.a.y → f.a.x -ℤ f.b.x ≡ slope *ℤ (f.a.y -ℤ f.b.y) → AtRow f y

pub at_row : (left base : ℤ) (m n : ℕ) (f : Segment) (i : ℕ) → IsOnGrid left base m n f
    → AtRow f (base +ℤ ((pos i +ℤ pos i) +ℤ pos 1))
at_row left base m n f i g =
    let from = g.a_y in
    let to = g.b_y in
    by_lt_z (pos i) (pos g.from)
    (λ a_over. by_lt_z (pos i) (pos g.to)
    (λ b_over. over (omega (arith, ints, from, a_over)) (omega (arith, ints, to, b_over)))
    (λ b_under. elim g.sloped [
      | inl level ↦ absurd (omega (arith, ints, from, to, level, a_over, b_under))
      | inr s ↦ falls g.slope (omega (arith, ints, to, b_under)) (omega (arith, ints, from, a_over))
          (back_slope f.a.x f.b.x f.a.y f.b.y g.slope s)
    ]))
    (λ a_under. by_lt_z (pos i) (pos g.to)
    (λ b_over. elim g.sloped [
      | inl level ↦ absurd (omega (arith, ints, from, to, level, a_under, b_over))
      | inr s ↦ rises g.slope (omega (arith, ints, from, a_under)) (omega (arith, ints, to, b_over)) s
    ])
    (λ b_under. under (omega (arith, ints, from, a_under)) (omega (arith, ints, to, b_under))))

-- ---- an edge, beside a point of the row

level_times : (n : ℕ) (a y : ℤ) → 1 < n → a <ℤ y → (pos n *ℤ a) <ℤ (pos n *ℤ y +ℤ pos 0)
level_times n a y some less =
    let e = times_minus (pos n) y a in
    let h = positive_product (pos n) (y -ℤ a) (omega (arith, ints, some)) (omega (arith, ints, less)) in
    omega (arith, ints, e, h)

level_times_over : (n : ℕ) (a y : ℤ) → 1 < n → y <ℤ a → (pos n *ℤ y +ℤ pos 0) <ℤ (pos n *ℤ a)
level_times_over n a y some less =
    let e = times_minus (pos n) a y in
    let h = positive_product (pos n) (a -ℤ y) (omega (arith, ints, some)) (omega (arith, ints, less)) in
    omega (arith, ints, e, h)

-- where the enlarged edge is at the enlarged height
place_enlarged : (n : ℕ) (f : Segment) (slope y : ℤ)
    → place_at (enlarged_wall n f) slope (pos n *ℤ y +ℤ pos 0) ≡ pos n *ℤ place_at f slope y
place_enlarged n f slope y = by_parts (pos n) f.a.x slope y f.a.y
  where
    by_parts : (n a c y b : ℤ) → n *ℤ a +ℤ c *ℤ ((n *ℤ y +ℤ pos 0) -ℤ n *ℤ b) ≡ n *ℤ (a +ℤ c *ℤ (y -ℤ b))
    by_parts n a c y b =
        let e = times_minus n y b in
        let s : (n *ℤ y +ℤ pos 0) -ℤ n *ℤ b ≡ n *ℤ (y -ℤ b) = omega (arith, ints, e) in
        let f = ap (λ t. c *ℤ t) s in
        let g = product_grouped c n (y -ℤ b) in
        let h = product_grouped n c (y -ℤ b) in
        let i = ap (λ t. t *ℤ (y -ℤ b)) (product_swapped c n) in
        let j = times_sum n a (c *ℤ (y -ℤ b)) in
        omega (arith, ints, f, g, h, i, j)

slope_enlarged : (n : ℕ) (f : Segment) (slope : ℤ) → f.b.x -ℤ f.a.x ≡ slope *ℤ (f.b.y -ℤ f.a.y)
    → (enlarged_wall n f).b.x -ℤ (enlarged_wall n f).a.x ≡ slope *ℤ ((enlarged_wall n f).b.y -ℤ (enlarged_wall n f).a.y)
slope_enlarged n f slope h = by_parts (pos n) f.a.x f.b.x f.a.y f.b.y slope h
  where
    by_parts : (n ax bx ay by c : ℤ) → bx -ℤ ax ≡ c *ℤ (by -ℤ ay) → n *ℤ bx -ℤ n *ℤ ax ≡ c *ℤ (n *ℤ by -ℤ n *ℤ ay)
    by_parts n ax bx ay by c h =
        let e = times_minus n bx ax in
        let f = ap (λ t. n *ℤ t) h in
        let g = product_grouped n c (by -ℤ ay) in
        let i = product_grouped c n (by -ℤ ay) in
        let j = ap (λ t. t *ℤ (by -ℤ ay)) (product_swapped c n) in
        let k = ap (λ t. c *ℤ t) (times_minus n by ay) in
        omega (arith, ints, e, f, g, i, j, k)

-- what is less stays so to the right, in a plane twice as large or more
less_right : (n : ℕ) (x p : ℤ) → 1 < n → int_lt (pos n *ℤ x +ℤ pos 1) (pos n *ℤ p) ≡ int_lt x p
less_right n x p some =
    agree (int_lt (pos n *ℤ x +ℤ pos 1) (pos n *ℤ p)) (int_lt x p)
    (λ h. by_lt_z x p (λ q. less_tested x p q)
    (λ q. let g = tested_less (pos n *ℤ x +ℤ pos 1) (pos n *ℤ p) h in
    let e = times_minus (pos n) x p in
    let k = not_negative_product (pos n) (x -ℤ p) (omega (arith, ints)) (omega (arith, ints, q)) in
    absurd (omega (arith, ints, g, e, k))))
    (λ h. let g = tested_less x p h in
    let e = times_minus (pos n) (p -ℤ x) (pos 1) in
    let e' = times_minus (pos n) p x in
    let o = times_one (pos n) in
    let k = not_negative_product (pos n) ((p -ℤ x) -ℤ pos 1) (omega (arith, ints)) (omega (arith, ints, g)) in
    less_tested (pos n *ℤ x +ℤ pos 1) (pos n *ℤ p) (omega (arith, ints, e, e', o, k, some)))

less_left : (n : ℕ) (x p : ℤ) → 1 < n → int_lt (pos n *ℤ x +ℤ neg_ℤ (pos 1)) (pos n *ℤ p) ≡ int_lt (x -ℤ pos 1) p
less_left n x p some =
    agree (int_lt (pos n *ℤ x +ℤ neg_ℤ (pos 1)) (pos n *ℤ p)) (int_lt (x -ℤ pos 1) p)
    (λ h. by_lt_z (x -ℤ pos 1) p (λ q. less_tested (x -ℤ pos 1) p q)
    (λ q. let g = tested_less (pos n *ℤ x +ℤ neg_ℤ (pos 1)) (pos n *ℤ p) h in
    let e = times_minus (pos n) (x -ℤ p) (pos 1) in
    let e' = times_minus (pos n) x p in
    let o = times_one (pos n) in
    let k = not_negative_product (pos n) ((x -ℤ p) -ℤ pos 1) (omega (arith, ints)) (omega (arith, ints, q)) in
    absurd (omega (arith, ints, g, e, e', o, k, some))))
    (λ h. let g = tested_less (x -ℤ pos 1) p h in
    let e' = times_minus (pos n) p x in
    let k = not_negative_product (pos n) (p -ℤ x) (omega (arith, ints)) (omega (arith, ints, g)) in
    less_tested (pos n *ℤ x +ℤ neg_ℤ (pos 1)) (pos n *ℤ p) (omega (arith, ints, e', k)))

abbrev pub east : Point
east = point (pos 1) (pos 0)

abbrev pub west : Point
west = point (neg_ℤ (pos 1)) (pos 0)

rising_near : (n : ℕ) (f : Segment) (slope x y s : ℤ) → 1 < n → f.a.y <ℤ y → y <ℤ f.b.y
    → f.b.x -ℤ f.a.x ≡ slope *ℤ (f.b.y -ℤ f.a.y)
    → wind (near n (point x y) (point s (pos 0))) (enlarged_wall n f)
    ≡ (if int_lt (pos n *ℤ x +ℤ s) (pos n *ℤ place_at f slope y) then pos 1 else pos 0)
rising_near n f slope x y s some low high sl =
    let low_n = level_times n f.a.y y some low in
    wind_at (enlarged_wall n f) slope (near n (point x y) (point s (pos 0))) (omega (arith, ints, low_n))
    (level_times_over n f.b.y y some high) (slope_enlarged n f slope sl)
    ∙ ap (λ t. if int_lt (pos n *ℤ x +ℤ s) t then pos 1 else pos 0) (place_enlarged n f slope y)

rising_right : (n : ℕ) (f : Segment) (slope x y : ℤ) → 1 < n → f.a.y <ℤ y → y <ℤ f.b.y
    → f.b.x -ℤ f.a.x ≡ slope *ℤ (f.b.y -ℤ f.a.y)
    → wind (near n (point x y) east) (enlarged_wall n f) ≡ wind (point x y) f
rising_right n f slope x y some low high sl =
    rising_near n f slope x y (pos 1) some low high sl
    ∙ ap (λ t. if t then pos 1 else pos 0) (less_right n x (place_at f slope y) some)
    ∙ sym (wind_at f slope (point x y) (omega (arith, ints, low)) high sl)

rising_left : (n : ℕ) (f : Segment) (slope x y : ℤ) → 1 < n → f.a.y <ℤ y → y <ℤ f.b.y
    → f.b.x -ℤ f.a.x ≡ slope *ℤ (f.b.y -ℤ f.a.y)
    → wind (near n (point x y) west) (enlarged_wall n f) ≡ wind (point (x -ℤ pos 1) y) f
rising_left n f slope x y some low high sl =
    rising_near n f slope x y (neg_ℤ (pos 1)) some low high sl
    ∙ ap (λ t. if t then pos 1 else pos 0) (less_left n x (place_at f slope y) some)
    ∙ sym (wind_at f slope (point (x -ℤ pos 1) y) (omega (arith, ints, low)) high sl)

negated : (a b c d : ℤ) → a ≡ neg_ℤ b → c ≡ neg_ℤ d → a ≡ c → b ≡ d
negated a b c d e f g = omega (arith, ints, e, f, g)

right_of : (n : ℕ) (f : Segment) (x y : ℤ) → 1 < n → AtRow f y
    → wind (near n (point x y) east) (enlarged_wall n f) ≡ wind (point x y) f
right_of n f x y some (under h k) =
    let h_n = level_times n f.a.y y some h in
    let k_n = level_times n f.b.y y some k in
    wind_above (near n (point x y) east) (enlarged_wall n f) (omega (arith, ints, h_n)) (omega (arith, ints, k_n))
    ∙ sym (wind_above (point x y) f (omega (arith, ints, h)) (omega (arith, ints, k)))
right_of n f x y some (over h k) =
    wind_below (near n (point x y) east) (enlarged_wall n f) (level_times_over n f.a.y y some h)
    (level_times_over n f.b.y y some k) ∙ sym (wind_below (point x y) f h k)
right_of n f x y some (rises slope h k s) = rising_right n f slope x y some h k s
right_of n f x y some (falls slope h k s) =
    negated _ _ _ _ (wind_turned (near n (point x y) east) (enlarged_wall n f)) (wind_turned (point x y) f)
    (rising_right n (turned_edge f) slope x y some h k s)

left_of : (n : ℕ) (f : Segment) (x y : ℤ) → 1 < n → AtRow f y
    → wind (near n (point x y) west) (enlarged_wall n f) ≡ wind (point (x -ℤ pos 1) y) f
left_of n f x y some (under h k) =
    let h_n = level_times n f.a.y y some h in
    let k_n = level_times n f.b.y y some k in
    wind_above (near n (point x y) west) (enlarged_wall n f) (omega (arith, ints, h_n)) (omega (arith, ints, k_n))
    ∙ sym (wind_above (point (x -ℤ pos 1) y) f (omega (arith, ints, h)) (omega (arith, ints, k)))
left_of n f x y some (over h k) =
    wind_below (near n (point x y) west) (enlarged_wall n f) (level_times_over n f.a.y y some h)
    (level_times_over n f.b.y y some k) ∙ sym (wind_below (point (x -ℤ pos 1) y) f h k)
left_of n f x y some (rises slope h k s) = rising_left n f slope x y some h k s
left_of n f x y some (falls slope h k s) =
    negated _ _ _ _ (wind_turned (near n (point x y) west) (enlarged_wall n f)) (wind_turned (point (x -ℤ pos 1) y) f)
    (rising_left n (turned_edge f) slope x y some h k s)

-- ---- all edges

right_windings : (n : ℕ) (edges : List Segment) (x y : ℤ) → 1 < n → ((f : Segment) → IsIn edges f → AtRow f y)
    → winding (near n (point x y) east) (map (enlarged_wall n) edges) ≡ winding (point x y) edges
right_windings n [] x y some rows = refl
right_windings n (f ∷ edges) x y some rows =
    let first = right_of n f x y some (rows f (inl refl)) in
    let rest = right_windings n edges x y some (λ g h. rows g (inr h)) in
    omega (arith, ints, first, rest)

left_windings : (n : ℕ) (edges : List Segment) (x y : ℤ) → 1 < n → ((f : Segment) → IsIn edges f → AtRow f y)
    → winding (near n (point x y) west) (map (enlarged_wall n) edges) ≡ winding (point (x -ℤ pos 1) y) edges
left_windings n [] x y some rows = refl
left_windings n (f ∷ edges) x y some rows =
    let first = left_of n f x y some (rows f (inl refl)) in
    let rest = left_windings n edges x y some (λ g h. rows g (inr h)) in
    omega (arith, ints, first, rest)

pub windings_right : (edges : List Segment) (x y : ℤ) → ((f : Segment) → IsIn edges f → AtRow f y)
    → HasWinding edges (point x y) east (winding (point x y) edges)
windings_right edges x y rows = record { after = 1; from_there = λ n some. right_windings n edges x y some rows }

pub windings_left : (edges : List Segment) (x y : ℤ) → ((f : Segment) → IsIn edges f → AtRow f y)
    → HasWinding edges (point x y) west (winding (point (x -ℤ pos 1) y) edges)
windings_left edges x y rows = record { after = 1; from_there = λ n some. left_windings n edges x y some rows }

-- ---- from one column to the next

-- the place of a rising edge at the height of a point that is on it
rising_on : (f : Segment) (slope x y : ℤ) → f.a.y <ℤ y → y <ℤ f.b.y → f.b.x -ℤ f.a.x ≡ slope *ℤ (f.b.y -ℤ f.a.y)
    → orient_of f.a f.b (point x y) ≡ pos 0 → place_at f slope y ≡ x
rising_on f slope x y low high sl line =
    let e = sym (orient_sloped f slope (point x y) sl) ∙ line in
    let z = zero_factor (place_at f slope y -ℤ x) (f.b.y -ℤ f.a.y) e (omega (arith, ints, low, high)) in
    omega (arith, ints, z)

pub rising_off : (f : Segment) (slope x y : ℤ) → f.a.y <ℤ y → y <ℤ f.b.y → f.b.x -ℤ f.a.x ≡ slope *ℤ (f.b.y -ℤ f.a.y)
    → place_at f slope y ≡ x → is_on_segment (point x y) f.a f.b ≡ true
rising_off f slope x y low high sl at =
    on_by (point x y) f.a f.b (f.b.y -ℤ f.a.y) (y -ℤ f.a.y) line (omega (arith, ints, low, high))
    (omega (arith, ints, low)) (omega (arith, ints, high)) across (product_swapped (f.b.y -ℤ f.a.y) (y -ℤ f.a.y))
  where
    line : orient_of f.a f.b (point x y) ≡ pos 0
    line =
        orient_sloped f slope (point x y) sl
        ∙ (let z : place_at f slope y -ℤ x ≡ pos 0 = omega (arith, ints, at) in
        ap (λ t. t *ℤ (f.b.y -ℤ f.a.y)) z ∙ zero_times (f.b.y -ℤ f.a.y))

    across : (f.b.y -ℤ f.a.y) *ℤ (x -ℤ f.a.x) ≡ (y -ℤ f.a.y) *ℤ (f.b.x -ℤ f.a.x)
    across =
        let turn = product_swapped (f.b.x -ℤ f.a.x) (y -ℤ f.a.y) in
        omega (arith, ints, line, turn)

rising_step : (f : Segment) (slope x y : ℤ) → f.a.y <ℤ y → y <ℤ f.b.y → f.b.x -ℤ f.a.x ≡ slope *ℤ (f.b.y -ℤ f.a.y)
    → is_on_segment (point x y) f.a f.b ≡ false
    → wind (point (x -ℤ pos 1) y) f ≡ wind (point x y) f
rising_step f slope x y low high sl off =
    wind_at f slope (point (x -ℤ pos 1) y) (omega (arith, ints, low)) high sl
    ∙ ap (λ t. if t then pos 1 else pos 0) (same_test x (place_at f slope y)
    (λ e. clash off (rising_off f slope x y low high sl e)))
    ∙ sym (wind_at f slope (point x y) (omega (arith, ints, low)) high sl)
  where
    same_test : (x p : ℤ) → (p ≡ x → ⊥) → int_lt (x -ℤ pos 1) p ≡ int_lt x p
    same_test x p never =
        agree (int_lt (x -ℤ pos 1) p) (int_lt x p)
        (λ h. let g = tested_less (x -ℤ pos 1) p h in by_lt_z x p (λ q. less_tested x p q)
        (λ q. absurd (never (omega (arith, ints, g, q)))))
        (λ h. let g = tested_less x p h in less_tested (x -ℤ pos 1) p (omega (arith, ints, g)))

off_step : (f : Segment) (x y : ℤ) → AtRow f y → is_on_segment (point x y) f.a f.b ≡ false
    → wind (point (x -ℤ pos 1) y) f ≡ wind (point x y) f
off_step f x y (under h k) off =
    wind_above (point (x -ℤ pos 1) y) f (omega (arith, ints, h)) (omega (arith, ints, k))
    ∙ sym (wind_above (point x y) f (omega (arith, ints, h)) (omega (arith, ints, k)))
off_step f x y (over h k) off = wind_below (point (x -ℤ pos 1) y) f h k ∙ sym (wind_below (point x y) f h k)
off_step f x y (rises slope h k s) off = rising_step f slope x y h k s off
off_step f x y (falls slope h k s) off =
    negated _ _ _ _ (wind_turned (point (x -ℤ pos 1) y) f) (wind_turned (point x y) f)
    (rising_step (turned_edge f) slope x y h k s (false_from_ne_true _
    (λ on. clash off (on_turned (point x y) f.a f.b on))))

-- where no edge has the point on it, the winding stays
pub free_step : (edges : List Segment) (x y : ℤ) → ((f : Segment) → IsIn edges f → AtRow f y)
    → ((f : Segment) → IsIn edges f → is_on_segment (point x y) f.a f.b ≡ false)
    → winding (point (x -ℤ pos 1) y) edges ≡ winding (point x y) edges
free_step [] x y rows off = refl
free_step (f ∷ edges) x y rows off =
    let first = off_step f x y (rows f (inl refl)) (off f (inl refl)) in
    let rest = free_step edges x y (λ g h. rows g (inr h)) (λ g h. off g (inr h)) in
    omega (arith, ints, first, rest)

-- where one edge alone has the point on it, the winding changes by that edge
pub one_step : (edges : List Segment) (f : Segment) (x y : ℤ) → Distinct edges
    → ((g : Segment) → IsIn edges g → AtRow g y) → IsIn edges f → is_on_segment (point x y) f.a f.b ≡ true
    → ((g : Segment) → IsIn edges g → (g ≡ f) ⊎ (is_on_segment (point x y) g.a g.b ≡ false))
    → winding (point (x -ℤ pos 1) y) edges -ℤ winding (point x y) edges
    ≡ wind (point (x -ℤ pos 1) y) f -ℤ wind (point x y) f
one_step [] f x y distinct rows there on others = absurd there
one_step (e ∷ edges) f x y distinct rows there on others =
    by_first (others e (inl refl)) there (λ later. one_step edges f x y distinct.1 (λ g h. rows g (inr h)) later on
    (λ g h. others g (inr h)))
  where
    not_twice : e ≡ f → (g : Segment) → IsIn edges g → (g ≡ f) ⊎ (is_on_segment (point x y) g.a g.b ≡ false)
        → is_on_segment (point x y) g.a g.b ≡ false
    not_twice same g h (inl i) = absurd (distinct.0 (subst (λ t. IsIn edges t) (i ∙ sym same) h))
    not_twice same g h (inr i) = i

    here : e ≡ f
        → winding (point (x -ℤ pos 1) y) (e ∷ edges) -ℤ winding (point x y) (e ∷ edges)
        ≡ wind (point (x -ℤ pos 1) y) f -ℤ wind (point x y) f
    here same =
        let rest = free_step edges x y (λ g h. rows g (inr h)) (λ g h. not_twice same g h (others g (inr h))) in
        let first : wind (point (x -ℤ pos 1) y) e ≡ wind (point (x -ℤ pos 1) y) f = ap
        (λ t. wind (point (x -ℤ pos 1) y) t) same in
        let second : wind (point x y) e ≡ wind (point x y) f = ap (λ t. wind (point x y) t) same in
        omega (arith, ints, rest, first, second)

    by_first : (e ≡ f) ⊎ (is_on_segment (point x y) e.a e.b ≡ false) → (e ≡ f) ⊎ IsIn edges f
        → (IsIn edges f
        → winding (point (x -ℤ pos 1) y) edges -ℤ winding (point x y) edges
        ≡ wind (point (x -ℤ pos 1) y) f -ℤ wind (point x y) f)
        → winding (point (x -ℤ pos 1) y) (e ∷ edges) -ℤ winding (point x y) (e ∷ edges)
        ≡ wind (point (x -ℤ pos 1) y) f -ℤ wind (point x y) f
    by_first (inl same) t again = here same
    by_first (inr off) (inl same) again = here same
    by_first (inr off) (inr later) again =
        let first = off_step e x y (rows e (inl refl)) off in
        let rest = again later in
        omega (arith, ints, first, rest)

pub rising_jump : (f : Segment) (slope x y : ℤ) → f.a.y <ℤ y → y <ℤ f.b.y → f.b.x -ℤ f.a.x ≡ slope *ℤ (f.b.y -ℤ f.a.y)
    → orient_of f.a f.b (point x y) ≡ pos 0
    → wind (point (x -ℤ pos 1) y) f -ℤ wind (point x y) f ≡ pos 1
rising_jump f slope x y low high sl line =
    let at = rising_on f slope x y low high sl line in
    let first = wind_at f slope (point (x -ℤ pos 1) y) (omega (arith, ints, low)) high sl
    ∙ ap (λ t. if t then pos 1 else pos 0) (less_tested (x -ℤ pos 1) (place_at f slope y)
    (omega (arith, ints, at))) in
    let second = wind_at f slope (point x y) (omega (arith, ints, low)) high sl
    ∙ ap (λ t. if t then pos 1 else pos 0) (not_less x (place_at f slope y) (omega (arith, ints, at))) in
    omega (arith, ints, first, second)
