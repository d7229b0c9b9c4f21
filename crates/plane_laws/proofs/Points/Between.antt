-- Points between two others, and their heights.
use Rattle.plane_laws.proofs.Tests.{clash}
use Rattle.std.specs.Ordering.{int_eq}
use Rattle.std.proofs.Common.{arith, true, ℤ, ◌≡◌, ◌⊎◌, ◌≤ℤ◌, inl, inr, pos, ◌-ℤ◌, ◌*ℤ◌, false, ◌<ℤ◌, ◌&&◌, ◌+ℤ◌, ap}
use Rattle.std.proofs.Common.{◌∙◌, sym, subst, refl}
use Rattle.std.proofs.lemmas.Int.{ints}
use Rattle.std.proofs.lemmas.Bool.Decides.{Decides-int_eq}
use Rattle.std.proofs.lemmas.Bool.{false_from_ne_true, and_parts, and_cases, and_from}
use Rattle.int_laws.proofs.Signs.{negative_factors, not_negative_product, negative_product_both, positive_product}
use Rattle.int_laws.proofs.Signs.{none_times, positive_factor, zero_factor, not_negative_factor}
use Rattle.int_laws.proofs.Ring.{sum_times, times_sum, product_swapped, times_zero}
use Rattle.int_laws.proofs.Tests.{equal_tested, tested_equal}
use Rattle.plane_spec.specs.declared.Point.{Point}
use Rattle.plane_spec.specs.declared.Segment.{Segment}
use Rattle.plane_spec.specs.Segments.{is_between, is_on_segment}
use Rattle.plane_spec.specs.Vectors.{orient_of, dot_of, vector, same_point, cross_of, point}
use Rattle.plane_laws.proofs.Points.Heights.{times_steps, along, height, height_from}
use Rattle.plane_laws.proofs.Points.Directions.{at_start, at_end, some_square}
use Rattle.std.specs.Prelude.{false, true}

-- ---- one coordinate

pub in_order : (m a b : ℤ) → is_between m a b ≡ true → ((a ≤ℤ m) × (m ≤ℤ b)) ⊎ ((b ≤ℤ m) × (m ≤ℤ a))
in_order m a b h = grind (arith, ints)

low_part : (m a b : ℤ) → is_between m a b ≡ true → pos 0 ≤ℤ ((b -ℤ a) *ℤ (m -ℤ a))
low_part m a b h = elim (in_order m a b h) [
  | inl k ↦ not_negative_product (b -ℤ a) (m -ℤ a) (omega (arith, ints, k.0, k.1)) (omega (arith, ints, k.0, k.1))
  | inr k ↦ negative_factors (b -ℤ a) (m -ℤ a) (omega (arith, ints, k.0, k.1)) (omega (arith, ints, k.0, k.1))
]

high_part : (m a b : ℤ) → is_between m a b ≡ true → pos 0 ≤ℤ ((b -ℤ a) *ℤ (b -ℤ m))
high_part m a b h = elim (in_order m a b h) [
  | inl k ↦ not_negative_product (b -ℤ a) (b -ℤ m) (omega (arith, ints, k.0, k.1)) (omega (arith, ints, k.0, k.1))
  | inr k ↦ negative_factors (b -ℤ a) (b -ℤ m) (omega (arith, ints, k.0, k.1)) (omega (arith, ints, k.0, k.1))
]

pub unequal : (x y : ℤ) → int_eq x y ≡ false → (x <ℤ y) ⊎ (y <ℤ x)
unequal x y h = grind (arith, ints)

low_more : (m a b : ℤ) → is_between m a b ≡ true → int_eq m a ≡ false → pos 0 <ℤ ((b -ℤ a) *ℤ (m -ℤ a))
low_more m a b h n = elim (in_order m a b h) [
  | inl k ↦ elim (unequal m a n) [
    | inl u ↦ absurd (omega (arith, ints, k.0, u))
    | inr u ↦ positive_product (b -ℤ a) (m -ℤ a) (omega (arith, ints, k.0, k.1, u)) (omega (arith, ints, u))
  ]
  | inr k ↦ elim (unequal m a n) [
    | inl u ↦ negative_product_both (b -ℤ a) (m -ℤ a) (omega (arith, ints, k.0, k.1, u)) (omega (arith, ints, u))
    | inr u ↦ absurd (omega (arith, ints, k.1, u))
  ]
]

high_more : (m a b : ℤ) → is_between m a b ≡ true → int_eq m b ≡ false → pos 0 <ℤ ((b -ℤ a) *ℤ (b -ℤ m))
high_more m a b h n = elim (in_order m a b h) [
  | inl k ↦ elim (unequal m b n) [
    | inl u ↦ positive_product (b -ℤ a) (b -ℤ m) (omega (arith, ints, k.0, k.1, u)) (omega (arith, ints, u))
    | inr u ↦ absurd (omega (arith, ints, k.1, u))
  ]
  | inr k ↦ elim (unequal m b n) [
    | inl u ↦ absurd (omega (arith, ints, k.0, u))
    | inr u ↦ negative_product_both (b -ℤ a) (b -ℤ m) (omega (arith, ints, k.0, k.1, u)) (omega (arith, ints, u))
  ]
]

-- ---- points

-- m is in line with a and b, and its coordinates are between theirs
pub record IsBetween (m a b : Point) : Type 0 where
  pub line : orient_of a b m ≡ pos 0
  pub x : is_between m.x a.x b.x ≡ true
  pub y : is_between m.y a.y b.y ≡ true

pub between : (m a b : Point) → is_on_segment m a b ≡ true → IsBetween m a b
unfolding is_on_segment
between m a b on =
    let parts = and_parts (int_eq (orient_of a b m) (pos 0)) (is_between m.x a.x b.x && is_between m.y a.y b.y) on in
    let extents = and_parts (is_between m.x a.x b.x) (is_between m.y a.y b.y) parts.1 in
    record { line = (Decides-int_eq (orient_of a b m) (pos 0)).0 parts.0; x = extents.0; y = extents.1 }

pub low : (m a b : Point) → IsBetween m a b → pos 0 ≤ℤ dot_of (vector a b) (vector a m)
low m a b h =
    let x = low_part m.x a.x b.x h.x in
    let y = low_part m.y a.y b.y h.y in
    omega (arith, ints, x, y)

pub high : (m a b : Point) → IsBetween m a b → pos 0 ≤ℤ dot_of (vector a b) (vector m b)
high m a b h =
    let x = high_part m.x a.x b.x h.x in
    let y = high_part m.y a.y b.y h.y in
    omega (arith, ints, x, y)

pub low_apart : (m a b : Point) → IsBetween m a b → same_point m a ≡ false → pos 0 <ℤ dot_of (vector a b) (vector a m)
low_apart m a b h n =
    let x = low_part m.x a.x b.x h.x in
    let y = low_part m.y a.y b.y h.y in
    elim (and_cases (int_eq m.x a.x) (int_eq m.y a.y) n) [
      | inl u ↦ let more = low_more m.x a.x b.x h.x u in omega (arith, ints, more, y)
      | inr u ↦ let more = low_more m.y a.y b.y h.y u in omega (arith, ints, more, x)
    ]

pub high_apart : (m a b : Point) → IsBetween m a b → same_point m b ≡ false → pos 0 <ℤ dot_of (vector a b) (vector m b)
high_apart m a b h n =
    let x = high_part m.x a.x b.x h.x in
    let y = high_part m.y a.y b.y h.y in
    elim (and_cases (int_eq m.x b.x) (int_eq m.y b.y) n) [
      | inl u ↦ let more = high_more m.x a.x b.x h.x u in omega (arith, ints, more, y)
      | inr u ↦ let more = high_more m.y a.y b.y h.y u in omega (arith, ints, more, x)
    ]

-- the parts before and after m make the whole
pub parts_of : (a b m : Point)
    → dot_of (vector a b) (vector a b) ≡ dot_of (vector a b) (vector m b) +ℤ dot_of (vector a b) (vector a m)
parts_of a b m =
    let x = times_steps (b.x -ℤ a.x) a.x m.x b.x in
    let y = times_steps (b.y -ℤ a.y) a.y m.y b.y in
    omega (arith, ints, x, y)

-- ---- heights

mixed_by : (k g h f v c : ℤ) → k ≡ g +ℤ h → k *ℤ v ≡ h *ℤ c → k *ℤ (f +ℤ v) ≡ g *ℤ f +ℤ h *ℤ (f +ℤ c)
mixed_by k g h f v c e i =
    let a = times_sum k f v in
    let b = times_sum h f c in
    let d : k *ℤ f ≡ g *ℤ f +ℤ h *ℤ f = ap (λ t. t *ℤ f) e ∙ sum_times g h f in
    omega (arith, ints, a, b, d, i)

-- the height of a point of the line through a and b is a mean of theirs
pub mixed : (a b m : Point) (j : Segment) → orient_of a b m ≡ pos 0
    → dot_of (vector a b) (vector a b) *ℤ height j m
    ≡ dot_of (vector a b) (vector m b) *ℤ height j a +ℤ dot_of (vector a b) (vector a m) *ℤ height j b
mixed a b m j line =
    let d = vector a b in
    let way = vector j.a j.b in
    let v = cross_of way (vector a m) in
    let c = cross_of way d in
    let parts = along d way (vector a m) in
    let none : cross_of d (vector a m) *ℤ dot_of way d ≡ pos 0 = none_times (cross_of d (vector a m))
    (dot_of way d) line in
    let e : dot_of d d *ℤ v ≡ dot_of d (vector a m) *ℤ c = omega (arith, ints, parts, none) in
    ap (λ t. dot_of d d *ℤ t) (height_from j.a j.b a m)
    ∙ mixed_by (dot_of d d) (dot_of d (vector m b)) (dot_of d (vector a m)) (height j a) v c (parts_of a b m) e
    ∙ ap (λ t. dot_of d (vector m b) *ℤ height j a +ℤ dot_of d (vector a m) *ℤ t) (sym (height_from j.a j.b a b))

-- ---- a point on a wall

-- x lies on the wall from v to z, and isn't v
pub record IsAlong (v z x : Point) : Type 0 where
  pub between : IsBetween x v z
  pub apart : same_point x v ≡ false

pub long : (v z x : Point) → IsAlong v z x → pos 0 <ℤ dot_of (vector v z) (vector v z)
long v z x h =
    let p = parts_of v z x in
    let first = low_apart x v z h.between h.apart in
    let second = high x v z h.between in
    omega (arith, ints, p, first, second)

pub on_again : (x a b : Point) → IsBetween x a b → is_on_segment x a b ≡ true
unfolding is_on_segment
on_again x a b h = and_from _ _ (equal_tested (orient_of a b x) (pos 0) h.line) (and_from _ _ h.x h.y)

pub on_start : (a b : Point) → is_on_segment a a b ≡ true
on_start a b = on_again a a b (record { line = at_start a b; x = first a.x b.x; y = first a.y b.y })
  where
    first : (a b : ℤ) → is_between a a b ≡ true
    first a b = grind (arith, ints)

pub on_end : (a b : Point) → is_on_segment b a b ≡ true
on_end a b = on_again b a b (record { line = at_end a b; x = last a.x b.x; y = last a.y b.y })
  where
    last : (a b : ℤ) → is_between b a b ≡ true
    last a b = grind (arith, ints)

-- ---- sound edges

pub same_ends : (a b : Point) → a ≡ b → same_point a b ≡ true
same_ends a b e = subst (λ t. same_point a t ≡ true) e (own a)
  where
    own : (a : Point) → same_point a a ≡ true
    own a = own_by a.x a.y
      where
        own_by : (x y : ℤ) → same_point (record { x = x; y = y }) (record { x = x; y = y }) ≡ true
        own_by x y = grind (arith, ints)

-- what has both ends of the wall on one side has x on it
pub height_positive : (v z x : Point) (j : Segment) → IsAlong v z x → pos 0 ≤ℤ height j v → pos 0 <ℤ height j z
    → pos 0 <ℤ height j x
height_positive v z x j h hv hz =
    let m = mixed v z x j h.between.line in
    let k = long v z x h in
    let first = not_negative_product (dot_of (vector v z) (vector x z)) (height j v) (high x v z h.between) hv in
    let second = positive_product (dot_of (vector v z) (vector v x)) (height j z)
    (low_apart x v z h.between h.apart) hz in
    let turn = product_swapped (dot_of (vector v z) (vector v z)) (height j x) in
    positive_factor (height j x) (dot_of (vector v z) (vector v z)) (omega (arith, ints, m, first, second, turn)) k

pub height_none : (v z x : Point) (j : Segment) → IsAlong v z x → height j v ≡ pos 0 → height j z ≡ pos 0
    → height j x ≡ pos 0
height_none v z x j h hv hz =
    let m = mixed v z x j h.between.line in
    let k = long v z x h in
    let first = ap (λ t. dot_of (vector v z) (vector x z) *ℤ t) hv ∙ times_zero (dot_of (vector v z) (vector x z)) in
    let second = ap (λ t. dot_of (vector v z) (vector v x) *ℤ t) hz ∙ times_zero (dot_of (vector v z) (vector v x)) in
    let turn = product_swapped (dot_of (vector v z) (vector v z)) (height j x) in
    zero_factor (height j x) (dot_of (vector v z) (vector v z)) (omega (arith, ints, m, first, second, turn)) k

pub weak_mean : (v z x : Point) (j : Segment) → same_point v z ≡ false → IsBetween x v z → pos 0 ≤ℤ height j v
    → pos 0 ≤ℤ height j z → pos 0 ≤ℤ height j x
weak_mean v z x j apart on hv hz =
    let m = mixed v z x j on.line in
    let k = some_square v z apart in
    let first = not_negative_product (dot_of (vector v z) (vector x z)) (height j v) (high x v z on) hv in
    let second = not_negative_product (dot_of (vector v z) (vector v x)) (height j z) (low x v z on) hz in
    let turn = product_swapped (dot_of (vector v z) (vector v z)) (height j x) in
    not_negative_factor (height j x) (dot_of (vector v z) (vector v z)) (omega (arith, ints, m, first, second, turn)) k

pub same_coordinates : (p q r s : ℤ) → p ≡ r → q ≡ s → point p q ≡ point r s
same_coordinates p q r s e f = rw (e, f) refl

pub same_from_test : (x v : Point) → same_point x v ≡ true → v ≡ x
same_from_test x v h =
    let parts = and_parts _ _ h in
    same_coordinates v.x v.y x.x x.y (sym (tested_equal x.x v.x parts.0)) (sym (tested_equal x.y v.y parts.1))

pub apart_back : (a b : Point) → same_point a b ≡ false → same_point b a ≡ false
apart_back a b h = false_from_ne_true (same_point b a) (λ same. clash h (same_ends a b (same_from_test b a same)))

pub apart_from : (p q : Point) → same_point p q ≡ false → q.x -ℤ p.x ≡ pos 0 → q.y -ℤ p.y ≡ pos 0 → ⊥
apart_from p q h e f =
    clash h (and_from _ _ (equal_tested p.x q.x (omega (arith, ints, e)))
    (equal_tested p.y q.y (omega (arith, ints, f))))
