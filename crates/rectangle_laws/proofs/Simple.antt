-- A box is a simple polygon: neighbouring sides differ in x or in y but for their corner, and opposite ones are apart.
use Rattle.std.proofs.Common.{◌≡◌, ◌≢◌, refl, sym, arith, ℤ, Bool, true, false}
use Rattle.std.specs.Prelude.{◌&&◌, pos}
use Rattle.std.specs.Ordering.{int_eq}
use Rattle.std.proofs.lemmas.Int.{ints, by_lt_z}
use Rattle.plane_spec.specs.declared.Point.{Point}
use Rattle.plane_spec.specs.declared.PlanBox.{PlanBox}
use Rattle.plane_spec.specs.Vectors.{point, same_point, orient_of}
use Rattle.plane_spec.specs.Segments.{is_between, is_on_segment, do_touch}
use Rattle.plane_spec.specs.Polygons.{edges_to, may_be_edges, crosses_nowhere, is_simple}
use Rattle.box_laws.specs.Boxes.{IsIn}
use Rattle.rectangle_laws.specs.Rectangles.{rectangle, are_boxes_apart}
use Rattle.rectangle_laws.proofs.Apart.{no_touch}

-- ---- what is not on an upright or a level side

off_by_first : (o m z : ℤ) (t : Bool) → m ≢ z → (int_eq o (pos 0) && (is_between m z z && t)) ≡ false
off_by_first o m z t apart = grind (arith, ints)

off_by_second : (o m z : ℤ) (t : Bool) → m ≢ z → (int_eq o (pos 0) && (t && is_between m z z)) ≡ false
off_by_second o m z t apart = grind (arith, ints)

pub off_upright : (x y z c d : ℤ) → x ≢ z → is_on_segment (point x y) (point z c) (point z d) ≡ false
unfolding is_on_segment
off_upright x y z c d apart = off_by_first (orient_of (point z c) (point z d) (point x y)) x z (is_between y c d)
    apart

pub off_level : (x y z a b : ℤ) → y ≢ z → is_on_segment (point x y) (point a z) (point b z) ≡ false
unfolding is_on_segment
off_level x y z a b apart = off_by_second (orient_of (point a z) (point b z) (point x y)) y z (is_between x a b) apart

-- ---- opposite sides

-- a box that holds two points
pub record Held (p q : Point) : Type 0 where
  pub area : PlanBox
  pub p_in : IsIn area p
  pub q_in : IsIn area q

pub level_held : (a b z : ℤ) → (h : Held (point a z) (point b z)) × ((h.area.low.y ≡ z) × (h.area.high.y ≡ z))
level_held a b z =
    by_lt_z a b
    (λ k. (
      record {
        area = record { low = point a z; high = point b z };
        p_in = record {
          left = omega (arith, ints);
          right = omega (arith, ints);
          below = omega (arith, ints);
          above =
              omega (arith, ints);
        };
        q_in = record {
          left = omega (arith, ints);
          right = omega (arith, ints);
          below = omega (arith, ints);
          above =
              omega (arith, ints);
        };
      },
      (refl, refl),
    ))
    (λ k. (
      record {
        area = record { low = point b z; high = point a z };
        p_in = record {
          left = omega (arith, ints);
          right = omega (arith, ints);
          below = omega (arith, ints);
          above =
              omega (arith, ints);
        };
        q_in = record {
          left = omega (arith, ints);
          right = omega (arith, ints);
          below = omega (arith, ints);
          above =
              omega (arith, ints);
        };
      },
      (refl, refl),
    ))

pub upright_held : (z c d : ℤ) → (h : Held (point z c) (point z d)) × ((h.area.low.x ≡ z) × (h.area.high.x ≡ z))
upright_held z c d =
    by_lt_z c d
    (λ k. (
      record {
        area = record { low = point z c; high = point z d };
        p_in = record {
          left = omega (arith, ints);
          right = omega (arith, ints);
          below = omega (arith, ints);
          above =
              omega (arith, ints);
        };
        q_in = record {
          left = omega (arith, ints);
          right = omega (arith, ints);
          below = omega (arith, ints);
          above =
              omega (arith, ints);
        };
      },
      (refl, refl),
    ))
    (λ k. (
      record {
        area = record { low = point z d; high = point z c };
        p_in = record {
          left = omega (arith, ints);
          right = omega (arith, ints);
          below = omega (arith, ints);
          above =
              omega (arith, ints);
        };
        q_in = record {
          left = omega (arith, ints);
          right = omega (arith, ints);
          below = omega (arith, ints);
          above =
              omega (arith, ints);
        };
      },
      (refl, refl),
    ))

apart_upwards : (area other : PlanBox) (z w : ℤ) → area.low.y ≡ z → area.high.y ≡ z → other.low.y ≡ w
    → other.high.y ≡ w
    → z ≢ w → are_boxes_apart area other ≡ true
apart_upwards area other z w e f g h apart = grind (arith, ints)

apart_across : (area other : PlanBox) (z w : ℤ) → area.low.x ≡ z → area.high.x ≡ z → other.low.x ≡ w
    → other.high.x ≡ w
    → z ≢ w → are_boxes_apart area other ≡ true
apart_across area other z w e f g h apart = grind (arith, ints)

levels_apart : (a b c d z w : ℤ) → z ≢ w → do_touch (point a z) (point b z) (point c w) (point d w) ≡ false
levels_apart a b c d z w apart =
    let one = level_held a b z in
    let two = level_held c d w in
    no_touch (point a z) (point b z) (point c w) (point d w) one.0.area two.0.area one.0.p_in one.0.q_in two.0.p_in
    two.0.q_in
    (apart_upwards one.0.area two.0.area z w one.1.0 one.1.1 two.1.0 two.1.1 apart)

uprights_apart : (z w a b c d : ℤ) → z ≢ w → do_touch (point z a) (point z b) (point w c) (point w d) ≡ false
uprights_apart z w a b c d apart =
    let one = upright_held z a b in
    let two = upright_held w c d in
    no_touch (point z a) (point z b) (point w c) (point w d) one.0.area two.0.area one.0.p_in one.0.q_in two.0.p_in
    two.0.q_in
    (apart_across one.0.area two.0.area z w one.1.0 one.1.1 two.1.0 two.1.1 apart)

-- ---- the polygon

not_same : (x y z w : ℤ) → x ≢ z → same_point (point x y) (point z w) ≡ false
not_same x y z w apart = grind (arith, ints)

not_same_too : (x y z w : ℤ) → y ≢ w → same_point (point x y) (point z w) ≡ false
not_same_too x y z w apart = grind (arith, ints)

pub rectangle_is_simple : (p q : Point) → p.x ≢ q.x → p.y ≢ q.y → is_simple (rectangle p q) ≡ true
unfolding crosses_nowhere may_be_edges edges_to
rectangle_is_simple p q apart apart' =
    let back : q.x ≢ p.x = λ e. apart (sym e) in
    let back' : q.y ≢ p.y = λ e. apart' (sym e) in
    rw (
      not_same p.x p.y q.x p.y apart,
      not_same_too q.x p.y q.x q.y apart',
      not_same q.x q.y p.x q.y back,
      not_same_too p.x q.y p.x p.y back',
      off_upright p.x p.y q.x p.y q.y apart,
      off_level q.x q.y p.y p.x q.x back',
      off_level q.x p.y q.y q.x p.x apart',
      off_upright p.x q.y q.x p.y q.y apart,
      off_upright q.x q.y p.x q.y p.y back,
      off_level p.x p.y q.y q.x p.x apart',
      off_level p.x q.y p.y p.x q.x back',
      off_upright q.x p.y p.x q.y p.y back,
      levels_apart p.x q.x q.x p.x p.y q.y apart',
      uprights_apart q.x p.x p.y q.y q.y p.y back,
    ) refl
