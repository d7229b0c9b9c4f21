-- What lies strictly between two directions lies between them in the order, too.
use Rattle.std.proofs.Common.{◌≡◌, ◌∙◌, ℤ, pos, neg_ℤ, ◌-ℤ◌, ◌*ℤ◌, ◌<ℤ◌, arith, ap, refl, sym, subst}
use Rattle.std.specs.Prelude.{Bool, true, false}
use Rattle.std.proofs.lemmas.Int.{ints}
use Rattle.std.proofs.lemmas.Bool.{both_ways}
use Rattle.plane_spec.specs.declared.Point.{Point}
use Rattle.plane_spec.specs.Vectors.{cross_of, is_upper, turns_by, turns_before, turn_order_of, IsDirected}
use Rattle.std.specs.declared.cmp.Ordering.TheVariants.{Equal}
use Rattle.int_laws.proofs.Ring.{cross_of_three, times_zero, times_neg, times_minus, product_moved, product_swapped}
use Rattle.int_laws.proofs.Signs.{positive_product, not_negative_product, positive_factor, positive_tested}
use Rattle.exact_geom.specs.Directions.{PointAlike}
use Rattle.exact_geom.proofs.Turns.{cross_of_exchanged}
use Rattle.exact_geom.proofs.Circle.{IsUpper, above, along, upper_is, lower_is, not_down, both_back}
use Rattle.exact_geom.proofs.TurnLaws.{equal_is_alike}

-- ---- one half turn

-- what is left of an upper direction and upper itself is above the axis
above_of_left : (ex ey fx fy : ℤ) → IsUpper ex ey → IsUpper fx fy → pos 0 <ℤ (ex *ℤ fy -ℤ ey *ℤ fx) → pos 0 <ℤ fy
above_of_left ex ey fx fy e (above h) ef = h
above_of_left ex ey fx fy e (along h k) ef =
    let z = ap (λ t. ex *ℤ t) h ∙ times_zero ex in
    let n = not_negative_product ey fx (not_down ex ey e) (omega (arith, ints)) in
    absurd (omega (arith, ints, z, n, ef))

-- between upper directions all is above the axis
above_between : (ex ey dx dy fx fy : ℤ) → IsUpper ex ey → IsUpper fx fy
    → pos 0 <ℤ (ex *ℤ fy -ℤ ey *ℤ fx) → pos 0 <ℤ (ex *ℤ dy -ℤ ey *ℤ dx) → pos 0 <ℤ (dx *ℤ fy -ℤ dy *ℤ fx)
    → pos 0 <ℤ dy
above_between ex ey dx dy fx fy e f ef ed df =
    let three = cross_of_three ex ey dx dy fx fy in
    let first = positive_product (ex *ℤ dy -ℤ ey *ℤ dx) fy ed (above_of_left ex ey fx fy e f ef) in
    let second = not_negative_product (dx *ℤ fy -ℤ dy *ℤ fx) ey (omega (arith, ints, df)) (not_down ex ey e) in
    let swapped = product_swapped (ex *ℤ fy -ℤ ey *ℤ fx) dy in
    let product : pos 0 <ℤ (dy *ℤ (ex *ℤ fy -ℤ ey *ℤ fx)) = omega (arith, ints, three, first, second, swapped) in
    positive_factor dy (ex *ℤ fy -ℤ ey *ℤ fx) product ef

-- d is strictly between e and f, and f is left of e
pub record IsBetween (e f d : Point) : Type 0 where
  pub turned : pos 0 <ℤ cross_of e f
  pub after : pos 0 <ℤ cross_of e d
  pub before : pos 0 <ℤ cross_of d f

-- between upper directions there is none that isn't
upper_between : (e f d : Point) → IsBetween e f d → IsDirected d → is_upper e ≡ true → is_upper f ≡ true
    → is_upper d ≡ false → ⊥
upper_between e f d b some h k l =
    let up = above_between e.x e.y d.x d.y f.x f.y (upper_is e h) (upper_is f k) b.turned b.after b.before in
    let down = not_down (neg_ℤ d.x) (neg_ℤ d.y) (lower_is d some l) in
    absurd (omega (arith, ints, up, down))

-- and none that is between those that aren't
lower_between : (e f d : Point) → IsBetween e f d → IsDirected e → IsDirected f → is_upper e ≡ false
    → is_upper f ≡ false → is_upper d ≡ true → ⊥
lower_between e f d b e_some f_some h k l =
    let up = above_between (neg_ℤ e.x) (neg_ℤ e.y) (neg_ℤ d.x) (neg_ℤ d.y) (neg_ℤ f.x) (neg_ℤ f.y)
    (lower_is e e_some h) (lower_is f f_some k)
    (subst (λ t. pos 0 <ℤ t) (sym (both_back e f)) b.turned)
    (subst (λ t. pos 0 <ℤ t) (sym (both_back e d)) b.after)
    (subst (λ t. pos 0 <ℤ t) (sym (both_back d f)) b.before) in
    let down = not_down d.x d.y (upper_is d l) in
    absurd (omega (arith, ints, up, down))

-- ---- the order

-- by the half turns, where each is left of the one before
record Halves (e f d : Bool) : Type 0 where
  upper : e ≡ true → f ≡ true → d ≡ false → ⊥
  lower : e ≡ false → f ≡ false → d ≡ true → ⊥

clash : {A : Type 0} → false ≡ true → A
clash e = cc

first_by : (e f d : Bool) → Halves e f d → turns_by e f true ≡ true → turns_by d f true ≡ false → ⊥
first_by true true true h b n = clash (sym n)
first_by true true false h b n = h.upper refl refl refl
first_by true false true h b n = clash (sym n)
first_by true false false h b n = clash (sym n)
first_by false true d h b n = clash b
first_by false false true h b n = clash (sym n)
first_by false false false h b n = clash (sym n)

second_by : (e f d : Bool) → Halves e f d → turns_by e f true ≡ true → turns_by e d true ≡ false → ⊥
second_by true f true h b n = clash (sym n)
second_by true f false h b n = clash (sym n)
second_by false true d h b n = clash b
second_by false false true h b n = h.lower refl refl refl
second_by false false false h b n = clash (sym n)

neither_by : (e f d : Bool) → turns_by e d true ≡ false → turns_by d f true ≡ false → turns_by e f true ≡ true
neither_by true true d n m = refl
neither_by true false d n m = refl
neither_by false true true n m = clash (sym m)
neither_by false true false n m = clash (sym n)
neither_by false false d n m = refl

module _ (e f d : Point) (b : IsBetween e f d) (e_some : IsDirected e) (f_some : IsDirected f) (d_some : IsDirected d)
  where
    halves : Halves (is_upper e) (is_upper f) (is_upper d)
    halves = record {
      upper = λ h k l. upper_between e f d b d_some h k l;
      lower = λ h k l. lower_between e f d b e_some f_some h k l;
    }

    left : (x y : Point) → pos 0 <ℤ cross_of x y → turns_before x y ≡ turns_by (is_upper x) (is_upper y) true
    unfolding turns_before
    left x y up = ap (turns_by (is_upper x) (is_upper y)) (positive_tested (cross_of x y) up)

    -- where e comes before f, then d doesn't stand outside
    pub not_after : turns_before e f ≡ true → turns_before d f ≡ false → ⊥
    not_after h n =
        first_by (is_upper e) (is_upper f) (is_upper d) halves (sym (left e f b.turned) ∙ h) (sym (left d f b.before) ∙ n)

    pub not_before : turns_before e f ≡ true → turns_before e d ≡ false → ⊥
    not_before h n =
        second_by (is_upper e) (is_upper f) (is_upper d) halves (sym (left e f b.turned) ∙ h) (sym (left e d b.after) ∙ n)

    -- where it doesn't, d comes after e or before f
    pub not_neither : turns_before e f ≡ false → turns_before e d ≡ false → turns_before d f ≡ false → ⊥
    not_neither h n m =
        both_ways (turns_before e f) h
        (left e f b.turned
        ∙ neither_by (is_upper e) (is_upper f) (is_upper d) (sym (left e d b.after) ∙ n) (sym (left d f b.before) ∙ m))

-- ---- the same way

same_side : (e v x : Point) (a : PointAlike v x) → a.times *ℤ cross_of e v ≡ a.times_other *ℤ cross_of e x
same_side e v x a =
    let first : a.times *ℤ (e.x *ℤ v.y) ≡ a.times_other *ℤ (e.x *ℤ x.y) =
    product_moved a.times e.x v.y ∙ ap (λ t. e.x *ℤ t) a.y ∙ product_moved e.x a.times_other x.y in
    let second : a.times *ℤ (e.y *ℤ v.x) ≡ a.times_other *ℤ (e.y *ℤ x.x) =
    product_moved a.times e.y v.x ∙ ap (λ t. e.y *ℤ t) a.x ∙ product_moved e.y a.times_other x.x in
    let whole = times_minus a.times (e.x *ℤ v.y) (e.y *ℤ v.x) in
    let whole_other = times_minus a.times_other (e.x *ℤ x.y) (e.y *ℤ x.x) in
    omega (arith, ints, first, second, whole, whole_other)

other_side : (f v x : Point) (a : PointAlike v x) → a.times *ℤ cross_of v f ≡ a.times_other *ℤ cross_of x f
other_side f v x a =
    ap (λ t. a.times *ℤ t) (cross_of_exchanged f v) ∙ times_neg a.times (cross_of f v) ∙ ap neg_ℤ (same_side f v x a)
    ∙ sym (times_neg a.times_other (cross_of f x)) ∙ ap (λ t. a.times_other *ℤ t) (sym (cross_of_exchanged f x))

-- a number has the sign of its multiples
pub sign_kept : (r s y z : ℤ) → pos 0 <ℤ r → pos 0 <ℤ s → r *ℤ y ≡ s *ℤ z → pos 0 <ℤ y → pos 0 <ℤ z
sign_kept r s y z r_up s_up same up =
    let product = positive_product r y r_up up in
    let swapped = product_swapped s z in
    positive_factor z s (omega (arith, ints, product, swapped, same)) s_up

equal_way : (v x : Point) → turns_before v x ≡ false → turns_before x v ≡ false → turn_order_of v x ≡ Equal
unfolding turn_order_of
equal_way v x h k = rw (h, k) refl

-- a direction that points the same way lies between the same
pub between_alike : (e f v x : Point) → IsDirected v → IsDirected x → turns_before v x ≡ false → turns_before x v ≡ false
    → IsBetween e f v → IsBetween e f x
between_alike e f v x v_some x_some h k b =
    let a : PointAlike v x = (equal_is_alike v x v_some x_some).0 (equal_way v x h k) in
    record {
      turned = b.turned;
      after =
          sign_kept a.times a.times_other (cross_of e v) (cross_of e x) a.positive a.positive_other (same_side e v x a)
          b.after;
      before =
          sign_kept a.times a.times_other (cross_of v f) (cross_of x f) a.positive a.positive_other
          (other_side f v x a) b.before;
    }
