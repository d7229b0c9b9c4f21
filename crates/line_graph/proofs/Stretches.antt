-- A line of a scene is the stretch of the line through its corners that its ends bound.
use Rattle.std.proofs.Common.{◌≡◌, ◌≢◌, refl, ap, arith, ◌∙◌, Bool, true, false, ℤ, pos, neg_ℤ, ◌+ℤ◌, ◌-ℤ◌, ◌*ℤ◌, ◌≤ℤ◌, ◌<ℤ◌, ◌⊎◌, inl, inr}
use Rattle.std.specs.Prelude.{int_lt, if◌then◌else◌}
use Rattle.std.specs.Ordering.{int_eq}
use Rattle.std.proofs.lemmas.Int.{ints}
use Rattle.int_laws.proofs.Tests.{tested_equal, equal_tested, less_tested, not_less}
use Rattle.int_laws.proofs.Signs.{positive_product, negative_product}
use Rattle.plane_spec.specs.declared.Point.{Point}
use Rattle.plane_spec.specs.Vectors.{IsDirected, vector, same_point}
use Rattle.plane_spec.specs.Fractions.{Fraction, RPoint}
use Rattle.sight_spec.specs.Scene.{Scene}
use Rattle.sight_spec.specs.Axial.{AxialLine}
use Rattle.sight_core.specs.Scenes.{IsOfSoundPlan}
use Rattle.meet_laws.specs.Stretches.{HasValue, IsAt, IsStretchOf}
use Rattle.meet_laws.proofs.Identities.{value_by_step, value_by_step_turned}
use Rattle.meet_laws.proofs.Parameters.{at_by_x, at_by_y}
use Rattle.meet_laws.proofs.Signs.{IsNonzero, by_zero}
use Rattle.meet_laws.proofs.Stretches.{directed_parts}
use Rattle.line_graph.specs.Bounds.{AreEndParts}
use Rattle.line_graph.specs.Measured.{IsMeasured}
use Rattle.line_graph.specs.Lines.{IsThroughCorners}
use Rattle.line_graph.specs.Stretches.{parameter_in, parameter_of, stretch_between, stretch_of}
use Rattle.line_graph.proofs.Ends.{first_of, second_of, back_of, on_of, in_order, from_small, to_small, ends_comparable}

-- ---- the parameter by one coordinate

value_up : (f : Fraction) (z d : ℤ) → pos 1 ≤ℤ f.den → pos 0 <ℤ d
    → HasValue f (z *ℤ (d *ℤ f.den) +ℤ (f.num -ℤ z *ℤ f.den) *ℤ d) (d *ℤ f.den)
value_up f z d up more = record {
  part = up;
  over = let e = positive_product d f.den more (omega (arith, ints)) in omega (arith, ints, e);
  equal = value_by_step f.num f.den z d;
}

value_down : (f : Fraction) (z d : ℤ) → pos 1 ≤ℤ f.den → d <ℤ pos 0
    → HasValue f (z *ℤ neg_ℤ (d *ℤ f.den) +ℤ neg_ℤ (f.num -ℤ z *ℤ f.den) *ℤ d) (neg_ℤ (d *ℤ f.den))
value_down f z d up less = record {
  part = up;
  over = let e = negative_product d f.den less (omega (arith, ints)) in omega (arith, ints, e);
  equal = value_by_step_turned f.num f.den z d;
}

-- z + t d for the fraction t
abbrev HasValueAt : Fraction → ℤ → ℤ → Fraction → Type 0
HasValueAt f z d t = HasValue f (z *ℤ t.den +ℤ t.num *ℤ d) t.den

value_by : (f : Fraction) (z d : ℤ) (up : Bool) → int_lt (pos 0) (d *ℤ f.den) ≡ up
    → (up ≡ true → HasValueAt f z d (record { num = f.num -ℤ z *ℤ f.den; den = d *ℤ f.den }))
    → (up ≡ false → HasValueAt f z d (record { num = neg_ℤ (f.num -ℤ z *ℤ f.den); den = neg_ℤ (d *ℤ f.den) }))
    → HasValueAt f z d (if up then record { num = f.num -ℤ z *ℤ f.den; den = d *ℤ f.den }
    else record { num = neg_ℤ (f.num -ℤ z *ℤ f.den); den = neg_ℤ (d *ℤ f.den) })
value_by f z d true e here there = here refl
value_by f z d false e here there = there refl

pub parameter_has_value : (f : Fraction) (z d : ℤ) → pos 1 ≤ℤ f.den → IsNonzero d
    → HasValueAt f z d (parameter_in z d f)
parameter_has_value f z d up (inr more) =
    let e = positive_product d f.den more (omega (arith, ints)) in
    value_by f z d (int_lt (pos 0) (d *ℤ f.den)) refl (λ _. value_up f z d up more)
    (λ h. let g = less_tested (pos 0) (d *ℤ f.den) e in absurd (cc (g, h)))
parameter_has_value f z d up (inl less) =
    let e = negative_product d f.den less (omega (arith, ints)) in
    value_by f z d (int_lt (pos 0) (d *ℤ f.den)) refl
    (λ h. let g = not_less (pos 0) (d *ℤ f.den) (omega (arith, ints, e)) in absurd (cc (g, h)))
    (λ _. value_down f z d up less)

-- ---- the parameter of a point

pub not_zero : (z : ℤ) → int_eq z (pos 0) ≡ false → IsNonzero z
not_zero z h = by (by_zero z)
  where
    by : (z ≡ pos 0) ⊎ IsNonzero z → IsNonzero z
    by (inr i) = i
    by (inl e) = let t = equal_tested z (pos 0) e in absurd (cc (h, t))

clash : (z : ℤ) → IsNonzero z → z ≡ pos 0 → ⊥
clash z (inl h) e = omega (arith, ints)
clash z (inr h) e = omega (arith, ints)

-- a direction that doesn't lead along one axis leads along the other
pub other_some : (d : Point) → IsDirected d → int_eq d.x (pos 0) ≡ true → IsNonzero d.y
other_some d h e = by (directed_parts d h)
  where
    by : IsNonzero d.x ⊎ IsNonzero d.y → IsNonzero d.y
    by (inr s) = s
    by (inl s) = absurd (clash d.x s (tested_equal d.x (pos 0) e))

pub parameter_is_at : (r : RPoint) (p d : Point) (n m : ℤ) → IsDirected d → AreEndParts r → IsAt r p d n m
    → IsAt r p d (parameter_of p d r).num (parameter_of p d r).den
unfolding parameter_of
parameter_is_at r p d n m directed small at = by (int_eq d.x (pos 0)) refl
  where
    by : (b : Bool) → int_eq d.x (pos 0) ≡ b
        → IsAt r p d (if b then parameter_in p.y d.y r.y else parameter_in p.x d.x r.x).num
        (if b then parameter_in p.y d.y r.y else parameter_in p.x d.x r.x).den
    by true e =
        let t = parameter_in p.y d.y r.y in
        let some = other_some d directed e in
        at_by_y r p d t.num t.den n m at some (parameter_has_value r.y p.y d.y small.y.positive some)
    by false e =
        let t = parameter_in p.x d.x r.x in
        let some = not_zero d.x e in
        at_by_x r p d t.num t.den n m at some (parameter_has_value r.x p.x d.x small.x.positive some)

-- ---- the stretch of a line

apart_tested : (a b : ℤ) → int_eq (b -ℤ a) (pos 0) ≡ int_eq a b
apart_tested a b = grind (arith, ints)

pub directed : (p q : Point) → same_point p q ≡ false → IsDirected (vector p q)
directed p q h = record { somewhere = rw (apart_tested p.x q.x, apart_tested p.y q.y) h }

pub line_is_stretch : (scene : Scene) (l : AxialLine) → IsOfSoundPlan scene → IsThroughCorners scene l
    → IsStretchOf (stretch_of scene l) l.from l.to
unfolding stretch_of
line_is_stretch scene l sound h =
    let p = first_of scene l in
    let d = vector p (second_of scene l) in
    let leads = directed p (second_of scene l) h.differ in
    let back = back_of scene l h in
    let on = on_of scene l h in
    let from = parameter_is_at l.from p d back.num back.den leads (from_small scene l sound h) back.at in
    let to = parameter_is_at l.to p d on.num on.den leads (to_small scene l sound h) on.at in
    record {
      from = from;
      to = to;
      order = in_order scene l _ _ _ _ p d back on (directed_parts d leads) from to;
      directed = leads;
    }

-- and the parts of its ends can be compared
pub line_is_measured : (scene : Scene) (l : AxialLine) → IsOfSoundPlan scene → IsThroughCorners scene l
    → IsMeasured (stretch_of scene l) l
line_is_measured scene l sound h = record {
  stretch = line_is_stretch scene l sound h;
  ends = ends_comparable l (from_small scene l sound h) (to_small scene l sound h);
}

-- ---- with the parameters as the code has them

pub parameter_upright : (p d : Point) (r : RPoint) → int_eq d.x (pos 0) ≡ true
    → parameter_in p.y d.y r.y ≡ parameter_of p d r
unfolding parameter_of
parameter_upright p d r e = rw e refl

pub parameter_aside : (p d : Point) (r : RPoint) → int_eq d.x (pos 0) ≡ false
    → parameter_in p.x d.x r.x ≡ parameter_of p d r
unfolding parameter_of
parameter_aside p d r e = rw e refl

pub stretch_is : (scene : Scene) (l : AxialLine) (p q : Point) → p ≡ first_of scene l → q ≡ second_of scene l
    → stretch_between p q l ≡ stretch_of scene l
unfolding stretch_of
stretch_is scene l p q e f = ap (λ z. stretch_between z q l) e ∙ ap (λ z. stretch_between (first_of scene l) z l) f

-- a component that isn't 0 times a denominator isn't 0
pub product_some : (d den : ℤ) → int_eq d (pos 0) ≡ false → pos 1 ≤ℤ den → (d *ℤ den) ≢ pos 0
product_some d den h up e = by (not_zero d h)
  where
    by : IsNonzero d → ⊥
    by (inl less) = let f = negative_product d den less (omega (arith, ints)) in omega (arith, ints, e, f)
    by (inr more) = let f = positive_product d den more (omega (arith, ints)) in omega (arith, ints, e, f)
