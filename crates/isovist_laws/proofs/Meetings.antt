-- Where the rays in a run's two directions meet the line of its wall or screen, and how large its triangle is.
--
-- Both meet it ahead, over positive denominators. The doubled area of the triangle is at most that of the triangle from
-- the point to the wall's ends: with n for the latter, it is n n ef / (s t), where n ef = eb af - ae fb by the identity of
-- four directions, and s = eb + ae, t = fb + af are the denominators; so n ef is at most s t.
use Rattle.std.proofs.Common.{◌≡◌, ◌≢◌, ◌∙◌, ◌⊎◌, inl, inr, Bool, true, false, ◌&&◌, ℤ, pos, neg_ℤ, ◌+ℤ◌, ◌-ℤ◌, ◌*ℤ◌, ◌<ℤ◌, ◌≤ℤ◌, arith, refl, sym, ap, subst}
use Rattle.std.proofs.lemmas.Int.{ints}
use Rattle.std.specs.Prelude.{int_lt}
use Rattle.int_laws.proofs.Ring.{cross_of_four, minus_times, times_minus, product_swapped}
use Rattle.int_laws.proofs.Signs.{not_negative_product, opposite_product, negative_factors, positive_tested, not_positive_tested}
use Rattle.plane_spec.specs.declared.Point.{Point}
use Rattle.plane_spec.specs.declared.Segment.{Segment}
use Rattle.plane_spec.specs.Vectors.{vector, cross_of, turns_left}
use Rattle.plane_spec.specs.Fractions.{Fraction, fraction}
use Rattle.sight_spec.specs.Scene.{Scene, scene_of, blockers_of_scene}
use Rattle.sight_spec.specs.Stops.{wall_parameter}
use Rattle.sight_spec.specs.Isovist.{Run, blocker_at, runs_of, sectors_of}
use Rattle.plan_spec.specs.Plan.{Plan}
use Rattle.std.specs.List.{All}
use Rattle.std.proofs.lemmas.List.Elements.{All-weaker}
use Rattle.exact_geom.proofs.Turns.{cross_of_exchanged}
use Rattle.isovist_laws.specs.Spans.{Wedge, Spans, forth, back, IsSpanned, IsMet, lies_between}
use Rattle.isovist_laws.proofs.Spanning.{runs_spanned}

-- the fraction, over the positive one of a denominator and its opposite
up_is : (num den : ℤ) → pos 0 <ℤ den → fraction num den ≡ record { num = num; den = den }
up_is num den h = rw (positive_tested den h) refl

down_is : (num den : ℤ) → den <ℤ pos 0 → fraction num den ≡ record { num = neg_ℤ num; den = neg_ℤ den }
down_is num den h = rw (not_positive_tested den (omega (arith, ints))) refl

-- where the rays in directions e and f meet the line of w, by twice the area of the triangle from p to the ends of w
pub record Meets (p e f : Point) (w : Segment) : Type 0 where
  pub size : ℤ
  pub first_den : ℤ
  pub second_den : ℤ
  pub positive : pos 0 <ℤ size
  pub first_positive : pos 0 <ℤ first_den
  pub second_positive : pos 0 <ℤ second_den
  pub first_is : wall_parameter p e w ≡ record { num = size; den = first_den }
  pub second_is : wall_parameter p f w ≡ record { num = size; den = second_den }
  pub bounded : (size *ℤ cross_of e f) ≤ℤ (first_den *ℤ second_den)
  pub size_is : (size ≡ cross_of (vector p w.a) (vector p w.b)) ⊎ (size ≡ cross_of (vector p w.b) (vector p w.a))

area_bound : (ea eb fa fb n ef : ℤ) → (ef *ℤ n +ℤ eb *ℤ fa) ≡ ea *ℤ fb → ea ≤ℤ pos 0 → pos 0 <ℤ eb → fa <ℤ pos 0
    → pos 0 ≤ℤ fb → (n *ℤ ef) ≤ℤ ((eb -ℤ ea) *ℤ (fb -ℤ fa))
area_bound ea eb fa fb n ef four ea_low eb_up fa_low fb_up =
    let whole = minus_times eb ea (fb -ℤ fa) in
    let first = times_minus eb fb fa in
    let second = times_minus ea fb fa in
    let one = not_negative_product eb fb (omega (arith, ints)) fb_up in
    let two = opposite_product ea fb ea_low fb_up in
    let three = negative_factors ea fa ea_low (omega (arith, ints)) in
    let swapped = product_swapped n ef in
    omega (arith, ints, whole, first, second, one, two, three, swapped, four)

-- the wall runs from the run's first side to its second
module _ (p e f : Point) (w : Segment) where
  abbrev a : Point
  a = vector p w.a

  abbrev b : Point
  b = vector p w.b

  meets_forth : Wedge a b e f → Meets p e f w
  meets_forth g =
      let ae = cross_of_exchanged a e in
      let af = cross_of_exchanged a f in
      let first : pos 0 <ℤ (cross_of e b -ℤ cross_of e a) = omega (arith, ints, ae, g.begins, g.begins_before) in
      let second : pos 0 <ℤ (cross_of f b -ℤ cross_of f a) = omega (arith, ints, af, g.ends_after, g.ends) in
      record {
        size = cross_of a b;
        first_den = cross_of e b -ℤ cross_of e a;
        second_den = cross_of f b -ℤ cross_of f a;
        positive = g.wide;
        first_positive = first;
        second_positive = second;
        first_is = up_is (cross_of a b) (cross_of e b -ℤ cross_of e a) first;
        second_is = up_is (cross_of a b) (cross_of f b -ℤ cross_of f a) second;
        bounded =
            area_bound (cross_of e a) (cross_of e b) (cross_of f a) (cross_of f b) (cross_of a b) (cross_of e f)
            (cross_of_four e.x e.y f.x f.y a.x a.y b.x b.y) (omega (arith, ints, ae, g.begins)) g.begins_before
            (omega (arith, ints, af, g.ends_after)) g.ends;
        size_is = inl refl;
      }

  -- or the other way
  turned_round : (num den size other : ℤ) → size ≡ neg_ℤ num → other ≡ neg_ℤ den → pos 0 <ℤ other
      → fraction num den ≡ record { num = size; den = other }
  turned_round num den size other num_is den_is up =
      down_is num den (omega (arith, ints)) ∙ ap (λ t. record { num = t; den = neg_ℤ den }) (sym num_is)
      ∙ ap (λ t. record { num = size; den = t }) (sym den_is)

  meets_back : Wedge b a e f → Meets p e f w
  meets_back g =
      let be = cross_of_exchanged b e in
      let bf = cross_of_exchanged b f in
      let ba = cross_of_exchanged a b in
      let first : pos 0 <ℤ (cross_of e a -ℤ cross_of e b) = omega (arith, ints, be, g.begins, g.begins_before) in
      let second : pos 0 <ℤ (cross_of f a -ℤ cross_of f b) = omega (arith, ints, bf, g.ends_after, g.ends) in
      record {
        size = cross_of b a;
        first_den = cross_of e a -ℤ cross_of e b;
        second_den = cross_of f a -ℤ cross_of f b;
        positive = g.wide;
        first_positive = first;
        second_positive = second;
        first_is =
            turned_round (cross_of a b) (cross_of e b -ℤ cross_of e a) (cross_of b a) (cross_of e a -ℤ cross_of e b) ba
            (omega (arith, ints)) first;
        second_is =
            turned_round (cross_of a b) (cross_of f b -ℤ cross_of f a) (cross_of b a) (cross_of f a -ℤ cross_of f b) ba
            (omega (arith, ints)) second;
        bounded =
            area_bound (cross_of e b) (cross_of e a) (cross_of f b) (cross_of f a) (cross_of b a) (cross_of e f)
            (cross_of_four e.x e.y f.x f.y b.x b.y a.x a.y) (omega (arith, ints, be, g.begins)) g.begins_before
            (omega (arith, ints, bf, g.ends_after)) g.ends;
        size_is = inr refl;
      }

  -- either way
  pub meets : Spans a b e f → Meets p e f w
  meets (forth g) = meets_forth g
  meets (back g) = meets_back g

  -- ---- the law of runs

  -- how far the wall's line is turned from a direction
  turn_is : (d : Point) → cross_of d (vector w.a w.b) ≡ cross_of d b -ℤ cross_of d a
  turn_is d =
      let x : w.b.x -ℤ w.a.x ≡ (w.b.x -ℤ p.x) -ℤ (w.a.x -ℤ p.x) = omega (arith, ints) in
      let y : w.b.y -ℤ w.a.y ≡ (w.b.y -ℤ p.y) -ℤ (w.a.y -ℤ p.y) = omega (arith, ints) in
      let first = ap (λ t. d.x *ℤ t) y ∙ times_minus d.x (w.b.y -ℤ p.y) (w.a.y -ℤ p.y) in
      let second = ap (λ t. d.y *ℤ t) x ∙ times_minus d.y (w.b.x -ℤ p.x) (w.a.x -ℤ p.x) in
      omega (arith, ints, first, second)

  not_zero : (z y : ℤ) → pos 0 <ℤ z → (z ≡ y) ⊎ (z ≡ neg_ℤ y) → y ≢ pos 0
  not_zero z y up (inl e) h = omega (arith, ints)
  not_zero z y up (inr e) h = omega (arith, ints)

  outside : (d : Point) → cross_of e d ≤ℤ pos 0 ⊎ cross_of d f ≤ℤ pos 0 → lies_between e f d ≡ false
  outside d (inl low) = rw (not_positive_tested (cross_of e d) low) refl
  outside d (inr low) = by (turns_left e d)
    where
      by : (t : Bool) → (t && int_lt (pos 0) (cross_of d f)) ≡ false
      by true = not_positive_tested (cross_of d f) low
      by false = refl

  pub record IsTurned : Type 0 where
    pub off_line : cross_of a b ≢ pos 0
    pub first_outside : lies_between e f a ≡ false
    pub second_outside : lies_between e f b ≡ false
    pub from_turned : cross_of e (vector w.a w.b) ≢ pos 0
    pub to_turned : cross_of f (vector w.a w.b) ≢ pos 0
    pub less_than_half : pos 0 <ℤ cross_of e f

  pub turned : Spans a b e f → IsTurned
  turned (forth g) =
      let ae = cross_of_exchanged a e in
      let af = cross_of_exchanged a f in
      let bf = cross_of_exchanged b f in
      let from_is = turn_is e in
      let to_is = turn_is f in
      record {
        off_line = λ h. omega (arith, ints, h, g.wide);
        first_outside = outside a (inl (omega (arith, ints, ae, g.begins)));
        second_outside = outside b (inr (omega (arith, ints, bf, g.ends)));
        from_turned = λ h. omega (arith, ints, h, from_is, ae, g.begins, g.begins_before);
        to_turned = λ h. omega (arith, ints, h, to_is, af, g.ends, g.ends_after);
        less_than_half = g.turned;
      }
  turned (back g) =
      let be = cross_of_exchanged b e in
      let bf = cross_of_exchanged b f in
      let af = cross_of_exchanged a f in
      let ab = cross_of_exchanged a b in
      let from_is = turn_is e in
      let to_is = turn_is f in
      record {
        off_line = λ h. omega (arith, ints, h, ab, g.wide);
        first_outside = outside a (inr (omega (arith, ints, af, g.ends)));
        second_outside = outside b (inl (omega (arith, ints, be, g.begins)));
        from_turned = λ h. omega (arith, ints, h, from_is, be, g.begins, g.begins_before);
        to_turned = λ h. omega (arith, ints, h, to_is, bf, g.ends, g.ends_after);
        less_than_half = g.turned;
      }

-- the rays in both directions of a run that its wall spans meet the wall's line ahead
pub met : (scene : Scene) (p : Point) (r : Run) → IsSpanned scene p r → IsMet scene p r
met scene p r s =
    let w = blocker_at (blockers_of_scene scene) r.wall in
    let m = meets p r.from r.to w s.spans in
    let t = turned p r.from r.to w s.spans in
    record {
      numbered = s.numbered;
      less_than_half = t.less_than_half;
      off_line = t.off_line;
      first_outside = t.first_outside;
      second_outside = t.second_outside;
      from_turned = t.from_turned;
      to_turned = t.to_turned;
      from_ahead = subst (λ (h : Fraction). pos 0 <ℤ h.num) (sym m.first_is) m.positive;
      to_ahead = subst (λ (h : Fraction). pos 0 <ℤ h.num) (sym m.second_is) m.positive;
    }

-- so it is in each run
pub runs_met : (plan : Plan) (p : Point) → All (IsMet (scene_of plan) p) (runs_of (sectors_of (scene_of plan) p))
runs_met plan p =
    All-weaker (IsSpanned (scene_of plan) p) (IsMet (scene_of plan) p) (met (scene_of plan) p)
    (runs_of (sectors_of (scene_of plan) p)) (runs_spanned plan p)
