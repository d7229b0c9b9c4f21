-- Corners and edges turned round.
use Rattle.std.specs.Prelude.{List, false, map, [], ◌∷◌, true}
use Rattle.std.proofs.Common.{neg_ℤ, arith, ℤ, ◌≡◌, ◌-ℤ◌, ap, inl, inr, pos, subst, sym, ◌⊎◌, ◌<ℤ◌, ◌∙◌}
use Rattle.std.proofs.lemmas.Int.{ints}
use Rattle.int_laws.proofs.Ring.{minus_times, times_neg}
use Rattle.plane_spec.specs.declared.Point.{Point}
use Rattle.plane_spec.specs.declared.Segment.{Segment}
use Rattle.plane_spec.specs.Vectors.{point, cross_of, vector, same_point}
use Rattle.plane_spec.specs.Segments.{is_on_segment, do_touch, is_between}
use Rattle.exact_geom.proofs.Orientation.{orient_of_first_exchanged}
use Rattle.plane_laws.proofs.Segments.Touching.{on_either, touch_swapped, touch_turned}
use Rattle.plane_laws.proofs.Lists.Members.{source, IsIn}
use Rattle.plane_laws.proofs.Points.Between.{IsAlong}
use Rattle.side_laws.proofs.Sides.{IsCornerOf, wall, KeepsApart}
use Rattle.side_laws.proofs.Sound.{Distinct}
use Rattle.sight_spec.specs.Scene.{turned_edge}

-- ---- edges turned round

abbrev pub back : Point → Point
back d = point (neg_ℤ d.x) (neg_ℤ d.y)

pub back_way : (a b d : Point) → cross_of (vector b a) (back d) ≡ cross_of (vector a b) d
back_way a b d =
    let e = times_neg (a.x -ℤ b.x) d.y in
    let f = times_neg (a.y -ℤ b.y) d.x in
    let g = minus_times a.x b.x d.y in
    let h = minus_times b.x a.x d.y in
    let i = minus_times a.y b.y d.x in
    let j = minus_times b.y a.y d.x in
    omega (arith, ints, e, f, g, h, i, j)

pub corner_turned : (edges : List Segment) (u v z : Point) → IsCornerOf edges u v z
    → IsCornerOf (map turned_edge edges) z v u
corner_turned edges u v z c =
    record {
      inner = record {
        way = back c.inner.way;
        before_left = subst (λ t. pos 0 <ℤ t) (sym (back_way v z c.inner.way)) c.inner.after_left;
        after_left = subst (λ t. pos 0 <ℤ t) (sym (back_way u v c.inner.way)) c.inner.before_left;
      };
      others = λ g there. let o = source turned_edge edges g there in by_case g o.it o.is (c.others o.it o.is_in);
    }
  where
    by_case : (g f : Segment) → turned_edge f ≡ g → (f ≡ wall u v)
        ⊎ ((f ≡ wall v z) ⊎ (is_on_segment v f.a f.b ≡ false))
        → (g ≡ wall z v) ⊎ ((g ≡ wall v u) ⊎ (is_on_segment v g.a g.b ≡ false))
    by_case g f e (inl i) = inr (inl (sym e ∙ ap turned_edge i))
    by_case g f e (inr (inl i)) = inl (sym e ∙ ap turned_edge i)
    by_case g f e (inr (inr off)) =
        inr (inr (subst (λ t. is_on_segment v t.a t.b ≡ false) e (on_either v f.a f.b ∙ off)))

pub alone_turned : (edges : List Segment) (e : Segment) → KeepsApart edges e
    → KeepsApart (map turned_edge edges) (turned_edge e)
alone_turned edges e apart g there a_off b_off =
    let o = source turned_edge edges g there in
    let f = o.it in
    subst (λ t. do_touch t.a t.b e.b e.a ≡ false) o.is
    (touch_turned f.a f.b e.b e.a
    ∙ (touch_swapped f.a f.b e.a e.b
    ∙ apart f o.is_in (sym (on_either e.a f.a f.b) ∙ subst (λ t. is_on_segment e.a t.a t.b ≡ false) (sym o.is) b_off)
    (sym (on_either e.b f.a f.b) ∙ subst (λ t. is_on_segment e.b t.a t.b ≡ false) (sym o.is) a_off)))

pub distinct_turned : (edges : List Segment) → Distinct edges → Distinct (map turned_edge edges)
distinct_turned [] d = tt
distinct_turned (e ∷ edges) d = (
  λ there. let o = source turned_edge edges (turned_edge e) there in
      d.0 (subst (λ t. IsIn edges t) (ap turned_edge o.is) o.is_in),
  distinct_turned edges d.1,
)

pub turned_along : (v z x : Point) → IsAlong v z x → same_point x z ≡ false → IsAlong z v x
turned_along v z x h short =
    let o = orient_of_first_exchanged v z x in
    let l = h.between.line in
    record {
      between = record {
        line = omega (arith, ints, o, l);
        x = swap x.x v.x z.x h.between.x;
        y = swap x.y v.y z.y h.between.y;
      };
      apart = short;
    }
  where
    swap : (m a b : ℤ) → is_between m a b ≡ true → is_between m b a ≡ true
    swap m a b h = grind (arith, ints)
