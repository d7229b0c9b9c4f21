-- What is known of sound edges: each between its neighbours, with one winding on the left of all of them; a point of
-- an edge's middle is on no other edge.
use Rattle.std.specs.Prelude.{List, [], ◌∷◌, false, true}
use Rattle.std.proofs.Common.{ℤ, ◌≡◌, arith, pos, ◌≤ℤ◌, ◌+ℤ◌, refl, ◌-ℤ◌, ◌*ℤ◌, sym, ◌∙◌, ap, neg_ℤ, ◌<ℤ◌}
use Rattle.std.proofs.Common.{inl, inr, subst, ◌⊎◌}
use Rattle.std.proofs.lemmas.Int.{ints}
use Rattle.std.proofs.lemmas.Bool.{false_from_ne_true}
use Rattle.int_laws.proofs.Signs.{positive_factor, positive_product}
use Rattle.int_laws.proofs.Ring.{product_swapped, times_zero}
use Rattle.plane_spec.specs.declared.Segment.{Segment}
use Rattle.plane_spec.specs.declared.Point.{Point}
use Rattle.plane_spec.specs.Vectors.{same_point, dot_of, vector, point, cross_of}
use Rattle.plane_spec.specs.Segments.{is_on_segment}
use Rattle.exact_geom.proofs.Orientation.{orient_of_first_exchanged}
use Rattle.plane_laws.proofs.Lists.Members.{IsIn}
use Rattle.plane_laws.proofs.Points.Between.{mixed, IsAlong, between, high_apart, long}
use Rattle.plane_laws.proofs.Points.Between.{on_again}
use Rattle.plane_laws.proofs.Points.Between.{weak_mean}
use Rattle.plane_laws.proofs.Points.Heights.{height}
use Rattle.plane_laws.proofs.Points.Directions.{back_cross, cross_none, exchanged}
use Rattle.plane_laws.proofs.Segments.Shared.{none_shared}
use Rattle.winding_laws.proofs.Closed.{AreClosed}
use Rattle.side_laws.proofs.Sides.{IsCornerOf, KeepsApart, SideAt, wall, Inward}
use Rattle.side_laws.proofs.Corners.{way_positive}
use Rattle.sight_spec.specs.Scene.{turned_edge}

-- no element of the list occurs twice
abbrev pub Distinct : List Segment → Type 0
Distinct [] = Unit {0}
Distinct (e ∷ edges) = (IsIn edges e → ⊥) × Distinct edges

-- ---- a point on one edge alone

-- an edge between its corners, with what holds of them, and the winding on its left
pub record SidesOf (edges : List Segment) (f : Segment) (k : ℤ) : Type 0 where
  pub before : Point
  pub after : Point
  pub before_there : IsIn edges (wall before f.a)
  pub after_there : IsIn edges (wall f.b after)
  pub first : IsCornerOf edges before f.a f.b
  pub second : IsCornerOf edges f.a f.b after
  pub alone : KeepsApart edges f
  pub side : SideAt edges before f.a f.b k

-- what is known of a polygon's edges, with the winding on the left of all of them
pub record IsSound (edges : List Segment) (k : ℤ) : Type 0 where
  pub closed : AreClosed edges
  pub some : (f : Segment) → IsIn edges f → same_point f.a f.b ≡ false
  pub distinct : Distinct edges
  pub sides : (f : Segment) → IsIn edges f → SidesOf edges f k

-- the line from v in a direction
abbrev ray : Point → Point → Segment
ray v d = record { a = v; b = point (v.x +ℤ d.x) (v.y +ℤ d.y) }

over_ray : (v d p : Point) → height (ray v d) p ≡ cross_of d (vector v p)
over_ray v d p = by_parts v.x v.y d.x d.y (p.x -ℤ v.x) (p.y -ℤ v.y)
  where
    by_parts : (vx vy dx dy px py : ℤ) → ((vx +ℤ dx) -ℤ vx) *ℤ py -ℤ ((vy +ℤ dy) -ℤ vy) *ℤ px ≡ dx *ℤ py -ℤ dy *ℤ px
    by_parts vx vy dx dy px py =
        let e : (vx +ℤ dx) -ℤ vx ≡ dx = omega (arith, ints) in let f : (vy +ℤ dy) -ℤ vy ≡ dy = omega (arith, ints) in
        rw (e, f) refl

-- a point of a wall isn't on the wall before it
off_before : (u v z x : Point) → Inward (vector u v) (vector v z) → same_point u v ≡ false → IsAlong v z x
    → is_on_segment x u v ≡ true → ⊥
off_before u v z x inner apart here on =
    let d = inner.way in
    let at_u : height (ray v d) u ≡ cross_of (vector u v) d = over_ray v d u ∙ back_cross d u v
    ∙ sym (exchanged d (vector u v)) in
    let at_v : height (ray v d) v ≡ pos 0 = over_ray v d v ∙ cross_none d v in
    let before = inner.before_left in
    let m = weak_mean u v x (ray v d) apart (between x u v on) (omega (arith, ints, at_u, before))
    (omega (arith, ints, at_v)) in
    let w = way_positive v z x d here inner.after_left in
    let at_x = over_ray v d x in
    let s = exchanged (vector v x) d in
    absurd (omega (arith, ints, m, w, at_x, s))

-- nor on the wall after it, unless it is the corner there
off_after : (v z w x : Point) → Inward (vector v z) (vector z w) → same_point v z ≡ false → same_point z w ≡ false
    → IsAlong v z x → same_point x z ≡ false → is_on_segment x z w ≡ true → ⊥
off_after v z w x inner apart apart_too here short on =
    let d = inner.way in
    let at_v : height (ray z d) v ≡ cross_of (vector v z) d = over_ray z d v ∙ back_cross d v z
    ∙ sym (exchanged d (vector v z)) in
    let at_z : height (ray z d) z ≡ pos 0 = over_ray z d z ∙ cross_none d z in
    let at_w = over_ray z d w in
    let s = exchanged (vector z w) d in
    let before = inner.before_left in
    let after = inner.after_left in
    let m = mixed v z x (ray z d) here.between.line in
    let k = long v z x here in
    let first = positive_product (dot_of (vector v z) (vector x z)) (height (ray z d) v)
    (high_apart x v z here.between short) (omega (arith, ints, at_v, before)) in
    let second = ap (λ t. dot_of (vector v z) (vector v x) *ℤ t) at_z ∙ times_zero (dot_of (vector v z) (vector v x)) in
    let turn = product_swapped (dot_of (vector v z) (vector v z)) (height (ray z d) x) in
    let up = positive_factor (height (ray z d) x) (dot_of (vector v z) (vector v z))
    (omega (arith, ints, m, first, second, turn)) k in
    let back = weak_mean z w x (turned_edge (ray z d)) apart_too (between x z w on) (flipped z)
    (flipped_w at_w s after) in
    let o = orient_of_first_exchanged z (ray z d).b x in
    absurd (omega (arith, ints, up, back, o))
  where
    flipped : (z : Point) → pos 0 ≤ℤ height (turned_edge (ray z inner.way)) z
    flipped z =
        let o = orient_of_first_exchanged z (ray z inner.way).b z in
        let at_z : height (ray z inner.way) z ≡ pos 0 = over_ray z inner.way z ∙ cross_none inner.way z in
        omega (arith, ints, o, at_z)

    flipped_w : height (ray z inner.way) w ≡ cross_of inner.way (vector z w)
        → cross_of inner.way (vector z w) ≡ neg_ℤ (cross_of (vector z w) inner.way)
        → pos 0 <ℤ cross_of (vector z w) inner.way → pos 0 ≤ℤ height (turned_edge (ray z inner.way)) w
    flipped_w e f h = let o = orient_of_first_exchanged z (ray z inner.way).b w in omega (arith, ints, o, e, f, h)

-- a point of the middle of an edge is on no other
pub on_one : (edges : List Segment) (k : ℤ) (f : Segment) (x : Point) → IsSound edges k → IsIn edges f
    → IsAlong f.a f.b x → same_point x f.b ≡ false
    → (g : Segment) → IsIn edges g → (g ≡ f) ⊎ (is_on_segment x g.a g.b ≡ false)
on_one edges k f x sound there here short g g_there =
    let s = sound.sides f there in
    let real = sound.some f there in
    elim (s.first.others g g_there) [
      | inl i ↦ inr (subst (λ t. is_on_segment x t.a t.b ≡ false) (sym i)
          (false_from_ne_true (is_on_segment x s.before f.a)
          (λ on. off_before s.before f.a f.b x s.first.inner
          (subst (λ t. same_point t.a t.b ≡ false) i (sound.some g g_there)) here on)))
      | inr (inl i) ↦ inl i
      | inr (inr off) ↦ elim (s.second.others g g_there) [
        | inl i ↦ inl i
        | inr (inl i) ↦ inr (subst (λ t. is_on_segment x t.a t.b ≡ false) (sym i)
            (false_from_ne_true (is_on_segment x f.b s.after)
            (λ on. off_after f.a f.b s.after x s.second.inner real
            (subst (λ t. same_point t.a t.b ≡ false) i (sound.some g g_there)) here short on)))
        | inr (inr off_too) ↦ inr (false_from_ne_true (is_on_segment x g.a g.b)
            (λ on. none_shared g.a g.b f.a f.b x (sound.some g g_there) real (s.alone g g_there off off_too) on
            (whole here) off off_too))
      ]
    ]
  where
    whole : IsAlong f.a f.b x → is_on_segment x f.a f.b ≡ true
    whole h = on_again x f.a f.b h.between
