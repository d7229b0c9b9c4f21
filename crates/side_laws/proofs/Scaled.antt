-- In a plane that is r times as wide and s times as tall a polygon's edges are sound as here, with the same winding
-- on their left.
use Rattle.std.specs.Prelude.{List, false, map, [], ◌∷◌}
use Rattle.std.proofs.Common.{pos, subst, sym, ℤ, ◌*ℤ◌, ◌<ℤ◌, ap, inl, inr, ◌≡◌, ◌⊎◌, ◌∙◌, arith, ◌-ℤ◌, refl}
use Rattle.std.proofs.lemmas.Int.{ints}
use Rattle.int_laws.proofs.Signs.{positive_product, zero_factor}
use Rattle.int_laws.proofs.Ring.{product_swapped, times_minus}
use Rattle.plane_spec.specs.declared.Point.{Point}
use Rattle.plane_spec.specs.declared.Segment.{Segment}
use Rattle.plane_spec.specs.Vectors.{cross_of, vector, point, same_point}
use Rattle.plane_spec.specs.Segments.{is_on_segment, do_touch}
use Rattle.plane_laws.proofs.Points.Scaled.{cross_scaled, scaled, on_scaled, scaled_wall, touch_scaled, same_scaled}
use Rattle.plane_laws.proofs.Lists.Members.{source, IsIn, mapped}
use Rattle.winding_laws.proofs.Closed.{AreClosed}
use Rattle.winding_laws.proofs.Scaled.{has_scaled, rises_scaled}
use Rattle.side_laws.proofs.Sides.{Inward, IsCornerOf, wall, KeepsApart, side_at}
use Rattle.side_laws.proofs.Sound.{Distinct, SidesOf, IsSound}

inward_scaled : (r s : ℤ) (u v z : Point) → pos 0 <ℤ r → pos 0 <ℤ s → Inward (vector u v) (vector v z)
    → Inward (vector (scaled r s u) (scaled r s v)) (vector (scaled r s v) (scaled r s z))
inward_scaled r s u v z h k i =
    let p = positive_product r s h k in
    record {
      way = scaled r s i.way;
      before_left = subst (λ t. pos 0 <ℤ t) (sym (cross_scaled r s u v i.way))
          (positive_product (r *ℤ s) (cross_of (vector u v) i.way) p i.before_left);
      after_left = subst (λ t. pos 0 <ℤ t) (sym (cross_scaled r s v z i.way))
          (positive_product (r *ℤ s) (cross_of (vector v z) i.way) p i.after_left);
    }

pub corner_scaled : (r s : ℤ) (u v z : Point) (edges : List Segment) → pos 0 <ℤ r → pos 0 <ℤ s
    → IsCornerOf edges u v z → IsCornerOf (map (scaled_wall r s) edges) (scaled r s u) (scaled r s v) (scaled r s z)
corner_scaled r s u v z edges h k c =
    record {
      inner = inward_scaled r s u v z h k c.inner;
      others = λ g there. let o = source (scaled_wall r s) edges g there in by_case g o.it o.is (c.others o.it o.is_in);
    }
  where
    by_case : (g f : Segment) → scaled_wall r s f ≡ g → (f ≡ wall u v)
        ⊎ ((f ≡ wall v z) ⊎ (is_on_segment v f.a f.b ≡ false))
        → (g ≡ wall (scaled r s u) (scaled r s v)) ⊎ ((g ≡ wall (scaled r s v) (scaled r s z))
        ⊎ (is_on_segment (scaled r s v) g.a g.b ≡ false))
    by_case g f e (inl i) = inl (sym e ∙ ap (scaled_wall r s) i)
    by_case g f e (inr (inl i)) = inr (inl (sym e ∙ ap (scaled_wall r s) i))
    by_case g f e (inr (inr off)) =
        inr (inr (subst (λ t. is_on_segment (scaled r s v) t.a t.b ≡ false) e (on_scaled r s v f.a f.b h k ∙ off)))

pub alone_scaled : (r s : ℤ) (e : Segment) (edges : List Segment) → pos 0 <ℤ r → pos 0 <ℤ s → KeepsApart edges e
    → KeepsApart (map (scaled_wall r s) edges) (scaled_wall r s e)
alone_scaled r s e edges h k apart g there a_off b_off =
    let o = source (scaled_wall r s) edges g there in
    let f = o.it in
    subst (λ t. do_touch t.a t.b (scaled r s e.a) (scaled r s e.b) ≡ false) o.is
    (touch_scaled r s f.a f.b e.a e.b h k
    ∙ apart f o.is_in
    (sym (on_scaled r s e.a f.a f.b h k) ∙ subst (λ t. is_on_segment (scaled r s e.a) t.a t.b ≡ false) (sym o.is) a_off)
    (sym (on_scaled r s e.b f.a f.b h k) ∙ subst (λ t. is_on_segment (scaled r s e.b) t.a t.b ≡ false)
    (sym o.is) b_off))

-- scaled, an edge is that edge
back_by : (r x y : ℤ) → pos 0 <ℤ r → r *ℤ x ≡ r *ℤ y → x ≡ y
back_by r x y h e =
    let f = times_minus r x y in
    let g = product_swapped r (x -ℤ y) in
    let z = zero_factor (x -ℤ y) r (omega (arith, ints, e, f, g)) h in
    omega (arith, ints, z)

back : (r s : ℤ) (e f : Segment) → pos 0 <ℤ r → pos 0 <ℤ s → scaled_wall r s e ≡ scaled_wall r s f → e ≡ f
back r s e f h k i =
    same e.a.x e.a.y e.b.x e.b.y f.a.x f.a.y f.b.x f.b.y
    (back_by r e.a.x f.a.x h (ap (λ t. t.a.x) i)) (back_by s e.a.y f.a.y k (ap (λ t. t.a.y) i))
    (back_by r e.b.x f.b.x h (ap (λ t. t.b.x) i)) (back_by s e.b.y f.b.y k (ap (λ t. t.b.y) i))
  where
    same : (a b c d a' b' c' d' : ℤ) → a ≡ a' → b ≡ b' → c ≡ c' → d ≡ d'
        → wall (point a b) (point c d) ≡ wall (point a' b') (point c' d')
    same a b c d a' b' c' d' p q u v = rw (p, q, u, v) refl

distinct_scaled : (r s : ℤ) (edges : List Segment) → pos 0 <ℤ r → pos 0 <ℤ s → Distinct edges
    → Distinct (map (scaled_wall r s) edges)
distinct_scaled r s [] h k d = tt
distinct_scaled r s (e ∷ edges) h k d = (
  λ there. let o = source (scaled_wall r s) edges (scaled_wall r s e) there in
      d.0 (subst (λ t. IsIn edges t) (back r s o.it e h k o.is) o.is_in),
  distinct_scaled r s edges h k d.1,
)

sides_scaled : (r s : ℤ) (edges : List Segment) (f : Segment) (k : ℤ) → pos 0 <ℤ r → pos 0 <ℤ s
    → AreClosed (map (scaled_wall r s) edges) → SidesOf edges f k
    → SidesOf (map (scaled_wall r s) edges) (scaled_wall r s f) k
sides_scaled r s edges f k h i closed o =
    let c = corner_scaled r s o.before f.a f.b edges h i o.first in
    let way = o.first.inner.way in
    let p = positive_product r s h i in
    record {
      before = scaled r s o.before;
      after = scaled r s o.after;
      before_there = mapped (scaled_wall r s) edges (wall o.before f.a) o.before_there;
      after_there = mapped (scaled_wall r s) edges (wall f.b o.after) o.after_there;
      first = c;
      second = corner_scaled r s f.a f.b o.after edges h i o.second;
      alone = alone_scaled r s f edges h i o.alone;
      side =
          side_at (map (scaled_wall r s) edges) (scaled r s o.before) (scaled r s f.a) (scaled r s f.b)
          (scaled r s way) k closed c
          (subst (λ t. pos 0 <ℤ t) (sym (cross_scaled r s o.before f.a way))
          (positive_product (r *ℤ s) (cross_of (vector o.before f.a) way) p o.first.inner.before_left))
          (subst (λ t. pos 0 <ℤ t) (sym (cross_scaled r s f.a f.b way))
          (positive_product (r *ℤ s) (cross_of (vector f.a f.b) way) p o.first.inner.after_left))
          (has_scaled r s f.a way k edges h i (o.side way o.first.inner.before_left o.first.inner.after_left).has);
    }

pub scaled_sound : (r s : ℤ) (edges : List Segment) (k : ℤ) → pos 0 <ℤ r → pos 0 <ℤ s → IsSound edges k
    → IsSound (map (scaled_wall r s) edges) k
scaled_sound r s edges k h i sound =
    let closed : AreClosed (map (scaled_wall r s) edges) = λ value. rises_scaled r s value edges
    ∙ sound.closed (λ v. value (scaled r s v)) in
    record {
      closed = closed;
      some = λ g there. let o = source (scaled_wall r s) edges g there in
          subst (λ t. same_point t.a t.b ≡ false) o.is (same_scaled r s o.it.a o.it.b h i ∙ sound.some o.it o.is_in);
      distinct = distinct_scaled r s edges h i sound.distinct;
      sides = λ g there. let o = source (scaled_wall r s) edges g there in
          subst (λ t. SidesOf (map (scaled_wall r s) edges) t k) o.is
          (sides_scaled r s edges o.it k h i closed (sound.sides o.it o.is_in));
    }
