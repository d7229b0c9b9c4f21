-- On which side of a line a point lies.
use Rattle.std.proofs.Common.{◌≡◌, sym, ap, ◌∙◌, ℤ, pos, ◌+ℤ◌, ◌-ℤ◌, ◌*ℤ◌, ◌≤ℤ◌}
use Rattle.int_laws.proofs.Ring.{product_grouped, product_swapped}
use Rattle.plane_spec.specs.declared.Point.{Point}
use Rattle.plane_spec.specs.Vectors.{vector, cross_of}
use Rattle.plane_spec.specs.Fractions.{RPoint}
use Rattle.plane_spec.specs.RPoints.{minus, times, orient_of_rpoints}
use Rattle.meet_laws.specs.Stretches.{IsAt, gap}
use Rattle.meet_laws.proofs.Values.{HaveOneSign, one_sign, product_up, value_as, minus_value, times_value}
use Rattle.meet_laws.proofs.Identities.{step_between, step_from, turn_from, turn_parts, area_parts}

-- on which side of the line from p in direction d the point at q + (n / m) e lies, times m
abbrev pub side : Point → Point → Point → Point → ℤ → ℤ → ℤ
side p d q e n m = m *ℤ cross_of d (vector p q) +ℤ n *ℤ cross_of d e

area_in : (o s dx dy cx cy nx ny m1 r m : ℤ) → nx ≡ m1 *ℤ cx -ℤ r *ℤ dx → ny ≡ m1 *ℤ cy -ℤ r *ℤ dy
    → (((s *ℤ dx) *ℤ ny) *ℤ m -ℤ ((s *ℤ dy) *ℤ nx) *ℤ m) *ℤ o ≡ (dx *ℤ cy -ℤ dy *ℤ cx) *ℤ (((s *ℤ m1) *ℤ m) *ℤ o)
area_in o s dx dy cx cy nx ny m1 r m ex ey =
    let z = dx *ℤ cy -ℤ dy *ℤ cx in
    ap (λ t. t *ℤ o)
    (area_parts s dx dy nx ny m
    ∙ ap (λ t. (s *ℤ t) *ℤ m) (ap (λ t. dx *ℤ t -ℤ dy *ℤ nx) ey ∙ ap (λ t. dx *ℤ (m1 *ℤ cy -ℤ r *ℤ dy) -ℤ dy *ℤ t) ex
    ∙ turn_from dx dy cx cy m1 r)
    ∙ ap (λ t. t *ℤ m) (sym (product_grouped s m1 z) ∙ product_swapped (s *ℤ m1) z)
    ∙ product_grouped z (s *ℤ m1) m)
    ∙ product_grouped z ((s *ℤ m1) *ℤ m) o

-- the sign of an orientation is the side
pub side_of : (a b c : RPoint) (p d q e : Point) (n1 m1 n2 m2 n3 m3 : ℤ)
    → IsAt a p d n1 m1 → IsAt b p d n2 m2 → IsAt c q e n3 m3 → pos 1 ≤ℤ gap n1 m1 n2 m2
    → HaveOneSign (orient_of_rpoints a b c) (side p d q e n3 m3)
side_of a b c p d q e n1 m1 n2 m2 n3 m3 at_a at_b at_c up =
    let s = gap n1 m1 n2 m2 in
    let nx = (q.x *ℤ m3 +ℤ n3 *ℤ e.x) *ℤ m1 -ℤ (p.x *ℤ m1 +ℤ n1 *ℤ d.x) *ℤ m3 in
    let ny = (q.y *ℤ m3 +ℤ n3 *ℤ e.y) *ℤ m1 -ℤ (p.y *ℤ m1 +ℤ n1 *ℤ d.y) *ℤ m3 in
    let cx = m3 *ℤ (q.x -ℤ p.x) +ℤ n3 *ℤ e.x in
    let cy = m3 *ℤ (q.y -ℤ p.y) +ℤ n3 *ℤ e.y in
    let m = (m2 *ℤ m1) *ℤ (m3 *ℤ m1) in
    let bx = value_as (minus b.x a.x) _ _ _ (step_between p.x d.x n1 m1 n2 m2)
    (minus_value b.x a.x _ _ _ _ at_b.x at_a.x) in
    let by = value_as (minus b.y a.y) _ _ _ (step_between p.y d.y n1 m1 n2 m2)
    (minus_value b.y a.y _ _ _ _ at_b.y at_a.y) in
    let tx = minus_value c.x a.x _ _ _ _ at_c.x at_a.x in
    let ty = minus_value c.y a.y _ _ _ _ at_c.y at_a.y in
    let one = times_value (minus b.x a.x) (minus c.y a.y) _ _ _ _ bx ty in
    let two = times_value (minus b.y a.y) (minus c.x a.x) _ _ _ _ by tx in
    let all = minus_value (times (minus b.x a.x) (minus c.y a.y)) (times (minus b.y a.y) (minus c.x a.x)) _ _ _ _ one
    two in
    let o = (minus (times (minus b.x a.x) (minus c.y a.y)) (times (minus b.y a.y) (minus c.x a.x))).den in
    let ex = step_from p.x q.x d.x e.x n1 m1 n3 m3 in
    let ey = step_from p.y q.y d.y e.y n1 m1 n3 m3 in
    let value = turn_parts d.x d.y (q.x -ℤ p.x) (q.y -ℤ p.y) e.x e.y m3 n3 in
    let gathered = area_in o s d.x d.y cx cy nx ny m1 (n1 *ℤ m3) m ex ey in
    let m_up : pos 1 ≤ℤ m = product_up (m2 *ℤ m1) (m3
    *ℤ m1) (product_up m2 m1 at_b.x.over at_a.x.over) (product_up m3 m1 at_c.x.over at_a.x.over) in
    one_sign (orient_of_rpoints a b c) (side p d q e n3 m3) (m *ℤ m) (((s *ℤ m1) *ℤ m) *ℤ o)
    all.over
    (product_up ((s *ℤ m1) *ℤ m) o (product_up (s *ℤ m1) m (product_up s m1 up at_a.x.over) m_up) all.part)
    (all.equal ∙ gathered ∙ ap (λ t. t *ℤ (((s *ℤ m1) *ℤ m) *ℤ o)) value)
