-- Inside, edge by edge.
use Rattle.std.proofs.Common.{◌≡◌, ◌≤◌, ◌+◌, ◌%◌, ◌==◌, ℕ, Bool, true, false, cond, not, ◌&&◌, List, [], ◌∷◌, length, drop, refl, arith, count_by}
use Rattle.std.specs.List.{list_any}
use Rattle.std.proofs.lemmas.Grind.{common_steps}
use Rattle.std.proofs.lemmas.List.Sums.{sum_by-cons}
use Rattle.plane_spec.specs.declared.Point.{Point}
use Rattle.plane_spec.specs.declared.Segment.{Segment}
use Rattle.plane_spec.specs.Polygons.{edges_of, is_on_edge, passes_right, is_inside}
use Rattle.exact_geom.proofs.Edges.{edges_of-end}

parity_step : (n : ℕ) → ((1 + n) % 2 == 1) ≡ not (n % 2 == 1)
parity_step n = grind arith

not_not : (b : Bool) → not (not b) ≡ b
not_not true = refl
not_not false = refl

-- the answer where the edges before were odd in number, or even, and these are left
abbrev pub answer : Bool → Point → List Segment → Bool
answer odd x es = not (list_any (is_on_edge x) es) && cond odd (not (count_by (passes_right x) es % 2 == 1)) (count_by (passes_right x) es % 2 == 1)

answer_end : (odd : Bool) (x : Point) → answer odd x [] ≡ odd
answer_end true x = refl
answer_end false x = refl

-- x lies on the next edge
pub answer_on : (odd : Bool) (x : Point) (e : Segment) (es : List Segment) → is_on_edge x e ≡ true → answer odd x (e ∷ es) ≡ false
answer_on odd x e es h = grind (arith, common_steps)

-- the next edge passes to the right of x
pub answer_passes : (odd : Bool) (x : Point) (e : Segment) (es : List Segment) → is_on_edge x e ≡ false → passes_right x e ≡ true → answer odd x (e ∷ es) ≡ answer (not odd) x es
answer_passes true x e es h k = grind (arith, common_steps, sum_by-cons, parity_step, not_not)
answer_passes false x e es h k = grind (arith, common_steps, sum_by-cons, parity_step, not_not)

-- the next edge does neither
pub answer_other : (odd : Bool) (x : Point) (e : Segment) (es : List Segment) → is_on_edge x e ≡ false → passes_right x e ≡ false → answer odd x (e ∷ es) ≡ answer odd x es
answer_other odd x e es h k = grind (arith, common_steps, sum_by-cons)

-- at the first edge
pub answer_start : (x : Point) (points : List Point) → is_inside x points ≡ answer false x (drop 0 (edges_of points))
unfolding is_inside
answer_start x points = refl

-- past the last edge
pub answer_all : (odd : Bool) (x : Point) (points : List Point) (k : ℕ) → length points ≤ k → answer odd x (drop k (edges_of points)) ≡ odd
answer_all odd x points k h = rw (edges_of-end points k h) (answer_end odd x)
