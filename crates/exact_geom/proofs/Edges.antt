-- The edges of a polygon, one after another.
use Rattle.std.proofs.Common.{◌≡◌, ◌≤◌, ◌<◌, ◌+◌, ℕ, suc, zero, Bool, false, cond, List, [], ◌∷◌, length, drop, get_or, refl, ap, ◌∙◌, arith, nat_lt, add-one}
use Rattle.std.specs.Prelude.{All}
use Rattle.std.specs.List.{list_any}
use Rattle.std.proofs.lemmas.Grind.{common_steps}
use Rattle.std.proofs.lemmas.List.Elements.{All-cons, All-head, All-tail, All-nil}
use Rattle.std.proofs.lemmas.List.{get_or_default, drop_all}
use Rattle.std.proofs.Math.ListN.{get_or-eq_default}
use Rattle.plane_spec.specs.declared.Point.{Point}
use Rattle.plane_spec.specs.declared.Segment.{Segment}
use Rattle.plane_spec.specs.Vectors.{InRange}
use Rattle.plane_spec.specs.Segments.{IsSegmentInRange}
use Rattle.plane_spec.specs.Polygons.{edges_to, edges_of}

length-edges_to : (first : Point) (points : List Point) → length (edges_to first points) ≡ length points
unfolding edges_to
length-edges_to first [] = refl
length-edges_to first (p ∷ []) = refl
length-edges_to first (p ∷ q ∷ points) = ap suc (length-edges_to first (q ∷ points))

-- there are as many edges as points
pub length-edges_of : (points : List Point) → length (edges_of points) ≡ length points
length-edges_of [] = refl
length-edges_of (p ∷ points) = length-edges_to p (p ∷ points)

edges_to-in_range : (first : Point) (points : List Point) → InRange first → All InRange points → All IsSegmentInRange (edges_to first points)
unfolding edges_to
edges_to-in_range first [] f h = All-nil IsSegmentInRange
edges_to-in_range first (p ∷ []) f h = All-cons IsSegmentInRange (record { a = p; b = first }) [] (record { a = All-head InRange p [] h; b = f }) (All-nil IsSegmentInRange)
edges_to-in_range first (p ∷ q ∷ points) f h =
    let rest = All-tail InRange p (q ∷ points) h in
    All-cons IsSegmentInRange (record { a = p; b = q }) (edges_to first (q ∷ points))
    (record { a = All-head InRange p (q ∷ points) h; b = All-head InRange q points rest })
    (edges_to-in_range first (q ∷ points) f rest)

-- the edges of a polygon in range are in range
pub edges_of-in_range : (points : List Point) → All InRange points → All IsSegmentInRange (edges_of points)
edges_of-in_range [] h = All-nil IsSegmentInRange
edges_of-in_range (p ∷ points) h = edges_to-in_range p (p ∷ points) (All-head InRange p points h) h

-- the next edge, by the points
edges_to-next : (first : Point) (points : List Point) (k : ℕ) → k < length points
    → drop k (edges_to first points) ≡ record { a = get_or points k first; b = get_or points (suc k) first } ∷ drop (suc k) (edges_to first points)
unfolding edges_to
edges_to-next first [] k h = absurd (omega arith)
edges_to-next first (p ∷ []) zero h = refl
edges_to-next first (p ∷ []) (suc k) h = absurd (omega arith)
edges_to-next first (p ∷ q ∷ rest) zero h = refl
edges_to-next first (p ∷ q ∷ rest) (suc k) h = edges_to-next first (q ∷ rest) k (omega arith)

point_after : (p : Point) (rest : List Point) (k after : ℕ) (d : Point) → after ≡ cond (nat_lt k (length (p ∷ rest))) k 0 → get_or (p ∷ rest) k p ≡ get_or (p ∷ rest) after d
point_after p rest k after d e = grind (arith, common_steps, get_or_default, get_or-eq_default)

-- the next edge of a polygon, where the reads of the points have the default d
pub edges_of-next : (points : List Point) (k after : ℕ) (d : Point) → k < length points → after ≡ cond (nat_lt (k + 1) (length points)) (k + 1) 0
    → drop k (edges_of points) ≡ record { a = get_or points k d; b = get_or points after d } ∷ drop (k + 1) (edges_of points)
edges_of-next [] k after d h e = absurd (omega arith)
edges_of-next (p ∷ rest) k after d h e =
    let step = edges_to-next p (p ∷ rest) k h in
    let a_is = get_or_default (p ∷ rest) k p d h in
    let b_is : get_or (p ∷ rest) (suc k) p ≡ get_or (p ∷ rest) after d = point_after p rest (suc k) after d (rw add-one at e) in
    let after_a = ap (λ x. record { a = x; b = get_or (p ∷ rest) (suc k) p } ∷ drop (suc k) (edges_to p (p ∷ rest))) a_is in
    let after_b = ap (λ x. record { a = get_or (p ∷ rest) k d; b = x } ∷ drop (suc k) (edges_to p (p ∷ rest))) b_is in
    rw (add-one) (step ∙ after_a ∙ after_b)

-- no edge is left past the last
pub edges_of-end : (points : List Point) (k : ℕ) → length points ≤ k → drop k (edges_of points) ≡ []
edges_of-end points k h = drop_all k (edges_of points) (rw (length-edges_of points) h)

-- none of the edges past the last passes a test
pub none_left : (test : Segment → Bool) (points : List Point) (k : ℕ) → length points ≤ k → list_any test (drop k (edges_of points)) ≡ false
none_left test points k h = rw (edges_of-end points k h)
