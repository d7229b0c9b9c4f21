-- Edges turned round go round as often the other way.
use Rattle.std.specs.Prelude.{List, map, [], ◌∷◌}
use Rattle.std.proofs.Common.{arith, neg_ℤ, refl, ◌≡◌, ap, ℕ, ℤ, ◌∙◌}
use Rattle.std.proofs.lemmas.Int.{ints}
use Rattle.plane_spec.specs.declared.Point.{Point}
use Rattle.plane_spec.specs.declared.Segment.{Segment}
use Rattle.plane_laws.specs.Enlarged.{enlarged_wall}
use Rattle.winding_laws.specs.Windings.{winding, near}
use Rattle.winding_laws.proofs.OneEdge.{wind_turned}
use Rattle.winding_laws.proofs.Strips.{HasWinding}
use Rattle.winding_laws.proofs.Near.{eventually_then}
use Rattle.winding_laws.proofs.Closed.{rises_along, AreClosed}
use Rattle.sight_spec.specs.Scene.{turned_edge}

pub winding_turned : (x : Point) (edges : List Segment) → winding x (map turned_edge edges) ≡ neg_ℤ (winding x edges)
winding_turned x [] = refl
winding_turned x (f ∷ edges) =
    let first = wind_turned x f in
    let rest = winding_turned x edges in
    omega (arith, ints, first, rest)

turned_enlarged : (n : ℕ) (edges : List Segment)
    → map (enlarged_wall n) (map turned_edge edges) ≡ map turned_edge (map (enlarged_wall n) edges)
turned_enlarged n [] = refl
turned_enlarged n (f ∷ edges) = ap (λ t. turned_edge (enlarged_wall n f) ∷ t) (turned_enlarged n edges)

pub has_turned : (edges : List Segment) (x d : Point) (k : ℤ) → HasWinding edges x d k
    → HasWinding (map turned_edge edges) x d (neg_ℤ k)
has_turned edges x d k h =
    eventually_then (λ n. winding (near n x d) (map (enlarged_wall n) edges) ≡ k)
    (λ n. winding (near n x d) (map (enlarged_wall n) (map turned_edge edges)) ≡ neg_ℤ k)
    (λ n e. ap (λ t. winding (near n x d) t) (turned_enlarged n edges)
    ∙ winding_turned (near n x d) (map (enlarged_wall n) edges) ∙ ap neg_ℤ e) h

rises_turned : (value : Point → ℤ) (edges : List Segment)
    → rises_along value (map turned_edge edges) ≡ neg_ℤ (rises_along value edges)
rises_turned value [] = refl
rises_turned value (f ∷ edges) = let rest = rises_turned value edges in omega (arith, ints, rest)

pub closed_turned : (edges : List Segment) → AreClosed edges → AreClosed (map turned_edge edges)
closed_turned edges closed value = let e = rises_turned value edges in let f = closed value in omega (arith, ints, e, f)
