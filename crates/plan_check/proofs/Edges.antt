-- The edges of a polygon, tested one after the other.
use Rattle.std.specs.Prelude.{◌≡◌, ℕ, ◌+◌, ◌≤◌, Bool, true, ◌&&◌, List, ◌∷◌, map, drop, length}
use Rattle.std.specs.List.{enumerate_from, list_all}
use Rattle.std.proofs.Common.{ap, ◌∙◌}
use Rattle.std.proofs.lemmas.List.Folds.{list_all-append, list_all-map}
use Rattle.plane_spec.specs.declared.Point.{Point}
use Rattle.plane_spec.specs.declared.Segment.{Segment}
use Rattle.plane_spec.specs.Lists.{pairs, with_each}
use Rattle.plane_spec.specs.Polygons.{edges_of, may_be_edges}
use Rattle.exact_geom.proofs.Edges.{edges_of-end}

-- all of the edges past the last pass a test
pub all_left : (test : ℕ × Segment → Bool) (points : List Point) (number k : ℕ) → length points ≤ k
    → list_all test (enumerate_from number (drop k (edges_of points))) ≡ true
all_left test points number k h = rw (edges_of-end points k h)

-- past the last edge there are no two
pub pairs_left : (test : (ℕ × Segment) × (ℕ × Segment) → Bool) (points : List Point) (number k : ℕ) → length points ≤ k
    → list_all test (pairs (enumerate_from number (drop k (edges_of points)))) ≡ true
pairs_left test points number k h = rw (edges_of-end points k h)

-- an edge stands beside those after it, and those beside each other
pub stand_next : (count i : ℕ) (e : Segment) (rest : List Segment) → list_all (may_be_edges count) (pairs (enumerate_from i (e ∷ rest)))
    ≡ (list_all (λ f. may_be_edges count ((i, e), f)) (enumerate_from (i + 1) rest) && list_all (may_be_edges count) (pairs (enumerate_from (i + 1) rest)))
stand_next count i e rest =
    let others = enumerate_from (i + 1) rest in
    list_all-append (may_be_edges count) (map (with_each (i, e)) others) (pairs others)
    ∙ ap (λ t. t && list_all (may_be_edges count) (pairs others)) (list_all-map (may_be_edges count) (with_each (i, e)) others)
