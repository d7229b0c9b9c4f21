-- Along the edges of a polygon: the doubled area, the walls and the corners so far.
use Rattle.std.proofs.Common.{◌≡◌, ◌≤◌, ◌+◌, ℕ, zero, suc, Bool, true, false, List, [], ◌∷◌, ◌++◌, length, drop, ℤ, pos, ◌+ℤ◌, refl, sym, ap, ◌∙◌, arith}
use Rattle.std.specs.Prelude.{int_lt}
use Rattle.std.proofs.lemmas.Int.{ints}
use Rattle.std.proofs.lemmas.List.{append-nil, drop_all}
use Rattle.plane_spec.specs.declared.Point.{Point}
use Rattle.plane_spec.specs.declared.Segment.{Segment}
use Rattle.plane_spec.specs.declared.Corner.{Corner}
use Rattle.plane_spec.specs.declared.Orientation.{Orientation}
use Rattle.plane_spec.specs.Vectors.{cross_of}
use Rattle.plane_spec.specs.Polygons.{edges_of, doubled_area, is_counterclockwise}
use Rattle.exact_geom.proofs.Edges.{edges_of-end, length-edges_of}
use Rattle.sight_spec.specs.Scene.{has_orientation, oriented_walls, corners_after, last_edge, corners_along, oriented_corners}
use Rattle.sight_core.specs.Turned.{directed_edges, directed_corners}

-- past the last edge the sum so far is the whole
pub area_all : (area : ℤ) (points : List Point) (k : ℕ) → length points ≤ k
    → area +ℤ doubled_area (drop k (edges_of points)) ≡ doubled_area (edges_of points) → int_lt (pos 0) area ≡ is_counterclockwise points
unfolding is_counterclockwise
area_all area points k h e =
    let none = ap doubled_area (edges_of-end points k h) in
    let whole : area ≡ doubled_area (edges_of points) = omega (arith, ints, none, e) in
    ap (int_lt (pos 0)) whole

-- the next edge adds its part
pub area_next : (area part whole : ℤ) (e : Segment) (edges more : List Segment) → edges ≡ e ∷ more → part ≡ cross_of e.a e.b
    → area +ℤ doubled_area edges ≡ whole → area +ℤ part +ℤ doubled_area more ≡ whole
area_next area part whole e edges more next part_is total =
    let here = ap doubled_area next in
    omega (arith, ints, here, part_is, total)

no_edges : (keep : Bool) → directed_edges keep [] ≡ []
no_edges true = refl
no_edges false = refl

no_corners : (keep : Bool) → directed_corners keep [] ≡ []
no_corners true = refl
no_corners false = refl

-- past the last edge all walls are there
pub walls_all : (way : Orientation) (keep : Bool) (points : List Point) (k : ℕ) (old walls : List Segment) → keep ≡ has_orientation way points → length points ≤ k
    → walls ++ directed_edges keep (drop k (edges_of points)) ≡ old ++ directed_edges keep (edges_of points) → walls ≡ old ++ oriented_walls way points
unfolding oriented_walls
walls_all way keep points k old walls way_is h e =
    let none = ap (λ t. walls ++ directed_edges keep t) (edges_of-end points k h) ∙ ap (λ t. walls ++ t) (no_edges keep) ∙ append-nil walls in
    sym none ∙ e ∙ ap (λ t. old ++ directed_edges t (edges_of points)) way_is

-- past the last edge all corners are there
pub corners_all : (way : Orientation) (keep : Bool) (points : List Point) (k : ℕ) (before : Segment) (old corners : List Corner) → keep ≡ has_orientation way points → length points ≤ k
    → corners ++ directed_corners keep (corners_after before (drop k (edges_of points))) ≡ old ++ directed_corners keep (corners_along (edges_of points))
    → corners ≡ old ++ oriented_corners way points
unfolding oriented_corners
corners_all way keep points k before old corners way_is h e =
    let none = ap (λ t. corners ++ directed_corners keep (corners_after before t)) (edges_of-end points k h) ∙ ap (λ t. corners ++ t) (no_corners keep) ∙ append-nil corners in
    sym none ∙ e ∙ ap (λ t. old ++ directed_corners t (corners_along (edges_of points))) way_is

-- a polygon without points has no corners
pub no_points : (way : Orientation) (points : List Point) (old : List Corner) → length points ≡ 0 → old ≡ old ++ oriented_corners way points
unfolding oriented_corners
no_points way [] old h = elim (has_orientation way []) as (λ b. old ≡ old ++ directed_corners b []) [ true ↦ sym (append-nil old) | false ↦ sym (append-nil old) ]
no_points way (p ∷ points) old h = absurd (omega arith)

last_of : (e x : Segment) (edges : List Segment) (k : ℕ) → drop k (e ∷ edges) ≡ x ∷ [] → last_edge e edges ≡ x
last_of e x [] zero h = cc
last_of e x (n ∷ edges) zero h = cc
last_of e x [] (suc k) h = let nothing : List Segment = [] in let none = drop_all k nothing (omega arith) in cc
last_of e x (n ∷ edges) (suc k) h = last_of n x edges k h

along_from : (before : Segment) (edges : List Segment) (last : ℕ) → last + 1 ≡ length edges
    → drop last edges ≡ before ∷ drop (last + 1) edges → corners_after before edges ≡ corners_along edges
along_from before [] last h e = absurd (omega arith)
along_from before (first ∷ edges) last h e =
    let none = drop_all (last + 1) (first ∷ edges) (omega arith) in
    ap (λ b. corners_after b (first ∷ edges)) (sym (last_of first before edges last (e ∙ ap (λ t. before ∷ t) none)))

-- the edge before the first is the last
pub first_corner : (points : List Point) (before : Segment) (last : ℕ) → last + 1 ≡ length points
    → drop last (edges_of points) ≡ before ∷ drop (last + 1) (edges_of points) → corners_after before (edges_of points) ≡ corners_along (edges_of points)
first_corner points before last h e = along_from before (edges_of points) last (h ∙ sym (length-edges_of points)) e
