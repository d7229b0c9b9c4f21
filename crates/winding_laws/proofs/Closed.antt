-- Edges that close go round both ends of a segment equally often, where it touches none of them.
--
-- What an edge counts at p, less what it counts at q, is the strip's value at its end, less that at its start
-- (`OneEdge`). Summed over all edges this is how much the strip's value rises along them; and any value of corners
-- rises by nothing along edges that close, since each corner ends as many as it begins.
use Rattle.std.specs.Prelude.{List, [], ◌∷◌, false}
use Rattle.std.specs.List.{list_any}
use Rattle.std.proofs.Common.{pos, ℤ, ◌+ℤ◌, ◌-ℤ◌, ◌≡◌, arith, refl, inl, inr}
use Rattle.std.proofs.lemmas.Int.{ints}
use Rattle.plane_spec.specs.declared.Point.{Point}
use Rattle.plane_spec.specs.declared.Segment.{Segment}
use Rattle.plane_spec.specs.Polygons.{edges_to, edges_of}
use Rattle.plane_spec.specs.Segments.{do_touch}
use Rattle.plane_laws.proofs.Lists.Members.{IsIn, each_fails}
use Rattle.winding_laws.specs.Windings.{winding}
use Rattle.winding_laws.proofs.OneEdge.{one_edge, strip}

-- ---- round the polygon

-- by how much a value of corners rises along the edges
abbrev pub rises_along : (Point → ℤ) → List Segment → ℤ
rises_along value [] = pos 0
rises_along value (e ∷ edges) = (value e.b -ℤ value e.a) +ℤ rises_along value edges

-- edges that close: whatever value corners have, it rises and falls by the same along them
abbrev pub AreClosed : List Segment → Type 0
AreClosed edges = (value : Point → ℤ) → rises_along value edges ≡ pos 0

rises_to : (value : Point → ℤ) (first p : Point) (points : List Point)
    → rises_along value (edges_to first (p ∷ points)) ≡ value first -ℤ value p
unfolding edges_to
rises_to value first p [] = omega (arith, ints)
rises_to value first p (q ∷ points) = let rest = rises_to value first q points in omega (arith, ints, rest)

-- a polygon's edges close
pub polygon_closes : (points : List Point) → AreClosed (edges_of points)
polygon_closes [] value = refl
polygon_closes (p ∷ points) value = let e = rises_to value p p points in omega (arith, ints, e)

-- ---- away from the edges

winding_changes : (p q : Point) (edges : List Segment) → ((e : Segment) → IsIn edges e → do_touch e.a e.b p q ≡ false)
    → winding p edges -ℤ winding q edges ≡ rises_along (strip p q) edges
winding_changes p q [] free = refl
winding_changes p q (e ∷ edges) free =
    let first = one_edge p q e (free e (inl refl)) in
    let rest = winding_changes p q edges (λ f h. free f (inr h)) in
    omega (arith, ints, first, rest)

-- where a segment touches no edge, closed edges go round its ends alike
pub same_winding : (p q : Point) (edges : List Segment) → AreClosed edges
    → ((e : Segment) → IsIn edges e → do_touch e.a e.b p q ≡ false) → winding p edges ≡ winding q edges
same_winding p q edges closed free =
    let change = winding_changes p q edges free in
    let none = closed (strip p q) in
    omega (arith, ints, change, none)

pub off_the_edges : (points : List Point) (p q : Point)
    → list_any (λ e. do_touch e.a e.b p q) (edges_of points) ≡ false
    → winding p (edges_of points) ≡ winding q (edges_of points)
off_the_edges points p q free =
    same_winding p q (edges_of points) (polygon_closes points)
    (λ e there. each_fails (λ f. do_touch f.a f.b p q) (edges_of points) e free there)
