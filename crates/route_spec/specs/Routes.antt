-- Routes cut into pieces, and the turns on the way from one piece to another.
use Rattle.std.specs.Prelude.{Contains, ◌≡◌, ℕ, zero, suc, ◌+◌, ◌*◌, ◌≤◌, nat_lt, ◌==◌, pos, neg_ℤ, unsigned_abs, Bool, true, false, ◌&&◌, ◌||◌, not, int_lt, int_le, List, [], ◌∷◌, ◌++◌, map, length, count_by, Option, Some, None, if◌then◌else◌}
use Rattle.std.specs.Ordering.{int_eq}
use Rattle.std.specs.List.{flat_map, filter_map, enumerate_from}
use Rattle.plane_spec.specs.declared.Point.{Point}
use Rattle.plane_spec.specs.Lists.{distinct_by, in_order}
use Rattle.plane_spec.specs.Vectors.{point, reversed_direction, vector, cross_of, dot_of}
use Rattle.plane_spec.specs.Segments.{do_touch}
use Rattle.plane_spec.specs.Fractions.{Fraction, RPoint, fraction, is_before, same_value, whole_point, along, same_rpoint}
use Rattle.plan_spec.specs.declared.item.Route.{Route}
use Rattle.plan_spec.specs.Plan.{Plan}
use Rattle.plan_spec.specs.Accepted.{is_sound}

-- ---- pieces

-- a part of a route between two cuts or ends, with the route's number and its vector
pub record Piece : Type 0 where
  pub route : ℕ
  pub from : RPoint
  pub to : RPoint
  pub direction : Point

-- from a route's first end to its second
abbrev pub vector_of_route : Route → Point
vector_of_route r = vector r.from r.to

-- the t at which the point from + t (to - from) of the first route is on the line of the second
abbrev pub crossing_at : Route → Route → Fraction
crossing_at r q =
    fraction (cross_of (vector r.from q.from) (vector_of_route q)) (cross_of (vector_of_route r) (vector_of_route q))

-- t is strictly between 0 and 1, so the point from + t (to - from) lies strictly between a segment's ends
abbrev pub is_between_ends : Fraction → Bool
is_between_ends t = int_lt (pos 0) t.num && int_lt t.num t.den

-- where the second route cuts the first: at a point that they share, not at the first one's ends; routes in line share
-- an end at most
abbrev pub cut_of : Route → Route → Option Fraction
cut_of r q =
    if not (int_eq (cross_of (vector_of_route r) (vector_of_route q)) (pos 0))
    && (do_touch r.from r.to q.from q.to && is_between_ends (crossing_at r q))
    then Some (crossing_at r q)
    else None

-- the cuts of a route by the others, along it, each once
unfoldable pub cuts_of : List Route → Route → List Fraction
cuts_of routes r = in_order is_before (distinct_by same_value (filter_map (cut_of r) routes))

-- the pieces of a route that goes from `from` through the other points
abbrev pub pieces_between : ℕ → Point → RPoint → List RPoint → List Piece
pieces_between number direction from [] = []
pieces_between number direction from (to ∷ places) =
    record { route = number; from = from; to = to; direction = direction } ∷ pieces_between number direction to places

-- the pieces of a route with its number, from its first point on
abbrev pub pieces_of_route : List Route → ℕ × Route → List Piece
pieces_of_route routes e =
    pieces_between e.0 (vector_of_route e.1) (whole_point e.1.from)
    (map (along e.1.from (vector_of_route e.1)) (cuts_of routes e.1) ++ whole_point e.1.to ∷ [])

-- the pieces of all routes, in the order of the routes
unfoldable pub pieces_of : Plan → List Piece
pieces_of plan = flat_map (pieces_of_route plan.routes) (enumerate_from 0 plan.routes)

-- the pieces of some sound plan
pub record ArePiecesOfPlan (pieces : List Piece) : Type 0 where
  pub plan : Plan
  pub sound : is_sound plan ≡ true
  pub all : pieces ≡ pieces_of plan

-- two pieces share an end
abbrev pub share_end : Piece → Piece → Bool
share_end r q =
    (same_rpoint r.from q.from || same_rpoint r.from q.to) || (same_rpoint r.to q.from || same_rpoint r.to q.to)

-- the number of other pieces that share an end with the piece of a number
abbrev pub neighbours_of : List Piece → ℕ × Piece → ℕ
neighbours_of pieces e = count_by (λ other. not (other.0 == e.0) && share_end e.1 other.1) (enumerate_from 0 pieces)

-- how many neighbours each piece has
abbrev pub neighbour_counts : List Piece → List ℕ
neighbour_counts pieces = map (neighbours_of pieces) (enumerate_from 0 pieces)

-- ---- turns

-- the fifteen directions that part a half turn into sixteen, from just after straight on to just before straight back
abbrev pub turn_table : List Point
turn_table =
    point (pos 981) (pos 195) ∷ point (pos 924) (pos 383) ∷ point (pos 831) (pos 556) ∷ point (pos 707) (pos 707)
    ∷ point (pos 556) (pos 831) ∷ point (pos 383) (pos 924) ∷ point (pos 195) (pos 981) ∷ point (pos 0) (pos 1000)
    ∷ point (neg_ℤ (pos 195)) (pos 981) ∷ point (neg_ℤ (pos 383)) (pos 924) ∷ point (neg_ℤ (pos 556)) (pos 831)
    ∷ point (neg_ℤ (pos 707)) (pos 707) ∷ point (neg_ℤ (pos 831)) (pos 556) ∷ point (neg_ℤ (pos 924)) (pos 383)
    ∷ point (neg_ℤ (pos 981)) (pos 195) ∷ []

-- the second direction as it is seen along the first, turned to the upper half
abbrev pub relative_direction : Point → Point → Point
relative_direction d e = point (dot_of d e) (pos (unsigned_abs (cross_of d e)))

-- it leads straight back
abbrev pub is_straight_back : Point → Bool
is_straight_back r = int_lt r.x (pos 0) && int_eq r.y (pos 0)

-- how many directions of the table are passed on the way to it, and one more straight back
abbrev pub turn_by : Point → ℕ
turn_by r = count_by (λ t. int_le (pos 0) (cross_of t r)) turn_table + (if is_straight_back r then 1 else 0)

-- the turn from one direction to another, 0 straight on to 16 straight back
unfoldable pub turn_of : Point → Point → ℕ
turn_of d e = turn_by (relative_direction d e)

-- ---- walks along pieces

-- the end towards which a piece is walked
abbrev pub head_of : Piece → Bool → RPoint
head_of r forward = if forward then r.to else r.from

-- the end from which it is walked
abbrev pub tail_of : Piece → Bool → RPoint
tail_of r forward = if forward then r.from else r.to

-- the direction in which a piece is walked
abbrev pub heading_direction : Piece → Bool → Point
heading_direction r forward = if forward then r.direction else reversed_direction r.direction

-- a numbered piece, walked along its route or against it
abbrev pub DirectedPiece : Type 0
DirectedPiece = (ℕ × Piece) × Bool

-- the turn from one directed piece to the next
abbrev pub turn_between : DirectedPiece → DirectedPiece → ℕ
turn_between s t = turn_of (heading_direction s.0.1 s.1) (heading_direction t.0.1 t.1)

-- the next is on another piece, which has the head of this one as an end, and leads away from it
abbrev pub can_follow : DirectedPiece → DirectedPiece → Bool
can_follow s t = not (s.0.0 == t.0.0) && same_rpoint (head_of s.0.1 s.1) (tail_of t.0.1 t.1)

-- a piece along its route, and against it
abbrev pub both_ways : ℕ × Piece → List DirectedPiece
both_ways e = (e, true) ∷ (e, false) ∷ []

-- each piece in both headings
abbrev pub directed_pieces : List Piece → List DirectedPiece
directed_pieces pieces = flat_map both_ways (enumerate_from 0 pieces)

-- a walk of so many further pieces from the source, in either heading, to a directed piece, at a cost: the sum of its
-- turns
abbrev pub TurnWalk : List Piece → ℕ → ℕ → DirectedPiece → ℕ → Type 0
TurnWalk pieces source zero t cost = Contains (directed_pieces pieces) t × (t.0.0 ≡ source) × (cost ≡ 0)
TurnWalk pieces source (suc more) t cost =
    Contains (directed_pieces pieces) t
    × ((s : DirectedPiece) × (before : ℕ) × TurnWalk pieces source more s before × (can_follow s t ≡ true)
    × (cost ≡ before + turn_between s t))

-- the turn depth of a numbered piece from the source: the least cost of a walk that ends on it, in whichever heading,
-- or none where no walk does
abbrev pub IsTurnDepth : List Piece → ℕ → ℕ × Piece → Option ℕ → Type 0
IsTurnDepth pieces source e None =
    (more cost : ℕ) → (forward : Bool) → TurnWalk pieces source more (e, forward) cost → ⊥
IsTurnDepth pieces source e (Some depth) =
    ((more : ℕ) × (forward : Bool) × TurnWalk pieces source more (e, forward) depth)
    × ((more cost : ℕ) → (forward : Bool) → TurnWalk pieces source more (e, forward) cost → depth ≤ cost)

-- ---- turn depths as values

-- the lesser of two costs, where there are any
abbrev pub lesser : Option ℕ → Option ℕ → Option ℕ
lesser None b = b
lesser (Some a) None = Some a
lesser (Some a) (Some b) = if nat_lt b a then Some b else Some a

-- the least of the costs that there are
abbrev pub min_of : List (Option ℕ) → Option ℕ
min_of [] = None
min_of (a ∷ costs) = lesser a (min_of costs)

-- a cost with a turn more
abbrev pub raised : ℕ → Option ℕ → Option ℕ
raised turn None = None
raised turn (Some cost) = Some (cost + turn)

-- the cost of a directed piece by way of one before it, where it can follow that
abbrev pub cost_by_way : DirectedPiece → DirectedPiece × Option ℕ → Option ℕ
cost_by_way t s = if can_follow s.0 t then raised (turn_between s.0 t) s.1 else None

-- a directed piece with the lesser of its cost and the least by way of another
abbrev pub improved : List (DirectedPiece × Option ℕ) → DirectedPiece × Option ℕ → DirectedPiece × Option ℕ
improved known t = (t.0, lesser t.1 (min_of (map (cost_by_way t.0) known)))

-- the source, in both headings, costs nothing
abbrev pub at_source : ℕ → DirectedPiece → DirectedPiece × Option ℕ
at_source source t = (t, if t.0.0 == source then Some 0 else None)

-- each directed piece with the least cost of a walk of at most so many further pieces to it
unfoldable pub costs_within : List Piece → ℕ → ℕ → List (DirectedPiece × Option ℕ)
costs_within pieces source zero = map (at_source source) (directed_pieces pieces)
costs_within pieces source (suc more) = all_improved (costs_within pieces source more)
  where
    all_improved : List (DirectedPiece × Option ℕ) → List (DirectedPiece × Option ℕ)
    all_improved known = map (improved known) known

-- the cost of a directed piece, where it is on the numbered piece
abbrev pub cost_on : ℕ × Piece → DirectedPiece × Option ℕ → Option ℕ
cost_on e t = if t.0.0.0 == e.0 then t.1 else None

-- the turn depth of each piece from the source: for each walk there is one that costs no more and takes no directed
-- piece twice, so walks of more further pieces than there are of these needn't be tried
unfoldable pub turn_depths_of : List Piece → ℕ → List (Option ℕ)
turn_depths_of pieces source =
    map (λ e. min_of (map (cost_on e) (costs_within pieces source (2 * length pieces)))) (enumerate_from 0 pieces)
