-- How large turns, turn depths and the numbers of the table of turns are.
--
-- A least walk has one that costs no more and takes no directed piece twice; each of its turns is at most 16.
use Rattle.std.proofs.Common.{◌≡◌, ◌≤◌, ◌+◌, ◌-◌, ◌*◌, ℕ, zero, suc, ℤ, pos, neg_ℤ, Bool, true, false, cond, ◌&&◌, List, length, get_or, count_by, refl, subst, arith}
use Rattle.std.specs.Prelude.{All, Contains, int_le, unsigned_abs, Some, None}
use Rattle.std.specs.List.{enumerate_from, list_all}
use Rattle.std.proofs.lemmas.Int.{ints}
use Rattle.std.proofs.lemmas.Bool.{and_parts}
use Rattle.std.proofs.lemmas.List.Sums.{count_by-le-length}
use Rattle.plane_spec.specs.declared.Point.{Point}
use Rattle.plane_spec.specs.Vectors.{IsDirection, IsWithin, cross_of, dot_of}
use Rattle.plan_laws.proofs.Ranges.{each_is}
use Rattle.exact_geom.proofs.Bounds.{product_within, size_within}
use Rattle.route_spec.specs.Routes.{Piece, DirectedPiece, TurnWalk, IsTurnDepth, turn_table, turn_of, turn_between, turn_depths_of, relative_direction, is_straight_back}
use Rattle.graph_laws.proofs.Steps.{shorter_walk}
use Rattle.graph_laws.proofs.Turns.{least_turn_depth}

-- ---- turns

by_more : (b : Bool) (n : ℕ) → n ≤ 15 → n + cond b 1 0 ≤ 16
by_more true n h = omega arith
by_more false n h = omega arith

pub turn_at_most : (d e : Point) → turn_of d e ≤ 16
unfolding turn_of
turn_at_most d e =
    let r = relative_direction d e in
    by_more (is_straight_back r) (count_by (λ t. int_le (pos 0) (cross_of t r)) turn_table)
    (count_by-le-length (λ t. int_le (pos 0) (cross_of t r)) turn_table)

turn_between_at_most : (s t : DirectedPiece) → turn_between s t ≤ 16
turn_between_at_most s t = turn_at_most _ _

-- a walk costs at most 16 a further piece
pub walk_at_most : (pieces : List Piece) (source more : ℕ) (t : DirectedPiece) (cost : ℕ)
    → TurnWalk pieces source more t cost → cost ≤ 16 * more
walk_at_most pieces source zero t cost walk = omega (arith, walk.2)
walk_at_most pieces source (suc more) t cost walk =
    let last = walk.1 in
    omega (arith, walk_at_most pieces source more last.0 last.1 last.2, turn_between_at_most last.0 t, last.4)

-- ---- turn depths

pub depth_at_most : (pieces : List Piece) (source : ℕ) (e : ℕ × Piece) (depth : ℕ)
    → IsTurnDepth pieces source e (Some depth)
    → depth ≤ 16 * (2 * length pieces - 1)
depth_at_most pieces source e depth is =
    let walk = is.0 in
    let short = shorter_walk pieces source walk.0 (e, walk.1) depth walk.2 in
    let least = is.1 short.0 short.1 walk.1 short.4 in
    let cost = walk_at_most pieces source short.0 (e, walk.1) short.1 short.4 in
    omega (arith, least, cost, short.2)

pub listed_at_most : (pieces : List Piece) (source : ℕ) (e : ℕ × Piece) (depth : ℕ)
    → Contains (enumerate_from 0 pieces) e
    → get_or (turn_depths_of pieces source) e.0 None ≡ Some depth → depth ≤ 16 * (2 * length pieces - 1)
listed_at_most pieces source e depth among is =
    depth_at_most pieces source e depth
    (subst (IsTurnDepth pieces source e) is (least_turn_depth pieces source e among))

-- ---- the table of turns

cross_within : (d e : Point) → IsDirection d → IsDirection e → IsWithin (pos 320000000000) (cross_of d e)
cross_within d e d_in e_in =
    let one = product_within 400000 400000 d.x e.y d_in.x e_in.y in
    let two = product_within 400000 400000 d.y e.x d_in.y e_in.x in
    record { low = omega (arith, ints, one.low, two.high); high = omega (arith, ints, one.high, two.low) }

dot_within : (d e : Point) → IsDirection d → IsDirection e → IsWithin (pos 320000000000) (dot_of d e)
dot_within d e d_in e_in =
    let one = product_within 400000 400000 d.x e.x d_in.x e_in.x in
    let two = product_within 400000 400000 d.y e.y d_in.y e_in.y in
    record { low = omega (arith, ints, one.low, two.low); high = omega (arith, ints, one.high, two.high) }

pub relative_across : (d e : Point) → IsDirection d → IsDirection e
    → IsWithin (pos 320000000000) (relative_direction d e).x
relative_across d e d_in e_in = dot_within d e d_in e_in

pub relative_up : (d e : Point) → IsDirection d → IsDirection e
    → IsWithin (pos 320000000000) (relative_direction d e).y
relative_up d e d_in e_in =
    natural (unsigned_abs (cross_of d e)) (size_within 320000000000 (cross_of d e) (cross_within d e d_in e_in))
  where
    natural : (n : ℕ) → n ≤ 320000000000 → IsWithin (pos 320000000000) (pos n)
    natural n h = record { low = omega (arith, ints); high = omega (arith, ints) }

-- a number of the table is at most 1000 in size
is_small : ℤ → Bool
is_small z = int_le (neg_ℤ (pos 1000)) z && int_le z (pos 1000)

small_within : (z : ℤ) → is_small z ≡ true → IsWithin (pos 1000) z
unfolding is_small
small_within z h = record { low = grind (arith, ints); high = grind (arith, ints) }

are_small : Point → Bool
are_small t = is_small t.x && is_small t.y

table_is_small : list_all are_small turn_table ≡ true
unfolding are_small is_small
table_is_small = refl

entry_within : (r t : Point) → IsWithin (pos 320000000000) r.x → IsWithin (pos 320000000000) r.y → are_small t ≡ true
    → IsWithin (pos 640000000000000) (cross_of t r)
unfolding are_small
entry_within r t x_in y_in small =
    let parts = and_parts (is_small t.x) (is_small t.y) small in
    let one = product_within 1000 320000000000 t.x r.y (small_within t.x parts.0) y_in in
    let two = product_within 1000 320000000000 t.y r.x (small_within t.y parts.1) x_in in
    record { low = omega (arith, ints, one.low, two.high); high = omega (arith, ints, one.high, two.low) }

pub table_within : (d e : Point) → IsDirection d → IsDirection e
    → All (λ t. IsWithin (pos 640000000000000) (cross_of t (relative_direction d e))) turn_table
table_within d e d_in e_in =
    each_is are_small (λ t. IsWithin (pos 640000000000000) (cross_of t (relative_direction d e)))
    (λ t small. entry_within (relative_direction d e) t (relative_across d e d_in e_in) (relative_up d e d_in e_in)
    small)
    turn_table table_is_small
