-- The later points that a point sees, row by row of the graph.
use Rattle.std.specs.Prelude.{◌≡◌, ℕ, ◌<◌, ◌≤◌, nat_lt, Bool, true, false, ◌&&◌, length}
use Rattle.std.proofs.Common.{ap, ◌∙◌, get_or, arith}
use Rattle.std.proofs.lemmas.Bool.{lt-ltb, le-ltb}
use Rattle.std.proofs.lemmas.List.{length-map}
use Rattle.std.proofs.lemmas.List.FromFn.{get_or-map-range_with_len, length-range_with_len}
use Rattle.std.specs.List.{range_with_len}
use Rattle.std.proofs.lemmas.Int.{ints}
use Rattle.plane_spec.specs.declared.Point.{Point}
use Rattle.plane_spec.specs.Vectors.{is_upper, same_point, vector}
use Rattle.plan_spec.specs.Plan.{Plan}
use Rattle.vga_grid.proofs.Covered.{are_joined}
use Rattle.vga_looks.specs.Tables.{is_seen_later, seen_later}

-- what the row says of a later point is whether the graph joins it
pub row_at : (plan : Plan) (i j count : ℕ) (d : Bool) → i < j → j < count
    → get_or (seen_later plan i count) j d ≡ are_joined plan i j
row_at plan i j count d rises below =
    get_or-map-range_with_len (is_seen_later plan i) 0 count j j d below (omega arith)
    ∙ ap (λ t. t && are_joined plan i j) (lt-ltb i j rises)

-- an earlier point isn't a later one
pub earlier_is_none : (plan : Plan) (i j : ℕ) → j ≤ i → is_seen_later plan i j ≡ false
earlier_is_none plan i j le = ap (λ t. t && are_joined plan i j) (le-ltb i j le)

-- a later one is where the graph joins both
pub later_is_joined : (plan : Plan) (i j : ℕ) → i < j → is_seen_later plan i j ≡ are_joined plan i j
later_is_joined plan i j rises = ap (λ t. t && are_joined plan i j) (lt-ltb i j rises)

-- a point above another one, or straight to its right, is another
pub upper_other : (p q : Point) → is_upper (vector p q) ≡ true → same_point p q ≡ false
upper_other p q h = grind (arith, ints)

-- a row has an answer for each point
pub row_length : (plan : Plan) (i count : ℕ) → length (seen_later plan i count) ≡ count
row_length plan i count = length-map (range_with_len 0 count) (is_seen_later plan i) ∙ length-range_with_len 0 count

-- before the first row
pub none_yet : (t : Bool) (a : ℕ) → false ≡ (t && nat_lt a 0)
none_yet t a = grind arith
