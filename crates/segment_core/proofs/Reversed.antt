-- The step in the other heading, and what leads from a node.
use Rattle.std.proofs.Common.{◌≡◌, ◌≢◌, ◌<◌, ◌+◌, ◌-◌, ◌*◌, ◌/◌, ◌%◌, ◌==◌, ℕ, Bool, true, false, not, List, [], length, get_or, refl, ap, ◌∙◌, arith}
use Rattle.std.specs.Prelude.{if◌then◌else◌}
use Rattle.std.specs.List.{filter, range_with_len}
use Rattle.std.proofs.lemmas.Bool.{eqb-true, eqb-false}
use Rattle.plane_spec.specs.Fractions.{same_rpoint, RPoint}
use Rattle.route_spec.specs.Routes.{Piece, head_of, tail_of}
use Rattle.segment_core.specs.Steps.{step_at, piece_at, leads_to, reversed_step}
use Rattle.segment_core.specs.Nodes.{AreNodesOf}
use Rattle.segment_core.proofs.Places.{filter_alike, range_below}

abbrev reversed_by : Bool → ℕ → ℕ
reversed_by b s = if b then s - 1 else s + 1

half_by : (b : Bool) (s : ℕ) → (b ≡ true → s % 2 ≡ 1) → (b ≡ false → s % 2 ≢ 1) → reversed_by b s / 2 ≡ s / 2
half_by true s odd even = let h = odd refl in omega (arith, h)
half_by false s odd even = let h = even refl in omega (arith, h)

rest_by : (b : Bool) (s : ℕ) → (b ≡ true → s % 2 ≡ 1) → (b ≡ false → s % 2 ≢ 1) → (reversed_by b s % 2 == 1) ≡ not b
rest_by true s odd even = let h = odd refl in let e : (s - 1) % 2 ≡ 0 = omega (arith, h) in ap (λ n. n == 1) e
rest_by false s odd even = let h = even refl in let e : (s + 1) % 2 ≡ 1 = omega (arith, h) in ap (λ n. n == 1) e

pub half_reversed : (s : ℕ) → reversed_step s / 2 ≡ s / 2
half_reversed s = half_by (s % 2 == 1) s (eqb-true (s % 2) 1) (eqb-false (s % 2) 1)

pub heading_reversed : (s : ℕ) → (reversed_step s % 2 == 1) ≡ not (s % 2 == 1)
heading_reversed s = rest_by (s % 2 == 1) s (eqb-true (s % 2) 1) (eqb-false (s % 2) 1)

below_by : (b : Bool) (s n : ℕ) → (b ≡ false → s % 2 ≢ 1) → s < 2 * n → reversed_by b s < 2 * n
below_by true s n even below = omega (arith, below)
below_by false s n even below = let h = even refl in omega (arith, h, below)

pub reversed_below : (s n : ℕ) → s < 2 * n → reversed_step s < 2 * n
reversed_below s n below = below_by (s % 2 == 1) s n (eqb-false (s % 2) 1) below

tail_by : (p : Piece) (b : Bool) → tail_of p (not b) ≡ head_of p b
tail_by p true = refl
tail_by p false = refl

-- a step ends where the reversed one begins
pub tail_reversed : (pieces : List Piece) (s : ℕ)
    → tail_of (step_at pieces (reversed_step s)).0.1 (step_at pieces (reversed_step s)).1
    ≡ head_of (step_at pieces s).0.1 (step_at pieces s).1
tail_reversed pieces s =
    ap (λ (k : ℕ). tail_of (piece_at pieces k) (reversed_step s % 2 == 1)) (half_reversed s)
    ∙ ap (λ (b : Bool). tail_of (piece_at pieces (s / 2)) b) (heading_reversed s)
    ∙ tail_by (piece_at pieces (s / 2)) (s % 2 == 1)

pub row_is : (pieces : List Piece) (tails : List ℕ) (leaving : List (List ℕ)) (step head : ℕ)
    → AreNodesOf pieces tails leaving → step < 2 * length pieces
    → head ≡ get_or tails (reversed_step step) 0
    → get_or leaving head [] ≡ filter (leads_to pieces step) (range_with_len 0 (2 * length pieces))
row_is pieces tails leaving step head nodes below is =
    let back = reversed_below step (length pieces) below in
    let there : head < length leaving = omega (arith, is, nodes.below (reversed_step step) back) in
    nodes.members head there
    ∙ ap (λ (n : ℕ). filter (λ t. head == get_or tails t 0) (range_with_len 0 n)) nodes.tails.one_each
    ∙ filter_alike (λ t. head == get_or tails t 0) (leads_to pieces step) (range_with_len 0 (2 * length pieces))
    (λ t h.
    ap (λ (n : ℕ). n == get_or tails t 0) is
    ∙ nodes.tails.alike (reversed_step step) t back (range_below (2 * length pieces) t h)
    ∙ ap (λ (p : RPoint). same_rpoint p (tail_of (step_at pieces t).0.1 (step_at pieces t).1))
    (tail_reversed pieces step))
