-- The nodes where pieces end, and the steps that lead from each.
use Rattle.std.specs.Prelude.{◌≡◌, ℕ, ◌*◌, ◌/◌, ◌%◌, ◌<◌, ◌==◌, Bool, not, ◌&&◌, List, [], filter, length, get_or}
use Rattle.std.specs.List.{range_with_len}
use Rattle.plane_spec.specs.Fractions.{same_rpoint}
use Rattle.route_spec.specs.Routes.{Piece, tail_of}
use Rattle.segment_core.specs.Steps.{step_at, reversed_step}

-- the node of each step's tail: one node for one point
pub record AreTailsOf (pieces : List Piece) (tails : List ℕ) : Type 0 where
  pub one_each : length tails ≡ 2 * length pieces
  pub alike : (s t : ℕ) → s < 2 * length pieces → t < 2 * length pieces
      → (get_or tails s 0 == get_or tails t 0) ≡ same_rpoint (tail_of (step_at pieces s).0.1 (step_at pieces s).1)
      (tail_of (step_at pieces t).0.1 (step_at pieces t).1)

-- the steps that lead from a node, in order
abbrev pub leaving_of : List ℕ → ℕ → List ℕ
leaving_of tails node = filter (λ t. node == get_or tails t 0) (range_with_len 0 (length tails))

-- the node of each step's tail, and the steps that lead from each node
pub record AreNodesOf (pieces : List Piece) (nodes : List ℕ) (leaving : List (List ℕ)) : Type 0 where
  pub tails : AreTailsOf pieces nodes
  pub below : (s : ℕ) → s < 2 * length pieces → get_or nodes s 0 < length leaving
  pub members : (node : ℕ) → node < length leaving → get_or leaving node [] ≡ leaving_of nodes node

-- a step from the node `at` stands for a piece but k: one that has both ends there does so by its step against the
-- route alone
abbrev pub counts_at : List ℕ → ℕ → ℕ → ℕ → Bool
counts_at tails k at s = not (s / 2 == k) && not ((s % 2 == 1) && (at == get_or tails (reversed_step s) 0))

-- the same, for pieces that have no end at the node `from`
abbrev pub counts_apart : List ℕ → ℕ → ℕ → ℕ → ℕ → Bool
counts_apart tails k at from s =
    counts_at tails k at s && (not (from == get_or tails s 0) && not (from == get_or tails (reversed_step s) 0))
