-- Directed pieces by number, here called steps: 2 k is piece k against its route, 2 k + 1 with it; and costs of steps.
use Rattle.std.specs.Prelude.{◌≡◌, ℕ, ◌+◌, ◌-◌, ◌*◌, ◌/◌, ◌%◌, ◌<◌, ◌≤◌, ◌==◌, nat_lt, pos, true, Bool, ◌⊎◌, List, [], length, get_or, Option, Some, None, if◌then◌else◌}
use Rattle.std.specs.List.{Contains, filter, range_with_len, sum_by}
use Rattle.plane_spec.specs.declared.Point.{Point}
use Rattle.plane_spec.specs.Vectors.{point}
use Rattle.plane_spec.specs.Fractions.{whole_point, same_rpoint}
use Rattle.route_laws.specs.Bounds.{IsPieceInRange}
use Rattle.route_spec.specs.Routes.{Piece, DirectedPiece, TurnWalk, can_follow, turn_between, heading_direction, head_of, tail_of}
use Rattle.segment_core.specs.declared.limits.TheConstants.{MAX_PIECES}

-- stands for pieces that aren't there
abbrev pub no_piece : Piece
no_piece = record {
  route = 0;
  from = whole_point (point (pos 0) (pos 0));
  to = whole_point (point (pos 0) (pos 0));
  direction = point (pos 0) (pos 0);
}

-- the piece of a number
abbrev pub piece_at : List Piece → ℕ → Piece
piece_at pieces k = get_or pieces k no_piece

-- the directed piece of a step
abbrev pub step_at : List Piece → ℕ → DirectedPiece
step_at pieces s = ((s / 2, piece_at pieces (s / 2)), s % 2 == 1)

-- the cost of a step
abbrev pub cost_at : List ℕ → ℕ → ℕ
cost_at costs s = get_or costs s 0

-- a cost above that of every shortest walk: it stands for none
abbrev pub far_of : List Piece → ℕ
far_of pieces = 32 * length pieces + 1

-- the step costs no more than by way of another
abbrev pub IsEased : List Piece → List ℕ → ℕ → Type 0
IsEased pieces costs s =
    (t : ℕ) → t < 2 * length pieces → can_follow (step_at pieces s) (step_at pieces t) ≡ true
    → cost_at costs t ≤ cost_at costs s + turn_between (step_at pieces s) (step_at pieces t)

-- each cost that is known is that of a walk from the source
abbrev pub AreWalked : List Piece → ℕ → List ℕ → Type 0
AreWalked pieces source costs =
    (s : ℕ) → s < 2 * length pieces → cost_at costs s < far_of pieces
    → (more : ℕ) × TurnWalk pieces source more (step_at pieces s) (cost_at costs s)

-- the least costs of walks from the source to each step
pub record AreLeast (pieces : List Piece) (source : ℕ) (costs : List ℕ) : Type 0 where
  pub one_each : length costs ≡ 2 * length pieces
  pub back : cost_at costs (2 * source) ≡ 0
  pub forward : cost_at costs (2 * source + 1) ≡ 0
  pub walked : AreWalked pieces source costs
  pub eased : (s : ℕ) → s < 2 * length pieces → cost_at costs s < far_of pieces → IsEased pieces costs s

-- the lesser of two costs, or none where both are far
abbrev pub lesser_below : ℕ → ℕ → ℕ → Option ℕ
lesser_below far forward back =
    let least = if nat_lt back forward then back else forward in
    if nat_lt least far then Some least else None

-- no more pieces than a plan has, each with small parts
pub record AreInRange (pieces : List Piece) : Type 0 where
  pub at_most : length pieces ≤ MAX_PIECES
  pub each : (k : ℕ) → k < length pieces → IsPieceInRange (piece_at pieces k)

-- the direction of a step
abbrev pub heading_at : List Piece → ℕ → Point
heading_at pieces s = heading_direction (step_at pieces s).0.1 (step_at pieces s).1

-- the second step begins where the first ends
abbrev pub leads_to : List Piece → ℕ → ℕ → Bool
leads_to pieces s t =
    same_rpoint (head_of (step_at pieces s).0.1 (step_at pieces s).1)
    (tail_of (step_at pieces t).0.1 (step_at pieces t).1)

-- the steps that begin where the step ends, in order
abbrev pub row_of : List Piece → ℕ → List ℕ
row_of pieces s = filter (leads_to pieces s) (range_with_len 0 (2 * length pieces))

-- ---- steps that wait, in buckets

-- the steps of a bucket
abbrev pub bucket_at : List (List ℕ) → ℕ → List ℕ
bucket_at queue b = get_or queue b []

-- a step waits in the bucket of its cost
abbrev pub Waits : List (List ℕ) → ℕ → ℕ → Type 0
Waits queue s cost = Contains (bucket_at queue (cost % 17)) s

-- only steps wait
abbrev pub AreInside : List Piece → List (List ℕ) → Type 0
AreInside pieces queue = (b s : ℕ) → Contains (bucket_at queue b) s → s < 2 * length pieces

-- what is left to do at most
abbrev pub left_of : List ℕ → List (List ℕ) → ℕ
left_of costs queue = sum_by (λ c. c) costs + sum_by length queue

-- what a step did to the costs of those that may follow, and to what waits
pub record Eases (pieces : List Piece) (step : ℕ) (old new : List ℕ) (before after : List (List ℕ)) : Type 0 where
  pub one_each : length new ≡ length old
  pub ring : length after ≡ length before
  pub lower : (s : ℕ) → cost_at new s ≤ cost_at old s
  pub stays : cost_at new step ≡ cost_at old step
  pub walked : (source : ℕ) → AreWalked pieces source old → AreWalked pieces source new
  pub waiting : (s : ℕ) → (cost_at new s ≡ cost_at old s) ⊎ Waits after s (cost_at new s)
  pub keeps : (b s : ℕ) → Contains (bucket_at before b) s → Contains (bucket_at after b) s
  pub inside : AreInside pieces before → AreInside pieces after
  pub fewer : left_of new after ≤ left_of old before

-- the step on the same piece in the other heading
abbrev pub reversed_step : ℕ → ℕ
reversed_step s = if s % 2 == 1 then s - 1 else s + 1
