-- Directed pieces: their numbers, and walks that take none twice.
use Rattle.std.specs.Prelude.{◌≡◌, ℕ, zero, suc, ◌+◌, ◌*◌, ◌<◌, ◌≤◌, Bool, true, false, cond, List, [], ◌∷◌, length}
use Rattle.std.specs.List.{Contains, enumerate_from}
use Rattle.std.proofs.Common.{refl, sym, ap, ◌∙◌, inl, inr, arith, subst}
use Rattle.route_spec.specs.Routes.{Piece, DirectedPiece, TurnWalk, both_ways, directed_pieces, can_follow, turn_between}
use Rattle.graph_laws.proofs.Members.{contains_none, first_or_later, among_from, number_is_place, same_numbered}
use Rattle.graph_laws.proofs.Paths.{IsPath, ShortPath, path_cost, stays, extend, few_steps}

-- both directed pieces that are made of a piece are on it
both_ways_of : (e : ℕ × Piece) (t : DirectedPiece) → Contains (both_ways e) t → e ≡ t.0
both_ways_of e t h = elim (first_or_later (e, true) ((e, false) ∷ []) t h) [
  | inl forward ↦ ap (λ s. s.0) forward
  | inr rest ↦ elim (first_or_later (e, false) [] t rest) [
    | inl back ↦ ap (λ s. s.0) back
    | inr nothing ↦ absurd (contains_none t nothing)
  ]
]

pub piece_of_step : (pieces : List Piece) (t : DirectedPiece) → Contains (directed_pieces pieces) t → Contains (enumerate_from 0 pieces) t.0
piece_of_step pieces t h =
    let found = among_from both_ways (enumerate_from 0 pieces) t h in
    subst (λ e. Contains (enumerate_from 0 pieces) e) (both_ways_of found.0 t found.2) found.1

-- ---- their numbers

-- two numbers for each piece, one for each heading
pub step_number : DirectedPiece → ℕ
step_number t = 2 * t.0.0 + cond t.1 1 0

number_of_piece : (u t : ℕ) (forward back : Bool) → 2 * u + cond forward 1 0 ≡ 2 * t + cond back 1 0 → (u ≡ t) × (forward ≡ back)
number_of_piece u t true true same = (omega arith, refl)
number_of_piece u t true false same = absurd (omega arith)
number_of_piece u t false true same = absurd (omega arith)
number_of_piece u t false false same = (omega arith, refl)

same_step : (pieces : List Piece) (u t : DirectedPiece) → Contains (directed_pieces pieces) u → Contains (directed_pieces pieces) t → step_number u ≡ step_number t → u ≡ t
unfolding step_number
same_step pieces u t g h same =
    let parts = number_of_piece u.0.0 t.0.0 u.1 t.1 same in
    let piece : u.0 ≡ t.0 = same_numbered pieces u.0 t.0 (piece_of_step pieces u g) (piece_of_step pieces t h) parts.0 in
    let moved : ◌≡◌ {A = DirectedPiece} (u.0, u.1) (t.0, u.1) = ap (λ (e : ℕ × Piece). (e, u.1)) piece in
    let turned : ◌≡◌ {A = DirectedPiece} (t.0, u.1) (t.0, t.1) = ap (λ (forward : Bool). (t.0, forward)) parts.1 in
    moved ∙ turned

number_below : (pieces : List Piece) (t : DirectedPiece) → Contains (directed_pieces pieces) t → step_number t < 2 * length pieces
unfolding step_number
number_below pieces t h = by_heading t.1
  where
    by_heading : (forward : Bool) → 2 * t.0.0 + cond forward 1 0 < 2 * length pieces
    by_heading true = omega (arith, (number_is_place pieces t.0 (piece_of_step pieces t h)).0)
    by_heading false = omega (arith, (number_is_place pieces t.0 (piece_of_step pieces t h)).0)

-- ---- walks that take none twice

module _ (pieces : List Piece) (source : ℕ) where
  abbrev IsStep : DirectedPiece → Type 0
  IsStep t = Contains (directed_pieces pieces) t

  abbrev IsBegun : DirectedPiece → Type 0
  IsBegun t = t.0.0 ≡ source

  abbrev MayFollow : DirectedPiece → DirectedPiece → Type 0
  MayFollow s t = can_follow s t ≡ true

  path_of_walk : (more : ℕ) (t : DirectedPiece) (cost : ℕ) → TurnWalk pieces source more t cost → ShortPath IsStep IsBegun MayFollow turn_between step_number t cost
  path_of_walk zero t cost walk = stays IsStep IsBegun MayFollow turn_between step_number t cost walk.0 walk.1
  path_of_walk (suc more) t cost walk =
      let last = walk.1 in
      let before = path_of_walk more last.0 last.1 last.2 in
      subst (λ (c : ℕ). ShortPath IsStep IsBegun MayFollow turn_between step_number t c) (sym last.4)
      (extend IsStep IsBegun MayFollow turn_between step_number (same_step pieces) last.0 t last.1 before walk.0 last.3)

  walk_of_path : (t : DirectedPiece) (before : List DirectedPiece) → IsPath IsStep IsBegun MayFollow turn_between step_number t before
      → TurnWalk pieces source (length before) t (path_cost IsStep IsBegun MayFollow turn_between step_number t before)
  walk_of_path t [] path = (path.0, path.1, refl)
  walk_of_path t (s ∷ before) path =
      (path.0, (s, path_cost IsStep IsBegun MayFollow turn_between step_number s before, walk_of_path s before path.1, path.2, refl))

  -- each walk has one that costs no more and has fewer further pieces than there are directed pieces
  pub shorter_walk : (more : ℕ) (t : DirectedPiece) (cost : ℕ) → TurnWalk pieces source more t cost
      → (fewer : ℕ) × (less : ℕ) × (fewer < 2 * length pieces) × (less ≤ cost) × TurnWalk pieces source fewer t less
  shorter_walk more t cost walk =
      let short = path_of_walk more t cost walk in (
        length short.before,
        path_cost IsStep IsBegun MayFollow turn_between step_number t short.before,
        few_steps IsStep IsBegun MayFollow turn_between step_number (2 * length pieces) (number_below pieces) t cost short,
        short.cheap,
        walk_of_path t short.before short.path,
      )
