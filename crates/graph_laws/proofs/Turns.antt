-- The turn depth that is computed is the least cost of a walk to the piece, and there is no other.
use Rattle.std.specs.Prelude.{◌≡◌, ℕ, ◌*◌, ◌<◌, ◌≤◌, ◌==◌, Bool, List, map, length, get_or, Option, Some, None}
use Rattle.std.specs.List.{Contains, enumerate_from}
use Rattle.std.proofs.Common.{refl, sym, ap, ◌∙◌, arith, subst}
use Rattle.std.proofs.lemmas.Bool.{cond-true, eqb-true, eq-eqb}
use Rattle.std.proofs.lemmas.List.{get_or-map, length-map}
use Rattle.std.proofs.lemmas.List.FromFn.{length-enumerate_from}
use Rattle.route_spec.specs.Routes.{Piece, DirectedPiece, TurnWalk, IsTurnDepth, min_of, costs_within, cost_on, turn_depths_of}
use Rattle.graph_laws.proofs.Members.{contains_mapped, mapped_from, number_is_place, same_numbered}
use Rattle.graph_laws.proofs.Least.{IsAtMost, least_at_most, least_is_one, none_unless}
use Rattle.graph_laws.proofs.Steps.{piece_of_step, shorter_walk}
use Rattle.graph_laws.proofs.Rounds.{HasCost, cost_at_most, cost_is_of_step, cost_is_of_walk}

-- the costs of all directed pieces after the last round
abbrev last_costs : List Piece → ℕ → List (DirectedPiece × Option ℕ)
last_costs pieces source = costs_within pieces source (2 * length pieces)

abbrev least_at : List (DirectedPiece × Option ℕ) → ℕ × Piece → Option ℕ
least_at known e = min_of (map (cost_on e) known)

depths_are : (pieces : List Piece) (source : ℕ) → turn_depths_of pieces source ≡ map (least_at (last_costs pieces source)) (enumerate_from 0 pieces)
unfolding turn_depths_of
depths_are pieces source = refl

pub one_turn_depth_each : (pieces : List Piece) (source : ℕ) → length (turn_depths_of pieces source) ≡ length pieces
one_turn_depth_each pieces source =
    ap length (depths_are pieces source) ∙ length-map (enumerate_from 0 pieces) (least_at (last_costs pieces source)) ∙ length-enumerate_from 0 pieces

module _ (pieces : List Piece) (source : ℕ) (e : ℕ × Piece) (numbered : Contains (enumerate_from 0 pieces) e) where
  depth_at : get_or (turn_depths_of pieces source) e.0 None ≡ least_at (last_costs pieces source) e
  depth_at =
      let place = number_is_place pieces e numbered in
      let below : e.0 < length (enumerate_from 0 pieces) = omega (arith, place.0, length-enumerate_from 0 pieces) in
      ap (λ depths. get_or depths e.0 None) (depths_are pieces source)
      ∙ get_or-map (least_at (last_costs pieces source)) (enumerate_from 0 pieces) e.0 e None below
      ∙ ap (least_at (last_costs pieces source)) place.1

  -- no walk to the piece costs less
  depth_at_most : (more cost : ℕ) (forward : Bool) → TurnWalk pieces source more (e, forward) cost → IsAtMost (least_at (last_costs pieces source) e) cost
  depth_at_most more cost forward walk =
      let short = shorter_walk pieces source more (e, forward) cost walk in
      let best = cost_at_most pieces source (2 * length pieces) short.0 (e, forward) short.1 (omega (arith, short.2)) short.4 in
      let here : cost_on e ((e, forward), best.0) ≡ best.0 = cond-true (e.0 == e.0) best.0 None (eq-eqb e.0 e.0 refl) in
      let met = contains_mapped (cost_on e) (last_costs pieces source) ((e, forward), best.0) best.1 in
      least_at_most (map (cost_on e) (last_costs pieces source)) best.0 cost
      (subst (Contains (map (cost_on e) (last_costs pieces source))) here met)
      (lower best.0 short.1 cost best.2 short.3)
    where
      lower : (best : Option ℕ) (less cost : ℕ) → IsAtMost best less → less ≤ cost → IsAtMost best cost
      lower None less cost h fewer = h
      lower (Some best) less cost h fewer = omega (arith, h, fewer)

  -- the depth is the cost of a walk to the piece
  depth_is_of_walk : (depth : ℕ) → least_at (last_costs pieces source) e ≡ Some depth
      → (more : ℕ) × (forward : Bool) × TurnWalk pieces source more (e, forward) depth
  depth_is_of_walk depth is =
      let known = last_costs pieces source in
      let found = mapped_from (cost_on e) known (Some depth) (least_is_one (map (cost_on e) known) depth is) in
      let t = found.0.0 in
      let here = none_unless (t.0.0 == e.0) found.0.1 depth found.2 in
      let piece = piece_of_step pieces t (cost_is_of_step pieces source (2 * length pieces) t found.0.1 found.1) in
      let same : t.0 ≡ e = same_numbered pieces t.0 e piece numbered (eqb-true t.0.0 e.0 here.0) in
      let walk = cost_is_of_walk pieces source (2 * length pieces) t depth (subst (HasCost pieces source (2 * length pieces) t) here.1 found.1) in
      (walk.0, t.1, subst (λ (p : ℕ × Piece). TurnWalk pieces source walk.0 (p, t.1) depth) same walk.1)

  value_is_depth : (d : Option ℕ) → least_at (last_costs pieces source) e ≡ d → IsTurnDepth pieces source e d
  value_is_depth None is = λ more cost forward walk. subst (λ o. IsAtMost o cost) is (depth_at_most more cost forward walk)
  value_is_depth (Some depth) is =
      (depth_is_of_walk depth is, λ more cost forward walk. subst (λ o. IsAtMost o cost) is (depth_at_most more cost forward walk))

  pub least_turn_depth : IsTurnDepth pieces source e (get_or (turn_depths_of pieces source) e.0 None)
  least_turn_depth = value_is_depth (get_or (turn_depths_of pieces source) e.0 None) (sym depth_at)

pub same_turn_depth : (pieces : List Piece) (source : ℕ) (e : ℕ × Piece) (a b : Option ℕ) → IsTurnDepth pieces source e a → IsTurnDepth pieces source e b → a ≡ b
same_turn_depth pieces source e None None g h = refl
same_turn_depth pieces source e None (Some b) g h = let walk = h.0 in absurd (g walk.0 b walk.1 walk.2)
same_turn_depth pieces source e (Some a) None g h = let walk = g.0 in absurd (h walk.0 a walk.1 walk.2)
same_turn_depth pieces source e (Some a) (Some b) g h =
    let first = g.0 in
    let second = h.0 in
    let same : a ≡ b = omega (arith, g.1 second.0 b second.1 second.2, h.1 first.0 a first.1 first.2) in
    ap Some same
