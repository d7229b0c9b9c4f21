-- Costs that can't be made less are turn depths.
use Rattle.std.proofs.Common.{◌≡◌, ◌<◌, ◌≤◌, ◌+◌, ◌*◌, ◌/◌, ◌%◌, ℕ, zero, suc, Bool, true, false, cond, List, length, get_or, refl, sym, ap, ◌∙◌, ◌⊎◌, inl, inr, arith, subst}
use Rattle.std.specs.Prelude.{nat_lt, Option, Some, None}
use Rattle.std.specs.List.{Contains}
use Rattle.std.proofs.lemmas.Bool.{ltb-true, ltb-false, cond_both}
use Rattle.std.proofs.lemmas.List.{ext_get_or}
use Rattle.route_spec.specs.Routes.{Piece, DirectedPiece, TurnWalk, IsTurnDepth, directed_pieces, can_follow, turn_between, turn_depths_of}
use Rattle.graph_laws.proofs.Steps.{shorter_walk}
use Rattle.graph_laws.proofs.Turns.{one_turn_depth_each, least_turn_depth, same_turn_depth}
use Rattle.segment_core.specs.Steps.{piece_at, step_at, cost_at, far_of, AreLeast, lesser_below}
use Rattle.route_laws.proofs.Turns.{walk_at_most}
use Rattle.segment_core.proofs.Numbers.{numbered, number_in, step_at_in, number_of_step}

step_of_walk : (pieces : List Piece) (source more : ℕ) (t : DirectedPiece) (cost : ℕ)
    → TurnWalk pieces source more t cost → Contains (directed_pieces pieces) t
step_of_walk pieces source zero t cost walk = walk.0
step_of_walk pieces source (suc more) t cost walk = walk.0

-- the two numbers of the source's steps
source_number : (s source : ℕ) → s / 2 ≡ source → (s ≡ 2 * source) ⊎ (s ≡ 2 * source + 1)
source_number s source h = by_rest (s % 2) (omega arith) (omega arith)
  where
    by_rest : (r : ℕ) → s ≡ 2 * source + r → r < 2 → (s ≡ 2 * source) ⊎ (s ≡ 2 * source + 1)
    by_rest zero e below = inl (omega arith)
    by_rest (suc r) e below = inr (omega arith)

module _ (pieces : List Piece) (source : ℕ) (costs : List ℕ) (least : AreLeast pieces source costs) where
  -- no walk whose cost isn't far costs less
  at_most_walk : (more s cost : ℕ) → s < 2 * length pieces → TurnWalk pieces source more (step_at pieces s) cost
      → cost < far_of pieces → cost_at costs s ≤ cost
  at_most_walk zero s cost below walk near = elim (source_number s source walk.1) [
    | inl back ↦ omega (arith, subst (λ (k : ℕ). cost_at costs k ≡ 0) (sym back) least.back)
    | inr forward ↦ omega (arith, subst (λ (k : ℕ). cost_at costs k ≡ 0) (sym forward) least.forward)
  ]
  at_most_walk (suc more) s cost below walk near =
      let last = walk.1 in
      let u = number_of_step pieces last.0 (step_of_walk pieces source more last.0 last.1 last.2) in
      let r = u.0 in
      let before : TurnWalk pieces source more (step_at pieces r) last.1 = subst (λ
      (t : DirectedPiece). TurnWalk pieces source more t last.1) (sym u.2) last.2 in
      let nearer : last.1 < far_of pieces = omega (arith, last.4) in
      let first : cost_at costs r ≤ last.1 = at_most_walk more r last.1 u.1 before nearer in
      let there : cost_at costs r < far_of pieces = omega (arith, first, nearer) in
      let follows : can_follow (step_at pieces r) (step_at pieces s)
      ≡ true = subst (λ (t : DirectedPiece). can_follow t (step_at pieces s) ≡ true) (sym u.2) last.3 in
      let turns : turn_between (step_at pieces r) (step_at pieces s)
      ≡ turn_between last.0 (step_at pieces s) = ap (λ (t : DirectedPiece). turn_between t
      (step_at pieces s)) u.2 in
      omega (arith, least.eased r u.1 there s below follows, first, turns, last.4)

  -- no walk costs less, and a step that is walked to isn't far
  pub at_most_any : (more s cost : ℕ) → s < 2 * length pieces → TurnWalk pieces source more (step_at pieces s) cost
      → (cost_at costs s ≤ cost) × (cost_at costs s < far_of pieces)
  at_most_any more s cost below walk =
      let short = shorter_walk pieces source more (step_at pieces s) cost walk in
      let at_most = walk_at_most pieces source short.0 (step_at pieces s) short.1 short.4 in
      let near : short.1 < far_of pieces = omega (arith, at_most, short.2) in
      let less = at_most_walk short.0 s short.1 below short.4 near in
      (omega (arith, less, short.3), omega (arith, less, near))

  -- ---- the piece, in whichever heading

  module _ (k : ℕ) (below : k < length pieces) where
    abbrev forward_cost : ℕ
    forward_cost = cost_at costs (2 * k + 1)

    abbrev back_cost : ℕ
    back_cost = cost_at costs (2 * k)

    at_most_in : (forward : Bool) (more cost : ℕ) → TurnWalk pieces source more ((k, piece_at pieces k), forward) cost
        → (cost_at costs (number_in k forward) ≤ cost) × (cost_at costs (number_in k forward) < far_of pieces)
    at_most_in forward more cost walk =
        at_most_any more (number_in k forward) cost (in_below forward) (subst (λ
        (t : DirectedPiece). TurnWalk pieces source more t cost) (sym (step_at_in pieces k forward)) walk)
      where
        in_below : (f : Bool) → number_in k f < 2 * length pieces
        in_below true = omega arith
        in_below false = omega arith

    least_at_most : (forward : Bool) (most : ℕ) → cost_at costs (number_in k forward) ≤ most
        → cond (nat_lt back_cost forward_cost) back_cost forward_cost ≤ most
    least_at_most true most h = cond_both (nat_lt back_cost forward_cost) back_cost forward_cost (λ c. c ≤ most)
        (λ test. omega (arith, ltb-true back_cost forward_cost test, h)) (λ test. h)
    least_at_most false most h = cond_both (nat_lt back_cost forward_cost) back_cost forward_cost (λ c. c ≤ most)
        (λ test. h) (λ test. omega (arith, ltb-false back_cost forward_cost test, h))

    walked_in : (forward : Bool) → cost_at costs (number_in k forward) < far_of pieces
        → (more : ℕ) × (way : Bool) × TurnWalk pieces source more ((k, piece_at pieces k), way) (cost_at costs
        (number_in k forward))
    walked_in forward near =
        let walk = least.walked (number_in k forward) (in_below forward) near in (
          walk.0,
          forward,
          subst (λ (t : DirectedPiece). TurnWalk pieces source walk.0 t (cost_at costs
              (number_in k forward))) (step_at_in pieces k forward) walk.1,
        )
      where
        in_below : (f : Bool) → number_in k f < 2 * length pieces
        in_below true = omega arith
        in_below false = omega arith

    abbrev Walked : ℕ → Type 0
    Walked c = c < far_of pieces → (more : ℕ) × (way : Bool) × TurnWalk pieces source more
        ((k, piece_at pieces k), way) c

    abbrev the_least : ℕ
    the_least = cond (nat_lt back_cost forward_cost) back_cost forward_cost

    least_walked : Walked the_least
    least_walked = cond_both (nat_lt back_cost forward_cost) back_cost forward_cost Walked
        (λ test. walked_in false) (λ test. walked_in true)

    by_nearness : (b : Bool) → (b ≡ true → the_least < far_of pieces) → (b ≡ false → far_of pieces ≤ the_least)
        → IsTurnDepth pieces source (k, piece_at pieces k) (cond b (Some the_least) None)
    by_nearness true near away = (
      least_walked (near refl),
      λ more cost way walk. least_at_most way cost
          (at_most_in way more cost walk).0,
    )
    by_nearness false near away = λ more cost way walk.
        let most = at_most_in way more cost walk in
        let least = least_at_most way (cost_at costs (number_in k way)) (omega arith) in
        omega (arith, least, most.1, away refl)

    pub depth_is : IsTurnDepth pieces source (k, piece_at pieces k) (lesser_below
        (far_of pieces) forward_cost back_cost)
    depth_is = by_nearness (nat_lt the_least (far_of pieces)) (ltb-true the_least (far_of pieces))
        (ltb-false the_least (far_of pieces))

    pub depth_at : lesser_below (far_of pieces) forward_cost back_cost ≡ get_or (turn_depths_of pieces source) k None
    depth_at = same_turn_depth pieces source (k, piece_at pieces k) _ _ depth_is (least_turn_depth pieces source
        (k, piece_at pieces k) (numbered pieces k below))

  -- the list of depths
  pub depths_are : (depths : List (Option ℕ)) → length depths ≡ length pieces
      → ((k : ℕ) → k < length pieces → get_or depths k None
      ≡ lesser_below (far_of pieces) (cost_at costs (2 * k + 1)) (cost_at costs (2 * k)))
      → depths ≡ turn_depths_of pieces source
  depths_are depths one each =
      ext_get_or None depths (turn_depths_of pieces source) (one ∙ sym (one_turn_depth_each pieces source))
      (λ k below. let here : k < length pieces = omega (arith, below, one) in each k here ∙ depth_at k here)
