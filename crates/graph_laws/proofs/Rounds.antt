-- Rounds of improvement: after so many, each directed piece has the least cost of the walks of at most so many further
-- pieces.
use Rattle.std.specs.Prelude.{◌≡◌, ℕ, zero, suc, ◌≤◌, ◌==◌, true, List, map, Option, Some, None}
use Rattle.std.specs.List.{Contains}
use Rattle.std.proofs.Common.{refl, sym, ap, ◌∙◌, inl, inr, arith, subst}
use Rattle.std.proofs.lemmas.Bool.{cond-true, eqb-true, eq-eqb}
use Rattle.std.proofs.lemmas.Option.{same_Some}
use Rattle.route_spec.specs.Routes.{Piece, DirectedPiece, TurnWalk, directed_pieces, can_follow, turn_between, lesser, min_of, raised, cost_by_way, improved, at_source, costs_within}
use Rattle.graph_laws.proofs.Members.{contains_mapped, mapped_from}
use Rattle.graph_laws.proofs.Least.{IsAtMost, lesser_at_most_first, lesser_at_most_second, lesser_is_one, least_at_most, least_is_one, raised_at_most, raised_from, none_unless}

-- ---- what a round does

before_all_rounds : (pieces : List Piece) (source : ℕ) → costs_within pieces source zero ≡ map (at_source source) (directed_pieces pieces)
unfolding costs_within
before_all_rounds pieces source = refl

round_more : (pieces : List Piece) (source k : ℕ) → costs_within pieces source (suc k) ≡ map (improved (costs_within pieces source k)) (costs_within pieces source k)
unfolding costs_within
round_more pieces source k = refl

module _ (pieces : List Piece) (source : ℕ) where
  -- after so many rounds a directed piece has so much for its cost
  abbrev pub HasCost : ℕ → DirectedPiece → Option ℕ → Type 0
  HasCost k t cost = Contains (costs_within pieces source k) (t, cost)

  begun_has_cost : (t : DirectedPiece) → Contains (directed_pieces pieces) t → HasCost zero t (at_source source t).1
  begun_has_cost t h =
      subst (λ known. Contains known (at_source source t)) (sym (before_all_rounds pieces source)) (contains_mapped (at_source source) (directed_pieces pieces) t h)

  improved_has_cost : (k : ℕ) (t : DirectedPiece) (cost : Option ℕ) → HasCost k t cost → HasCost (suc k) t (improved (costs_within pieces source k) (t, cost)).1
  improved_has_cost k t cost h =
      subst (λ known. Contains known (improved (costs_within pieces source k) (t, cost))) (sym (round_more pieces source k))
      (contains_mapped (improved (costs_within pieces source k)) (costs_within pieces source k) (t, cost) h)

  -- each directed piece has a cost
  step_has_cost : (k : ℕ) (t : DirectedPiece) → Contains (directed_pieces pieces) t → (cost : Option ℕ) × HasCost k t cost
  step_has_cost zero t h = ((at_source source t).1, begun_has_cost t h)
  step_has_cost (suc k) t h =
      let known = step_has_cost k t h in
      ((improved (costs_within pieces source k) (t, known.0)).1, improved_has_cost k t known.0 known.1)

  -- ---- no walk costs less

  pub cost_at_most : (k more : ℕ) (t : DirectedPiece) (cost : ℕ) → more ≤ k → TurnWalk pieces source more t cost → (best : Option ℕ) × HasCost k t best × IsAtMost best cost
  cost_at_most zero zero t cost few walk =
      let is_source : (t.0.0 == source) ≡ true = eq-eqb t.0.0 source walk.1 in
      let begun : (at_source source t).1 ≡ Some 0 = cond-true (t.0.0 == source) (Some 0) None is_source in
      (Some 0, subst (HasCost zero t) begun (begun_has_cost t walk.0), omega arith)
  cost_at_most zero (suc more) t cost few walk = absurd (omega arith)
  cost_at_most (suc k) zero t cost few walk =
      let known = cost_at_most k zero t cost (omega arith) walk in (
        (improved (costs_within pieces source k) (t, known.0)).1,
        improved_has_cost k t known.0 known.1,
        lesser_at_most_first known.0 (min_of (map (cost_by_way t) (costs_within pieces source k))) cost known.2,
      )
  cost_at_most (suc k) (suc more) t cost few walk =
      let last = walk.1 in
      let known = step_has_cost k t walk.0 in
      let before = cost_at_most k more last.0 last.1 (omega arith) last.2 in
      let way : cost_by_way t (last.0, before.0) ≡ raised (turn_between last.0 t) before.0
      = cond-true (can_follow last.0 t) (raised (turn_between last.0 t) before.0) None last.3 in
      let there : IsAtMost (cost_by_way t (last.0, before.0)) cost
      = subst (λ o. IsAtMost o cost) (sym way) (subst (IsAtMost (raised (turn_between last.0 t) before.0)) (sym last.4) (raised_at_most (turn_between last.0 t) before.0 last.1 before.2)) in
      let by_it = least_at_most (map (cost_by_way t) (costs_within pieces source k)) (cost_by_way t (last.0, before.0)) cost
      (contains_mapped (cost_by_way t) (costs_within pieces source k) (last.0, before.0) before.1) there in (
        (improved (costs_within pieces source k) (t, known.0)).1,
        improved_has_cost k t known.0 known.1,
        lesser_at_most_second known.0 (min_of (map (cost_by_way t) (costs_within pieces source k))) cost by_it,
      )

  -- ---- each cost is that of a walk

  begun_from : (t : DirectedPiece) (cost : Option ℕ) → HasCost zero t cost → Contains (directed_pieces pieces) t × ((at_source source t).1 ≡ cost)
  begun_from t cost h =
      let found = mapped_from (at_source source) (directed_pieces pieces) (t, cost) (subst (λ known. Contains known (t, cost)) (before_all_rounds pieces source) h) in
      let same : found.0 ≡ t = ap (λ c. c.0) found.2 in
      (subst (Contains (directed_pieces pieces)) same found.1, ap (λ (u : DirectedPiece). (at_source source u).1) (sym same) ∙ ap (λ c. c.1) found.2)

  improved_from : (k : ℕ) (t : DirectedPiece) (cost : Option ℕ) → HasCost (suc k) t cost
      → (old : Option ℕ) × HasCost k t old × (lesser old (min_of (map (cost_by_way t) (costs_within pieces source k))) ≡ cost)
  improved_from k t cost h =
      let found = mapped_from (improved (costs_within pieces source k)) (costs_within pieces source k) (t, cost) (subst (λ known. Contains known (t, cost)) (round_more pieces source k) h) in
      let same : found.0.0 ≡ t = ap (λ c. c.0) found.2 in (
        found.0.1,
        subst (λ (u : DirectedPiece). HasCost k u found.0.1) same found.1,
        ap (λ (u : DirectedPiece). lesser found.0.1 (min_of (map (cost_by_way u) (costs_within pieces source k)))) (sym same) ∙ ap (λ c. c.1) found.2,
      )

  pub cost_is_of_step : (k : ℕ) (t : DirectedPiece) (cost : Option ℕ) → HasCost k t cost → Contains (directed_pieces pieces) t
  cost_is_of_step zero t cost h = (begun_from t cost h).0
  cost_is_of_step (suc k) t cost h = let old = improved_from k t cost h in cost_is_of_step k t old.0 old.1

  pub cost_is_of_walk : (k : ℕ) (t : DirectedPiece) (cost : ℕ) → HasCost k t (Some cost) → (more : ℕ) × TurnWalk pieces source more t cost
  cost_is_of_walk zero t cost h =
      let begun = begun_from t (Some cost) h in
      let nothing = none_unless (t.0.0 == source) (Some 0) cost begun.1 in
      (zero, (begun.0, eqb-true t.0.0 source nothing.0, sym (same_Some 0 cost nothing.1)))
  cost_is_of_walk (suc k) t cost h =
      let old = improved_from k t (Some cost) h in
      elim (lesser_is_one old.0 (min_of (map (cost_by_way t) (costs_within pieces source k))) cost old.2) [
        | inl kept ↦ cost_is_of_walk k t cost (subst (HasCost k t) kept old.1)
        | inr less ↦
            let found = mapped_from (cost_by_way t) (costs_within pieces source k) (Some cost) (least_is_one (map (cost_by_way t) (costs_within pieces source k)) cost less) in
            let way = none_unless (can_follow found.0.0 t) (raised (turn_between found.0.0 t) found.0.1) cost found.2 in
            let parts = raised_from (turn_between found.0.0 t) found.0.1 cost way.1 in
            let before = cost_is_of_walk k found.0.0 parts.0 (subst (HasCost k found.0.0) parts.1 found.1) in
            (suc before.0, (cost_is_of_step k t old.0 old.1, (found.0.0, parts.0, before.1, way.0, parts.2)))
      ]
