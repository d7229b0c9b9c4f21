-- The edges of the visibility graph are the pairs that see each other.
use Rattle.std.specs.Prelude.{◌≡◌, ℕ, ◌<◌, pos, Bool, List, map, filter, length, get_or}
use Rattle.std.specs.List.{All, enumerate_from}
use Rattle.std.proofs.Common.{refl, sym, ap, ◌∙◌, arith, subst, zero-add}
use Rattle.std.proofs.lemmas.Bool.{lt-ltb, ne_eqb}
use Rattle.std.proofs.lemmas.List.{get_or_default}
use Rattle.std.proofs.lemmas.List.FromFn.{length-enumerate_from, get_or-enumerate_from}
use Rattle.plane_spec.specs.declared.Point.{Point}
use Rattle.plane_spec.specs.Lists.{pairs}
use Rattle.plane_spec.specs.Vectors.{point}
use Rattle.plan_spec.specs.Plan.{Plan}
use Rattle.sight_spec.specs.Scene.{scene_of}
use Rattle.graph_spec.specs.Graphs.{is_edge, edges_of}
use Rattle.plan_spec.specs.Grid.{grid_points}
use Rattle.sight_spec.specs.Visibility.{is_visible_pair, numbers_of_pair, visibility_edges, visibility_graph}
use Rattle.sight_spec.proofs.Laws.{rising_pairs}
use Rattle.plan_laws.proofs.Pairs.{each_of_pair, pairs_map}
use Rattle.graph_laws.proofs.Agreeing.{map_agree, filter_agree_on, filter_map_turned, numbers_are, all_in_pairs}

-- the default of `point_of_number`
abbrev nowhere : Point
nowhere = point (pos 0) (pos 0)

-- the point of the number is the one beside it
abbrev IsInPlace : List Point → ℕ × Point → Type 0
IsInPlace points e = (e.0 < length points) × (get_or points e.0 nowhere ≡ e.1)

numbered_in_place : (points : List Point) → All (IsInPlace points) (enumerate_from 0 points)
numbered_in_place points k d below =
    let inside : k < length points = omega (arith, length-enumerate_from 0 points) in
    subst (IsInPlace points) (sym (get_or-enumerate_from 0 points k d inside)) (
      omega (arith, inside),
      ap (λ (n : ℕ). get_or points n nowhere) (zero-add k) ∙ get_or_default points k nowhere d.1 inside,
    )

-- a pair of numbered points, without the points
abbrev numbers : (ℕ × Point) × (ℕ × Point) → ℕ × ℕ
numbers = each_of_pair (λ (e : ℕ × Point). e.0)

numbers_are_of_pair : (e : (ℕ × Point) × (ℕ × Point)) → numbers e ≡ numbers_of_pair e
unfolding each_of_pair
numbers_are_of_pair e = refl

module _ (plan : Plan) where
  abbrev points : List Point
  points = grid_points plan.grid

  abbrev numbered : List (ℕ × Point)
  numbered = enumerate_from 0 points

  abbrev are_seen : (ℕ × Point) × (ℕ × Point) → Bool
  are_seen = is_visible_pair plan (scene_of plan)

  joined_if_visible : (e : (ℕ × Point) × (ℕ × Point)) → IsInPlace points e.0 → IsInPlace points e.1 → e.0.0 < e.1.0
      → is_edge (visibility_graph plan) (numbers e) ≡ is_visible_pair plan (scene_of plan) e
  unfolding each_of_pair
  joined_if_visible e first second rises =
      let other = ne_eqb e.0.0 e.1.0 (λ same. omega (arith, rises, same)) in
      rw (lt-ltb e.0.0 (length points) first.0, lt-ltb e.1.0 (length points) second.0, other, first.1, second.1) refl

  pub edges_are : edges_of (visibility_graph plan) ≡ visibility_edges plan
  unfolding edges_of visibility_edges
  edges_are =
      let in_place = all_in_pairs (IsInPlace points) numbered (numbered_in_place points) in
      let rise = rising_pairs 0 points in
      ap (λ ks. filter (is_edge (visibility_graph plan)) (pairs ks)) (numbers_are 0 points)
      ∙ ap (filter (is_edge (visibility_graph plan))) (pairs_map (λ (e : ℕ × Point). e.0) numbered)
      ∙ filter_map_turned numbers (is_edge (visibility_graph plan)) (pairs numbered)
      ∙ ap (map numbers)
      (filter_agree_on (λ e. is_edge (visibility_graph plan) (numbers e)) are_seen (pairs numbered)
      (λ k d below.
      joined_if_visible (get_or (pairs numbered) k d) (in_place k d below).0 (in_place k d below).1 (rise k d below)))
      ∙ map_agree numbers numbers_of_pair numbers_are_of_pair (filter are_seen (pairs numbered))
