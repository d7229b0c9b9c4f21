-- What the definitions mean, where it is short to show.
use Rattle.std.proofs.Common.{◌≡◌, ℕ, ◌+◌, ◌<◌, List, [], ◌∷◌, map, filter, refl, ap, arith}
use Rattle.std.specs.List.{All, enumerate_from}
use Rattle.std.proofs.lemmas.List.Elements.{All-append, All-map, All-filter, All-nil, All-cons}
use Rattle.plane_spec.specs.declared.Point.{Point}
use Rattle.plane_spec.specs.Lists.{pairs, with_each}
use Rattle.plan_spec.specs.Plan.{Plan}
use Rattle.sight_spec.specs.Scene.{Scene, scene_of}
use Rattle.sight_spec.specs.Stops.{ray_hit}
use Rattle.sight_spec.specs.Isovist.{sum_of, wall_between, sector_in, sectors_by}
use Rattle.plan_spec.specs.Grid.{grid_points}
use Rattle.sight_spec.specs.Visibility.{is_visible_pair, numbers_of_pair, visibility_edges}

abbrev IsAbove : ℕ → ℕ × Point → Type 0
IsAbove low e = low < e.0

abbrev pub Rises : (ℕ × Point) × (ℕ × Point) → Type 0
Rises e = e.0.0 < e.1.0

abbrev EdgeRises : ℕ × ℕ → Type 0
EdgeRises e = e.0 < e.1

-- the numbers of a numbered list are above what is below its first one
numbers_above : (low n : ℕ) (points : List Point) → low < n → All (IsAbove low) (enumerate_from n points)
numbers_above low n [] h = All-nil (IsAbove low)
numbers_above low n (p ∷ points) h = All-cons (IsAbove low) (n, p) (enumerate_from (n + 1) points) h (numbers_above low (n + 1) points (omega arith))

-- in a pair of a numbered list the smaller number stands first
pub rising_pairs : (n : ℕ) (points : List Point) → All Rises (pairs (enumerate_from n points))
rising_pairs n [] = All-nil Rises
rising_pairs n (p ∷ points) =
    All-append Rises (map (with_each (n, p)) (enumerate_from (n + 1) points)) (pairs (enumerate_from (n + 1) points))
    (All-map Rises (with_each (n, p)) (enumerate_from (n + 1) points) (numbers_above n (n + 1) points (omega arith)))
    (rising_pairs (n + 1) points)

-- each edge has its smaller number first
pub edges_rise : (plan : Plan) → All (λ e. e.0 < e.1) (visibility_edges plan)
unfolding visibility_edges
edges_rise plan =
    All-map EdgeRises numbers_of_pair (filter (is_visible_pair plan (scene_of plan)) (pairs (enumerate_from 0 (grid_points plan.grid))))
    (All-filter (is_visible_pair plan (scene_of plan)) Rises (pairs (enumerate_from 0 (grid_points plan.grid))) (rising_pairs 0 (grid_points plan.grid)))

-- the sectors round a point are those made of what the rays in the directions of the gaps' sums meet, so one sweep in
-- these directions serves them all
pub sectors_by_hits : (scene : Scene) (p : Point) (gaps : List (Point × Point))
    → sectors_by gaps (map (λ gap. ray_hit scene p (sum_of gap.0 gap.1)) gaps) ≡ map (sector_in scene p) gaps
unfolding sectors_by wall_between
sectors_by_hits scene p [] = refl
sectors_by_hits scene p (gap ∷ gaps) = ap (λ sectors. sector_in scene p gap ∷ sectors) (sectors_by_hits scene p gaps)
