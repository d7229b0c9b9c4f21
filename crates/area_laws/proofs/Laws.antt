-- The sides of a simple polygon by its area, as the contract states them.
use Rattle.std.specs.Prelude.{List, true, [], ◌∷◌, int_lt, false, map}
use Rattle.std.proofs.Common.{ℤ, ◌≡◌, arith, inl, inr, pos, subst, ◌<ℤ◌}
use Rattle.std.proofs.lemmas.Int.{ints}
use Rattle.plane_spec.specs.declared.Point.{Point}
use Rattle.plane_spec.specs.Polygons.{doubled_area, edges_of, is_simple, is_counterclockwise}
use Rattle.side_laws.specs.Sides.{GoesRoundOnLeft}
use Rattle.side_laws.proofs.Sound.{IsSound}
use Rattle.side_laws.proofs.Law.{simple_from, has_orientation}
use Rattle.side_laws.proofs.Tall.{some_tall}
use Rattle.side_laws.proofs.Simple.{sound}
use Rattle.side_laws.proofs.Rights.{turned_sound}
use Rattle.area_laws.proofs.Orientation.{IsTurnedRound}
use Rattle.area_laws.proofs.Grid.{turned_round}
use Rattle.sight_spec.specs.Scene.{turned_edge}

-- what a simple polygon has on the left of its edges
sides : (points : List Point) → is_simple points ≡ true
    → (k : ℤ) × IsSound (edges_of points) k × IsTurnedRound k (doubled_area (edges_of points))
sides [] h = cc
sides (start ∷ points) h =
    let simple = simple_from start points h in
    let s = sound start points simple in
    let t = some_tall start points simple in
    (s.0, s.1, turned_round (edges_of (start ∷ points)) s.0 s.1 t.0 t.1 t.2)

pub left_of_counterclockwise : (points : List Point) → is_simple points ≡ true → is_counterclockwise points ≡ true
    → IsSound (edges_of points) (pos 1)
unfolding is_counterclockwise
left_of_counterclockwise points h round = let s = sides points h in by_round s.0 s.1 s.2
  where
    by_round : (k : ℤ) → IsSound (edges_of points) k → IsTurnedRound k (doubled_area (edges_of points))
        → IsSound (edges_of points) (pos 1)
    by_round k s (inl t) = subst (λ t. IsSound (edges_of points) t) t.0 s
    by_round k s (inr t) = let a = t.1 in absurd (never (doubled_area (edges_of points)) a round)
      where
        never : (z : ℤ) → z <ℤ pos 0 → int_lt (pos 0) z ≡ true → ⊥
        never z h k = absurd (omega (arith, ints, h, k))

pub left_of_clockwise : (points : List Point) → is_simple points ≡ true → is_counterclockwise points ≡ false
    → IsSound (edges_of points) (pos 0)
unfolding is_counterclockwise
left_of_clockwise points h round = let s = sides points h in by_round s.0 s.1 s.2
  where
    by_round : (k : ℤ) → IsSound (edges_of points) k → IsTurnedRound k (doubled_area (edges_of points))
        → IsSound (edges_of points) (pos 0)
    by_round k s (inr t) = subst (λ t. IsSound (edges_of points) t) t.0 s
    by_round k s (inl t) = let a = t.1 in absurd (never (doubled_area (edges_of points)) a round)
      where
        never : (z : ℤ) → pos 0 <ℤ z → int_lt (pos 0) z ≡ false → ⊥
        never z h k = absurd (omega (arith, ints, h, k))

pub counterclockwise_left : (points : List Point) → is_simple points ≡ true → is_counterclockwise points ≡ true
    → GoesRoundOnLeft (edges_of points) (pos 1)
counterclockwise_left points h round =
    has_orientation (edges_of points) (pos 1) (left_of_counterclockwise points h round)

pub counterclockwise_right : (points : List Point) → is_simple points ≡ true → is_counterclockwise points ≡ true
    → GoesRoundOnLeft (map turned_edge (edges_of points)) (pos 0)
counterclockwise_right points h round =
    has_orientation (map turned_edge (edges_of points)) (pos 0) (turned_sound (edges_of points) (pos 1)
    (left_of_counterclockwise points h round))

pub clockwise_left : (points : List Point) → is_simple points ≡ true → is_counterclockwise points ≡ false
    → GoesRoundOnLeft (edges_of points) (pos 0)
clockwise_left points h round = has_orientation (edges_of points) (pos 0) (left_of_clockwise points h round)

pub clockwise_right : (points : List Point) → is_simple points ≡ true → is_counterclockwise points ≡ false
    → GoesRoundOnLeft (map turned_edge (edges_of points)) (pos 1)
clockwise_right points h round =
    has_orientation (map turned_edge (edges_of points)) (pos 1) (turned_sound (edges_of points) (pos 0)
    (left_of_clockwise points h round))
