-- The law of sides, as the contract states it.
use Rattle.std.specs.Prelude.{List, [], ◌∷◌, map, length, nat_le, not, true, ◌&&◌}
use Rattle.std.proofs.Common.{ap, arith, pos, ℤ, ◌≡◌, ◌+ℤ◌, ◌-ℤ◌, ◌*ℤ◌, ◌<ℤ◌, ◌∙◌, ℕ, ◌≤◌}
use Rattle.std.proofs.lemmas.Int.{ints}
use Rattle.std.proofs.lemmas.Bool.{and_parts, not-true}
use Rattle.int_laws.proofs.Ring.{sum_times}
use Rattle.plane_spec.specs.declared.Segment.{Segment}
use Rattle.plane_spec.specs.declared.Point.{Point}
use Rattle.plane_spec.specs.Vectors.{cross_of, vector}
use Rattle.plane_spec.specs.Polygons.{edges_of, crosses_nowhere, has_repeat, is_simple}
use Rattle.plane_laws.proofs.Lists.Members.{mapped, from_contains}
use Rattle.plane_laws.proofs.Points.Scaled.{scaled, scaled_wall}
use Rattle.side_laws.specs.Sides.{GoesRoundOnLeft, middle_of}
use Rattle.side_laws.proofs.Sound.{IsSound}
use Rattle.side_laws.proofs.Rights.{in_the_middle, two_up, turned_sound}
use Rattle.side_laws.proofs.Scaled.{scaled_sound}
use Rattle.side_laws.proofs.Sides.{side_middle}
use Rattle.side_laws.proofs.Simple.{IsSimple, sound}
use Rattle.sight_spec.specs.Scene.{turned_edge}

doubled_left : (a b d : Point) → pos 0 <ℤ cross_of (vector a b) d
    → pos 0 <ℤ cross_of (vector (scaled (pos 2) (pos 2) a) (scaled (pos 2) (pos 2) b)) d
doubled_left a b d h = by_parts a.x a.y b.x b.y d.x d.y h
  where
    by_parts : (ax ay bx by dx dy : ℤ) → pos 0 <ℤ ((bx -ℤ ax) *ℤ dy -ℤ (by -ℤ ay) *ℤ dx)
        → pos 0 <ℤ ((pos 2 *ℤ bx -ℤ pos 2 *ℤ ax) *ℤ dy -ℤ (pos 2 *ℤ by -ℤ pos 2 *ℤ ay) *ℤ dx)
    by_parts ax ay bx by dx dy h =
        let w : pos 2 *ℤ bx -ℤ pos 2 *ℤ ax ≡ (bx -ℤ ax) +ℤ (bx -ℤ ax) = omega (arith, ints) in
        let z : pos 2 *ℤ by -ℤ pos 2 *ℤ ay ≡ (by -ℤ ay) +ℤ (by -ℤ ay) = omega (arith, ints) in
        let first = ap (λ t. t *ℤ dy) w ∙ sum_times (bx -ℤ ax) (bx -ℤ ax) dy in
        let second = ap (λ t. t *ℤ dx) z ∙ sum_times (by -ℤ ay) (by -ℤ ay) dx in
        omega (arith, ints, h, first, second)

pub has_orientation : (edges : List Segment) (k : ℤ) → IsSound edges k → GoesRoundOnLeft edges k
has_orientation edges k s e d there left =
    let e_there = from_contains edges e there in
    let twice = scaled_sound (pos 2) (pos 2) edges k two_up two_up s in
    let e2 = scaled_wall (pos 2) (pos 2) e in
    let o = twice.sides e2 (mapped (scaled_wall (pos 2) (pos 2)) edges e e_there) in
    let m = in_the_middle e (s.some e e_there) in
    let w = (side_middle (map (scaled_wall (pos 2) (pos 2)) edges) o.before e2.a e2.b o.after
    (middle_of e) d k twice.closed twice.some o.first o.second o.alone o.side m.0 m.1
    (doubled_left e.a e.b d left)).has in
    (w.after, λ n l. w.from_there n l)

-- a simple polygon, as the definition tests it
pub simple_from : (start : Point) (points : List Point) → is_simple (start ∷ points) ≡ true → IsSimple start points
simple_from start points h =
    let first = and_parts (nat_le 3 (length (start ∷ points)))
    (not (has_repeat (start ∷ points)) && crosses_nowhere (start ∷ points)) h in
    let second = and_parts (not (has_repeat (start ∷ points))) (crosses_nowhere (start ∷ points)) first.1 in
    record {
      many = many_from (length (start ∷ points)) first.0;
      some = not-true (has_repeat (start ∷ points)) second.0;
      stand = second.1;
    }
  where
    many_from : (n : ℕ) → nat_le 3 n ≡ true → 3 ≤ n
    many_from n h = grind arith

-- a polygon's edges that are sound, turned round too: there is one number for all left sides, and one less for the
-- right
pub sides_of_simple : (points : List Point) → is_simple points ≡ true
    → (k : ℤ) × GoesRoundOnLeft (edges_of points) k × GoesRoundOnLeft (map turned_edge (edges_of points)) (pos 1 -ℤ k)
sides_of_simple [] h = cc
sides_of_simple (start ∷ points) h =
    let s = sound start points (simple_from start points h) in
    let edges = edges_of (start ∷ points) in (
      s.0,
      has_orientation edges s.0 s.1,
      has_orientation (map turned_edge edges) (pos 1 -ℤ s.0)
          (turned_sound edges s.0 s.1),
    )
