-- Sight goes both ways: the segment from p to q is blocked where the one from q to p is.
use Rattle.std.proofs.Common.{◌≡◌, ◌&&◌, ℤ, neg_ℤ, refl, sym, ap, ◌∙◌, arith}
use Rattle.std.specs.Ordering.{int_eq}
use Rattle.std.proofs.Math.Bool.{or_comm}
use Rattle.std.proofs.lemmas.Int.{ints}
use Rattle.std.proofs.lemmas.Bool.Decides.{Decides-int_eq, Decides-like, same_from_decides}
use Rattle.plane_spec.specs.declared.Point.{Point}
use Rattle.plane_spec.specs.declared.Segment.{Segment}
use Rattle.plane_spec.specs.declared.Corner.{Corner}
use Rattle.plane_spec.specs.Vectors.{orient_of, same_point}
use Rattle.plane_spec.specs.Segments.{are_opposite, cross_properly}
use Rattle.sight_spec.specs.Scene.{Scene, blockers_of_scene}
use Rattle.sight_spec.specs.Sight.{crosses, starts_into_wall, starts_or_ends_in_wall, corner_stops, corner_blocks, is_blocked, are_in_sight}
use Rattle.int_laws.proofs.Ring.{orient_cycled, orient_exchanged}
use Rattle.list_laws.proofs.Tests.{list_any_agree}

-- ---- points and signs

equal_turned : (m n : ℤ) → int_eq m n ≡ int_eq n m
equal_turned m n =
    same_from_decides (int_eq m n) (int_eq n m) (Decides-int_eq m n)
    (Decides-like (int_eq n m) sym sym (Decides-int_eq n m))

same_point_turned : (p q : Point) → same_point p q ≡ same_point q p
same_point_turned p q = rw (equal_turned p.x q.x, equal_turned p.y q.y) refl

opposite_turned : (s t : ℤ) → are_opposite s t ≡ are_opposite t s
opposite_turned s t = grind (arith, ints)

opposite_negated : (s t : ℤ) → are_opposite (neg_ℤ s) (neg_ℤ t) ≡ are_opposite s t
opposite_negated s t = grind (arith, ints)

-- seen from the other end, what lay left lies right
orient_turned : (p q x : Point) → orient_of q p x ≡ neg_ℤ (orient_of p q x)
orient_turned p q x = orient_exchanged q.x q.y x.x x.y p.x p.y ∙ ap neg_ℤ (orient_cycled p.x p.y q.x q.y x.x x.y)

-- ---- what is in the way

crosses_turned : (p q : Point) (w : Segment) → crosses p q w ≡ crosses q p w
unfolding cross_properly
crosses_turned p q w =
    rw (orient_turned p q w.a, orient_turned p q w.b, opposite_negated (orient_of p q w.a) (orient_of p q w.b))
    (ap (λ t. t && are_opposite (orient_of p q w.a) (orient_of p q w.b))
    (opposite_turned (orient_of w.a w.b p) (orient_of w.a w.b q)))

enters_turned : (p q : Point) (w : Segment) → starts_or_ends_in_wall p q w ≡ starts_or_ends_in_wall q p w
enters_turned p q w = or_comm (starts_into_wall p q w) (starts_into_wall q p w)

blocks_turned : (p q : Point) (c : Corner) → corner_blocks p q c ≡ corner_blocks q p c
blocks_turned p q c = or_comm (corner_stops p q c) (corner_stops q p c)

blocked_turned : (scene : Scene) (p q : Point) → is_blocked scene p q ≡ is_blocked scene q p
unfolding is_blocked
blocked_turned scene p q =
    rw (list_any_agree (crosses p q) (crosses q p) (crosses_turned p q) (blockers_of_scene scene))
    (rw (list_any_agree (starts_or_ends_in_wall p q) (starts_or_ends_in_wall q p) (enters_turned p q) scene.walls)
    (rw (list_any_agree (corner_blocks p q) (corner_blocks q p) (blocks_turned p q) scene.corners) refl))

pub sight_turned : (scene : Scene) (p q : Point) → are_in_sight scene p q ≡ are_in_sight scene q p
unfolding are_in_sight
sight_turned scene p q = rw (same_point_turned p q, blocked_turned scene p q) refl
