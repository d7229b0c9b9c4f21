-- How a wall or screen is seen.
use Rattle.std.proofs.Common.{◌≡◌, pos, ◌<ℤ◌, ◌-ℤ◌, arith, ap, sym, ◌∙◌}
use Rattle.std.specs.Prelude.{Bool, true, false, ◌&&◌, int_lt, cond, Some, None}
use Rattle.std.proofs.lemmas.Int.{ints}
use Rattle.plane_spec.specs.declared.Point.{Point}
use Rattle.plane_spec.specs.declared.Segment.{Segment}
use Rattle.plane_spec.specs.Vectors.{point, vector, cross_of}
use Rattle.front_laws.specs.Seen.{seen_of}
use Rattle.front_laws.proofs.Hits.{shift}

pub edge_between : (p a b : Point) → vector a b ≡ vector (vector p a) (vector p b)
edge_between p a b = ap (λ x. point x (b.y -ℤ a.y)) (shift a.x b.x p.x)
    ∙ ap (point ((b.x -ℤ p.x) -ℤ (a.x -ℤ p.x))) (shift a.y b.y p.y)

pub turned_up : (a b : Point) → cross_of a b <ℤ pos 0 → pos 0 <ℤ cross_of b a
turned_up a b h = omega (arith, ints, h)

pub seen_left : (p : Point) (w : Segment) → int_lt (pos 0) (cross_of (vector p w.a) (vector p w.b)) ≡ true
    → Some (record { from = vector p w.a; to = vector p w.b }) ≡ seen_of p w
unfolding seen_of
seen_left p w h = sym (ap (λ t. cond t (Some (record { from = vector p w.a; to = vector p w.b }))
    (cond (int_lt (cross_of (vector p w.a) (vector p w.b)) (pos 0))
    (Some (record { from = vector p w.b; to = vector p w.a })) None)) h)

pub seen_right : (p : Point) (w : Segment) → int_lt (pos 0) (cross_of (vector p w.a) (vector p w.b)) ≡ false
    → int_lt (cross_of (vector p w.a) (vector p w.b)) (pos 0) ≡ true
    → Some (record { from = vector p w.b; to = vector p w.a }) ≡ seen_of p w
unfolding seen_of
seen_right p w h k =
    sym (ap (λ t. cond t (Some (record { from = vector p w.a; to = vector p w.b }))
    (cond (int_lt (cross_of (vector p w.a) (vector p w.b)) (pos 0))
    (Some (record { from = vector p w.b; to = vector p w.a })) None)) h
    ∙ ap (λ t. cond t (Some (record { from = vector p w.b; to = vector p w.a })) None) k)

pub unseen : (p : Point) (w : Segment) → int_lt (pos 0) (cross_of (vector p w.a) (vector p w.b)) ≡ false
    → int_lt (cross_of (vector p w.a) (vector p w.b)) (pos 0) ≡ false → None ≡ seen_of p w
unfolding seen_of
unseen p w h k =
    sym (ap (λ t. cond t (Some (record { from = vector p w.a; to = vector p w.b }))
    (cond (int_lt (cross_of (vector p w.a) (vector p w.b)) (pos 0))
    (Some (record { from = vector p w.b; to = vector p w.a })) None)) h
    ∙ ap (λ t. cond t (Some (record { from = vector p w.b; to = vector p w.a })) None) k)

pub not_both : (a b : Bool) → b ≡ false → (a && b) ≡ false
not_both a b h = grind arith
