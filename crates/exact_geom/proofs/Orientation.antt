-- Orientation of three points in another order.
use Rattle.std.proofs.Common.{◌≡◌, neg_ℤ, ap, ◌∙◌}
use Rattle.plane_spec.specs.declared.Point.{Point}
use Rattle.plane_spec.specs.Vectors.{orient_of}
use Rattle.int_laws.proofs.Ring as ring

-- taken from the second point on, three points turn as before
pub orient_of_cycled : (a b c : Point) → orient_of b c a ≡ orient_of a b c
orient_of_cycled a b c = ring.orient_cycled a.x a.y b.x b.y c.x c.y

-- with the last two exchanged, they turn the other way
pub orient_of_last_exchanged : (a b c : Point) → orient_of a c b ≡ neg_ℤ (orient_of a b c)
orient_of_last_exchanged a b c = ring.orient_exchanged a.x a.y b.x b.y c.x c.y

-- the same with the first two exchanged
pub orient_of_first_exchanged : (a b c : Point) → orient_of b a c ≡ neg_ℤ (orient_of a b c)
orient_of_first_exchanged a b c = orient_of_last_exchanged b c a ∙ ap neg_ℤ (orient_of_cycled a b c)

-- the same with the ends exchanged
pub orient_of_ends_exchanged : (a b c : Point) → orient_of c b a ≡ neg_ℤ (orient_of a b c)
orient_of_ends_exchanged a b c = orient_of_first_exchanged b c a ∙ ap neg_ℤ (orient_of_cycled a b c)
