-- Segments: what lies on one, and what two of them share.
use Rattle.std.specs.Prelude.{ℤ, pos, Bool, ◌&&◌, ◌||◌, int_lt, int_le}
use Rattle.std.specs.Ordering.{int_eq}
use Rattle.plane_spec.specs.declared.Point.{Point}
use Rattle.plane_spec.specs.declared.Segment.{Segment}
use Rattle.plane_spec.specs.Vectors.{InRange, orient_of}

-- a segment between points in range
pub record IsSegmentInRange (s : Segment) : Type 0 where
  pub a : InRange s.a
  pub b : InRange s.b

-- m is from the smaller of a and b to the greater
abbrev pub is_between : ℤ → ℤ → ℤ → Bool
is_between m a b = (int_le a m && int_le m b) || (int_le b m && int_le m a)

-- x lies on the closed segment from a to b: in line with it, and in its extents
unfoldable pub is_on_segment : Point → Point → Point → Bool
is_on_segment x a b = int_eq (orient_of a b x) (pos 0) && (is_between x.x a.x b.x && is_between x.y a.y b.y)

-- one is positive and the other negative
abbrev pub are_opposite : ℤ → ℤ → Bool
are_opposite s t = (int_lt s (pos 0) && int_lt (pos 0) t) || (int_lt (pos 0) s && int_lt t (pos 0))

-- the ends of each segment lie strictly on different sides of the other
unfoldable pub cross_properly : Point → Point → Point → Point → Bool
cross_properly a b c d = are_opposite (orient_of a b c) (orient_of a b d) && are_opposite (orient_of c d a) (orient_of c d b)

-- the closed segments ab and cd share a point: they cross properly, or an end of one lies on the other
unfoldable pub do_touch : Point → Point → Point → Point → Bool
do_touch a b c d =
    cross_properly a b c d || ((is_on_segment a c d || is_on_segment b c d) || (is_on_segment c a b || is_on_segment d a b))
