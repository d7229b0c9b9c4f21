-- The ends of two segments that lie on both.
use Rattle.std.specs.Prelude.{Bool, ◌&&◌, not}
use Rattle.plane_spec.specs.declared.Point.{Point}
use Rattle.plane_spec.specs.Vectors.{same_point}

-- two ends lie on both segments, as is told of each, and they differ
unfoldable pub are_two_shared : Point → Bool → Point → Bool → Bool
are_two_shared p p_shared q q_shared = p_shared && (q_shared && not (same_point p q))
