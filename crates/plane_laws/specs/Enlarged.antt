-- Points with fractions: whole points of a plane that is n times as large.
use Rattle.std.specs.Prelude.{ℕ, pos, ◌+ℤ◌, ◌-ℤ◌, ◌*ℤ◌}
use Rattle.plane_spec.specs.declared.Point.{Point}
use Rattle.plane_spec.specs.declared.Segment.{Segment}
use Rattle.plane_spec.specs.Vectors.{point}

-- the point v in a plane that is n times as large
abbrev pub enlarged : ℕ → Point → Point
enlarged n v = point (pos n *ℤ v.x) (pos n *ℤ v.y)

-- the wall w in a plane that is n times as large
abbrev pub enlarged_wall : ℕ → Segment → Segment
enlarged_wall n w = record { a = enlarged n w.a; b = enlarged n w.b }

-- n times the point p + (a/n)(q - p)
abbrev pub part_way : ℕ → ℕ → Point → Point → Point
part_way a n p q = point (pos n *ℤ p.x +ℤ pos a *ℤ (q.x -ℤ p.x)) (pos n *ℤ p.y +ℤ pos a *ℤ (q.y -ℤ p.y))
