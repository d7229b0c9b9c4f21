-- Directions that are compared by which is left of the other.
use Rattle.std.specs.Prelude.{ℤ, pos, ◌≡◌, ◌*ℤ◌, ◌<ℤ◌, int_lt, if◌then◌else◌}
use Rattle.std.specs.declared.cmp.Ordering.{Ordering}
use Rattle.std.specs.declared.cmp.Ordering.TheVariants.{Less, Equal, Greater}
use Rattle.plane_spec.specs.declared.Point.{Point}
use Rattle.plane_spec.specs.Vectors.{cross_of, turns_left}

-- the order of directions of one half turn: a direction comes before those to its left
abbrev pub turned_order : Point → Point → Ordering
turned_order d e = if turns_left d e then Less else (if int_lt (cross_of d e) (pos 0) then Greater else Equal)

-- d and e point the same way: some positive multiple of d is a positive multiple of e
pub record PointAlike (d e : Point) : Type 0 where
  pub times : ℤ
  pub times_other : ℤ
  pub positive : pos 0 <ℤ times
  pub positive_other : pos 0 <ℤ times_other
  pub x : times *ℤ d.x ≡ times_other *ℤ e.x
  pub y : times *ℤ d.y ≡ times_other *ℤ e.y
