-- Directions that lead from a corner along neither of its walls.
use Rattle.std.specs.Prelude.{pos, ◌<ℤ◌, ◌≡◌}
use Rattle.plane_spec.specs.declared.Point.{Point}
use Rattle.plane_spec.specs.Vectors.{cross_of, dot_of}

-- a direction that doesn't lead back along the wall before the corner, nor on along the wall after it
pub record LeadsOff (before after d : Point) : Type 0 where
  pub not_back : cross_of before d ≡ pos 0 → pos 0 <ℤ dot_of before d
  pub not_on : cross_of after d ≡ pos 0 → dot_of after d <ℤ pos 0
