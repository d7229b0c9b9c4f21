-- Pairs of numbered corners.
use Rattle.std.specs.Prelude.{◌≡◌, ℕ, false}
use Rattle.plane_spec.specs.declared.Point.{Point}
use Rattle.plane_spec.specs.Vectors.{same_point}
use Rattle.sight_spec.specs.Scene.{Scene}
use Rattle.sight_spec.specs.Dirty.{corner_point}

-- two points, each with a number
abbrev pub Pair : Type 0
Pair = (ℕ × Point) × (ℕ × Point)

-- two corners of the scene at different points, each with its number
pub record IsPairOfCorners (scene : Scene) (e : Pair) : Type 0 where
  pub first : corner_point scene e.0.0 ≡ e.0.1
  pub second : corner_point scene e.1.0 ≡ e.1.1
  pub differ : same_point e.0.1 e.1.1 ≡ false
