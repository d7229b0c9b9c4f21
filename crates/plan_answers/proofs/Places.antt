-- Points of a grid by their numbers, and lines of a scene.
use Rattle.std.proofs.Common.{◌≡◌, arith, ℕ, List, Option, Some, None, get_or, length, subst, sym, ◌<◌}
use Rattle.std.proofs.lemmas.List.{get_or_default}
use Rattle.std.proofs.lemmas.List.Quantifiers.{position-Some}
use Rattle.plane_spec.specs.Vectors.{same_point}
use Rattle.std.specs.List.{All, Contains}
use Rattle.plane_spec.specs.declared.Point.{Point}
use Rattle.plan_spec.specs.declared.item.GridSpec.{GridSpec}
use Rattle.plan_spec.specs.Grid.{grid_points, number_of_point, point_of_number}
use Rattle.sight_spec.specs.Scene.{Scene}
use Rattle.sight_spec.specs.Axial.{AxialLine, IsLineOf, axial_lines}
use Rattle.plan_laws.proofs.GridPoints.{found_number}

-- the point of the number that is found for a point is that point
pub numbered_place : (grid : Option GridSpec) (x : Point) (k : ℕ) → number_of_point grid x ≡ Some k
    → point_of_number grid k ≡ x
unfolding grid_points
numbered_place None x k e =
    let some = position-Some (same_point x) (grid_points None) k x e in
    let below : k < 0 = some.0 in absurd (omega (arith, below))
numbered_place (Some g) x k e = (found_number g x k e).1

-- each of the axial lines of a scene is one of them
pub lines_of_scene : (scene : Scene) (lines : List AxialLine) → lines ≡ axial_lines scene → All (IsLineOf scene) lines
lines_of_scene scene lines e = subst (λ ls. All (Contains ls) lines) e (own lines)
  where
    own : (ls : List AxialLine) → All (Contains ls) ls
    own ls = λ k d below. (k, below, get_or_default ls k (get_or ls k d) d below)
