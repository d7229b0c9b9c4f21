-- Looks from numbered points, and how they are counted.
use Rattle.std.specs.Prelude.{◌≡◌, ◌<◌, ◌≤◌, ℕ, zero, suc, pos, All, List, length, get_or}
use Rattle.plane_spec.specs.declared.Point.{Point}
use Rattle.plane_spec.specs.Vectors.{point}
use Rattle.sight_core.specs.Scenes.{IsOfSoundPlan}
use Rattle.sight_spec.specs.Scene.{Scene}
use Rattle.sight_sweep.specs.Answers.{IsSeenFrom}
use Rattle.sight_sweep.specs.Steps.{one_more}
use Rattle.view_laws.specs.declared.view.Arc.TheVariants as arcs
use Rattle.view_laws.specs.declared.view.View.{View}
use Rattle.axial_lines.specs.Found.{IsEndInRange}

-- ---- the count

-- so many sweeps more
abbrev pub more_by : ℕ → ℕ → ℕ
more_by zero count = count
more_by (suc n) count = one_more (more_by n count)

-- so many sweeps more, or fewer
pub record HasCountedUpTo (most old new : ℕ) : Type 0 where
  pub sweeps : ℕ
  pub at_most : sweeps ≤ most
  pub counted : new ≡ more_by sweeps old

-- ---- what is seen

-- the numbered point at a place, and one that there isn't behind the end
abbrev pub end_at : List (ℕ × Point) → ℕ → ℕ × Point
end_at ends k = get_or ends k (0, point (pos 0) (pos 0))

-- the views are what is seen all round from the first points, in their order
abbrev pub AreSeenFrom : Scene → List (ℕ × Point) → List View → Type 0
AreSeenFrom scene ends views =
    (k : ℕ) (v : View) → k < length views → IsSeenFrom scene (end_at ends k).1 arcs.All (get_or views k v)

-- numbered points of a scene, from some of which one looks
pub record Outlooks : Type 0 where
  pub scene : Scene
  pub ends : List (ℕ × Point)

-- the scene is that of a plan, the points are in range, and the views are what is seen from the first of them
pub record AreOutlooks (scene : Scene) (ends : List (ℕ × Point)) (views : List View) : Type 0 where
  pub of_plan : IsOfSoundPlan scene
  pub in_range : All IsEndInRange ends
  pub seen : AreSeenFrom scene ends views
