-- The law of fine steps, as the contract states it.
use Rattle.std.specs.Prelude.{false, List, Contains}
use Rattle.std.proofs.Common.{◌≡◌, ℕ, ◌<◌, arith}
use Rattle.std.proofs.lemmas.Int.{ints}
use Rattle.plane_spec.specs.declared.Point.{Point}
use Rattle.plane_spec.specs.declared.Segment.{Segment}
use Rattle.plane_spec.specs.Vectors.{same_point}
use Rattle.plane_laws.proofs.Lists.Members.{from_contains}
use Rattle.walk_laws.specs.Steps.{MeetsAtEnds}
use Rattle.walk_laws.proofs.Walk.{met_at_ends}
use Rattle.walk_laws.proofs.Fine.{FineSteps, fine_steps}
use Rattle.plane_laws.proofs.Points.Between.{apart_from}

pub steps_meet_at_ends : (edges : List Segment) (p q : Point) → same_point p q ≡ false
    → (n : ℕ) × (0 < n) × ((i : ℕ) (e : Segment) → Contains edges e → MeetsAtEnds n i p q e)
steps_meet_at_ends edges p q differ = (
  steps.number,
  some,
  λ i e there touch. met_at_ends steps.number i p q e
      (steps.fine e (from_contains edges e there)) touch,
)
  where
    steps : FineSteps edges p q 1
    steps = fine_steps edges p q 1 (omega arith) (apart_from p q differ)

    some : 0 < steps.number
    some = let e = steps.multiple.is in let t = steps.multiple.some in omega (arith, ints, e, t)
