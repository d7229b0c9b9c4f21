use Rattle.std.proofs.Common.{◌∙◌, ◌≡◌, ◌∷◌, ◌++◌, [], ap, false, length, List, not, refl, subst, sym, true, ◌<◌, ℕ}
use Rattle.plane_spec.specs.Vectors.{InRange}
use Rattle.plan_answers.proofs.Places.{numbered_place}
use Rattle.plan_answers.proofs.found.grid_point.Goals as goal

pub returns-clause-in_range : goal.returns-clause-in_range
returns-clause-in_range c =
    subst InRange (c.place-place.ensures.place ∙ numbered_place _ _ _ (sym c.number_at.ensures ∙ c.in-Some.is)) c.place-place.ensures.in_range
