-- Directions in which corners lie, as the code holds them.
use Rattle.std.specs.Prelude.{Bool}
use Rattle.plane_spec.specs.declared.Point.{Point}
use Rattle.plane_spec.specs.Vectors.{turns_before}
use Rattle.sight_spec.specs.Isovist.{same_way}
use Rattle.isovist_core.specs.declared.heading.Heading.{Heading}

-- the vector itself
abbrev pub step_of : Heading → Point
step_of h = h.step

-- a comes before b
abbrev pub comes_before : Heading → Heading → Bool
comes_before a b = turns_before a.step b.step

-- a and b point the same way
abbrev pub tied : Heading → Heading → Bool
tied a b = same_way a.step b.step
