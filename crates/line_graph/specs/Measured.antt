-- A line beside its stretch.
use Rattle.sight_spec.specs.Axial.{AxialLine}
use Rattle.meet_laws.specs.Stretches.{Stretch, IsStretchOf}
use Rattle.line_graph.specs.Bounds.{HasComparableEnds}

-- the stretch is the line's, and the parts of its ends are small enough to be compared
pub record IsMeasured (s : Stretch) (l : AxialLine) : Type 0 where
  pub stretch : IsStretchOf s l.from l.to
  pub ends : HasComparableEnds l
