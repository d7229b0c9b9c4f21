use Rattle.std.proofs.Common.{refl, subst}
use Rattle.plane_spec.specs.Segments.{IsSegmentInRange}
use Rattle.isovist_core.proofs.triangles.meeting_on.Goals as goal

pub wall_parameter-requires : goal.wall_parameter-requires
wall_parameter-requires c = record {
  p_in = c.requires.p_in;
  d_in = c.way_to.ensures.direction;
  wall_in = c.blocker-wall.ensures.in_range;
  turned = rw (c.way_to.ensures.value, c.blocker-wall.ensures.value) c.requires.turned;
}

pub returns : goal.returns
returns c = record {
  value = rw (c.wall_parameter.ensures, c.way_to.ensures.value, c.blocker-wall.ensures.value) refl;
  wall_in = subst (λ w. IsSegmentInRange w) c.blocker-wall.ensures.value c.blocker-wall.ensures.in_range;
}
