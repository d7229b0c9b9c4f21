use Rattle.std.proofs.Common.{refl}
use Rattle.sight_spec.specs.Isovist.{triangle_of}
use Rattle.isovist_core.proofs.triangles.triangle_of.Goals as goal

pub returns : goal.returns
unfolding triangle_of
returns c =
    rw (
      c.point_at.ensures,
      c.point_at-2.ensures,
      c.reduced.ensures,
      c.area_of_run.ensures.value,
      c.first_meeting-s.ensures.value,
      c.second_meeting-t.ensures.value,
    ) refl
