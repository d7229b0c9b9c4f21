use Rattle.std.proofs.Common.{refl}
use Rattle.isovist_core.proofs.triangles.area_of_run.Goals as goal

pub returns-clause-value : goal.returns-clause-value
returns-clause-value c =
    rw (
      c.between.ensures,
      c.way_to.ensures.value,
      c.way_to-2.ensures.value,
      c.first_meeting-s.ensures.value,
      c.second_meeting-t.ensures.value,
    ) refl
