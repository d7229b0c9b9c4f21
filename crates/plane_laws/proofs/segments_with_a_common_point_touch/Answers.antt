use Rattle.plane_laws.proofs.Law.{common_point_touches}
use Rattle.plane_laws.proofs.segments_with_a_common_point_touch.Goals as goal

pub returns : goal.returns
returns c = common_point_touches
