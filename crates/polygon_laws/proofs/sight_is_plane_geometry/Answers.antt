use Rattle.polygon_laws.proofs.Plans.{seen_in_a_sound_plan}
use Rattle.polygon_laws.proofs.sight_is_plane_geometry.Goals as goal

pub returns : goal.returns
returns c = seen_in_a_sound_plan
