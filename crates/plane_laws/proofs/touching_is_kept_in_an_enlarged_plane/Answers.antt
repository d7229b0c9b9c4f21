use Rattle.plane_laws.proofs.Law.{touch_enlarged}
use Rattle.plane_laws.proofs.touching_is_kept_in_an_enlarged_plane.Goals as goal

pub returns : goal.returns
returns c = touch_enlarged
