use Rattle.sight_laws.proofs.Polygons.{left_where_inside}
use Rattle.sight_laws.proofs.inside.inside_is_strictly_inside.Goals as goal

pub returns : goal.returns
returns c = left_where_inside
