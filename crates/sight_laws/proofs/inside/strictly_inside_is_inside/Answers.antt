use Rattle.sight_laws.proofs.Polygons.{inside_where_left}
use Rattle.sight_laws.proofs.inside.strictly_inside_is_inside.Goals as goal

pub returns : goal.returns
returns c = inside_where_left
