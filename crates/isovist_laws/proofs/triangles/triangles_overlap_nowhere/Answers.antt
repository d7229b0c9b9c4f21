use Rattle.isovist_laws.proofs.Inside.{triangles_apart}
use Rattle.isovist_laws.proofs.triangles.triangles_overlap_nowhere.Goals as goal

pub returns : goal.returns
returns c = triangles_apart
