use Rattle.plane_laws.proofs.Segments.Separated.{separated}
use Rattle.plane_laws.proofs.a_line_keeps_segments_apart.Goals as goal

pub returns : goal.returns
returns c = λ a b c d p q. separated (record { a = a; b = b }) (record { a = c; b = d }) p q
