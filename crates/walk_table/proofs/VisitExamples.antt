-- A worked example: two points between which four walkers go to and fro.
use Rattle.std.proofs.Common.{◌≡◌, refl, [], ◌∷◌}
use Rattle.std.specs.Prelude.{codes, pos}
use Rattle.std.specs.Fmt.{digits}
use Rattle.options_spec.specs.declared.options.Form.TheVariants.{Text}
use Rattle.plane_spec.specs.Vectors.{point}
use Rattle.report_spec.specs.Records.{records_bytes}
use Rattle.walk_table.specs.VisitTables.{visits_table}

to_and_fro : records_bytes Text (visits_table ((0, point (pos 0) (pos 4)) ∷ (1, point (pos 10) (pos 4)) ∷ []) (8 ∷ 8 ∷ []))
    ≡ codes "table visits\n0 0 4 8\n1 10 4 8\ntotal 16\nend 2\n"
unfolding visits_table digits
to_and_fro = refl
