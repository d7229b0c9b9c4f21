-- The bytes of the table are those of the plan's walk.
use Rattle.std.proofs.Common.{◌≡◌, ℕ, List, ap, ◌∙◌}
use Rattle.options_spec.specs.declared.options.Form.TheVariants.{Text}
use Rattle.plane_spec.specs.declared.Point.{Point}
use Rattle.plan_spec.specs.Plan.{Plan}
use Rattle.sight_spec.specs.Visibility.{open_points}
use Rattle.report_spec.specs.Records.{records_bytes}
use Rattle.walk_spec.specs.declared.WalkSpec.{WalkSpec}
use Rattle.walk_table.specs.VisitTables.{visits_table}
use Rattle.walk_plan.specs.PlanWalks.{visits_over, walk_bytes}

pub bytes_are : (plan : Plan) (spec : WalkSpec) (points : List (ℕ × Point)) (visits : List ℕ)
    → points ≡ open_points plan → visits ≡ visits_over plan spec
    → records_bytes Text (visits_table points visits) ≡ walk_bytes plan spec
unfolding walk_bytes
bytes_are plan spec points visits e f =
    ap (λ ps. records_bytes Text (visits_table ps visits)) e
    ∙ ap (λ vs. records_bytes Text (visits_table (open_points plan) vs)) f
