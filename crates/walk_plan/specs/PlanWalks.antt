-- Walkers over the grid of a plan, and the bytes of the table of their visits.
use Rattle.std.specs.Prelude.{ℕ, List, map}
use Rattle.options_spec.specs.declared.options.Form.TheVariants.{Text}
use Rattle.plan_spec.specs.Plan.{Plan}
use Rattle.sight_spec.specs.Visibility.{open_points, visibility_graph}
use Rattle.report_spec.specs.Records.{records_bytes}
use Rattle.walk_spec.specs.declared.WalkSpec.{WalkSpec}
use Rattle.walk_spec.specs.Walks.{visits_of}
use Rattle.walk_table.specs.VisitTables.{visits_table}

-- the visits of each grid point, where walkers begin at the open ones and go to points that they see
unfoldable pub visits_over : Plan → WalkSpec → List ℕ
visits_over plan spec = visits_of (visibility_graph plan) (map (λ e. e.0) (open_points plan)) spec

-- the table of the open points' visits, as text
unfoldable pub walk_bytes : Plan → WalkSpec → List ℕ
walk_bytes plan spec = records_bytes Text (visits_table (open_points plan) (visits_over plan spec))
