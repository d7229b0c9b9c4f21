-- What a session on a plan keeps, and what an edit leaves of it.
use Rattle.std.specs.Prelude.{◌≡◌, ◌≤◌, ℕ, Bool, true, false, ◌&&◌, ◌||◌, not, List, length, Option}
use Rattle.std.specs.Option.{IfSome}
use Rattle.options_spec.specs.declared.options.TheConstants.{MAX_WORKERS}
use Rattle.plan_spec.specs.declared.edit.Edit.{Edit}
use Rattle.plan_spec.specs.declared.edit.Edit.TheVariants.{AddRoute, RemoveRoute}
use Rattle.plan_spec.specs.declared.limits.TheConstants.{MAX_AXIAL_LINES}
use Rattle.plan_spec.specs.Plan.{Plan}
use Rattle.plan_spec.specs.Edits.{IsEditBetween, plan_after_edit}
use Rattle.sight_spec.specs.Scene.{Scene, scene_of}
use Rattle.sight_spec.specs.Visibility.{visibility_graph}
use Rattle.sight_spec.specs.Axial.{AxialLine, axial_lines}
use Rattle.report_spec.specs.Replies.{has_too_many_lines}
use Rattle.vga_grid.specs.Rows.{Matrix, graph_of}
use Rattle.plan_edit.specs.declared.past.Past.{Past}

-- a plan, how many workers fill its visibility graph, and whether that and its axial lines are kept beside it
pub record Session : Type 0 where
  pub plan : Plan
  pub workers : ℕ
  pub keeps_graph : Bool
  pub keeps_lines : Bool

-- a session that begins keeps the plan alone
abbrev pub begun : Plan → ℕ → Session
begun plan workers = record { plan = plan; workers = workers; keeps_graph = false; keeps_lines = false }

-- it keeps the graph, too
abbrev pub with_graph : Session → Session
with_graph session = record session { keeps_graph = true }

-- it keeps the axial lines, too
abbrev pub with_lines : Session → Session
with_lines session = record session { keeps_lines = true }

-- ---- edits

-- the edit is of a route, which blocks nothing
abbrev pub is_of_route : Edit → Bool
is_of_route (AddRoute name from to) = true
is_of_route (RemoveRoute name) = true
is_of_route _ = false

-- the plan after the edit has at most `MAX_AXIAL_LINES` axial lines
abbrev pub has_lines_after : Plan → Edit → Bool
has_lines_after plan edit = not (has_too_many_lines (scene_of (plan_after_edit plan edit)))

-- an edit of a route keeps what was kept; any other keeps no graph, and lines where they were kept and aren't too many
abbrev pub session_after : Session → Edit → Session
session_after session edit = record session {
  plan = plan_after_edit session.plan edit;
  keeps_graph = session.keeps_graph && is_of_route edit;
  keeps_lines = session.keeps_lines && (is_of_route edit || has_lines_after session.plan edit);
}

-- ---- what is kept

-- the plan is that before an edit which leads to the other, with its visibility graph and the edit's boxes
pub record IsPast (after : Plan) (past : Past) : Type 0 where
  pub graph_is : graph_of past.graph ≡ visibility_graph past.plan
  pub edited : IsEditBetween past.plan after past.boxes

-- the scene is the plan's, and so are the graph and the axial lines, where they are there; those are at most
-- `MAX_AXIAL_LINES`. What is there from before an edit leads to the plan. There are 1 to `MAX_WORKERS` workers
pub record IsKept (plan : Plan) (scene : Scene) (graph : Option Matrix) (past : Option Past)
    (lines : Option (List AxialLine)) (workers : ℕ) : Type 0 where
  pub scene_is : scene ≡ scene_of plan
  pub graph_is : IfSome graph (λ g. graph_of g ≡ visibility_graph plan)
  pub past_is : IfSome past (IsPast plan)
  pub lines_are : IfSome lines (λ ls. ls ≡ axial_lines (scene_of plan))
  pub at_most : IfSome lines (λ ls. length ls ≤ MAX_AXIAL_LINES)
  pub some_workers : 1 ≤ workers
  pub few_workers : workers ≤ MAX_WORKERS
