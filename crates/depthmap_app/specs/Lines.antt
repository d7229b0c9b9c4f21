-- What a line of a script does to a plan, as bytes in a form.
use Rattle.std.specs.Prelude.{ℕ, List}
use Rattle.options_spec.specs.declared.options.Form.{Form}
use Rattle.plan_spec.specs.Plan.{Plan}
use Rattle.report_spec.specs.Records.{records_bytes}
use Rattle.report_spec.specs.Replies.{Step, step}
use Rattle.script_loop.specs.Steps.{LineStep}

-- what the answers to further lines depend on: the plan as it stands, and the form of the replies
pub record DeskState : Type 0 where
  pub plan : Plan
  pub form : Form

-- this plan and this form
abbrev pub desk : Plan → Form → DeskState
desk plan form = record { plan = plan; form = form }

-- a step with its reply as bytes
abbrev pub as_bytes : Form → Step → LineStep DeskState
as_bytes form s = record { state = desk s.plan form; reply = records_bytes form s.records; refused = s.refused }

-- what the line of this number does
abbrev pub line_step : DeskState → ℕ → List ℕ → LineStep DeskState
line_step now number line = as_bytes now.form (step now.plan number line)
