-- The whole output: of a plan by its mode, of a trial, and by the options.
use Rattle.std.specs.Prelude.{ℕ, Bool, false, ◌||◌, List, [], ◌∷◌, ◌++◌, Option, Some, None, if◌then◌else◌}
use Rattle.plan_spec.specs.Plan.{Plan}
use Rattle.sight_spec.specs.Scene.{scene_of}
use Rattle.options_spec.specs.declared.options.Form.{Form}
use Rattle.options_spec.specs.declared.options.Mode.{Mode}
use Rattle.options_spec.specs.declared.options.Mode.TheVariants.{Vga, Isovists, AxialMap, Segments, Check}
use Rattle.report_spec.specs.declared.reason.Reason.TheVariants.{Lines as LinesReason}
use Rattle.options_spec.specs.declared.options.Job.{Job}
use Rattle.options_spec.specs.declared.options.Job.TheVariants.{Analyse, Trial}
use Rattle.options_spec.specs.declared.options.Options.{Options}
use Rattle.report_spec.specs.Records.{records_bytes}
use Rattle.report_spec.specs.Tables.{edges_table_of, points_table_of, isovists_table_of, axial_table_of, lines_table_of}
use Rattle.report_spec.specs.Tables.{segments_table_of, plan_table_of}
use Rattle.report_spec.specs.Replies.{has_too_many_lines, refused_record, replies, plan_after, has_refusal}
use Rattle.report_spec.specs.Trial.{trial_plan, trial_record_of}

-- ---- of a plan

-- the tables of the mode, or the refusal of too many axial lines
unfoldable pub mode_records : Mode → Plan → List (List (List ℕ))
mode_records Vga plan = edges_table_of plan ++ points_table_of plan
mode_records Isovists plan = isovists_table_of plan
mode_records AxialMap plan =
    if has_too_many_lines (scene_of plan) then refused_record 0 LinesReason ∷ []
    else (axial_table_of plan ++ lines_table_of plan)
mode_records Segments plan = segments_table_of plan
mode_records Check plan = plan_table_of plan

-- the mode's tables are refused: there are too many axial lines, and the mode asks for them
abbrev pub mode_is_refused : Mode → Plan → Bool
mode_is_refused AxialMap plan = has_too_many_lines (scene_of plan)
mode_is_refused _ plan = false

-- the replies to the lines of a script, as bytes
unfoldable pub reply_bytes : Form → Plan → List (List ℕ) → List ℕ
reply_bytes form plan lines = records_bytes form (replies plan 1 lines)

-- the replies to the lines of the script, and then the mode's tables over the plan that they leave
unfoldable pub output_of : Mode → Form → Plan → List (List ℕ) → List ℕ
output_of mode form plan lines =
    reply_bytes form plan lines ++ records_bytes form (mode_records mode (plan_after plan 1 lines))

-- a reply of the output is `refused`
unfoldable pub output_is_refused : Mode → Plan → List (List ℕ) → Bool
output_is_refused mode plan lines = has_refusal plan 1 lines || mode_is_refused mode (plan_after plan 1 lines)

-- ---- of a trial

-- one record
unfoldable pub trial_output : Form → ℕ → List ℕ
trial_output form n = records_bytes form (trial_record_of n (trial_plan n) ∷ [])

-- ---- by the options

-- by what is to be done: without a plan an analysis prints nothing, and a trial reads neither a plan nor a script
abbrev pub output_of_job : Job → Form → Option Plan → List (List ℕ) → List ℕ
output_of_job (Analyse mode file) form (Some plan) lines = output_of mode form plan lines
output_of_job (Analyse mode file) form None lines = []
output_of_job (Trial n) form plan lines = trial_output form n

-- the output that the options ask for, of the plan in the file, where it holds one, and of the lines of the script
unfoldable pub output_by : Options → Option Plan → List (List ℕ) → List ℕ
output_by options plan lines = output_of_job options.job options.form plan lines

-- by what is to be done: only the output of a plan has replies
abbrev pub job_is_refused : Job → Option Plan → List (List ℕ) → Bool
job_is_refused (Analyse mode file) (Some plan) lines = output_is_refused mode plan lines
job_is_refused (Analyse mode file) None lines = false
job_is_refused (Trial n) plan lines = false

-- a reply of the output that the options ask for is `refused`
unfoldable pub is_refused_by : Options → Option Plan → List (List ℕ) → Bool
is_refused_by options plan lines = job_is_refused options.job plan lines
