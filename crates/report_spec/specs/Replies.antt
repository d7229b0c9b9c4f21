-- The replies to the lines of a script, and the plan that each leaves.
use Rattle.std.specs.Prelude.{ℕ, ◌+◌, ◌==◌, nat_lt, Bool, true, false, ◌||◌, not, List, [], ◌∷◌, ◌++◌, length, codes, Option, Some, None, Result, Ok, Err, if◌then◌else◌}
use Rattle.std.specs.Fmt.{decimal}
use Rattle.std.specs.List.{position}
use Rattle.plane_spec.specs.declared.Point.{Point}
use Rattle.plane_spec.specs.Vectors.{is_in_range}
use Rattle.plan_spec.specs.declared.edit.Edit.{Edit}
use Rattle.plan_spec.specs.declared.why.Why.{Why}
use Rattle.plan_spec.specs.declared.why.Why.TheVariants.{Order, Count, Range, Repeat, Cross, Outside, Touch, Screen, NameTaken, Missing, Full, Overlap}
use Rattle.plan_spec.specs.declared.why.Limit.{Limit}
use Rattle.plan_spec.specs.declared.why.Limit.TheVariants.{Obstacles, Corners, Screens, Routes, Points as GridPoints}
use Rattle.plan_spec.specs.declared.limits.TheConstants.{MAX_AXIAL_LINES}
use Rattle.plan_spec.specs.Plan.{Plan, is_route_named}
use Rattle.plan_spec.specs.Edits.{why_not_edit, plan_after_edit}
use Rattle.sight_spec.specs.Scene.{Scene, scene_of}
use Rattle.sight_spec.specs.Sight.{is_open}
use Rattle.plan_spec.specs.Grid.{number_of_point}
use Rattle.sight_spec.specs.Axial.{axial_lines}
use Rattle.route_spec.specs.Routes.{pieces_of}
use Rattle.grammar_spec.specs.declared.text_why.TextWhy.{TextWhy}
use Rattle.grammar_spec.specs.declared.text_why.TextWhy.TheVariants.{Long, Kind, Words, Name, Number}
use Rattle.grammar_spec.specs.declared.script_line.Query.{Query}
use Rattle.grammar_spec.specs.declared.script_line.Query.TheVariants.{Edges, Points, Axial, Lines, Segments, Plan as PlanQuery, Depth, Isovist, Turns}
use Rattle.grammar_spec.specs.declared.script_line.Line.{Line}
use Rattle.grammar_spec.specs.declared.script_line.Line.TheVariants.{Blank, Edit as OfEdit, Query as OfQuery}
use Rattle.report_spec.specs.declared.reason.Reason.{Reason}
use Rattle.report_spec.specs.declared.reason.Reason.TheVariants.{Text as TextReason, Edit as EditReason, NoPoint, Closed, Lines as LinesReason}
use Rattle.grammar_spec.specs.ScriptText.{read_line_of_script}
use Rattle.report_spec.specs.Tables.{edges_table_of, points_table_of, depth_table_of, isovist_table_of, axial_table_of, lines_table_of, segments_table_of, turns_table_of, plan_table_of}

-- ---- causes as they are printed

-- why a line is outside the grammar
abbrev pub text_why_word : TextWhy → List ℕ
text_why_word Long = codes "long"
text_why_word Kind = codes "kind"
text_why_word Words = codes "words"
text_why_word Name = codes "name"
text_why_word Number = codes "number"

-- which limit is reached
abbrev pub limit_word : Limit → List ℕ
limit_word Obstacles = codes "obstacles"
limit_word Corners = codes "corners"
limit_word Screens = codes "screens"
limit_word Routes = codes "routes"
limit_word GridPoints = codes "points"

-- why an item or an edit is refused: a word, and the name or the limit that it is about
abbrev pub why_words : Why → List (List ℕ)
why_words Order = codes "order" ∷ []
why_words Count = codes "count" ∷ []
why_words Range = codes "range" ∷ []
why_words Repeat = codes "repeat" ∷ []
why_words Cross = codes "cross" ∷ []
why_words Outside = codes "outside" ∷ []
why_words (Touch name) = codes "touch" ∷ name ∷ []
why_words (Screen name) = codes "screen" ∷ name ∷ []
why_words NameTaken = codes "taken" ∷ []
why_words Missing = codes "missing" ∷ []
why_words (Full limit) = codes "full" ∷ limit_word limit ∷ []
why_words (Overlap name) = codes "overlap" ∷ name ∷ []

-- why a line of a plan or of a script is refused
abbrev pub reason_words : Reason → List (List ℕ)
reason_words (TextReason why) = text_why_word why ∷ []
reason_words (EditReason why) = why_words why
reason_words NoPoint = codes "nopoint" ∷ []
reason_words Closed = codes "closed" ∷ []
reason_words LinesReason = codes "lines" ∷ []

-- ok N
abbrev pub ok_record : ℕ → List (List ℕ)
ok_record number = codes "ok" ∷ decimal number ∷ []

-- refused N WHY
abbrev pub refused_record : ℕ → Reason → List (List ℕ)
refused_record number reason = codes "refused" ∷ decimal number ∷ reason_words reason

-- ---- questions

-- what a question is answered with: a reason to refuse it, or its table
abbrev pub Answer : Type 0
Answer = Result (List (List (List ℕ))) Reason

-- there are more than `MAX_AXIAL_LINES` axial lines
abbrev pub has_too_many_lines : Scene → Bool
has_too_many_lines scene = nat_lt MAX_AXIAL_LINES (length (axial_lines scene))

-- the depths from the grid point at p, of this number: refused where no grid point stands there, or it isn't open
abbrev pub answer_depth : Plan → Point → Option ℕ → Answer
answer_depth plan p None = Err NoPoint
answer_depth plan p (Some source) = if is_open plan p then Ok (depth_table_of plan source) else Err Closed

-- the isovist from p: refused where p is out of range, or isn't open
abbrev pub answer_isovist : Plan → Point → Answer
answer_isovist plan p =
    if not (is_in_range p) then Err (EditReason Range)
    else (if is_open plan p then Ok (isovist_table_of plan p) else Err Closed)

-- the first piece of the route of this number
abbrev pub first_piece : Plan → ℕ → Option ℕ
first_piece plan route = position (λ piece. piece.route == route) (pieces_of plan)

-- the turn depths from a piece; that a route has none doesn't occur, and would be told as a route that isn't there
abbrev pub turns_from : Plan → Option ℕ → Answer
turns_from plan None = Err (EditReason Missing)
turns_from plan (Some source) = Ok (turns_table_of plan source)

-- the turn depths from the first piece of the route of this number: refused where there is no such route
abbrev pub answer_turns : Plan → Option ℕ → Answer
answer_turns plan None = Err (EditReason Missing)
answer_turns plan (Some route) = turns_from plan (first_piece plan route)

-- the answer to a question, afresh from the plan
unfoldable pub answer : Plan → Query → Answer
answer plan Edges = Ok (edges_table_of plan)
answer plan Points = Ok (points_table_of plan)
answer plan Axial = if has_too_many_lines (scene_of plan) then Err LinesReason else Ok (axial_table_of plan)
answer plan Lines = if has_too_many_lines (scene_of plan) then Err LinesReason else Ok (lines_table_of plan)
answer plan Segments = Ok (segments_table_of plan)
answer plan PlanQuery = Ok (plan_table_of plan)
answer plan (Depth p) = answer_depth plan p (number_of_point plan.grid p)
answer plan (Isovist p) = answer_isovist plan p
answer plan (Turns name) = answer_turns plan (position (is_route_named name) plan.routes)

-- ---- one line

-- the plan after a line, the records of its reply, and whether the line is refused
pub record Step : Type 0 where
  pub plan : Plan
  pub records : List (List (List ℕ))
  pub refused : Bool

-- a refused line: the plan stays, and its reply is one record
abbrev pub refusal : Plan → ℕ → Reason → Step
refusal plan number reason = record { plan = plan; records = refused_record number reason ∷ []; refused = true }

-- what a line with an edit does: where nothing refuses the edit, the plan is changed, and the reply is `ok`
abbrev pub edit_step : Plan → ℕ → Edit → Option Why → Step
edit_step plan number edit None = record { plan = plan_after_edit plan edit; records = ok_record number ∷ []; refused = false }
edit_step plan number edit (Some why) = refusal plan number (EditReason why)

-- what a line with a question does: the plan stays, and the reply is `ok` and the table, or the refusal
abbrev pub query_step : Plan → ℕ → Answer → Step
query_step plan number (Ok rows) = record { plan = plan; records = ok_record number ∷ rows; refused = false }
query_step plan number (Err reason) = refusal plan number reason

-- what a line that was read does: nothing where it is blank, a change or its refusal, a table or its refusal
abbrev pub step_by : Plan → ℕ → Result Line TextWhy → Step
step_by plan number (Err why) = refusal plan number (TextReason why)
step_by plan number (Ok Blank) = record { plan = plan; records = []; refused = false }
step_by plan number (Ok (OfEdit edit)) = edit_step plan number edit (why_not_edit plan edit)
step_by plan number (Ok (OfQuery query)) = query_step plan number (answer plan query)

-- the line of this number, as it stands before its newline, on a plan
unfoldable pub step : Plan → ℕ → List ℕ → Step
step plan number line = step_by plan number (read_line_of_script line)

-- ---- all lines

-- the records of the replies, the lines numbered from `number` on
unfoldable pub replies : Plan → ℕ → List (List ℕ) → List (List (List ℕ))
replies plan number [] = []
replies plan number (line ∷ lines) =
    (step plan number line).records ++ replies (step plan number line).plan (number + 1) lines

-- the plan that is left
unfoldable pub plan_after : Plan → ℕ → List (List ℕ) → Plan
plan_after plan number [] = plan
plan_after plan number (line ∷ lines) = plan_after (step plan number line).plan (number + 1) lines

-- a line is refused
unfoldable pub has_refusal : Plan → ℕ → List (List ℕ) → Bool
has_refusal plan number [] = false
has_refusal plan number (line ∷ lines) =
    (step plan number line).refused || has_refusal (step plan number line).plan (number + 1) lines
