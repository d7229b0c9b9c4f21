-- Replies to questions, by whether they are refused.
use Rattle.std.proofs.Common.{◌≡◌, ◌∙◌, ◌∷◌, ◌==◌, ◌++◌, ℕ, Bool, true, false, not, List, [], Option, Some, None, Result, Ok, Err, cond, refl, sym, ap, subst}
use Rattle.std.specs.List.{position}
use Rattle.std.specs.Result.{IsErrAnd}
use Rattle.sight_spec.specs.Isovist.{Isovist as IsovistParts, isovist_in, isovist_of}
use Rattle.options_spec.specs.declared.options.Mode.TheVariants.{AxialMap}
use Rattle.report_spec.specs.Output.{mode_records}
use Rattle.plane_spec.specs.declared.Point.{Point}
use Rattle.plane_spec.specs.Vectors.{is_in_range}
use Rattle.plan_spec.specs.declared.why.Why.TheVariants.{Missing, Range}
use Rattle.plan_spec.specs.Plan.{Plan, is_route_named}
use Rattle.plan_spec.specs.Grid.{number_of_point}
use Rattle.sight_spec.specs.Scene.{scene_of}
use Rattle.sight_spec.specs.Sight.{is_open}
use Rattle.grammar_spec.specs.declared.script_line.Query.{Query}
use Rattle.grammar_spec.specs.declared.script_line.Query.TheVariants.{Axial, Lines, Depth, Isovist, Turns}
use Rattle.options_spec.specs.declared.options.Form.{Form}
use Rattle.report_spec.specs.declared.reason.Reason.{Reason}
use Rattle.report_spec.specs.declared.reason.Reason.TheVariants.{Edit as EditReason, NoPoint, Closed, Lines as LinesReason}
use Rattle.report_spec.specs.Replies.{Answer, Step, answer, answer_depth, answer_isovist, answer_turns, first_piece, has_too_many_lines, ok_record, query_step, refused_record, turns_from}
use Rattle.report_spec.specs.Tables.{axial_table_of, depth_table_of, isovist_table_of, lines_table_of, turns_table_of}
use Rattle.dm_io.specs.Streams.{WritesPrefix}
use Rattle.report_spec.specs.Records.{records_bytes}
use Rattle.reports.specs.declared.fault.ReportFault.{ReportFault}
use Rattle.plan_answers.specs.Answered.{Answers, Replies, question}

-- after a fault a prefix was written
pub on_fault : (form : Form) (before after : Option (List ℕ)) (rows : List (List (List ℕ))) (refused : Bool)
    (result : Result Bool ReportFault) (Q : ReportFault → Type 0) → IsErrAnd result Q
    → WritesPrefix before after (records_bytes form rows) → Answers form before after rows refused result
on_fault form before after rows refused (Ok answer) Q e h = absurd e
on_fault form before after rows refused (Err fault) Q e h = h

-- ---- an answer to a question, by what it is

-- what a reply says of the answer to its question
abbrev pub Of : Form → Option (List ℕ) → Option (List ℕ) → Plan → ℕ → Result Bool ReportFault → Answer → Type 0
Of form before after plan number result found = Replies form before after (query_step plan number found) result

pub answered : (form : Form) (before after : Option (List ℕ)) (plan : Plan) (number : ℕ)
    (result : Result Bool ReportFault) (found : Answer) (rows others : List (List (List ℕ))) → rows ≡ others
    → Ok others ≡ found → Answers form before after (ok_record number ∷ rows) false result
    → Of form before after plan number result found
answered form before after plan number result found rows others same e h =
    subst (Of form before after plan number result) e
    (subst (λ rs. Answers form before after (ok_record number ∷ rs) false result) same h)

pub refused : (form : Form) (before after : Option (List ℕ)) (plan : Plan) (number : ℕ)
    (result : Result Bool ReportFault) (found : Answer) (reason : Reason) → Err reason ≡ found
    → Answers form before after (refused_record number reason ∷ []) true result
    → Of form before after plan number result found
refused form before after plan number result found reason e h = subst (Of form before after plan number result) e h

-- ---- the answers

few : (t : Bool) (rows : List (List (List ℕ))) → t ≡ false → Ok rows ≡ cond t (Err LinesReason) (Ok rows)
few t rows e = rw e refl

many : (t : Bool) (rows : List (List (List ℕ))) → t ≡ true → Err LinesReason ≡ cond t (Err LinesReason) (Ok rows)
many t rows e = rw e refl

pub few_axial : (plan : Plan) → has_too_many_lines (scene_of plan) ≡ false → Ok (axial_table_of plan) ≡ answer plan Axial
unfolding answer
few_axial plan e = few (has_too_many_lines (scene_of plan)) (axial_table_of plan) e

pub many_axial : (plan : Plan) → has_too_many_lines (scene_of plan) ≡ true → Err LinesReason ≡ answer plan Axial
unfolding answer
many_axial plan e = many (has_too_many_lines (scene_of plan)) (axial_table_of plan) e

pub few_lines : (plan : Plan) → has_too_many_lines (scene_of plan) ≡ false → Ok (lines_table_of plan) ≡ answer plan Lines
unfolding answer
few_lines plan e = few (has_too_many_lines (scene_of plan)) (lines_table_of plan) e

pub many_lines : (plan : Plan) → has_too_many_lines (scene_of plan) ≡ true → Err LinesReason ≡ answer plan Lines
unfolding answer
many_lines plan e = many (has_too_many_lines (scene_of plan)) (lines_table_of plan) e

-- depths: no grid point, one that isn't open, one that is
pub no_point : (plan : Plan) (p : Point) → number_of_point plan.grid p ≡ None → Err NoPoint ≡ answer plan (Depth p)
unfolding answer
no_point plan p e = ap (answer_depth plan p) (sym e)

pub closed_point : (plan : Plan) (p : Point) (source : ℕ) → number_of_point plan.grid p ≡ Some source
    → is_open plan p ≡ false → Err Closed ≡ answer plan (Depth p)
unfolding answer
closed_point plan p source e closed =
    by (is_open plan p) closed ∙ ap (answer_depth plan p) (sym e)
  where
    by : (t : Bool) → t ≡ false → Err Closed ≡ cond t (Ok (depth_table_of plan source)) (Err Closed)
    by t c = rw c refl

pub open_point : (plan : Plan) (p : Point) (source : ℕ) → number_of_point plan.grid p ≡ Some source
    → is_open plan p ≡ true → Ok (depth_table_of plan source) ≡ answer plan (Depth p)
unfolding answer
open_point plan p source e opened =
    by (is_open plan p) opened ∙ ap (answer_depth plan p) (sym e)
  where
    by : (t : Bool) → t ≡ true → Ok (depth_table_of plan source) ≡ cond t (Ok (depth_table_of plan source)) (Err Closed)
    by t o = rw o refl

-- isovists: from out of range, from a point that isn't open, and from one that is
pub far_isovist : (plan : Plan) (p : Point) → is_in_range p ≡ false → Err (EditReason Range) ≡ answer plan (Isovist p)
unfolding answer
far_isovist plan p e = by (is_in_range p) e
  where
    by : (t : Bool) → t ≡ false
        → Err (EditReason Range)
        ≡ cond (not t) (Err (EditReason Range)) (cond (is_open plan p) (Ok (isovist_table_of plan p)) (Err Closed))
    by t o = rw o refl

pub closed_isovist : (plan : Plan) (p : Point) → is_in_range p ≡ true → is_open plan p ≡ false
    → Err Closed ≡ answer plan (Isovist p)
unfolding answer
closed_isovist plan p e closed = by (is_in_range p) (is_open plan p) e closed
  where
    by : (t o : Bool) → t ≡ true → o ≡ false
        → Err Closed ≡ cond (not t) (Err (EditReason Range)) (cond o (Ok (isovist_table_of plan p)) (Err Closed))
    by t o e c = rw (e, c) refl

pub open_isovist : (plan : Plan) (p : Point) → is_in_range p ≡ true → is_open plan p ≡ true
    → Ok (isovist_table_of plan p) ≡ answer plan (Isovist p)
unfolding answer
open_isovist plan p e opened = by (is_in_range p) (is_open plan p) e opened
  where
    by : (t o : Bool) → t ≡ true → o ≡ true
        → Ok (isovist_table_of plan p)
        ≡ cond (not t) (Err (EditReason Range)) (cond o (Ok (isovist_table_of plan p)) (Err Closed))
    by t o e c = rw (e, c) refl

-- turns: no such route, one without pieces, and one with pieces
pub no_route : (plan : Plan) (name : List ℕ) → position (is_route_named name) plan.routes ≡ None
    → Err (EditReason Missing) ≡ answer plan (Turns name)
unfolding answer
no_route plan name e = ap (answer_turns plan) (sym e)

pub no_piece : (plan : Plan) (name : List ℕ) (route : ℕ) → position (is_route_named name) plan.routes ≡ Some route
    → first_piece plan route ≡ None → Err (EditReason Missing) ≡ answer plan (Turns name)
unfolding answer
no_piece plan name route e f = ap (turns_from plan) (sym f) ∙ ap (answer_turns plan) (sym e)

pub some_piece : (plan : Plan) (name : List ℕ) (route source : ℕ)
    → position (is_route_named name) plan.routes ≡ Some route → first_piece plan route ≡ Some source
    → Ok (turns_table_of plan source) ≡ answer plan (Turns name)
unfolding answer
some_piece plan name route source e f = ap (turns_from plan) (sym f) ∙ ap (answer_turns plan) (sym e)

-- what is seen is so from an open point
pub seen_from : (plan : Plan) (p : Point) (seen : IsovistParts) → isovist_of plan p ≡ Some seen
    → (is_open plan p ≡ true) × (seen ≡ isovist_in (scene_of plan) p)
seen_from plan p seen e = by (is_open plan p) e
  where
    by : (t : Bool) → cond t (Some (isovist_in (scene_of plan) p)) None ≡ Some seen
        → (t ≡ true) × (seen ≡ isovist_in (scene_of plan) p)
    by true e = (refl, cc)
    by false e = absurd (cc)

-- ---- the mode of axial lines

pub many_map : (form : Form) (before after : Option (List ℕ)) (plan : Plan) (result : Result Bool ReportFault)
    → has_too_many_lines (scene_of plan) ≡ true
    → Answers form before after (refused_record 0 LinesReason ∷ []) true result
    → Answers form before after (mode_records AxialMap plan) (has_too_many_lines (scene_of plan)) result
unfolding mode_records
many_map form before after plan result e h =
    subst (λ t. Answers form before after
    (cond t (refused_record 0 LinesReason ∷ []) (axial_table_of plan ++ lines_table_of plan)) t result) (sym e) h

pub few_map : (form : Form) (before after : Option (List ℕ)) (plan : Plan) (result : Result Bool ReportFault)
    → has_too_many_lines (scene_of plan) ≡ false → (rows : List (List (List ℕ)))
    → rows ≡ axial_table_of plan ++ lines_table_of plan → Answers form before after rows false result
    → Answers form before after (mode_records AxialMap plan) (has_too_many_lines (scene_of plan)) result
unfolding mode_records
few_map form before after plan result e rows same h =
    subst (λ t. Answers form before after
    (cond t (refused_record 0 LinesReason ∷ []) (axial_table_of plan ++ lines_table_of plan)) t result) (sym e)
    (subst (λ rs. Answers form before after rs false result) same h)
