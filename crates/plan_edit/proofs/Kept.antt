-- What an edit leaves of what is kept.
use Rattle.std.proofs.Common.{Bool, ◌&&◌, ◌||◌, not, ap, ◌≡◌, ◌∙◌, true, false, refl, sym, subst, ℕ, List, Option, Some, None, Result, Ok, Err, IsErrAnd, IfErr, option_map, is_some, length, ◌≤◌}
use Rattle.std.specs.Option.{IfSome}
use Rattle.options_spec.specs.declared.options.TheConstants.{MAX_WORKERS}
use Rattle.plan_spec.specs.declared.edit.Edit.{Edit}
use Rattle.plan_spec.specs.declared.edit.Edit.TheVariants.{Add, Remove, Move, AddScreen, RemoveScreen, AddRoute, RemoveRoute}
use Rattle.plan_spec.specs.declared.limits.TheConstants.{MAX_AXIAL_LINES}
use Rattle.plan_spec.specs.declared.why.Why.{Why}
use Rattle.plan_spec.specs.Plan.{Plan, with_item}
use Rattle.plan_spec.specs.Edits.{plan_after_edit}
use Rattle.sight_spec.specs.Scene.{Scene, scene_of}
use Rattle.sight_spec.specs.Sight.{is_open}
use Rattle.sight_spec.specs.Visibility.{visibility_graph}
use Rattle.sight_spec.specs.Axial.{AxialLine, axial_lines}
use Rattle.plan_check.specs.Faults.{IfRefused}
use Rattle.plan_check.specs.declared.editing.EditFault.{EditFault}
use Rattle.plan_check.specs.declared.editing.EditFault.TheVariants.{Refused, NoMemory as OutOfMemory}
use Rattle.vga_grid.specs.Rows.{Matrix, graph_of}
use Rattle.report_spec.specs.Replies.{has_too_many_lines}
use Rattle.plan_edit.specs.declared.past.Past.{Past}
use Rattle.plan_edit.specs.Sessions.{IsKept, IsPast, Session, has_lines_after, is_of_route, session_after}

-- an edit of a route keeps the scene
pub same_scene : (plan : Plan) (edit : Edit) → is_of_route edit ≡ true
    → scene_of (plan_after_edit plan edit) ≡ scene_of plan
unfolding plan_after_edit with_item
same_scene plan (AddRoute name from to) h = refl
same_scene plan (RemoveRoute name) h = refl
same_scene plan (Add name points) h = cc
same_scene plan (Remove name) h = cc
same_scene plan (Move name dx dy) h = cc
same_scene plan (AddScreen name from to) h = cc
same_scene plan (RemoveScreen name) h = cc

-- and the visibility graph
pub same_graph : (plan : Plan) (edit : Edit) → is_of_route edit ≡ true
    → visibility_graph (plan_after_edit plan edit) ≡ visibility_graph plan
unfolding plan_after_edit with_item is_open
same_graph plan (AddRoute name from to) h = refl
same_graph plan (RemoveRoute name) h = refl
same_graph plan (Add name points) h = cc
same_graph plan (Remove name) h = cc
same_graph plan (Move name dx dy) h = cc
same_graph plan (AddScreen name from to) h = cc
same_graph plan (RemoveScreen name) h = cc

-- so all that is kept stays
pub kept_over_route : (plan after : Plan) (edit : Edit) (scene : Scene) (graph : Option Matrix) (past : Option Past)
    (lines : Option (List AxialLine)) (workers : ℕ) → after ≡ plan_after_edit plan edit → is_of_route edit ≡ true
    → IsKept plan scene graph past lines workers → IsKept after scene graph None lines workers
kept_over_route plan after edit scene graph past lines workers is route k =
    subst (λ p. IsKept p scene graph None lines workers) (sym is) (
    record {
      scene_is = k.scene_is ∙ sym (same_scene plan edit route);
      graph_is = subst (λ v. IfSome graph (λ g. graph_of g ≡ v)) (sym (same_graph plan edit route)) k.graph_is;
      past_is = tt;
      lines_are = subst (λ s. IfSome lines (λ ls. ls ≡ axial_lines s)) (sym (same_scene plan edit route)) k.lines_are;
      at_most = k.at_most;
      some_workers = k.some_workers;
      few_workers = k.few_workers;
    })

and_true : (t : Bool) → t ≡ (t && true)
and_true true = refl
and_true false = refl

-- the session after it
pub session_over_route : (old : Session) (edit : Edit) (plan : Plan) → is_of_route edit ≡ true
    → plan ≡ plan_after_edit old.plan edit
    → record { plan = plan; workers = old.workers; keeps_graph = old.keeps_graph; keeps_lines = old.keeps_lines }
    ≡ session_after old edit
session_over_route old edit plan route makes =
    ap (λ p. session p old.keeps_graph old.keeps_lines) makes
    ∙ ap (λ t. session (plan_after_edit old.plan edit) t old.keeps_lines)
    (and_true old.keeps_graph ∙ ap (λ t. old.keeps_graph && t) (sym route))
    ∙ ap (session (plan_after_edit old.plan edit) (old.keeps_graph && is_of_route edit)) (and_true old.keeps_lines
    ∙ ap (λ t. old.keeps_lines && (t || has_lines_after old.plan edit)) (sym route))
  where
    session : Plan → Bool → Bool → Session
    session p g l = record { plan = p; workers = old.workers; keeps_graph = g; keeps_lines = l }

-- ---- any other edit

-- what is in an option of containers
in_each : {V X : Type 0} (items : V → X) (P : X → Type 0) (found : Option V) → IfSome found (λ v. P (items v))
    → IfSome (option_map items found) P
in_each items P None h = h
in_each items P (Some v) h = h

-- a new scene, lines that are its own, no graph, and what there is from before the edit
pub kept_anew : {V : Type 0} (items : V → List AxialLine) (plan : Plan) (scene : Scene) (graph : Option Matrix)
    (past : Option Past) (found : Option V) (workers : ℕ) → graph ≡ None → scene ≡ scene_of plan
    → IfSome past (IsPast plan) → IfSome found (λ v. items v ≡ axial_lines scene)
    → IfSome found (λ v. length (items v) ≤ MAX_AXIAL_LINES) → 1 ≤ workers → workers ≤ MAX_WORKERS
    → IsKept plan scene graph past (option_map items found) workers
kept_anew items plan scene graph past found workers none is before lines few some_workers few_workers =
    subst (λ g. IsKept plan scene g past (option_map items found) workers) (sym none) (
    record {
      scene_is = is;
      graph_is = tt;
      past_is = before;
      lines_are = in_each items (λ ls. ls ≡ axial_lines (scene_of plan)) found
          (subst (λ s. IfSome found (λ v. items v ≡ axial_lines s)) is lines);
      at_most = in_each items (λ ls. length ls ≤ MAX_AXIAL_LINES) found few;
      some_workers = some_workers;
      few_workers = few_workers;
    })

and_false : (t : Bool) → false ≡ (t && false)
and_false true = refl
and_false false = refl

-- the session after it
pub session_changed : (old : Session) (edit : Edit) (plan : Plan) (scene : Scene) (graph : Option Matrix) (found : Bool)
    → is_of_route edit ≡ false → plan ≡ plan_after_edit old.plan edit → scene ≡ scene_of plan → graph ≡ None
    → found ≡ (old.keeps_lines && not (has_too_many_lines scene))
    → record { plan = plan; workers = old.workers; keeps_graph = is_some graph; keeps_lines = found }
    ≡ session_after old edit
session_changed old edit plan scene graph found route makes is none few =
    ap (λ p. session p (is_some graph) found) makes
    ∙ ap (λ g. session after (is_some g) found) none
    ∙ ap (λ t. session after t found) (and_false old.keeps_graph ∙ ap (λ t. old.keeps_graph && t) (sym route))
    ∙ ap (λ t. session after (old.keeps_graph && is_of_route edit) t) (
    few
    ∙ ap (λ s. old.keeps_lines && not (has_too_many_lines s)) (is ∙ ap scene_of makes)
    ∙ ap (λ t. old.keeps_lines && (t || has_lines_after old.plan edit)) (sym route))
  where
    after : Plan
    after = plan_after_edit old.plan edit

    session : Plan → Bool → Bool → Session
    session p g l = record { plan = p; workers = old.workers; keeps_graph = g; keeps_lines = l }

-- ---- refusals

-- out of memory is no refusal
pub no_refusal : {T : Type 0} (result : Result T EditFault) (P : Why → Type 0) → IsErrAnd result (λ fault. fault ≡ OutOfMemory)
    → IfErr result (λ fault. IfRefused fault P)
no_refusal (Ok v) P e = absurd e
no_refusal (Err (Refused why)) P e = absurd cc
no_refusal (Err OutOfMemory) P e = tt
