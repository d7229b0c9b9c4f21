use Rattle.std.proofs.Common.{◌==◌, ◌∙◌, ◌≡◌, ◌∷◌, ◌++◌, [], ap, false, length, List, not, refl, subst, sym, true, ◌<◌, ℕ}
use Rattle.std.specs.List.{position}
use Rattle.plan_spec.specs.Plan.{Plan, is_route_named}
use Rattle.route_spec.specs.Routes.{ArePiecesOfPlan, Piece, pieces_of}
use Rattle.plan_spec.specs.declared.why.Why.TheVariants.{Missing}
use Rattle.grammar_spec.specs.declared.script_line.Query.TheVariants.{Turns}
use Rattle.report_spec.specs.declared.reason.Reason.TheVariants.{Edit as EditReason}
use Rattle.report_spec.specs.Replies.{answer}
use Rattle.report_spec.specs.Tables.{turns_table, turns_table_of}
use Rattle.plan_answers.proofs.Asked.{answered, no_piece, no_route, on_fault, refused, some_piece}
use Rattle.plan_answers.proofs.Printed.{nothing}
use Rattle.plan_answers.proofs.PlanTables.{few_turns, turns_of_pieces}
use Rattle.plan_answers.proofs.questions.answer_turns.Goals as goal

pub returns-in_default-clause-answers : goal.returns-in_default-clause-answers
returns-in_default-clause-answers g c =
    refused c.args.form (g.O.Sink.written c.args.out.now) (g.O.Sink.written c.put_refusal.new.out) c.args.session.now.plan c.args.number c.put_refusal.result (answer c.args.session.now.plan (Turns c.args.name.now)) (EditReason Missing) (no_route c.args.session.now.plan c.args.name.now (ap (λ (q : Plan). position (is_route_named c.args.name.now) q.routes) (sym c.plan.ensures) ∙ sym c.route_named.ensures ∙ c.in_default.is))
    c.put_refusal.ensures.answers

pub returns-in_err-pieces-clause-answers : goal.returns-in_err-pieces-clause-answers
returns-in_err-pieces-clause-answers g c =
    on_fault _ _ _ _ _ c.from_residual.result _ c.from_residual.ensures.1 (nothing _ _)

pub returns-in_default-first_piece-clause-answers : goal.returns-in_default-first_piece-clause-answers
returns-in_default-first_piece-clause-answers g c =
    refused c.args.form (g.O.Sink.written c.args.out.now) (g.O.Sink.written c.put_refusal-in_default-first_piece.new.out) c.args.session.now.plan c.args.number c.put_refusal-in_default-first_piece.result (answer c.args.session.now.plan (Turns c.args.name.now)) (EditReason Missing) (no_piece c.args.session.now.plan c.args.name.now c.in-Some.route (ap (λ (q : Plan). position (is_route_named c.args.name.now) q.routes) (sym c.plan.ensures) ∙ sym c.route_named.ensures ∙ c.in-Some.is)
    (ap (λ ps. position (λ (piece : Piece). piece.route == c.in-Some.route) ps)
    (sym (c.deref.ensures.value ∙ c.in_ok-pieces.ensures.value ∙ ap pieces_of c.plan-2.ensures))
    ∙ sym c.first_piece.ensures.first ∙ c.in_default-first_piece.is))
    c.put_refusal-in_default-first_piece.ensures.answers

pub turn_depths-requires-clause-source : goal.turn_depths-requires-clause-source
turn_depths-requires-clause-source g c =
    subst (λ (ps : List Piece). c.in-Some-first_piece.source < length ps) (c.deref.ensures.value ∙ sym c.deref-2.ensures.value)
    c.in-Some-first_piece.ensures.below

pub returns-in_err-depths-clause-answers : goal.returns-in_err-depths-clause-answers
returns-in_err-depths-clause-answers g c =
    on_fault _ _ _ _ _ c.from_residual-in_err-depths.result _ c.from_residual-in_err-depths.ensures.1 (nothing _ _)

pub invariant_of-table : goal.invariant_of-table
invariant_of-table g c =
    record {
      few = few_turns c.deref-2.result.now c.deref-3.result.now c.in-Some-first_piece.source
          (subst ArePiecesOfPlan (sym c.deref-2.ensures.value) c.in_ok-pieces.ensures.of_plan)
          (c.deref-3.ensures.value ∙ c.in_ok-depths.ensures);
    }

pub returns-clause-answers : goal.returns-clause-answers
returns-clause-answers g c =
    answered c.args.form (g.O.Sink.written c.args.out.now) (g.O.Sink.written c.put_answer.new.out) c.args.session.now.plan c.args.number c.put_answer.result (answer c.args.session.now.plan (Turns c.args.name.now)) (turns_table c.deref-3.result.now) (turns_table_of c.args.session.now.plan c.in-Some-first_piece.source)
    (turns_of_pieces c.args.session.now.plan _ _ c.in-Some-first_piece.source
    (c.deref-2.ensures.value ∙ c.in_ok-pieces.ensures.value ∙ ap pieces_of c.plan-2.ensures)
    (c.deref-3.ensures.value ∙ c.in_ok-depths.ensures))
    (some_piece c.args.session.now.plan c.args.name.now c.in-Some.route c.in-Some-first_piece.source (ap (λ (q : Plan). position (is_route_named c.args.name.now) q.routes) (sym c.plan.ensures) ∙ sym c.route_named.ensures ∙ c.in-Some.is)
    (ap (λ ps. position (λ (piece : Piece). piece.route == c.in-Some.route) ps)
    (sym (c.deref.ensures.value ∙ c.in_ok-pieces.ensures.value ∙ ap pieces_of c.plan-2.ensures))
    ∙ sym c.first_piece.ensures.first ∙ c.in-Some-first_piece.is))
    c.put_answer.ensures.answers
