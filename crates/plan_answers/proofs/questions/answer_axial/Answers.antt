use Rattle.std.proofs.Common.{◌∙◌, ◌≡◌, ◌∷◌, ◌++◌, [], ap, false, length, List, not, refl, subst, sym, true, ◌<◌, ℕ}
use Rattle.plan_spec.specs.Plan.{Plan}
use Rattle.sight_spec.specs.Scene.{scene_of}
use Rattle.sight_spec.specs.Axial.{axial_lines, crossing_graph}
use Rattle.grammar_spec.specs.declared.script_line.Query.TheVariants.{Axial}
use Rattle.report_spec.specs.declared.reason.Reason.TheVariants.{Lines as LinesReason}
use Rattle.report_spec.specs.Replies.{answer}
use Rattle.report_spec.specs.Tables.{axial_table, axial_table_of}
use Rattle.plan_answers.proofs.Asked.{answered, few_axial, many_axial, on_fault, refused}
use Rattle.plan_answers.proofs.Printed.{nothing}
use Rattle.plan_answers.proofs.questions.answer_axial.Goals as goal

pub returns-in_err-find_lines-clause-answers : goal.returns-in_err-find_lines-clause-answers
returns-in_err-find_lines-clause-answers g c =
    on_fault _ _ _ _ _ c.from_residual.result _ c.from_residual.ensures.1 (nothing _ _)

pub returns-then-not-branch-clause-answers : goal.returns-then-not-branch-clause-answers
returns-then-not-branch-clause-answers g c =
    refused c.args.form (g.O.Sink.written c.args.out.now) (g.O.Sink.written c.put_refusal.new.out) c.args.session.now.plan c.args.number c.put_refusal.result (answer c.args.session.now.plan Axial) LinesReason (many_axial c.args.session.now.plan (c.in_ok-find_lines.ensures.few ∙ ap not c.if-not-branch.true))
    c.put_refusal.ensures.answers

pub lines-requires : goal.lines-requires
lines-requires g c =
    c.in_ok-find_lines.ensures.kept c.if-not-branch.false

pub returns-clause-answers : goal.returns-clause-answers
returns-clause-answers g c =
    answered c.args.form (g.O.Sink.written c.args.out.now) (g.O.Sink.written c.put_answer.new.out) c.args.session.now.plan c.args.number c.put_answer.result (answer c.args.session.now.plan Axial) (axial_table c.lines.result.now) (axial_table_of c.args.session.now.plan)
    (ap axial_table (c.lines.ensures.lines ∙ ap (λ p. axial_lines (scene_of p)) c.in_ok-find_lines.ensures.plan))
    (few_axial c.args.session.now.plan (c.in_ok-find_lines.ensures.few ∙ ap not c.if-not-branch.false))
    c.put_answer.ensures.answers
