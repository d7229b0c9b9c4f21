use Rattle.std.proofs.Common.{◌∙◌, ◌≡◌, ◌∷◌, ◌++◌, [], ap, false, length, List, not, refl, subst, sym, true, ◌<◌, ℕ}
use Rattle.plan_spec.specs.Plan.{Plan}
use Rattle.graph_spec.specs.Graphs.{measures_of_nodes}
use Rattle.sight_spec.specs.Scene.{scene_of}
use Rattle.sight_spec.specs.Axial.{axial_lines, crossing_graph}
use Rattle.report_spec.specs.Output.{mode_records}
use Rattle.report_spec.specs.Tables.{axial_table, axial_table_of, lines_table, lines_table_of}
use Rattle.plan_answers.proofs.Asked.{few_map, many_map, on_fault}
use Rattle.plan_answers.proofs.Printed.{nothing}
use Rattle.plan_answers.proofs.PlanTables.{two_tables}
use Rattle.plan_answers.proofs.modes.put_axial_map.Goals as goal

pub returns-in_err-find_lines-clause-answers : goal.returns-in_err-find_lines-clause-answers
returns-in_err-find_lines-clause-answers g c =
    on_fault _ _ _ _ _ c.from_residual.result _ c.from_residual.ensures.1 (nothing _ _)

pub returns-then-not-branch-clause-answers : goal.returns-then-not-branch-clause-answers
unfolding mode_records
returns-then-not-branch-clause-answers g c =
    many_map c.args.form (g.O.Sink.written c.args.out.now) (g.O.Sink.written c.put_refusal.new.out) c.args.session.now.plan c.put_refusal.result (c.in_ok-find_lines.ensures.few ∙ ap not c.if-not-branch.true) c.put_refusal.ensures.answers

pub line_measures-requires-after_bounds : goal.line_measures-requires-after_bounds
line_measures-requires-after_bounds g c =
    λ κs b. c.in_ok-find_lines.ensures.kept c.if-not-branch.false

pub returns-in_err-measures-clause-answers : goal.returns-in_err-measures-clause-answers
returns-in_err-measures-clause-answers g c =
    on_fault _ _ _ _ _ c.from_residual-in_err-measures.result _ c.from_residual-in_err-measures.ensures.1 (nothing _ _)

pub lines-requires : goal.lines-requires
lines-requires g c =
    c.in_ok-find_lines.ensures.kept c.if-not-branch.false

pub returns-clause-answers : goal.returns-clause-answers
unfolding mode_records
returns-clause-answers g c =
    few_map c.args.form (g.O.Sink.written c.args.out.now) (g.O.Sink.written c.put_both.new.out) c.args.session.now.plan c.put_both.result (c.in_ok-find_lines.ensures.few ∙ ap not c.if-not-branch.false) _
    (two_tables _ _ _ _ (ap axial_table (c.lines.ensures.lines ∙ ap (λ p. axial_lines (scene_of p)) c.in_ok-find_lines.ensures.plan))
    (ap lines_table (c.deref.ensures.value ∙ c.in_ok-measures.ensures ∙ ap (λ p. measures_of_nodes (crossing_graph (axial_lines (scene_of p)))) c.in_ok-find_lines.ensures.plan)))
    c.put_both.ensures.answers
