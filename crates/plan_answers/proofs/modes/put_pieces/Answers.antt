use Rattle.std.proofs.Common.{◌∙◌, ◌≡◌, ◌∷◌, ◌++◌, [], ap, false, length, List, not, refl, subst, sym, true, ◌<◌, ℕ}
use Rattle.plan_spec.specs.Plan.{Plan}
use Rattle.route_spec.specs.Routes.{neighbour_counts, pieces_of}
use Rattle.report_spec.specs.Output.{mode_records}
use Rattle.plan_answers.proofs.Asked.{on_fault}
use Rattle.plan_answers.proofs.Printed.{nothing}
use Rattle.plan_answers.proofs.PlanTables.{pieces_of_routes, same_rows}
use Rattle.plan_answers.proofs.modes.put_pieces.Goals as goal

pub returns-in_err-pieces-clause-answers : goal.returns-in_err-pieces-clause-answers
returns-in_err-pieces-clause-answers g c =
    on_fault _ _ _ _ _ c.from_residual.result _ c.from_residual.ensures.1 (nothing _ _)

pub returns-in_err-neighbours-clause-answers : goal.returns-in_err-neighbours-clause-answers
returns-in_err-neighbours-clause-answers g c =
    on_fault _ _ _ _ _ c.from_residual-in_err-neighbours.result _ c.from_residual-in_err-neighbours.ensures.1 (nothing _ _)

pub returns-clause-answers : goal.returns-clause-answers
unfolding mode_records
returns-clause-answers g c =
    same_rows c.args.form (g.O.Sink.written c.args.out.now) (g.O.Sink.written c.put_one.new.out) _ _ _ c.put_one.result
    (pieces_of_routes c.args.session.now.plan _ _ _ (ap (λ (p : Plan). p.routes) c.plan-2.ensures)
    (c.deref-2.ensures.value ∙ c.in_ok-pieces.ensures.value ∙ ap pieces_of c.plan.ensures)
    (c.deref-3.ensures.value ∙ c.in_ok-neighbours.ensures
    ∙ ap neighbour_counts (c.deref.ensures.value ∙ sym c.deref-2.ensures.value)))
    c.put_one.ensures.answers
