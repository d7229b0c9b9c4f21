use Rattle.std.proofs.Common.{◌∙◌, ◌≡◌, ◌∷◌, ◌++◌, [], ap, false, length, List, not, refl, subst, sym, true, ◌<◌, ℕ}
use Rattle.plan_spec.specs.Plan.{Plan}
use Rattle.sight_spec.specs.Scene.{scene_of}
use Rattle.report_spec.specs.Output.{mode_records}
use Rattle.dm_io.specs.Streams.{WritesPrefix, appended_to}
use Rattle.report_spec.specs.Records.{records_bytes}
use Rattle.report_spec.specs.Tables.{isovists_table_of}
use Rattle.plan_answers.proofs.Asked.{on_fault}
use Rattle.plan_answers.proofs.modes.put_all_isovists.Goals as goal

pub put_isovists-requires : goal.put_isovists-requires
put_isovists-requires g c =
    record { seen = c.scene.ensures ∙ ap scene_of (sym c.plan.ensures) }

pub returns-in_err-put_isovists-clause-answers : goal.returns-in_err-put_isovists-clause-answers
unfolding mode_records
returns-in_err-put_isovists-clause-answers g c =
    on_fault c.args.form (g.O.Sink.written c.args.out.now) (g.O.Sink.written c.put_isovists.new.out) (isovists_table_of c.args.session.now.plan) false c.from_residual.result _ c.from_residual.ensures.1
    (subst (λ p. WritesPrefix (g.O.Sink.written c.args.out.now) (g.O.Sink.written c.put_isovists.new.out) (records_bytes c.args.form (isovists_table_of p))) c.plan.ensures
    c.in_err-put_isovists.ensures.prefix)

pub returns-clause-answers : goal.returns-clause-answers
unfolding mode_records
returns-clause-answers g c =
    (c.in_ok-put_isovists.ensures.all ∙ ap (λ p. appended_to (g.O.Sink.written c.args.out.now) (records_bytes c.args.form (isovists_table_of p))) c.plan.ensures, refl)
