use Rattle.std.proofs.Common.{◌∙◌, ap, subst}
use Rattle.std.proofs.lemmas.Result.{on_err_weaker, on_ok_weaker}
use Rattle.dm_io.specs.Streams.{WritesPrefix, appended_to}
use Rattle.report_spec.specs.Output.{trial_output}
use Rattle.report_spec.specs.Trial.{trial_plan, trial_record_of}
use Rattle.report_spec.specs.Records.{record_bytes}
use Rattle.plan_answers.proofs.Printed.{nothing, one_record, on_err-always}
use Rattle.plan_answers.proofs.trials.put_trial_of.Goals as goal

pub returns-in_err-found-clause-prefix : goal.returns-in_err-found-clause-prefix
returns-in_err-found-clause-prefix g c = on_err-always c.from_residual.result (nothing _ _)

pub returns-clause-all : goal.returns-clause-all
unfolding trial_output
returns-clause-all g c =
    on_ok_weaker c.put_trial.result
    (λ all. all ∙ ap (λ row. appended_to (g.O.Sink.written c.args.out.now) (record_bytes c.args.form row)) c.in_ok-found.ensures
    ∙ ap (appended_to (g.O.Sink.written c.args.out.now)) (one_record c.args.form (trial_record_of c.args.boxes (trial_plan c.args.boxes))))
    c.put_trial.ensures.all

pub returns-clause-prefix : goal.returns-clause-prefix
unfolding trial_output
returns-clause-prefix g c =
    on_err_weaker c.put_trial.result
    (λ begun. subst (WritesPrefix (g.O.Sink.written c.args.out.now) (g.O.Sink.written c.put_trial.new.out)) (one_record c.args.form (trial_record_of c.args.boxes (trial_plan c.args.boxes)))
    (subst (λ row. WritesPrefix (g.O.Sink.written c.args.out.now) (g.O.Sink.written c.put_trial.new.out) (record_bytes c.args.form row))
    c.in_ok-found.ensures begun))
    c.put_trial.ensures.prefix
