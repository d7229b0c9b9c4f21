use Rattle.std.proofs.Common.{◌∙◌, ◌≡◌, ◌∷◌, ◌++◌, [], ap, false, length, List, not, refl, subst, sym, true, ◌<◌, ℕ}
use Rattle.report_spec.specs.Replies.{ok_record}
use Rattle.plan_answers.proofs.Asked.{on_fault}
use Rattle.plan_answers.proofs.Printed.{before_rows, in_rows}
use Rattle.plan_answers.proofs.replies.put_answer.Goals as goal

pub returns-in_err-put_ok-clause-answers : goal.returns-in_err-put_ok-clause-answers
returns-in_err-put_ok-clause-answers g c =
    on_fault c.args.form (g.O.Sink.written c.args.out.now) (g.O.Sink.written c.put_ok.new.out) (ok_record c.args.number ∷ g.T.Table.records c.args.table.now) false c.from_residual.result _ c.from_residual.ensures.1
    (before_rows _ _ c.args.form (ok_record c.args.number) (g.T.Table.records c.args.table.now) c.in_err-put_ok.ensures.prefix)

pub returns-in_err-put-clause-answers : goal.returns-in_err-put-clause-answers
returns-in_err-put-clause-answers g c =
    on_fault c.args.form (g.O.Sink.written c.args.out.now) (g.O.Sink.written c.put.new.out) (ok_record c.args.number ∷ g.T.Table.records c.args.table.now) false c.from_residual-in_err-put.result _ c.from_residual-in_err-put.ensures.1
    (in_rows _ (g.O.Sink.written c.put_ok.new.out) _ c.args.form (ok_record c.args.number) (g.T.Table.records c.args.table.now) c.in_ok-put_ok.ensures.all c.in_err-put.ensures.prefix)
