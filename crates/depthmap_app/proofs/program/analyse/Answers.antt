use Rattle.std.proofs.Common.{◌≡◌, ◌⊎◌, inl, inr, refl, ap, sym, subst, ◌∙◌}
use Rattle.depthmap_app.specs.Ends.{EndsOverPlan}
use Rattle.plan_file.specs.Streams.{faults, streams}
use Rattle.depthmap_app.specs.declared.status.Status.TheVariants.{BadPlan}
use Rattle.depthmap_app.proofs.program.analyse.Goals as goal

pub returns-in-Ok-clause-ends : goal.returns-in-Ok-clause-ends
returns-in-Ok-clause-ends g c =
    let left = g.F.Source.left in
    let count = g.F.Source.faults in
    let old_files = c.args.files.now in
    let new_files = c.plan_in_file.new.files in
    let held = c.in-Ok.ensures in
    let stays : count new_files ≡ count old_files =
    elim held.faults_stay [ inl e ↦ absurd cc | inr same ↦ same ] in
    let over = c.answer_over.ensures (left old_files) (left new_files) (count old_files) in
    inr (
      c.in-Ok.plan,
      held.takes,
      subst (λ f. EndsOverPlan c.args.mode c.args.form c.in-Ok.plan
          (streams (left old_files) (g.S.Source.left c.args.script.now) (g.O.Sink.written c.args.out.now)
          (faults (count old_files) (g.S.Source.faults c.args.script.now) (g.O.Sink.faults c.args.out.now)))
          (streams (left new_files) (g.S.Source.left c.answer_over.new.script) (g.O.Sink.written c.answer_over.new.out)
          (faults f (g.S.Source.faults c.answer_over.new.script) (g.O.Sink.faults c.answer_over.new.out))) c.answer_over.result)
          (sym stays) over,
    )

pub returns-in-Ok-clause-why : goal.returns-in-Ok-clause-why
returns-in-Ok-clause-why g c = λ bad.
    let over = c.answer_over.ensures (g.F.Source.left c.args.files.now) (g.F.Source.left c.plan_in_file.new.files) 0 in
    absurd (subst (EndsOverPlan c.args.mode c.args.form c.in-Ok.plan _ _) bad over)
