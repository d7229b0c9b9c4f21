use Rattle.std.proofs.Common.{ap, refl}
use Rattle.plan_edit.specs.Sessions.{Session}
use Rattle.plan_file.specs.Streams.{faults, streams}
use Rattle.depthmap_app.proofs.OverPlan.{nothing-answered, same_plan}
use Rattle.depthmap_app.proofs.program.answer_over.Goals as goal

pub returns-in_default : goal.returns-in_default
returns-in_default g c = λ before after files.
    let counts = faults files (g.S.Source.faults c.args.script.now) (g.O.Sink.faults c.args.out.now) in (
      nothing-answered c.args.mode c.args.form c.args.plan before after (g.S.Source.left c.args.script.now)
          (g.O.Sink.written c.args.out.now) counts counts,
      refl,
    )

pub returns : goal.returns
returns g c = λ before after files.
    same_plan c.args.mode c.args.form c.args.plan c.in-Ok.session.plan
    (streams before (g.S.Source.left c.args.script.now) (g.O.Sink.written c.args.out.now)
    (faults files (g.S.Source.faults c.args.script.now) (g.O.Sink.faults c.args.out.now)))
    (streams after (g.S.Source.left c.answer_at.new.script) (g.O.Sink.written c.answer_at.new.out)
    (faults files (g.S.Source.faults c.answer_at.new.script) (g.O.Sink.faults c.answer_at.new.out)))
    c.answer_at.result (ap (λ (s : Session). s.plan) c.in-Ok.ensures) (c.answer_at.ensures before after files)
