use Rattle.std.proofs.Common.{inr, sym, subst}
use Rattle.walk_app.specs.Ends.{EndsOverPlan, streams_of}
use Rattle.walk_app.proofs.OverPlan.{not_refused, read_stays}
use Rattle.walk_app.proofs.program.walk_over_file.Goals as goal

pub returns-in-Ok-clause-ends : goal.returns-in-Ok-clause-ends
returns-in-Ok-clause-ends g c =
    let left = g.F.Source.left in
    let count = g.F.Source.faults in
    let old_files = c.args.files.now in
    let new_files = c.plan_in_file.new.files in
    let held = c.in-Ok.ensures in
    let stays = read_stays c.in-Ok.plan (count old_files) (count new_files) held.faults_stay in
    let over = c.walk_over.ensures (left old_files) (left new_files) (count old_files) in
    inr (
      c.in-Ok.plan,
      held.takes,
      subst (λ f. EndsOverPlan c.in-Ok.plan c.args.spec.now
          (streams_of (left old_files) (g.O.Sink.written c.args.out.now) (count old_files) (g.O.Sink.faults c.args.out.now))
          (streams_of (left new_files) (g.O.Sink.written c.walk_over.new.out) f (g.O.Sink.faults c.walk_over.new.out))
          c.walk_over.result)
          (sym stays) over,
    )

pub returns-in-Ok-clause-why : goal.returns-in-Ok-clause-why
returns-in-Ok-clause-why g c = λ bad.
    let left = g.F.Source.left in
    let old_files = c.args.files.now in
    let new_files = c.plan_in_file.new.files in
    absurd (not_refused c.in-Ok.plan c.args.spec.now
    (streams_of (left old_files) (g.O.Sink.written c.args.out.now) 0 (g.O.Sink.faults c.args.out.now))
    (streams_of (left new_files) (g.O.Sink.written c.walk_over.new.out) 0 (g.O.Sink.faults c.walk_over.new.out))
    c.walk_over.result (c.walk_over.ensures (left old_files) (left new_files) 0) bad)
