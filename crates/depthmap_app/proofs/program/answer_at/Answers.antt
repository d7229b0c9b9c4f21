use Rattle.std.proofs.Common.{◌≡◌, ◌∙◌, ◌||◌, ◌<◌, ℕ, List, Option, refl, ap, sym, subst, arith}
use Rattle.depthmap_app.specs.Ends.{EndsOverPlan}
use Rattle.depthmap_app.specs.Lines.{desk}
use Rattle.plan_file.specs.Streams.{faults, streams}
use Rattle.depthmap_app.proofs.OverPlan.{answered, begun, ends-done, replied-in_part, same_counts, too_long, unread}
use Rattle.depthmap_app.proofs.program.answer_at.Goals as goal

pub returns-in-Failed : goal.returns-in-Failed
returns-in-Failed g c = λ before after files.
    let plan = c.args.desk.now.session.plan in
    let left = c.answer_script.new.answerer in
    let n = c.in-Failed.ensures in
    unread c.args.form plan (desk plan c.args.desk.now.form) (desk left.session.plan left.form) before after
    (g.S.Source.left c.args.script.now) (g.S.Source.left c.answer_script.new.script) (g.O.Sink.written c.args.out.now)
    (g.O.Sink.written c.answer_script.new.out) files (g.S.Source.faults c.args.script.now)
    (g.S.Source.faults c.answer_script.new.script) (g.O.Sink.faults c.args.out.now) (g.O.Sink.faults c.answer_script.new.out)
    (ap (desk plan) c.requires.form) n.leaves n.counts.0 c.requires.script_below n.counts.1

pub returns-in-Unwritten : goal.returns-in-Unwritten
returns-in-Unwritten g c = λ before after files.
    let plan = c.args.desk.now.session.plan in
    let n = c.in-Unwritten.ensures in (
      replied-in_part c.args.mode c.args.form plan (desk plan c.args.desk.now.form) before after
          (g.S.Source.left c.args.script.now) (g.S.Source.left c.answer_script.new.script) (g.O.Sink.written c.args.out.now)
          (g.O.Sink.written c.answer_script.new.out)
          (faults files (g.S.Source.faults c.args.script.now) (g.O.Sink.faults c.args.out.now))
          (faults files (g.S.Source.faults c.answer_script.new.script) (g.O.Sink.faults c.answer_script.new.out))
          (ap (desk plan) c.requires.form) n.leaves,
      (refl, n.counts.0, omega (arith, n.counts.1, c.requires.out_below)),
    )

pub returns-in-NoMemory : goal.returns-in-NoMemory
returns-in-NoMemory g c = λ before after files.
    let plan = c.args.desk.now.session.plan in
    let n = c.in-NoMemory.ensures in (
      replied-in_part c.args.mode c.args.form plan (desk plan c.args.desk.now.form) before after
          (g.S.Source.left c.args.script.now) (g.S.Source.left c.answer_script.new.script) (g.O.Sink.written c.args.out.now)
          (g.O.Sink.written c.answer_script.new.out)
          (faults files (g.S.Source.faults c.args.script.now) (g.O.Sink.faults c.args.out.now))
          (faults files (g.S.Source.faults c.answer_script.new.script) (g.O.Sink.faults c.answer_script.new.out))
          (ap (desk plan) c.requires.form) n.leaves,
      same_counts files (g.S.Source.faults c.args.script.now) (g.S.Source.faults c.answer_script.new.script)
          (g.O.Sink.faults c.args.out.now) (g.O.Sink.faults c.answer_script.new.out) n.counts.0 n.counts.1,
    )

pub returns-in-Over : goal.returns-in-Over
returns-in-Over g c = λ before after files.
    let plan = c.args.desk.now.session.plan in
    let left = c.answer_script.new.answerer in
    let n = c.in-Over.ensures in
    too_long c.args.form plan (desk plan c.args.desk.now.form) (desk left.session.plan left.form) before after
    (g.S.Source.left c.args.script.now) (g.S.Source.left c.answer_script.new.script) (g.O.Sink.written c.args.out.now)
    (g.O.Sink.written c.answer_script.new.out) files (g.S.Source.faults c.args.script.now)
    (g.S.Source.faults c.answer_script.new.script) (g.O.Sink.faults c.args.out.now) (g.O.Sink.faults c.answer_script.new.out)
    (ap (desk plan) c.requires.form) n.leaves n.counts.0 n.counts.1

pub returns-in-Ok : goal.returns-in-Ok
returns-in-Ok g c = λ before after files.
    let plan = c.args.desk.now.session.plan in
    let left = c.answer_script.new.answerer in
    let n = c.in-All.ensures in
    let m = c.in-Ok in
    let refused = c.in-All.refused in
    let old = streams before (g.S.Source.left c.args.script.now) (g.O.Sink.written c.args.out.now)
    (faults files (g.S.Source.faults c.args.script.now) (g.O.Sink.faults c.args.out.now)) in
    let new = streams after (g.S.Source.left c.answer_script.new.script) (g.O.Sink.written c.put_mode.new.out)
    (faults files (g.S.Source.faults c.answer_script.new.script) (g.O.Sink.faults c.put_mode.new.out)) in
    let whole =
    answered c.args.mode c.args.form plan (desk plan c.args.desk.now.form) (desk left.session.plan left.form) before after
    (g.S.Source.left c.args.script.now) (g.S.Source.left c.answer_script.new.script) (g.O.Sink.written c.args.out.now)
    (g.O.Sink.written c.answer_script.new.out) (g.O.Sink.written c.put_mode.new.out) files
    (g.S.Source.faults c.args.script.now) (g.S.Source.faults c.answer_script.new.script) (g.O.Sink.faults c.args.out.now)
    (g.O.Sink.faults c.answer_script.new.out) (g.O.Sink.faults c.put_mode.new.out) refused m.mode_refused
    (ap (desk plan) c.requires.form) n.leaves m.ensures.written m.ensures.refused n.counts.0 n.counts.1 m.ensures.faults in
    subst (EndsOverPlan c.args.mode c.args.form plan old new) (sym c.done.ensures)
    (ends-done c.args.mode c.args.form plan old new (refused || m.mode_refused) whole)

pub returns-in-Err-Write : goal.returns-in-Err-Write
returns-in-Err-Write g c = λ before after files.
    let plan = c.args.desk.now.session.plan in
    let left = c.answer_script.new.answerer in
    let n = c.in-All.ensures in
    let m = c.in-Err-Write in
    let rose = rw (m.field-0-is) at m.ensures.faults in (
      begun c.args.mode c.args.form plan (desk plan c.args.desk.now.form) (desk left.session.plan left.form) before after
          (g.S.Source.left c.args.script.now) (g.S.Source.left c.answer_script.new.script) (g.O.Sink.written c.args.out.now)
          (g.O.Sink.written c.answer_script.new.out) (g.O.Sink.written c.put_mode.new.out)
          (faults files (g.S.Source.faults c.args.script.now) (g.O.Sink.faults c.args.out.now))
          (faults files (g.S.Source.faults c.answer_script.new.script) (g.O.Sink.faults c.put_mode.new.out)) c.in-All.refused
          (ap (desk plan) c.requires.form) n.leaves m.ensures.prefix,
      (refl, n.counts.0, omega (arith, rose, n.counts.1, c.requires.out_below)),
    )

pub returns-in-Err-NoMemory : goal.returns-in-Err-NoMemory
returns-in-Err-NoMemory g c = λ before after files.
    let plan = c.args.desk.now.session.plan in
    let left = c.answer_script.new.answerer in
    let n = c.in-All.ensures in
    let m = c.in-Err-NoMemory in
    let stays = rw (m.field-0-is) at m.ensures.faults in (
      begun c.args.mode c.args.form plan (desk plan c.args.desk.now.form) (desk left.session.plan left.form) before after
          (g.S.Source.left c.args.script.now) (g.S.Source.left c.answer_script.new.script) (g.O.Sink.written c.args.out.now)
          (g.O.Sink.written c.answer_script.new.out) (g.O.Sink.written c.put_mode.new.out)
          (faults files (g.S.Source.faults c.args.script.now) (g.O.Sink.faults c.args.out.now))
          (faults files (g.S.Source.faults c.answer_script.new.script) (g.O.Sink.faults c.put_mode.new.out)) c.in-All.refused
          (ap (desk plan) c.requires.form) n.leaves m.ensures.prefix,
      same_counts files (g.S.Source.faults c.args.script.now) (g.S.Source.faults c.answer_script.new.script)
          (g.O.Sink.faults c.args.out.now) (g.O.Sink.faults c.put_mode.new.out) n.counts.0 (stays ∙ n.counts.1),
    )
