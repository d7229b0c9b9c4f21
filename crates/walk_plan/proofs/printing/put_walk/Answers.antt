use Rattle.std.proofs.Common.{◌≡◌, ◌<◌, inl, inr, ℕ, List, length, ap, sym, subst, ◌∙◌, arith}
use Rattle.dm_io.specs.Streams.{WritesPrefix, appended_to}
use Rattle.options_spec.specs.declared.options.Form.TheVariants.{Text}
use Rattle.plane_spec.specs.declared.Point.{Point}
use Rattle.report_spec.specs.Records.{records_bytes}
use Rattle.sight_spec.specs.Visibility.{open_points}
use Rattle.walk_table.specs.VisitTables.{visits_table}
use Rattle.walk_plan.specs.PlanWalks.{walk_bytes}
use Rattle.walk_plan.proofs.Bytes.{bytes_are}
use Rattle.walk_plan.proofs.printing.put_walk.Goals as goal

pub returns-in-Ok-put_visits : goal.returns-in-Ok-put_visits
returns-in-Ok-put_visits g c =
    let bytes = bytes_are c.args.plan.now c.args.spec.now c.deref-2.result.now c.deref-3.result.now
    (c.deref-2.ensures.value ∙ c.in-Ok.ensures.points) (c.deref-3.ensures.value ∙ c.in-Ok-plan_visits.ensures.visits) in
    let points = ap length c.in-Ok.ensures.points in
    let filled : 0 < length c.in-Ok.open.items = grind (arith, c.if-is_empty.false, c.is_empty.ensures, c.in-Ok.open.ok) in (
      omega (arith, points, filled),
      c.in-Ok-put_visits.ensures.all ∙ ap (appended_to (g.O.Sink.written c.args.out.now)) bytes,
      c.in-Ok-put_visits.ensures.faults,
    )

pub returns-in-Err-Write : goal.returns-in-Err-Write
returns-in-Err-Write g c =
    let bytes = bytes_are c.args.plan.now c.args.spec.now c.deref-2.result.now c.deref-3.result.now
    (c.deref-2.ensures.value ∙ c.in-Ok.ensures.points) (c.deref-3.ensures.value ∙ c.in-Ok-plan_visits.ensures.visits) in
    let points = ap length c.in-Ok.ensures.points in
    let filled : 0 < length c.in-Ok.open.items = grind (arith, c.if-is_empty.false, c.is_empty.ensures, c.in-Ok.open.ok) in (
      omega (arith, points, filled),
      subst (WritesPrefix (g.O.Sink.written c.args.out.now) (g.O.Sink.written c.put_visits.new.out)) bytes c.in-Err-Write.ensures.prefix,
      rw (c.in-Err-Write.field-0-is) at c.in-Err-Write.ensures.faults,
    )

pub returns : goal.returns
returns g c =
    let bytes = bytes_are c.args.plan.now c.args.spec.now c.deref-2.result.now c.deref-3.result.now
    (c.deref-2.ensures.value ∙ c.in-Ok.ensures.points) (c.deref-3.ensures.value ∙ c.in-Ok-plan_visits.ensures.visits) in
    let points = ap length c.in-Ok.ensures.points in
    let filled : 0 < length c.in-Ok.open.items = grind (arith, c.if-is_empty.false, c.is_empty.ensures, c.in-Ok.open.ok) in (
      inr (
        omega (arith, points, filled),
        subst (WritesPrefix (g.O.Sink.written c.args.out.now) (g.O.Sink.written c.put_visits.new.out)) bytes c.in-Err-NoMemory.ensures.prefix,
      ),
      rw (c.in-Err-NoMemory.field-0-is) at c.in-Err-NoMemory.ensures.faults,
    )
