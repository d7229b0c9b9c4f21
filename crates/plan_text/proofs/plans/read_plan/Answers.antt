use Rattle.std.proofs.Common.{rules, ◌≡◌, ◌∷◌, ◌<◌, length}
use Rattle.text_spec.specs.Lines.{lines_of}
use Rattle.plan_text.proofs.PlanRead.{nothing_read, line_read, line_refused, no_header, ended}
use Rattle.plan_text.proofs.plans.read_plan.Goals as goal

pub lines-init : goal.lines-init
lines-init c = rw (c.new.ensures, c.new-2.ensures) (nothing_read c.args.bytes.now)

pub returns-in-Err : goal.returns-in-Err
returns-in-Err c =
    let next : lines_of c.lines.rest.now ≡ c.in-Some.line.now ∷ lines_of c.in-Some.more.now = search rules in
    rw c.fault_at.ensures (line_refused c.args.bytes.now c.lines.draft c.lines.number c.lines.rest.now c.in-Some.line.now c.in-Some.more.now c.in-Err.fault c.lines.invariant next c.in-Err.ensures)

pub lines-preserved : goal.lines-preserved
lines-preserved c =
    let next : lines_of c.lines.rest.now ≡ c.in-Some.line.now ∷ lines_of c.in-Some.more.now = search rules in
    let shorter : length c.in-Some.more.now < length c.lines.rest.now = search rules in
    rw c.in_ok-take_line-in-Ok.ensures (line_read c.args.bytes.now c.lines.draft c.lines.number c.lines.rest.now c.in-Some.line.now c.in-Some.more.now c.in-Ok.found c.lines.invariant next shorter c.in-Ok.ensures)

pub returns-then-is_none : goal.returns-then-is_none
returns-then-is_none c = no_header c.args.bytes.now c.lines.draft c.lines.number c.lines.rest.now c.lines.invariant (search rules) (search rules)

pub returns : goal.returns
returns c = ended c.args.bytes.now c.lines.draft c.lines.number c.lines.rest.now _ c.lines.invariant (search rules) (search rules) (search rules)
