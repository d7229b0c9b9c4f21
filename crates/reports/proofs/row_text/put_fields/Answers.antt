use Rattle.std.proofs.Common.{◌∙◌, ◌<◌, ◌≤◌, length, sym, arith}
use Rattle.reports.proofs.JoinedFields.{all_put, first_put, next_put}
use Rattle.reports.proofs.row_text.put_fields.Goals as goal

pub loop-k-init : goal.loop-k-init
loop-k-init c =
    let some : 0 < length c.args.row.now = omega (arith, c.len-count.ensures.count, c.if-count-eq0.false) in
    rw (c.in_ok-extend_from_slice.ensures.items, c.field.ensures) (first_put c.args.text.now.items c.args.row.now some)

pub loop-k-preserved : goal.loop-k-preserved
loop-k-preserved c =
    let below : c.loop-k.k < length c.args.row.now = omega (arith, c.len-count.ensures.count, c.loop-k-test.true) in
    rw (c.in_ok-extend_from_slice-2.ensures.items, c.in_ok-push.ensures.items, c.field-in-loop-k.ensures)
    (next_put c.loop-k.text.items c.args.row.now c.loop-k.k below ∙ c.loop-k.invariant)

pub returns : goal.returns
returns c =
    let all : length c.args.row.now ≤ c.loop-k.k = omega (arith, c.len-count.ensures.count, c.loop-k-test.false) in
    sym (all_put c.loop-k.text.items c.args.row.now c.loop-k.k all) ∙ c.loop-k.invariant
