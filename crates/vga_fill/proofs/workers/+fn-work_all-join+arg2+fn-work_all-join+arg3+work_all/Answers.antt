use Rattle.std.specs.Prelude.{IfOk}
use Rattle.std.proofs.Common.{subst}
use Rattle.vga_fill.specs.Workers.{HasFilled}
use Rattle.vga_fill.proofs.Working.{both_filled}
use Rattle.vga_fill.proofs.workers.+fn-work_all-join+arg2+fn-work_all-join+arg3+work_all.Goals as goal

pub join_seats-requires-clause-first : goal.join_seats-requires-clause-first
join_seats-requires-clause-first g t c =
    let fill = c.args.fill.now in
    let filled = subst (λ r. IfOk r (HasFilled fill c.split-left.result.0)) c.in_ok-left.was c.join-left.ensures.first in
    (filled.of, filled.free)

pub join_seats-requires-clause-second : goal.join_seats-requires-clause-second
join_seats-requires-clause-second g t c =
    let fill = c.args.fill.now in
    let filled = subst (λ r. IfOk r (HasFilled fill c.split-left.result.1)) c.in_ok-right.was c.join-left.ensures.second in
    (filled.of, filled.free)

pub returns : goal.returns
returns g t c =
    let fill = c.args.fill.now in
    let first = subst (λ r. IfOk r (HasFilled fill c.split-left.result.0)) c.in_ok-left.was c.join-left.ensures.first in
    let second = subst (λ r. IfOk r (HasFilled fill c.split-left.result.1)) c.in_ok-right.was c.join-left.ensures.second in
    both_filled fill c.args.seat c.split-left.result.0 c.split-left.result.1 c.in_ok-left.left c.in_ok-right.right c.join_seats.result
    c.split-left.ensures.first.2 c.split-left.ensures.second.2 first second c.join_seats.ensures.of c.join_seats.ensures.row c.join_seats.ensures.view
