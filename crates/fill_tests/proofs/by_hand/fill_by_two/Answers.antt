use Rattle.std.proofs.Common.{ap, arith}
use Rattle.vga_fill.specs.Seats.{view_of}
use Rattle.fill_tests.proofs.LastSeats.{last_of_two}
use Rattle.fill_tests.proofs.by_hand.fill_by_two.Goals as goal

pub close-requires-clause-last : goal.close-requires-clause-last
close-requires-clause-last g c =
    let begun = c.begun-fill.ensures in
    let seat = view_of c.begun-fill.result.1 in
    let a = c.finish_all-a.ensures in
    let b = c.finish_all-b.ensures in
    let first = c.claimed-row_of_a.ensures in
    let second = c.claimed-row_of_b.ensures in
    let cut_first = c.split-a.ensures.first.2 in
    let cut_second = c.split-a.ensures.second.2 in
    last_of_two seat (view_of c.finish_all-a.result) (view_of c.finish_all-b.result) _
    (omega (arith, begun.fresh, begun.passes))
    (omega (arith, a.sum, c.finish-2.ensures.more.tellings, c.finish-2.ensures.more.passes, first.tellings, first.passes, ap (λ v. v.tellings) cut_first, ap (λ v. v.passes) cut_first))
    (omega (arith, b.sum, c.finish.ensures.more.tellings, c.finish.ensures.more.passes, second.tellings, second.passes, ap (λ v. v.tellings) cut_second, ap (λ v. v.passes) cut_second))
    a.told c.join_seats-last.ensures.view
