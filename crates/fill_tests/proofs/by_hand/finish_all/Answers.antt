use Rattle.std.proofs.Common.{ap, ◌∙◌}
use Rattle.vga_fill.specs.Seats.{view_of}
use Rattle.vga_fill.proofs.Working.{next_row, next_row_below, nearer}
use Rattle.fill_tests.proofs.by_hand.finish_all.Goals as goal

pub claims-smaller : goal.claims-smaller
claims-smaller g c =
    let row = c.in-Row.row in
    let claimed = c.in-Row.ensures.row in
    let rows = c.finish.ensures.more.rows ∙ ap (λ v. v.rows) claimed.2 in
    let before = next_row_below (view_of c.claims.seat).rows row c.in-Row.ensures.above in
    nearer c.args.fill.now.count (next_row (view_of c.finish.new.seat).rows) (next_row (view_of c.claims.seat).rows) row (ap next_row rows) before claimed.0
