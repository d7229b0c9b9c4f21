use Rattle.std.proofs.Common.{arith, sym}
use Rattle.std.proofs.lemmas.List.FromFn.{map-range_with_len_more}
use Rattle.vga_grid.specs.Openness.{is_number_open}
use Rattle.vga_grid.proofs.naive.openness.Goals as goal

pub loop-i-preserved : goal.loop-i-preserved
loop-i-preserved c =
    let more = map-range_with_len_more (is_number_open c.args.plan.now) 0 c.loop-i.i c.loop-i.i (omega arith) in
    rw (c.in_ok-push.ensures.items, c.loop-i.invariant, c.is_open_by.ensures, c.place.ensures.place, c.requires) (sym more)
