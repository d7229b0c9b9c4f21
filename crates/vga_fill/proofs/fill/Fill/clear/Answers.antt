use Rattle.std.proofs.Common.{sym, subst, ◌∙◌, refl, ap, ◌-◌, ◌^◌}
use Rattle.atomic_table.specs.Table.{keeps}
use Rattle.vga_fill.specs.Views.{with_zeros}
use Rattle.vga_fill.specs.DoneRows.{KeepsRows}
use Rattle.vga_fill.proofs.Calls.{keeps_more, zeros_go, clear_allows}
use Rattle.vga_fill.proofs.fill.Fill.clear.Goals as goal

pub fetch_and-requires : goal.fetch_and-requires
fetch_and-requires c =
    let fill = c.args.self.now in
    let seat = c.args.seat.now.seat in (
      c.requires.of.table,
      rw fill.words c.word_at-word.ensures.within,
      λ s holds homes at fits. (
        with_zeros seat.me.0 c.word_at-word.result (2 ^ 64 - 1 - c.mask_of.result),
        keeps,
        tt,
        clear_allows fill.table.shared.key fill.count seat.id seat.me.0 c.args.i c.args.j c.word_at-word.result (2 ^ 64 - 1 - c.mask_of.result) fill.same c.requires.i_in c.requires.j_in c.word_at-word.ensures.value (ap (λ z. 2 ^ 64 - 1 - z) c.mask_of.ensures) c.requires.new s at holds,
        refl,
      ),
    )

pub invariant_of-seat : goal.invariant_of-seat
invariant_of-seat c =
    let before = c.args.seat.now in
    let made = c.fetch_and.ensures.2 in
    record {
      slots = ap (λ m. m.1) made ∙ before.slots;
      rows = subst (λ v. KeepsRows v before.row) (sym (ap (λ m. m.0) made)) (keeps_more before.seat.me.0 _ before.row (zeros_go before.seat.me.0 _ _) before.rows);
    }
