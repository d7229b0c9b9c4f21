use Rattle.std.proofs.Common.{sym, subst, ap, ◌∙◌, refl}
use Rattle.atomic_table.specs.Table.{keeps}
use Rattle.vga_fill.specs.Views.{with_ones}
use Rattle.vga_fill.specs.DoneRows.{KeepsRows}
use Rattle.vga_fill.proofs.Calls.{keeps_more, ones_go, set_allows}
use Rattle.vga_fill.proofs.fill.Fill.set.Goals as goal

pub fetch_or-requires : goal.fetch_or-requires
fetch_or-requires c =
    let fill = c.args.self.now in
    let seat = c.args.seat.now.seat in (
      c.requires.of.table,
      rw fill.words c.word_at-word.ensures.within,
      λ s holds homes at fits. (
        with_ones seat.me.0 c.word_at-word.result c.mask_of.result,
        keeps,
        tt,
        set_allows fill.table.shared.key fill.count seat.id seat.me.0 c.args.i c.args.j c.word_at-word.result c.mask_of.result fill.same c.requires.i_in c.requires.j_in c.word_at-word.ensures.value c.mask_of.ensures c.requires.new s at holds,
        refl,
      ),
    )

pub invariant_of-seat : goal.invariant_of-seat
invariant_of-seat c =
    let before = c.args.seat.now in
    let made = c.fetch_or.ensures.2 in
    record {
      slots = ap (λ m. m.1) made ∙ before.slots;
      rows = subst (λ v. KeepsRows v before.row) (sym (ap (λ m. m.0) made)) (keeps_more before.seat.me.0 _ before.row (ones_go before.seat.me.0 _ _) before.rows);
    }
