use Rattle.std.proofs.Common.{refl, arith, ◌<◌, sym, ap, subst, ◌∙◌, Some}
use Rattle.std.specs.List.{slice_index}
use Rattle.atomic_table.specs.Table.{keeps}
use Rattle.vga_fill.specs.Places.{bit_of}
use Rattle.vga_fill.specs.Views.{claimed}
use Rattle.vga_fill.specs.Graphs.{was_joined, is_to_join}
use Rattle.vga_fill.specs.DoneRows.{KeepsRows}
use Rattle.vga_fill.proofs.Calls.{claimed_at, keeps_claimed}
use Rattle.vga_fill.proofs.Claiming.{claim_keeps, rows_below}
use Rattle.vga_fill.proofs.fill.Fill.claim.Goals as goal

pub fetch_add-found-requires : goal.fetch_add-found-requires
fetch_add-found-requires c =
    let fill = c.args.self.now in
    let seat = c.args.seat.now.seat in
    let k = fill.table.shared.key in (
      c.requires.of.table,
      rw fill.words (omega arith),
      λ s holds homes at fits. (
        claimed seat.me.0 (slice_index s.words 0),
        keeps,
        tt,
        claim_keeps k.count (bit_of (was_joined k) k.count) (bit_of (is_to_join k) k.count) s seat.id seat.me.0 at (c.args.seat.now.rows k c.requires.of.task).0 c.requires.pass holds,
        (refl, rows_below k.count (bit_of (was_joined k) k.count) (bit_of (is_to_join k) k.count) s seat.id seat.me.0 at holds),
      ),
    )

pub invariant_of-seat-2 : goal.invariant_of-seat-2
invariant_of-seat-2 c =
    let fill = c.args.self.now in
    let before = c.args.seat.now in
    let made = c.fetch_add-found.ensures.2.0 in
    let count = (before.rows fill.table.shared.key c.requires.of.task).0 ∙ sym fill.same in
    let below : c.fetch_add-found.result < fill.count = omega (arith, c.if-found-from.false, c.from.ensures) in
    let view = ap (λ m. m.0) made ∙ claimed_at before.seat.me.0 c.fetch_add-found.result fill.count count below in
    record {
      slots = ap (λ m. m.1) made ∙ before.slots;
      rows = subst (λ v. KeepsRows v (Some c.fetch_add-found.result)) (sym view) (keeps_claimed before.seat.me.0 c.fetch_add-found.result before.row c.requires.free before.rows);
    }
