use Rattle.std.proofs.Common.{arith, ◌∙◌, ap, sym, subst, None}
use Rattle.vga_fill.specs.Places.{bit_of}
use Rattle.vga_fill.specs.Graphs.{was_joined, is_to_join}
use Rattle.vga_fill.specs.DoneRows.{AreDone, KeepsRows}
use Rattle.vga_fill.proofs.Calls.{done_both}
use Rattle.vga_fill.proofs.Sharing.{join_keeps}
use Rattle.vga_fill.proofs.fill.Fill.join_seats.Goals as goal

pub join_seat-requires : goal.join_seat-requires
join_seat-requires c =
    let fill = c.args.self.now in
    let k = fill.table.shared.key in
    let first = c.args.a.seat in
    let second = c.args.b.seat in (
      c.requires.first.0.table,
      c.requires.second.0.table,
      c.args.b.slots,
      rw fill.words (omega arith),
      λ s holds at apart at'. join_keeps k.count (bit_of (was_joined k) k.count) (bit_of (is_to_join k) k.count) s first.id second.id first.me.0 second.me.0 at apart at' holds,
    )

pub invariant_of-result : goal.invariant_of-result
invariant_of-result c =
    let first = c.args.a in
    let second = c.args.b in
    let made = c.join_seat.ensures in
    record {
      slots = ap (λ m. m.1) made.2 ∙ first.slots;
      rows = subst (λ v. KeepsRows v None) (sym (ap (λ m. m.0) made.2)) (λ k e.
          let a = first.rows k e in
          let b = second.rows k (c.requires.second.0.task ∙ (sym c.requires.first.0.task ∙ e)) in (
            a.0,
            done_both (was_joined k) (is_to_join k) k.count first.seat.me.0 second.seat.me.0
                (subst (λ r. AreDone (was_joined k) (is_to_join k) k.count first.seat.me.0 r) c.requires.first.1 a.1)
                (subst (λ r. AreDone (was_joined k) (is_to_join k) k.count second.seat.me.0 r) c.requires.second.1 b.1),
          ));
    }
