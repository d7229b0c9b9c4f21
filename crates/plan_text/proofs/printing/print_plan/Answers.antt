use Rattle.std.proofs.Common.{◌≤◌, length, refl, arith}
use Rattle.std.proofs.lemmas.List.{drop_all}
use Rattle.plan_text.proofs.PrintedText.{reads_again}
use Rattle.plan_text.proofs.printing.print_plan.Goals as goal

-- at the end no items are left, so all have names
pub returns-clause-again : goal.returns-clause-again
returns-clause-again c printable =
    let past : length c.as_slice-items.result.now ≤ c.items.item-index = omega arith in
    reads_again c.args.plan.now.items printable (c.items.invariant.named (rw (drop_all c.items.item-index c.as_slice-items.result.now past) refl))
