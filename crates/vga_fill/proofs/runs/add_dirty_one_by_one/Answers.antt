use Rattle.std.specs.Prelude.{◌≡◌, ◌+◌, ◌<◌, ◌≤◌, ℕ, false}
use Rattle.std.proofs.Common.{sym, subst, ◌∙◌, arith}
use Rattle.vga_fill.specs.Sights.{is_dirty}
use Rattle.vga_fill.proofs.DirtyRows.{added, passed_over}
use Rattle.vga_fill.proofs.runs.add_dirty_one_by_one.Goals.{then-is_dirty_at+in_ok-push, else-is_dirty_at}
use Rattle.vga_fill.proofs.runs.add_dirty_one_by_one.Goals as goal

-- the one number from j up to the next is j
only : (j i : ℕ) → j ≤ i → i < j + 1 → j ≡ i
only j i low high = omega (arith, low, high)

pub loop-j-preserved : goal.loop-j-preserved
loop-j-preserved c =
    let plan = c.args.sights.now.plan.value in
    let boxes = c.args.boxes in
    let row = c.args.row in
    let j = c.loop-j.j in
    let so_far = c.loop-j.invariant.1 in
    let next : j + 1 ≤ c.args.to = omega (arith, c.loop-j-test.true) in
    let later : row < j = omega (arith, c.requires.later, c.loop-j.auto.j) in
    elim c.if-is_dirty_at.branch [
      | then-is_dirty_at+in_ok-push w ↦
          rw (w.numbers-is, w.in_ok-push.ensures.items)
          (next, added plan boxes row j c.loop-j.numbers.items later (sym c.is_dirty_at.ensures ∙ w.if-is_dirty_at.true) so_far)
      | else-is_dirty_at w ↦
          let clean : is_dirty plan boxes row j ≡ false = sym c.is_dirty_at.ensures ∙ w.if-is_dirty_at.false in
          rw w.numbers-is (
            next,
            passed_over plan boxes row j (j + 1) c.loop-j.numbers.items (omega arith)
                (λ i low high. subst (λ (z : ℕ). is_dirty plan boxes row z ≡ false) (only j i low high) clean) so_far,
          )
    ]
