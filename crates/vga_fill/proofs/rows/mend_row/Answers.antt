use Rattle.std.specs.Prelude.{◌≡◌, ℕ, ◌<◌, List, false, length, true}
use Rattle.std.proofs.Common.{sym, ap, subst, ◌∙◌, arith, refl, true≢false}
use Rattle.plan_spec.specs.declared.edit.Changed.{Changed}
use Rattle.plan_spec.specs.Grid.{grid_points}
use Rattle.plan_spec.specs.Plan.{Plan}
use Rattle.sight_spec.specs.Dirty.{is_dirty_row}
use Rattle.vga_fill.specs.declared.fill.Fill.{Fill}
use Rattle.vga_fill.specs.DirtyNumbers.{AreDirtyBelow}
use Rattle.vga_fill.specs.Seats.{count_of, task_of}
use Rattle.vga_fill.proofs.DirtyRows.{row_with, row_without}
use Rattle.vga_fill.proofs.rows.mend_row.Goals as goal

module _ (fill : Fill) (plan of : Plan) (boxes : Changed) (row : ℕ) (numbers : List ℕ) (same : plan ≡ of)
    (after : plan ≡ (task_of fill).after.value) (within : row < count_of fill) (are : AreDirtyBelow of boxes row (count_of fill) numbers) where
  points : count_of fill ≡ length (grid_points plan.grid)
  points = sym (ap (λ p. length (grid_points p.grid)) after ∙ fill.new_count)

  here : AreDirtyBelow plan boxes row (count_of fill) numbers
  here = subst (λ p. AreDirtyBelow p boxes row (count_of fill) numbers) (sym same) are

  clean : length numbers ≡ 0 → is_dirty_row boxes (grid_points plan.grid) row ≡ false
  clean = row_without plan boxes row (count_of fill) numbers within points here

  touched : 0 < length numbers → is_dirty_row boxes (grid_points plan.grid) row ≡ true
  touched = row_with plan boxes row (count_of fill) numbers within points here

pub returns-then-is_empty-clause-counted : goal.returns-then-is_empty-clause-counted
returns-then-is_empty-clause-counted c =
    let numbers = c.in_ok-numbers.numbers in
    let none : length numbers.items ≡ 0 = grind (arith, c.if-is_empty.true, c.is_empty.ensures, numbers.ok) in
    rw (clean c.args.fill.now c.args.plan.now c.args.sights.now.plan.value c.args.boxes c.args.row numbers.items c.requires.same c.requires.plan
    c.requires.within c.in_ok-numbers.ensures none) refl

pub returns-in_err-seen-clause-none : goal.returns-in_err-seen-clause-none
returns-in_err-seen-clause-none c =
    let numbers = c.in_ok-numbers.numbers in
    let some : 0 < length numbers.items = grind (arith, c.if-is_empty.false, c.is_empty.ensures, numbers.ok) in
    λ untouched. absurd (true≢false (sym (touched c.args.fill.now c.args.plan.now c.args.sights.now.plan.value c.args.boxes c.args.row numbers.items
    c.requires.same c.requires.plan c.requires.within c.in_ok-numbers.ensures some) ∙ untouched))

pub returns-clause-counted : goal.returns-clause-counted
returns-clause-counted c =
    let numbers = c.in_ok-numbers.numbers in
    let some : 0 < length numbers.items = grind (arith, c.if-is_empty.false, c.is_empty.ensures, numbers.ok) in
    rw (touched c.args.fill.now c.args.plan.now c.args.sights.now.plan.value c.args.boxes c.args.row numbers.items c.requires.same c.requires.plan
    c.requires.within c.in_ok-numbers.ensures some) c.look_at.ensures.counted

pub returns-clause-none : goal.returns-clause-none
returns-clause-none c =
    let numbers = c.in_ok-numbers.numbers in
    let some : 0 < length numbers.items = grind (arith, c.if-is_empty.false, c.is_empty.ensures, numbers.ok) in
    λ untouched. absurd (true≢false (sym (touched c.args.fill.now c.args.plan.now c.args.sights.now.plan.value c.args.boxes c.args.row numbers.items
    c.requires.same c.requires.plan c.requires.within c.in_ok-numbers.ensures some) ∙ untouched))
