use Rattle.std.proofs.Common.{◌≡◌, ◌<◌, Err, IfOk, length, subst, sym}
use Rattle.plan_spec.specs.declared.limits.TheConstants.{MAX_AXIAL_LINES}
use Rattle.axial_lines.specs.declared.fault.LinesFault.TheVariants.{TooManyLines}
use Rattle.axial_lines.specs.Looks.{HasCountedUpTo, more_by}
use Rattle.axial_lines.proofs.DirtyCounts.{all_are_dirty, none_is_dirty}
use Rattle.axial_lines.proofs.Looking.{unmoved}
use Rattle.axial_lines.proofs.Updating.{lines_unchanged, old_lines_known, old_box_in}
use Rattle.axial_lines.proofs.update.update_lines.Goals as goal

pub lines_after_removal-requires-clause-area_in : goal.lines_after_removal-requires-clause-area_in
lines_after_removal-requires-clause-area_in c =
    old_box_in c.args.before.now c.args.after.now c.args.boxes _ c.requires.edited c.in-Some-first.is

pub lines_after_removal-requires-clause-known : goal.lines_after_removal-requires-clause-known
lines_after_removal-requires-clause-known c =
    old_lines_known c.args.before.now c.args.after.now c.args.boxes c.args.old.now c.requires.edited c.requires.old_are

pub returns-in-None-first-clause-lines : goal.returns-in-None-first-clause-lines
returns-in-None-first-clause-lines c =
    subst (λ ls. IfOk c.unchanged.result (λ lines. lines.items ≡ ls))
    (lines_unchanged c.args.before.now c.args.after.now c.args.boxes c.args.old.now c.requires.edited c.requires.old_are
    c.in-None-first.is c.in-None.is) c.unchanged.ensures.lines

pub returns-in-None-first-clause-too_many : goal.returns-in-None-first-clause-too_many
returns-in-None-first-clause-too_many c =
    subst (λ ls. c.unchanged.result ≡ Err TooManyLines → MAX_AXIAL_LINES < length ls)
    (lines_unchanged c.args.before.now c.args.after.now c.args.boxes c.args.old.now c.requires.edited c.requires.old_are
    c.in-None-first.is c.in-None.is) c.unchanged.ensures.too_many

pub returns-in-Some-clause-counted : goal.returns-in-Some-clause-counted
returns-in-Some-clause-counted c =
    subst (λ n. IfOk c.all_lines.result (λ lines. c.all_lines.new.steps ≡ more_by n c.args.steps.now))
    (sym (all_are_dirty c.args.before.now c.args.after.now c.args.boxes c.in-Some.field-0 c.args.old.now
    c.requires.edited c.in-Some.is)) c.all_lines.ensures.counted

pub returns-in-Some-clause-counted_at_most : goal.returns-in-Some-clause-counted_at_most
returns-in-Some-clause-counted_at_most c =
    subst (λ n. HasCountedUpTo n c.args.steps.now c.all_lines.new.steps)
    (sym (all_are_dirty c.args.before.now c.args.after.now c.args.boxes c.in-Some.field-0 c.args.old.now
    c.requires.edited c.in-Some.is)) c.all_lines.ensures.counted_at_most

pub returns-in-None-first-clause-counted : goal.returns-in-None-first-clause-counted
returns-in-None-first-clause-counted c =
    unmoved c.unchanged.result _ c.args.steps.now
    (none_is_dirty c.args.before.now c.args.after.now c.args.boxes c.args.old.now c.requires.edited
    c.in-None-first.is c.in-None.is)
