use Rattle.std.proofs.Common.{◌≡◌, ◌∙◌, ◌<◌, sym, subst, length, IfOk, Err}
use Rattle.plan_spec.specs.declared.limits.TheConstants.{MAX_AXIAL_LINES}
use Rattle.axial_lines.specs.declared.fault.LinesFault.TheVariants.{TooManyLines}
use Rattle.axial_lines.proofs.Updating.{removal_updated}
use Rattle.axial_lines.proofs.update.lines_after_removal.Goals as goal

pub returns-clause-lines : goal.returns-clause-lines
returns-clause-lines c =
    subst (λ ls. IfOk c.kept_and_fresh.result (λ lines. lines.items ≡ ls))
    (removal_updated c.args.area c.args.before.now c.args.after.now c.args.old.now c.in-Ok.outlooks.ends
    c.gap-gone.result.0 c.gap-gone.result.1 c.requires.edited c.requires.old_are
    (c.gap-gone.ensures c.args.area c.requires.edited) c.in-Ok.ensures.corners
    (sym c.are_stopped.ensures ∙ c.if-not-are_stopped.false))
    c.kept_and_fresh.ensures.lines

pub returns-clause-too_many : goal.returns-clause-too_many
returns-clause-too_many c =
    subst (λ ls. c.kept_and_fresh.result ≡ Err TooManyLines → MAX_AXIAL_LINES < length ls)
    (removal_updated c.args.area c.args.before.now c.args.after.now c.args.old.now c.in-Ok.outlooks.ends
    c.gap-gone.result.0 c.gap-gone.result.1 c.requires.edited c.requires.old_are
    (c.gap-gone.ensures c.args.area c.requires.edited) c.in-Ok.ensures.corners
    (sym c.are_stopped.ensures ∙ c.if-not-are_stopped.false))
    c.kept_and_fresh.ensures.too_many
