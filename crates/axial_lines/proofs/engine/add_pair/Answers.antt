use Rattle.std.proofs.Common.{◌≡◌, ◌∙◌, ◌<◌, sym, subst, length}
use Rattle.std.specs.Prelude.{Err, OnOk}
use Rattle.plan_spec.specs.declared.limits.TheConstants.{MAX_AXIAL_LINES}
use Rattle.axial_lines.specs.Looks.{end_at}
use Rattle.axial_lines.specs.declared.fault.LinesFault.TheVariants.{TooManyLines}
use Rattle.axial_lines.proofs.Adding.{one_unwanted, one_wanted, wanted_of_ends}
use Rattle.axial_lines.proofs.engine.add_pair.Goals as goal

pub returns-then-not-is_wanted-clause-added : goal.returns-then-not-is_wanted-clause-added
returns-then-not-is_wanted-clause-added c =
    let ends = c.args.outlooks.now.ends in
    let line = c.in-Some.line in
    one_unwanted c.args.scene.now c.args.area c.args.lines.now (end_at ends c.args.i, end_at ends c.args.j) line
    (sym c.seen_line.ensures.line ∙ c.in-Some.is)
    (wanted_of_ends c.args.area c.end.result c.end-2.result _ _ line c.end.ensures.end c.end-2.ensures.end
    (sym c.is_wanted.ensures ∙ c.if-not-is_wanted.true))

pub returns-clause-added : goal.returns-clause-added
returns-clause-added c =
    let ends = c.args.outlooks.now.ends in
    let line = c.in-Some.line in
    subst (λ ls. OnOk c.add.result (c.add.new.self ≡ ls))
    (one_wanted c.args.scene.now c.args.area c.args.lines.now (end_at ends c.args.i, end_at ends c.args.j) line
    (sym c.seen_line.ensures.line ∙ c.in-Some.is)
    (wanted_of_ends c.args.area c.end.result c.end-2.result _ _ line c.end.ensures.end c.end-2.ensures.end
    (sym c.is_wanted.ensures ∙ c.if-not-is_wanted.false)))
    c.add.ensures.added

pub returns-clause-too_many : goal.returns-clause-too_many
returns-clause-too_many c =
    let ends = c.args.outlooks.now.ends in
    let line = c.in-Some.line in
    subst (λ ls. c.add.result ≡ Err TooManyLines → MAX_AXIAL_LINES < length ls)
    (one_wanted c.args.scene.now c.args.area c.args.lines.now (end_at ends c.args.i, end_at ends c.args.j) line
    (sym c.seen_line.ensures.line ∙ c.in-Some.is)
    (wanted_of_ends c.args.area c.end.result c.end-2.result _ _ line c.end.ensures.end c.end-2.ensures.end
    (sym c.is_wanted.ensures ∙ c.if-not-is_wanted.false)))
    c.add.ensures.too_many
