use Rattle.std.proofs.Common.{sym, refl, ◌∙◌}
use Rattle.view_laws.specs.Views.{is_in_arc}
use Rattle.axial_lines.proofs.Seeing.{not_itself}
use Rattle.axial_lines.proofs.seen.sees.Goals as goal

pub sight_by-requires-clause-other : goal.sight_by-requires-clause-other
sight_by-requires-clause-other c =
    record { in_range = c.requires.q_in; other = sym c.same_point.ensures ∙ c.if-same_point.false }

pub sight_by-requires-clause-in_arc : goal.sight_by-requires-clause-in_arc
unfolding is_in_arc
sight_by-requires-clause-in_arc c = refl

pub returns-then-same_point : goal.returns-then-same_point
returns-then-same_point c =
    not_itself c.args.table.now c.args.p c.args.q (sym c.same_point.ensures ∙ c.if-same_point.true)
