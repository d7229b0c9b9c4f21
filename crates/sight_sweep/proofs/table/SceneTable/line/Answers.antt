use Rattle.std.proofs.Common.{subst}
use Rattle.sight_sweep.specs.Tables.{IsTable}
use Rattle.sight_sweep.proofs.Tables.{line_in_range, line_read}
use Rattle.sight_sweep.proofs.table.SceneTable.line.Goals as goal

pub returns-clause-line : goal.returns-clause-line
returns-clause-line c =
    line_read c.args.self.now c.self.inside.lines.items c.args.number c.index.result.now
    (subst (λ t. IsTable t c.self.inside.lines.items c.self.inside.ranges.items c.self.inside.numbers.items)
    c.self.view_is c.self.invariant).lines_are c.requires.within c.index.ensures

pub returns-clause-in_range : goal.returns-clause-in_range
returns-clause-in_range c =
    line_in_range c.args.self.now c.self.inside.lines.items c.self.inside.ranges.items c.self.inside.numbers.items
    c.args.number c.index.result.now
    (subst (λ t. IsTable t c.self.inside.lines.items c.self.inside.ranges.items c.self.inside.numbers.items)
    c.self.view_is c.self.invariant) c.requires.within c.index.ensures
