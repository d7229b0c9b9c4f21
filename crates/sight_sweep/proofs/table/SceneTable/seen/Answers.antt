use Rattle.std.proofs.Common.{subst, rules}
use Rattle.sight_sweep.specs.Tables.{IsTable}
use Rattle.sight_sweep.proofs.Tables.{line_in_range, line_read, known_of}
use Rattle.sight_sweep.proofs.table.SceneTable.seen.Goals as goal

pub seen_from-requires-clause-line_in : goal.seen_from-requires-clause-line_in
seen_from-requires-clause-line_in c =
    line_in_range c.args.self.now c.self.inside.lines.items c.self.inside.ranges.items c.self.inside.numbers.items
    c.args.number c.index.result.now
    (subst (λ t. IsTable t c.self.inside.lines.items c.self.inside.ranges.items c.self.inside.numbers.items)
    c.self.view_is c.self.invariant) c.requires.within c.index.ensures

pub returns-clause-known : goal.returns-clause-known
returns-clause-known c =
    known_of c.args.self.now c.args.p c.args.number c.index.result.now c.seen_from.result c.requires.within
    (line_read c.args.self.now c.self.inside.lines.items c.args.number c.index.result.now
    (subst (λ t. IsTable t c.self.inside.lines.items c.self.inside.ranges.items c.self.inside.numbers.items)
    c.self.view_is c.self.invariant).lines_are c.requires.within c.index.ensures)
    c.seen_from.ensures.seen c.seen_from.ensures.number (search rules)
