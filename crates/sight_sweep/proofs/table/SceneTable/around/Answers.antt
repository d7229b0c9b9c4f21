use Rattle.std.proofs.Common.{◌≡◌, ◌∙◌, ◌<◌, ◌-◌, sym, subst, get_or, take, drop}
use Rattle.sweep_laws.specs.Groups.{no_corner}
use Rattle.sight_sweep.specs.Tables.{IsTable, AreAround, no_range}
use Rattle.sight_sweep.proofs.Tables.{default}
use Rattle.sight_sweep.proofs.table.SceneTable.around.Goals as goal

pub returns-clause-around : goal.returns-clause-around
returns-clause-around c =
    let scene = c.args.self.now in
    let t : IsTable scene c.self.inside.lines.items c.self.inside.ranges.items c.self.inside.numbers.items =
    subst (λ s. IsTable s c.self.inside.lines.items c.self.inside.ranges.items c.self.inside.numbers.items)
    c.self.view_is c.self.invariant in
    let read : get_or c.self.inside.ranges.items c.args.corner no_range ≡ c.index-range.result.now =
    default c.self.inside.ranges.items c.args.corner no_range c.index-range.result.now
    (subst (λ n. c.args.corner < n) (sym t.count) c.requires.within) ∙ sym c.index-range.ensures in
    subst (λ xs. AreAround scene (get_or scene.corners c.args.corner no_corner).here
    (take (c.index-range.result.now.upto - c.index-range.result.now.from) (drop c.index-range.result.now.from xs)))
    (sym c.deref.ensures.value)
    (subst (λ r. AreAround scene (get_or scene.corners c.args.corner no_corner).here
    (take (r.upto - r.from) (drop r.from c.self.inside.numbers.items))) read (t.around c.args.corner c.requires.within))
