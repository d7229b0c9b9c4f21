use Rattle.std.proofs.Common.{sym, subst}
use Rattle.std.specs.Prelude.{IfSome}
use Rattle.sight_sweep.specs.Answers.{IsSeenFrom}
use Rattle.view_laws.specs.declared.view.Arc.TheVariants as arcs
use Rattle.axial_lines.specs.Looks.{AreSeenFrom, end_at}
use Rattle.axial_lines.proofs.outlooks.Outlooks.view.Goals as goal

pub returns : goal.returns
returns c =
    subst (λ o. IfSome c.view_at.result (λ v. IsSeenFrom o.scene (end_at o.ends c.args.i).1 arcs.All v.now))
    c.self.view_is
    (c.view_at.ensures c.self.inside.table c.self.inside.ends.items
    (subst (AreSeenFrom c.self.inside.table c.self.inside.ends.items) (sym c.deref.ensures.value)
    c.self.invariant.seen))
