use Rattle.std.proofs.Common.{rules, ◌≡◌, ◌∙◌, ap, ◌+ℤ◌, to_z, of_z, w64}
use Rattle.plane_spec.specs.Vectors.{cross_of}
use Rattle.view_laws.proofs.Answers.{side_is}
use Rattle.sight_sweep.specs.Actives.{seen}
use Rattle.sight_sweep.proofs.blocker.Blocker.side.Goals as goal

pub returns : goal.returns
returns c =
    let b = c.args.self.now in
    let value : to_z w64 (of_z w64 c.plus_cross.result) ≡ b.spread +ℤ c.cross.result = search rules in
    value ∙ ap (λ t. t +ℤ c.cross.result) b.spread_is
    ∙ ap (λ t. cross_of b.from b.to +ℤ t) (c.cross.ensures.value ∙ ap (λ e. cross_of e c.args.c) b.edge_is)
    ∙ side_is (seen b) c.args.c
