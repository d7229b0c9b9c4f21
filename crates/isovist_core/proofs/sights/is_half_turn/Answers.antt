use Rattle.std.proofs.Common.{ap, ◌∙◌}
use Rattle.std.specs.Prelude.{not}
use Rattle.plane_spec.specs.Vectors.{cross_of}
use Rattle.isovist_core.proofs.Steps.{not_left}
use Rattle.isovist_core.proofs.sights.is_half_turn.Goals as goal

pub returns : goal.returns
returns c =
    ap not c.turns_left.ensures ∙ not_left (cross_of c.args.gap.now.from.step c.args.gap.now.to.step)
