use Rattle.std.proofs.Common.{rules}
use Rattle.plane_spec.specs.Fractions.{along}
use Rattle.segment_core.proofs.Cutting.{over_positive}
use Rattle.segment_core.proofs.cuts.point_of.Goals as goal

pub shifted-requires-2-clause-positive : goal.shifted-requires-2-clause-positive
shifted-requires-2-clause-positive c =
    let up = over_positive c.args.cut.now c.requires.cut in
    search rules

pub returns : goal.returns
unfolding along
returns c = search rules
