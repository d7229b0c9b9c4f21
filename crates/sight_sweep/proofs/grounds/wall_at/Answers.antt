use Rattle.std.proofs.Common.{◌∙◌, sym, below_more}
use Rattle.sight_spec.specs.Sight.{is_in_interior}
use Rattle.sight_spec.specs.Isovist.{no_segment}
use Rattle.sight_sweep.proofs.Tables.{none_of}
use Rattle.sight_sweep.proofs.grounds.wall_at.Goals as goal

pub loop-k-preserved : goal.loop-k-preserved
loop-k-preserved c = below_more _ _ c.loop-k.invariant (sym c.is_in_interior.ensures ∙ c.if-is_in_interior.false)

pub returns : goal.returns
returns c = none_of (is_in_interior c.args.p) c.args.walls.now no_segment c.loop-k.k c.loop-k-test.false c.loop-k.invariant
