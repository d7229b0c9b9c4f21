use Rattle.sweep_laws.specs.Groups.{no_corner}
use Rattle.station_laws.specs.Grounds.{is_at}
use Rattle.sight_sweep.proofs.Tables.{none_of}
use Rattle.sight_sweep.proofs.grounds.corner_at.Goals as goal

pub returns : goal.returns
returns c = none_of (is_at c.args.p) c.args.corners.now no_corner c.loop-k.k c.loop-k-test.false c.loop-k.invariant
