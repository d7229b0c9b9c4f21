use Rattle.std.proofs.Common.{◌≡◌, map, take}
use Rattle.sight_spec.specs.Isovist.{runs_of}
use Rattle.isovist_core.specs.Sightings.{run_of}
use Rattle.isovist_core.proofs.Sectors.{last_wall, sectors_in}
use Rattle.isovist_core.proofs.runs.runs_by.Given as goal

abbrev pub invariant-loop-k : goal.invariant-loop-k
invariant-loop-k l = record {
  runs : map run_of l.runs.items ≡ runs_of (take l.k (sectors_in l.view l.gaps));
  before : l.before ≡ last_wall (take l.k (sectors_in l.view l.gaps));
}
