-- Runs as the code holds them, and how one sector more changes them.
use Rattle.std.specs.Prelude.{ℕ, ◌==◌, Bool, false, List, Option, Some, None}
use Rattle.plane_spec.specs.declared.Point.{Point}
use Rattle.sight_spec.specs.Isovist.{Run, run}
use Rattle.sight_spec.proofs.Runs.{with_run}
use Rattle.isovist_core.specs.declared.sighted_run.SightedRun.{SightedRun}

-- the run by its directions and its wall
abbrev pub run_of : SightedRun → Run
run_of r = run r.from.step r.to.step r.wall

-- there is a wall, and it is this one
abbrev pub is_wall : Option ℕ → ℕ → Bool
is_wall None wall = false
is_wall (Some last) wall = last == wall

-- the runs with one sector more in a gap, by the wall of the sector before and its own
abbrev pub put_sector : Option ℕ → Point × Point → Option ℕ → List Run → List Run
put_sector before gap None runs = runs
put_sector before gap (Some wall) runs = with_run (is_wall before wall) (run gap.0 gap.1 wall) runs
