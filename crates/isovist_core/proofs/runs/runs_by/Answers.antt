use Rattle.std.proofs.Common.{refl, sym, ap, ◌∙◌, map}
use Rattle.sight_spec.specs.Isovist.{runs_of}
use Rattle.isovist_core.specs.Sightings.{run_of}
use Rattle.isovist_core.proofs.Sectors.{no_runs, runs_step, last_step, all_sectors}
use Rattle.isovist_core.proofs.runs.runs_by.Goals as goal

pub loop-k-init : goal.loop-k-init
loop-k-init c = record {
  runs = ap (map run_of) c.new-runs.ensures.items ∙ sym no_runs;
  before = refl;
}

pub loop-k-preserved : goal.loop-k-preserved
loop-k-preserved c =
    let view = c.args.view.now in
    let gaps = c.args.gaps.now in
    let g = c.index-gaps-k.result in
    record {
      runs = rw (c.in_ok-put_sector.ensures, c.loop-k.invariant.runs, c.loop-k.invariant.before, c.wall_in-wall.ensures)
          (sym (runs_step view gaps c.loop-k.k c.loop-k-test.true g c.index-gaps-k.is));
      before = c.wall_in-wall.ensures ∙ sym (last_step view gaps c.loop-k.k c.loop-k-test.true g c.index-gaps-k.is);
    }

pub returns : goal.returns
returns c =
    c.loop-k.invariant.runs
    ∙ ap runs_of (all_sectors c.args.view.now c.args.gaps.now c.loop-k.k c.loop-k-test.false)
