use Rattle.std.proofs.Common.{◌≡◌, ◌∙◌, map}
use Rattle.sight_spec.specs.Isovist.{gaps_of, runs_of}
use Rattle.isovist_core.specs.Headings.{step_of}
use Rattle.isovist_core.specs.Gaps.{pair_of}
use Rattle.isovist_core.specs.Sightings.{run_of}
use Rattle.isovist_core.proofs.Sectors.{runs_are, sectors_in}
use Rattle.isovist_core.proofs.Shown.{ground_in, sectors_are_shown}
use Rattle.isovist_core.proofs.runs.sighted_runs.Goals as goal

pub runs_by-requires-clause-ground_in : goal.runs_by-requires-clause-ground_in
runs_by-requires-clause-ground_in c =
    ground_in c.args.scene.now c.args.p c.in_ok-view.view.ground c.in_ok-headings.ensures.of_plan
    (rw (← c.requires.tabled) c.in_ok-view.ensures.under)

pub returns : goal.returns
returns c =
    let scene = c.args.scene.now in
    let headings = c.in_ok-headings.headings.items in
    let gaps = c.in_ok-gaps.gaps.items in
    let view = c.in_ok-view.view in
    let pairs : map pair_of gaps ≡ gaps_of (map step_of headings) = rw (← c.deref.ensures.value) c.in_ok-gaps.ensures in
    let runs : map run_of c.in_ok-runs.runs.items ≡ runs_of (sectors_in view gaps) =
    rw (← c.deref-2.ensures.value) c.in_ok-runs.ensures in
    runs
    ∙ runs_are scene c.args.p view (map step_of headings) gaps c.in_ok-headings.ensures.directions pairs
    (sectors_are_shown scene c.args.p view c.in_ok-headings.ensures.of_plan c.requires.p_in
    (rw (← c.requires.tabled) c.in_ok-view.ensures.view) gaps)
