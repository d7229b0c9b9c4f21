use Rattle.isovist_laws.proofs.Meetings.{met}
use Rattle.isovist_laws.proofs.Areas.{dens_up}
use Rattle.isovist_core.specs.Sightings.{run_of}
use Rattle.isovist_core.proofs.triangles.second_meeting.Goals as goal

pub meeting_on-requires : goal.meeting_on-requires
meeting_on-requires c =
    let m = met c.args.scene.now c.args.p (run_of c.args.run.now) c.requires.spanned in
    record { p_in = c.requires.p_in; numbered = m.numbered; turned = m.to_turned }

pub returns-clause-positive : goal.returns-clause-positive
returns-clause-positive c =
    rw c.meeting_on.ensures.value (dens_up c.args.scene.now c.args.p (run_of c.args.run.now) c.requires.spanned).1
