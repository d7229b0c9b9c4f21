use Rattle.station_laws.proofs.Ranges.{walls_of_sound}
use Rattle.station_laws.proofs.walls_of_a_sound_plan_are_blockers.Goals as goal

pub returns : goal.returns
returns c = walls_of_sound
