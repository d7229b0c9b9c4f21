use Rattle.isovist_core.proofs.Steps.{step_is_direction}
use Rattle.isovist_core.proofs.ways.way_to.Goals as goal

pub returns-clause-direction : goal.returns-clause-direction
returns-clause-direction c = step_is_direction c.args.heading.now.step c.args.heading.now.small
