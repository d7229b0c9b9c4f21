use Rattle.meet_laws.proofs.Signs.{nonzero}
use Rattle.meet_laws.proofs.Stretches.{meet_aside, meet_in_line}
use Rattle.meet_laws.proofs.parallel_segments_meet_in_line.Goals as goal

pub returns-clause-aside : goal.returns-clause-aside
returns-clause-aside c = λ s r a b d f h k flat apart. meet_aside s r a b d f h k flat (nonzero _ apart)

pub returns-clause-in_line : goal.returns-clause-in_line
returns-clause-in_line c = meet_in_line
