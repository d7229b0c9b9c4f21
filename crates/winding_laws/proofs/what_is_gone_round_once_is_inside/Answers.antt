use Rattle.winding_laws.proofs.Parity.{outside_where_none, inside_where_once}
use Rattle.winding_laws.proofs.what_is_gone_round_once_is_inside.Goals as goal

pub returns-clause-none : goal.returns-clause-none
returns-clause-none c = outside_where_none

pub returns-clause-once : goal.returns-clause-once
returns-clause-once c = inside_where_once
