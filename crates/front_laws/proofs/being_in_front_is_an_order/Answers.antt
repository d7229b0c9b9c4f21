use Rattle.front_laws.proofs.InOrder.{behind, front_chain}
use Rattle.front_laws.proofs.being_in_front_is_an_order.Goals as goal

pub returns-clause-total : goal.returns-clause-total
returns-clause-total c = behind

pub returns-clause-passes_on : goal.returns-clause-passes_on
returns-clause-passes_on c = front_chain
