use Rattle.plan_laws.proofs.Again.{items_make, items_accepted, checked_again}
use Rattle.plan_laws.proofs.the_items_of_a_plan.Goals as goal

pub returns-clause-make : goal.returns-clause-make
returns-clause-make c = items_make

pub returns-clause-accepted : goal.returns-clause-accepted
returns-clause-accepted c = items_accepted

pub returns-clause-again : goal.returns-clause-again
returns-clause-again c = checked_again
