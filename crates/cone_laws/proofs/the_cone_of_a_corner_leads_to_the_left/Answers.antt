use Rattle.cone_laws.proofs.Law.{obstacle_into, obstacle_out, outer_into}
use Rattle.cone_laws.proofs.the_cone_of_a_corner_leads_to_the_left.Goals as goal

pub returns-clause-into : goal.returns-clause-into
returns-clause-into c = obstacle_into

pub returns-clause-out_of : goal.returns-clause-out_of
returns-clause-out_of c = obstacle_out

pub returns-clause-into_outer : goal.returns-clause-into_outer
returns-clause-into_outer c = outer_into
