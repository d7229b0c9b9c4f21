use Rattle.sight_laws.proofs.Outer.{outer_unblocked}
use Rattle.sight_laws.proofs.Polygons.{over_where_within}
use Rattle.sight_laws.proofs.obstacles.a_convex_outer_polygon_blocks_nothing.Goals as goal

pub returns-clause-within : goal.returns-clause-within
returns-clause-within c = λ points p q some convex p_within q_within.
    outer_unblocked points p q (over_where_within points p some convex p_within)
    (over_where_within points q some convex q_within)

pub returns-clause-left_of_all : goal.returns-clause-left_of_all
returns-clause-left_of_all c = outer_unblocked
