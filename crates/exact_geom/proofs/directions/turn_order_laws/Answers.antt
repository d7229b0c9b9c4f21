use Rattle.exact_geom.proofs.TurnLaws.{equal_compares_alike, equal_is_alike, equal_is_in_line, less_transitive, none_less_than_first, order_reversed}
use Rattle.exact_geom.proofs.directions.turn_order_laws.Goals as goal

pub returns-clause-first : goal.returns-clause-first
returns-clause-first c = none_less_than_first

pub returns-clause-reversed : goal.returns-clause-reversed
returns-clause-reversed c = order_reversed

pub returns-clause-transitive : goal.returns-clause-transitive
returns-clause-transitive c = less_transitive

pub returns-clause-equal_compare_alike : goal.returns-clause-equal_compare_alike
returns-clause-equal_compare_alike c = equal_compares_alike

pub returns-clause-equal_point_alike : goal.returns-clause-equal_point_alike
returns-clause-equal_point_alike c = equal_is_alike

pub returns-clause-equal_in_line : goal.returns-clause-equal_in_line
returns-clause-equal_in_line c = equal_is_in_line
