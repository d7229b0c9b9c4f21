use Rattle.int_laws.proofs.Divisors.{divides_other_factor}
use Rattle.exact_geom.proofs.Lowest.{reduced_is_reduced, reduced_no_larger, fraction_is_positive}
use Rattle.exact_geom.proofs.Orders.{reduced_keeps_order}
use Rattle.exact_geom.proofs.Values.{reduced_keeps_value, same_reduced, reduced_again, equal_where_values_are}
use Rattle.exact_geom.proofs.fractions.lowest_terms.Goals as goal

pub returns : goal.returns
returns c = record {
  is_reduced = reduced_is_reduced;
  keeps_value = reduced_keeps_value;
  one_form = same_reduced;
  stays = reduced_again;
  equal = equal_where_values_are;
  keeps_order = reduced_keeps_order;
  no_larger = reduced_no_larger;
  over_positive = fraction_is_positive;
  divides_other_factor = divides_other_factor;
}
