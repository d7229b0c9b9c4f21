use Rattle.exact_geom.proofs.RPointOrder.{place_reversed, place_transitive, place_alike, place_equal}
use Rattle.exact_geom.proofs.rpoints.rpoint_order_laws.Goals as goal

pub returns : goal.returns
returns c = record {
  reversed = place_reversed;
  transitive = place_transitive;
  equal_compare_alike = place_alike;
  equal_are_one = place_equal;
}
