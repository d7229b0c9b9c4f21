use Rattle.route_laws.proofs.Turns.{relative_across, relative_up, table_within}
use Rattle.route_laws.proofs.the_table_of_turns_stays_in_64_bits.Goals as goal

pub returns-clause-across : goal.returns-clause-across
returns-clause-across c = relative_across

pub returns-clause-up : goal.returns-clause-up
returns-clause-up c = relative_up

pub returns-clause-products : goal.returns-clause-products
returns-clause-products c = table_within
