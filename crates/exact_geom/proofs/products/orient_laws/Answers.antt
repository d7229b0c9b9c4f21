use Rattle.exact_geom.proofs.Orientation.{orient_of_cycled, orient_of_ends_exchanged, orient_of_first_exchanged, orient_of_last_exchanged}
use Rattle.exact_geom.proofs.products.orient_laws.Goals as goal

pub returns-clause-first_exchanged : goal.returns-clause-first_exchanged
returns-clause-first_exchanged c = orient_of_first_exchanged

pub returns-clause-last_exchanged : goal.returns-clause-last_exchanged
returns-clause-last_exchanged c = orient_of_last_exchanged

pub returns-clause-ends_exchanged : goal.returns-clause-ends_exchanged
returns-clause-ends_exchanged c = orient_of_ends_exchanged

pub returns-clause-cycled : goal.returns-clause-cycled
returns-clause-cycled c = orient_of_cycled
