use Rattle.std.proofs.lemmas.List.Sorted.{IsNonDecreasingBy-from_sort}
use Rattle.sight_sweep.specs.LeftOut.{is_set}
use Rattle.sight_sweep.proofs.Listing.{sorted_events}
use Rattle.sight_sweep.proofs.events.events_of.Goals as goal

pub returns-clause-listed : goal.returns-clause-listed
returns-clause-listed c =
    sorted_events c.args.table.now.corners c.args.p c.args.arc (is_set c.args.shown.now) c.in_ok-events.events.items
    c.sort_unstable.new.self.items
    c.sort_unstable.ensures.permutation
    (IsNonDecreasingBy-from_sort (λ x. x) c.sort_unstable.new.self.items c.sort_unstable.ensures.sorted)
    c.in_ok-events.ensures.listed
