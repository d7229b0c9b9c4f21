use Rattle.std.proofs.lemmas.List.Sorted.{IsNonDecreasingBy-from_sort}
use Rattle.sight_sweep.proofs.Ends.{sorted_ends}
use Rattle.sight_sweep.proofs.around.ends_of.Goals as goal

pub returns : goal.returns
returns c =
    sorted_ends c.args.lines.now c.in_ok-ends.ends.items c.sort_unstable.new.self.items
    c.sort_unstable.ensures.permutation
    (IsNonDecreasingBy-from_sort (λ x. x) c.sort_unstable.new.self.items c.sort_unstable.ensures.sorted)
    c.in_ok-ends.ensures
