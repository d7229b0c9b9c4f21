use Rattle.std.proofs.Common.{rules}
use Rattle.std.proofs.lemmas.List.Sorted.{answers_always}
use Rattle.isovist_core.proofs.Sorting.{headings_order, answers}
use Rattle.isovist_core.proofs.directions.sort_headings.Goals as goal

pub returns-clause-sorted : goal.returns-clause-sorted
returns-clause-sorted c =
    c.in_ok-sort_by.ensures.sorted _ headings_order
    (answers_always _ _ _ (λ f a r q k. answers a.0.now a.1.0.now r (search rules)))

pub returns-clause-stable : goal.returns-clause-stable
returns-clause-stable c =
    c.in_ok-sort_by.ensures.stable _ headings_order
    (answers_always _ _ _ (λ f a r q k. answers a.0.now a.1.0.now r (search rules)))
