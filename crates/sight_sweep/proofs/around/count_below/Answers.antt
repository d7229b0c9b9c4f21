use Rattle.std.proofs.Common.{◌≡◌, rules, arith, get_or, ltb}
use Rattle.std.specs.Prelude.{true, false}
use Rattle.std.specs.List.Sorted.{IsPartitionPoint}
use Rattle.std.proofs.lemmas.List.Sorted.{IsPartitionPoint-from_clause, IsPartitionedBy-ltb}
use Rattle.front_laws.proofs.Tests.{tested_number_less, tested_number_not_less}
use Rattle.sight_sweep.proofs.around.count_below.Goals as goal

point : (c : goal.After-partition_point)
    → IsPartitionPoint (λ e. ltb e c.args.bound ≡ true)
    (λ e. ltb e c.args.bound ≡ false) c.args.ends.now c.partition_point.result
point c = IsPartitionPoint-from_clause
    (λ e. ltb e c.args.bound) c.args.ends.now c.partition_point.result c.partition_point.ensures.partitioned
    (IsPartitionedBy-ltb (λ e. e) c.args.ends.now c.args.bound c.requires.sorted) (λ a r q k. search rules)

pub returns-clause-below : goal.returns-clause-below
returns-clause-below c k lt = tested_number_less (get_or c.args.ends.now k 0) c.args.bound
    ((point c).0 k 0 (omega arith) lt)

pub returns-clause-others : goal.returns-clause-others
returns-clause-others c k le lt = tested_number_not_less (get_or c.args.ends.now k 0) c.args.bound
    ((point c).1 k 0 le lt)
