use Rattle.std.proofs.Common.{◌≡◌, ◌<◌, ◌≤◌, ℕ, rules, arith, get_or, leb}
use Rattle.std.specs.Prelude.{true, false}
use Rattle.std.specs.List.Sorted.{IsPartitionPoint}
use Rattle.std.proofs.lemmas.List.Sorted.{IsPartitionPoint-from_clause, IsPartitionedBy-leb}
use Rattle.sight_sweep.proofs.Telling.{by_place}
use Rattle.sight_sweep.proofs.reach.count_up_to.Goals as goal

point : (c : goal.After-partition_point)
    → IsPartitionPoint (λ s. leb s.place c.args.place ≡ true)
    (λ s. leb s.place c.args.place ≡ false) c.args.sectors.now c.partition_point.result
point c = IsPartitionPoint-from_clause
    (λ s. leb s.place c.args.place) c.args.sectors.now c.partition_point.result c.partition_point.ensures.partitioned
    (IsPartitionedBy-leb (λ s. s.place) c.args.sectors.now c.args.place
    (by_place c.args.sectors.now c.requires.order)) (λ a r q k. search rules)

up_to : (m n : ℕ) → leb m n ≡ true → m ≤ n
up_to m n h = grind arith

beyond : (m n : ℕ) → leb m n ≡ false → n < m
beyond m n h = grind arith

pub returns : goal.returns
returns c = record {
  within = c.partition_point.ensures.bound;
  reached = λ k s lt. up_to (get_or c.args.sectors.now k s).place c.args.place ((point c).0 k s (omega arith) lt);
  beyond = λ k s le lt. beyond (get_or c.args.sectors.now k s).place c.args.place ((point c).1 k s le lt);
}
