use Rattle.std.proofs.Common.{◌≡◌, ◌<◌, ◌≤◌, ◌-◌, ℕ, rules, arith, get_or, leb}
use Rattle.std.specs.Prelude.{true, false}
use Rattle.std.specs.List.Sorted.{IsPartitionPoint}
use Rattle.std.proofs.lemmas.List.Sorted.{IsPartitionPoint-from_clause, IsPartitionedBy-leb}
use Rattle.isovist_core.proofs.Shown.{by_place}
use Rattle.isovist_core.proofs.sights.count_up_to.Goals as goal

point : (c : goal.After-partition_point)
    → IsPartitionPoint (λ s. leb s.place c.args.place ≡ true)
    (λ s. leb s.place c.args.place ≡ false) c.args.sectors.now c.partition_point.result
point c = IsPartitionPoint-from_clause
    (λ s. leb s.place c.args.place) c.args.sectors.now c.partition_point.result c.partition_point.ensures.partitioned
    (IsPartitionedBy-leb (λ s. s.place) c.args.sectors.now c.args.place
    (by_place c.args.sectors.now c.requires.order)) (λ a r q k. search rules)

up_to : (m n : ℕ) → leb m n ≡ true → m ≤ n
up_to m n h = grind arith

beyond : (m n : ℕ) → leb m n ≡ false → n < m
beyond m n h = grind arith

last_below : (n : ℕ) → 0 < n → n - 1 < n
last_below n h = omega (arith, h)

at_most_itself : (n : ℕ) → n ≤ n
at_most_itself n = omega arith

pub returns-else-near-sectors : goal.returns-else-near-sectors
returns-else-near-sectors c =
    let count = c.partition_point.result in
    let place = c.args.place in
    record {
      within = c.partition_point.ensures.bound;
      reached = λ s some. up_to (get_or c.args.sectors.now (count - 1) s).place place
          ((point c).0 (count - 1) s (omega arith) (last_below count some));
      beyond = λ s more. beyond (get_or c.args.sectors.now count s).place place
          ((point c).1 count s (at_most_itself count) more);
    }
