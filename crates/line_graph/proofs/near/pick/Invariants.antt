use Rattle.std.proofs.Common.{◌≡◌, ◌<◌, ◌≤◌, ◌+◌, ◌-◌, ℕ, Bool, get_or, length, take}
use Rattle.std.specs.Prelude.{filter, if◌then◌else◌}
use Rattle.std.specs.List.{range_with_len}
use Rattle.line_graph.proofs.near.pick.Given as goal

abbrev pub invariant-loop-j : goal.invariant-loop-j
invariant-loop-j l = record {
  few : l.count + (l.i + 1) ≤ l.j;
  near : (test : ℕ → Bool)
      → ((k : ℕ) → l.i < k → k < length l.flags → get_or l.flags k 0 ≡ (if test k then 1 else 0))
      → take l.count l.near ≡ filter test (range_with_len (l.i + 1) (l.j - (l.i + 1)));
}
