use Rattle.std.proofs.Common.{ℕ, ◌≡◌, ◌-◌, ◌<◌, ◌≤◌, length, get_or}
use Rattle.step_depth.proofs.sets.next_word.Given as goal

abbrev pub invariant-loop-k : goal.invariant-loop-k
invariant-loop-k l = (l.from ≤ l.k) × (l.k ≤ length l.set) × ((j : ℕ) → l.from ≤ j → j < l.k → get_or l.set j 0 ≡ 0)

abbrev pub decreases-loop-k : goal.decreases-loop-k
decreases-loop-k l = length l.set - l.k

abbrev pub invariant-loop-k-2 : goal.invariant-loop-k-2
invariant-loop-k-2 l = (l.from ≤ l.k) × (l.k ≤ length l.set) × ((j : ℕ) → l.from ≤ j → j < l.k → get_or l.set j 0 ≡ 0)

abbrev pub decreases-loop-k-2 : goal.decreases-loop-k-2
decreases-loop-k-2 l = length l.set - l.k
