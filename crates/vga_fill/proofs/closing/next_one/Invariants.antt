use Rattle.std.specs.Prelude.{◌≡◌, ℕ, ◌-◌, ◌<◌, ◌≤◌, false}
use Rattle.std.specs.Mem.Slots.{slots_items}
use Rattle.vga_fill.specs.Graphs.{is_one}
use Rattle.vga_fill.proofs.closing.next_one.Given as goal

abbrev pub invariant-words : goal.invariant-words
invariant-words l =
    (l.from ≤ l.j) × ((k : ℕ) → l.from ≤ k → k < l.j → is_one (slots_items l.closed.words) l.count l.i k ≡ false)

abbrev pub decreases-words : goal.decreases-words
decreases-words l = l.count - l.j
