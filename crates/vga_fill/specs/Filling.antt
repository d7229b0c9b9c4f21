-- The rule of a fill: what holds of its words and of all views between any two events.
use Rattle.std.specs.Prelude.{◌≡◌, ℕ, ◌+◌, ◌<◌, ◌≤◌, ◌^◌, ◌⊎◌, ◌&&◌, List, length, slice_index, true, cond, nat_lt, min}
use Rattle.std.specs.List.{sum_by}
use Rattle.std.specs.Int.{bit_at}
use mathlib.Core.Option.{some}
use lib.ListN.{get_elem?}
use Rattle.atomic_table.specs.Table.{State, Me, Step}
use Rattle.vga_fill.specs.declared.events.View.{View}
use Rattle.vga_fill.specs.Places.{size}
use Rattle.vga_fill.specs.Views.{times, wrote, claimed, with_ones, with_zeros}

-- each place shows what is old or new there, and a place that some seat wrote shows what is new
pub record Shows (n : ℕ) (old new : ℕ → ℕ → ℕ) (words : List ℕ) (views : List View) : Type 0 where
  pub either : (w b : ℕ) → 0 < w → w < size n → b < 64
      → (bit_at (slice_index words w) b ≡ new w b) ⊎ (bit_at (slice_index words w) b ≡ old w b)
  pub written : (id : ℕ) (v : View) → get_elem? views id ≡ some v → (w b : ℕ) → 0 < w → w < size n → b < 64
      → wrote v w b ≡ true → bit_at (slice_index words w) b ≡ new w b

-- each row below the count of claims is claimed once, and no other; a seat is told that no row is left only where that
-- is so; tellings and passes add up; and a seat that claimed a row has a telling or a pass
pub record Counts (n c : ℕ) (views : List View) : Type 0 where
  pub small : n < 2 ^ 32
  pub rows : (row : ℕ) → sum_by (λ v. times row v.rows) views ≡ cond (nat_lt row c && nat_lt row n) 1 0
  pub told : (id : ℕ) (v : View) → get_elem? views id ≡ some v → v.told ≡ true → n ≤ c
  pub tellings : sum_by (λ v. v.tellings) views + min c n ≡ c
  pub total : sum_by (λ v. v.tellings + v.passes) views ≡ 2 ^ 63
  pub held : (id : ℕ) (v : View) → get_elem? views id ≡ some v → 0 < length v.rows → 0 < v.tellings + v.passes

-- both, over the words of a table, of which the first counts the claims
pub record Kept (n : ℕ) (old new : ℕ → ℕ → ℕ) (s : State (Unit {0}) View) : Type 0 where
  pub words : length s.words ≡ size n
  pub shows : Shows n old new s.words s.views
  pub counts : Counts n (slice_index s.words 0) s.views

-- what an event tells its seat: a claim how many claims it found, which is more than each row that the seat had claimed
abbrev pub Claimed : Step (Unit {0}) → Me (Unit {0}) View → ℕ → Me (Unit {0}) View → Type 0
Claimed step before found after =
    (after ≡ (claimed before.0 found, before.1)) × ((row : ℕ) → 0 < times row before.0.rows → row < found)

abbrev pub Set : Step (Unit {0}) → Me (Unit {0}) View → ℕ → Me (Unit {0}) View → Type 0
Set step before found after = after ≡ (with_ones before.0 step.word step.first, before.1)

abbrev pub Cleared : Step (Unit {0}) → Me (Unit {0}) View → ℕ → Me (Unit {0}) View → Type 0
Cleared step before found after = after ≡ (with_zeros before.0 step.word step.first, before.1)
