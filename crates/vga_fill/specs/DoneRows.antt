-- Rows that are done.
use Rattle.std.specs.Prelude.{◌≡◌, ◌≢◌, ℕ, ◌<◌, ◌%◌, Bool, true, Option, Some}
use Rattle.vga_fill.specs.declared.events.View.{View}
use Rattle.vga_fill.specs.declared.events.Task.{Task}
use Rattle.vga_fill.specs.Places.{word_of}
use Rattle.vga_fill.specs.Views.{times, wrote}
use Rattle.vga_fill.specs.Graphs.{was_joined, is_to_join}

-- both places of a pair are written
abbrev pub WroteBoth : ℕ → View → ℕ → ℕ → Type 0
WroteBoth n v i j = (wrote v (word_of n i j) (j % 64) ≡ true) × (wrote v (word_of n j i) (i % 64) ≡ true)

-- both places of each pair of the row at which the graphs differ are written, the row's node being the smaller of it
abbrev pub IsDone : (ℕ → ℕ → Bool) → (ℕ → ℕ → Bool) → ℕ → View → ℕ → Type 0
IsDone old new n v row = (j : ℕ) → row < j → j < n → old row j ≢ new row j → WroteBoth n v row j

-- each claimed row but the one that is held is done
abbrev pub AreDone : (ℕ → ℕ → Bool) → (ℕ → ℕ → Bool) → ℕ → View → Option ℕ → Type 0
AreDone old new n v held = (row : ℕ) → 0 < times row v.rows → held ≢ Some row → IsDone old new n v row

-- each row that a seat has claimed is done, but the one that it holds; and the seat knows how many rows there are
abbrev pub KeepsRows : View → Option ℕ → Type 0
KeepsRows v held =
    (k : Task) → v.task ≡ Some k → (v.count ≡ k.count) × AreDone (was_joined k) (is_to_join k) k.count v held
