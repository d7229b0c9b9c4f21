-- The numbers of the points that make dirty pairs with one of the grid, and what a look at them tells.
use Rattle.std.specs.Prelude.{◌≡◌, ℕ, ◌<◌, All, Bool, Contains, true, false, List, length, slice_index, slice_index_or}
use Rattle.plan_spec.specs.declared.edit.Changed.{Changed}
use Rattle.plan_spec.specs.Plan.{Plan}
use Rattle.vga_fill.specs.Graphs.{is_edge_of}
use Rattle.vga_fill.specs.Sights.{is_dirty}

-- of the later grid points below a number, these are all that make a dirty pair with the one of the row
pub record AreDirtyBelow (plan : Plan) (boxes : Changed) (row below : ℕ) (numbers : List ℕ) : Type 0 where
  pub later : All (λ j. (row < j) × (j < below)) numbers
  pub dirty : All (λ j. is_dirty plan boxes row j ≡ true) numbers
  pub all : (j : ℕ) → row < j → j < below → is_dirty plan boxes row j ≡ true → Contains numbers j

-- the answers tell of each of some later grid points whether the visibility graph joins it with the one of the row
abbrev pub AreSeen : Plan → ℕ → List ℕ → List Bool → Type 0
AreSeen plan row numbers seen =
    (k : ℕ) → k < length numbers → slice_index_or seen k false ≡ is_edge_of plan row (slice_index numbers k)
