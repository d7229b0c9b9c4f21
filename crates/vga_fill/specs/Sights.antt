-- What is asked of a plan, row by row.
use Rattle.std.specs.Prelude.{◌≡◌, ℕ, ◌<◌, Bool, false, List, length, slice_index_or}
use Rattle.plan_spec.specs.declared.edit.Changed.{Changed}
use Rattle.plan_spec.specs.Grid.{grid_points, point_of_number}
use Rattle.plan_spec.specs.Plan.{Plan}
use Rattle.plan_spec.specs.Ranges.{AreBoxesInRange}
use Rattle.sight_spec.specs.Dirty.{is_dirty_pair}
use Rattle.vga_fill.specs.declared.events.Task.{Task}
use Rattle.vga_fill.specs.declared.job.Job.{Job}
use Rattle.vga_fill.specs.declared.job.Job.TheVariants.{All, Dirty}
use Rattle.vga_fill.specs.Graphs.{is_edge_of, was_joined, is_to_join}

-- the answers tell of each later grid point whether the visibility graph joins it with the one of the number
abbrev pub IsLook : Plan → ℕ → List Bool → Type 0
IsLook plan row seen =
    (j : ℕ) → row < j → j < length (grid_points plan.grid) → slice_index_or seen j false ≡ is_edge_of plan row j

-- the pair of two grid points is dirty
abbrev pub is_dirty : Plan → Changed → ℕ → ℕ → Bool
is_dirty plan boxes i j = is_dirty_pair boxes (point_of_number plan.grid i) (point_of_number plan.grid j)

-- a pair that the boxes miss is an edge of the old graph where it is one of the new
pub record AreBoxesOf (k : Task) (boxes : Changed) : Type 0 where
  pub in_range : AreBoxesInRange boxes
  pub kept : (i j : ℕ) → i < j → j < k.count → is_dirty k.after.value boxes i j ≡ false
      → was_joined k i j ≡ is_to_join k i j

-- the job leaves out no pair at which the graphs of the fill may differ
abbrev pub IsJobOf : Task → Job → Type 0
IsJobOf k All = (i j : ℕ) → was_joined k i j ≡ false
IsJobOf k (Dirty boxes) = AreBoxesOf k boxes
