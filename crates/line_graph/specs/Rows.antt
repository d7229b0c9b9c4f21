-- The lines that a line may meet, by their numbers, and what is known of a list of lines.
use Rattle.std.specs.Prelude.{◌≡◌, ℕ, ◌+◌, ◌-◌, ◌<◌, ◌==◌, Bool, List, length, filter, map, slice_index_or}
use Rattle.std.specs.List.{range_with_len, list_any}
use Rattle.sight_spec.specs.Axial.{AxialLine, do_meet, line_of_number}
use Rattle.meet_laws.specs.Stretches.{Stretch}
use Rattle.line_graph.specs.declared.extents.Extent.{Extent}
use Rattle.line_graph.specs.Extents.{are_near}
use Rattle.line_graph.specs.Measured.{IsMeasured}

-- what stands for an extent where there is none
abbrev pub no_extent : Extent
no_extent = record { left = 0; right = 0; below = 0; above = 0 }

-- the extents of two numbers share a point
abbrev pub are_near_at : List Extent → ℕ → ℕ → Bool
are_near_at extents i j = are_near (slice_index_or extents i no_extent) (slice_index_or extents j no_extent)

-- the lists have the sides of the extents, in order
pub record AreColumns (lefts rights belows aboves : List ℕ) (extents : List Extent) : Type 0 where
  pub left : lefts ≡ map (λ e. e.left) extents
  pub right : rights ≡ map (λ e. e.right) extents
  pub below : belows ≡ map (λ e. e.below) extents
  pub above : aboves ≡ map (λ e. e.above) extents

-- the numbers after i and below `end` of the extents that share a point with that of i
abbrev pub near_below : List Extent → ℕ → ℕ → List ℕ
near_below extents i end = filter (are_near_at extents i) (range_with_len (i + 1) (end - (i + 1)))

-- the lines of two numbers meet
abbrev pub do_meet_at : List AxialLine → ℕ → ℕ → Bool
do_meet_at lines i j = do_meet (line_of_number lines i) (line_of_number lines j)

-- the number is in the list
abbrev pub has_number : List ℕ → ℕ → Bool
has_number numbers k = list_any (λ n. n == k) numbers

-- a stretch for each line, in order
pub record AreMeasured (stretches : List Stretch) (lines : List AxialLine) : Type 0 where
  pub sized : length stretches ≡ length lines
  pub each : (k : ℕ) (s : Stretch) (l : AxialLine) → k < length lines → s ≡ slice_index_or stretches k s
      → l ≡ slice_index_or lines k l → IsMeasured s l
