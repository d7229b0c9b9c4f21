-- What a view shows between two directions.
use Rattle.std.proofs.Common.{get_or}
use Rattle.std.specs.Prelude.{ℕ, ◌-◌, ◌<◌, ◌≤◌, pos, ◌||◌, int_le, List, length, Option, None, if◌then◌else◌}
use Rattle.plane_spec.specs.declared.Point.{Point}
use Rattle.plane_spec.specs.Vectors.{cross_of}
use Rattle.sight_spec.specs.Isovist as isovists
use Rattle.sight_spec.specs.Isovist.{sum_of}
use Rattle.view_laws.specs.declared.view.Sector.{Sector}
use Rattle.view_laws.specs.declared.view.View.{View}
use Rattle.view_laws.specs.Views.{is_led_into, number_by, radial_of}
use Rattle.isovist_core.specs.declared.gap.Gap.{Gap}
use Rattle.isovist_core.specs.Gaps.{pair_of}

-- so many of the sectors have a place up to this one
pub record IsCountUpTo (sectors : List Sector) (place count : ℕ) : Type 0 where
  pub within : count ≤ length sectors
  pub reached : (s : Sector) → 0 < count → (get_or sectors (count - 1) s).place ≤ place
  pub beyond : (s : Sector) → count < length sectors → place < (get_or sectors count s).place

-- so many of the sectors have a place up to the first of two, and the others one from the second on, which is greater
pub record IsCountBetween (sectors : List Sector) (first second count : ℕ) : Type 0 where
  pub forward : first < second
  pub within : count ≤ length sectors
  pub reached : (s : Sector) → 0 < count → (get_or sectors (count - 1) s).place ≤ first
  pub beyond : (s : Sector) → count < length sectors → second ≤ (get_or sectors count s).place

-- the wall or screen that is seen first in the direction of the sum of two: none between two directions of a half turn or
-- more, nor where one looks into what is blocked
abbrev pub wall_shown : View → Point × Point → Option ℕ
wall_shown view gap = if int_le (cross_of gap.0 gap.1) (pos 0) || is_led_into view.ground (sum_of gap.0 gap.1) then None
    else number_by (radial_of view (sum_of gap.0 gap.1)).front

-- the sector of a gap with what the view shows in it
abbrev pub sector_shown : View → Gap → isovists.Sector
sector_shown view gap = record { from = gap.from.step; to = gap.to.step; wall = wall_shown view (pair_of gap) }
