-- What a view tells of one direction.
use Rattle.std.specs.Prelude.{ℕ, pos, ◌≡◌, ◌<ℤ◌, ◌<◌, ◌≤◌, List, length, IfSome}
use Rattle.std.proofs.Common.{get_or}
use Rattle.plane_spec.specs.declared.Point.{Point}
use Rattle.plane_spec.specs.Vectors.{cross_of, IsDirection, IsWithin}
use Rattle.view_laws.specs.declared.view.Front.{Front}
use Rattle.view_laws.specs.declared.view.Sector.{Sector}
use Rattle.view_laws.specs.declared.view.View.{View}
use Rattle.view_laws.specs.Views.{Radial, radial_between, radial_by}
use Rattle.sight_sweep.specs.declared.row.Gap.{Gap}
use Rattle.sight_sweep.specs.declared.told.Told.{Told}

-- as it is defined
abbrev pub radial : Told → Radial
radial told = record { front = told.front; ahead = told.ahead; behind = told.behind }

-- the direction meets it, and what its side is reckoned from is small
pub record IsFrontTo (d : Point) (f : Front) : Type 0 where
  pub edge : IsDirection f.edge
  pub spread : IsWithin (pos 320000000000) f.spread
  pub across : pos 0 <ℤ cross_of d f.edge

-- a distance between points in range
abbrev pub IsFar : ℕ → Type 0
IsFar far = far ≤ 800000

-- what is told is small
pub record IsTold (d : Point) (told : Told) : Type 0 where
  pub front : IfSome told.front (IsFrontTo d)
  pub ahead : IfSome told.ahead IsFar

-- so many of the sectors have a place up to this one: the first ones
pub record IsCount (sectors : List Sector) (place count : ℕ) : Type 0 where
  pub within : count ≤ length sectors
  pub reached : (k : ℕ) (s : Sector) → k < count → (get_or sectors k s).place ≤ place
  pub beyond : (k : ℕ) (s : Sector) → count ≤ k → k < length sectors → place < (get_or sectors k s).place

-- the place is one of a direction of the gap
pub record IsIn (gap : Gap) (place : ℕ) : Type 0 where
  pub from : gap.from ≤ place
  pub upto : place < gap.upto

-- in each direction of the gap the view tells of what is first, and of no corner
abbrev pub IsGapOf : View → Gap → Type 0
IsGapOf view gap =
    (place : ℕ) → IsIn gap place → radial_by view.before view.sectors.items place ≡ radial_between gap.front
