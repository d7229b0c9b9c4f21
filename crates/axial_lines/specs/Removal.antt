-- What code finds of a removal: which corners are gone, and what is known of the lines before it.
use Rattle.std.specs.Prelude.{◌≡◌, ◌<◌, ℕ, length, Bool, true, ◌||◌, not, if◌then◌else◌, List, pos, get_or, Some}
use Rattle.std.specs.List.{list_any}
use Rattle.plane_spec.specs.declared.Point.{Point}
use Rattle.plane_spec.specs.declared.PlanBox.{PlanBox}
use Rattle.plane_spec.specs.Vectors.{point, same_point}
use Rattle.plane_spec.specs.Lists.{distinct_by, pairs}
use Rattle.exact_geom.specs.Parts.{HasRPointParts}
use Rattle.sight_spec.specs.Scene.{Scene}
use Rattle.sight_spec.specs.Axial.{AxialLine, is_seen_pair, same_ends}
use Rattle.sight_spec.specs.Dirty.{was_corner, is_dirty_to_another, is_on_axial_line}
use Rattle.dirty_laws.specs.Scenes.{ClosesUp, removal_of}
use Rattle.extent_laws.specs.Corners.{Pair}
use Rattle.list_laws.specs.Merged.{merged}
use Rattle.line_laws.specs.Lines.{comes_before, is_stopped, kept_lines}
use Rattle.axial_lines.specs.Found.{lines_with}

-- ---- which corners are gone

-- the point of a place in a list, and (0,0) behind its end
abbrev pub point_at : List Point → ℕ → Point
point_at points k = get_or points k (point (pos 0) (pos 0))

-- the points of all places before k are the same
abbrev pub AreAlikeBefore : ℕ → List Point → List Point → Type 0
AreAlikeBefore k some others = (i : ℕ) → i < k → point_at some i ≡ point_at others i

-- at place k one of the lists ends, or the points differ
abbrev pub DifferAt : ℕ → List Point → List Point → Type 0
DifferAt k some others =
    k < length some → k < length others → same_point (point_at some k) (point_at others k) ≡ true → ⊥

-- the corners that are gone stand together, so many of them from a place on, and lie in the box
pub record IsGap (area : PlanBox) (before after : Scene) (start count : ℕ) : Type 0 where
  pub closes : ClosesUp area before after
  pub start_is : length closes.front ≡ start
  pub count_is : length closes.gone ≡ count

-- ---- lines before the edit

-- its numbers are those of corners, and its ends have small parts
pub record IsKnownLine (scene : Scene) (l : AxialLine) : Type 0 where
  pub first : l.first < length scene.corners
  pub second : l.second < length scene.corners
  pub from : HasRPointParts l.from
  pub to : HasRPointParts l.to

-- the corner didn't stand in the old scene, or has a pair with another that meets the box, or lies on one of the lines
abbrev pub is_dirty_by : PlanBox → Scene → List AxialLine → Scene → Point → Bool
is_dirty_by area old dirty new p =
    not (was_corner old p)
    || (is_dirty_to_another (removal_of area) new p || list_any (is_on_axial_line old p) dirty)

-- the old lines that stay when `count` corners from `start` on are gone, merged with those between the ends that meet
-- the box
abbrev pub updated : PlanBox → Scene → Scene → List AxialLine → ℕ → ℕ → List (ℕ × Point) → List AxialLine
updated area before after old start count ends =
    merged comes_before
    (kept_lines (removal_of area) before old start count)
    (distinct_by same_ends (lines_with after (Some area) (pairs ends)))

-- something stops the line of the pair at each end, if the two see each other
abbrev pub is_stopped_if_seen : Scene → Pair → Bool
is_stopped_if_seen scene e = if is_seen_pair scene e then is_stopped scene e else true
