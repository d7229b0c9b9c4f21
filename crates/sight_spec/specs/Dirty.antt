-- What an edit may change: the pairs and lines whose segments meet the box before it or the one after it, and the rows
-- and corners that have such.
use Rattle.std.specs.Prelude.{ℕ, pos, Bool, false, ◌&&◌, ◌||◌, not, List, [], ◌∷◌, drop, map, filter, length, Option, Some, None}
use Rattle.std.specs.Ordering.{int_eq}
use Rattle.std.specs.List.{list_any, enumerate_from}
use Rattle.plane_spec.specs.declared.Point.{Point}
use Rattle.plane_spec.specs.declared.Corner.{Corner}
use Rattle.plane_spec.specs.declared.PlanBox.{PlanBox}
use Rattle.plane_spec.specs.Vectors.{point, orient_of, same_point}
use Rattle.plane_spec.specs.Fractions.{whole}
use Rattle.plane_spec.specs.RPoints.{is_between_fractions}
use Rattle.plane_spec.specs.Boxes.{does_meet_box, does_extent_meet_box, is_on_extent}
use Rattle.plan_spec.specs.declared.edit.Changed.{Changed}
use Rattle.sight_spec.specs.Scene.{Scene}
use Rattle.sight_spec.specs.Axial.{AxialLine, here_of}

-- ---- pairs and rows

-- the segment meets the box, where there is one
abbrev pub meets_if_there : Point → Point → Option PlanBox → Bool
meets_if_there p q None = false
meets_if_there p q (Some area) = does_meet_box p q area

-- the segment meets the box before the edit or the one after it
unfoldable pub is_dirty_pair : Changed → Point → Point → Bool
is_dirty_pair boxes p q = meets_if_there p q boxes.first || meets_if_there p q boxes.second

-- a pair of the first point and a later one is dirty
abbrev pub is_dirty_with : Changed → List Point → Bool
is_dirty_with boxes [] = false
is_dirty_with boxes (p ∷ later) = list_any (is_dirty_pair boxes p) later

-- a pair of the grid point i and a later one is dirty
abbrev pub is_dirty_row : Changed → List Point → ℕ → Bool
is_dirty_row boxes points i = is_dirty_with boxes (drop i points)

-- ---- lines

-- where the corner of a number stands
abbrev pub corner_point : Scene → ℕ → Point
corner_point scene k = here_at (drop k scene.corners)
  where
    here_at : List Corner → Point
    here_at [] = point (pos 0) (pos 0)
    here_at (c ∷ corners) = c.here

-- the whole extent of a line of the scene meets the box, where there is one
abbrev pub extent_meets_if_there : Scene → AxialLine → Option PlanBox → Bool
extent_meets_if_there scene l None = false
extent_meets_if_there scene l (Some area) =
    does_extent_meet_box (corner_point scene l.first) (corner_point scene l.second) l.from l.to area

-- the whole extent of a line of the scene meets one of the boxes
unfoldable pub is_dirty_line : Changed → Scene → AxialLine → Bool
is_dirty_line boxes scene l = extent_meets_if_there scene l boxes.first || extent_meets_if_there scene l boxes.second

-- the point lies on the extent of a line of the scene
abbrev pub is_on_axial_line : Scene → Point → AxialLine → Bool
is_on_axial_line scene p l =
    is_on_extent p (corner_point scene l.first) (corner_point scene l.second) l.from l.to

-- ---- corners

-- a corner stands there in the old scene
abbrev pub was_corner : Scene → Point → Bool
was_corner old p = list_any (λ c. same_point c.here p) old.corners

-- its pair with another corner of the new scene is dirty
abbrev pub is_dirty_to_another : Changed → Scene → Point → Bool
is_dirty_to_another boxes new p = list_any (λ c. not (same_point c.here p) && is_dirty_pair boxes p c.here) new.corners

-- a corner of the new scene that didn't stand in the old one, or has a dirty pair with another corner, or lies on the
-- old extent of a dirty line
unfoldable pub is_dirty_corner : Changed → Scene → List AxialLine → Scene → Point → Bool
is_dirty_corner boxes old lines new p =
    not (was_corner old p)
    || (is_dirty_to_another boxes new p || list_any (λ l. is_dirty_line boxes old l && is_on_axial_line old p l) lines)

-- the dirty corners of the new scene, each beside its number
abbrev pub dirty_corners : Changed → Scene → List AxialLine → Scene → List (ℕ × Point)
dirty_corners boxes old lines new =
    filter (λ e. is_dirty_corner boxes old lines new e.1) (enumerate_from 0 (map here_of new.corners))

-- how many they are
abbrev pub dirty_corner_count : Changed → Scene → List AxialLine → Scene → ℕ
dirty_corner_count boxes old lines new = length (dirty_corners boxes old lines new)
