-- Axial lines, and which of them cross.
use Rattle.std.specs.Prelude.{ℕ, pos, Bool, ◌&&◌, ◌||◌, List, map, filter, length, get_or, Option, Some, None}
use Rattle.std.specs.List.{Contains}
use Rattle.plane_spec.specs.declared.Point.{Point}
use Rattle.plane_spec.specs.declared.Corner.{Corner}
use Rattle.plane_spec.specs.Lists.{numbered_pairs, distinct_by}
use Rattle.plane_spec.specs.Vectors.{point, vector}
use Rattle.plane_spec.specs.Fractions.{Fraction, RPoint, whole_point, along, same_rpoint}
use Rattle.plane_spec.specs.RPoints.{do_rsegments_touch}
use Rattle.sight_spec.specs.Scene.{Scene}
use Rattle.sight_spec.specs.Sight.{are_in_sight}
use Rattle.sight_spec.specs.Stops.{stop_of}
use Rattle.graph_spec.specs.Graphs.{Graph, graph_where}

-- the line through two corners, with their numbers: beyond each it ends where it is stopped, and at the corner itself
-- where nothing stops it there
pub record AxialLine : Type 0 where
  pub first : ℕ
  pub second : ℕ
  pub from : RPoint
  pub to : RPoint

-- ---- all lines

-- the end of a line that leads over p in direction d, by the stop there
abbrev pub end_by : Point → Point → Option Fraction → RPoint
end_by p d None = whole_point p
end_by p d (Some t) = along p d t

-- where the line from q through p ends beyond p: at its stop, or at p itself where nothing stops it
abbrev pub end_beyond : Scene → Point → Point → RPoint
end_beyond scene q p = end_by p (vector q p) (stop_of scene p (vector q p))

-- where a corner stands
abbrev pub here_of : Corner → Point
here_of c = c.here

-- the line of two numbered corners
abbrev pub line_through : Scene → (ℕ × Point) × (ℕ × Point) → AxialLine
line_through scene e =
    record { first = e.0.0; second = e.1.0; from = end_beyond scene e.1.1 e.0.1; to = end_beyond scene e.0.1 e.1.1 }

-- the two points see each other
abbrev pub is_seen_pair : Scene → (ℕ × Point) × (ℕ × Point) → Bool
is_seen_pair scene e = are_in_sight scene e.0.1 e.1.1

-- the ends are the same, in either order
abbrev pub same_ends : AxialLine → AxialLine → Bool
same_ends l m =
    (same_rpoint l.from m.from && same_rpoint l.to m.to) || (same_rpoint l.from m.to && same_rpoint l.to m.from)

-- the lines of all pairs of corners that see each other, in order, without those whose ends are an earlier one's
unfoldable pub axial_lines : Scene → List AxialLine
axial_lines scene =
    distinct_by same_ends
    (map (line_through scene) (filter (is_seen_pair scene) (numbered_pairs (map here_of scene.corners))))

-- the line is one of the scene's
abbrev pub IsLineOf : Scene → AxialLine → Type 0
IsLineOf scene l = Contains (axial_lines scene) l

-- ---- crossing

-- the closed segments of two lines share a point
abbrev pub do_meet : AxialLine → AxialLine → Bool
do_meet l m = do_rsegments_touch l.from l.to m.from m.to

-- what stands for a line where there is none
abbrev pub no_line : AxialLine
no_line =
    record { first = 0; second = 0; from = whole_point (point (pos 0) (pos 0)); to = whole_point (point (pos 0) (pos 0)) }

-- the line of a number; one that leads nowhere stands for a number that no line has
abbrev pub line_of_number : List AxialLine → ℕ → AxialLine
line_of_number lines k = get_or lines k no_line

-- the graph over the lines' numbers that joins different lines that meet
unfoldable pub crossing_graph : List AxialLine → Graph
crossing_graph lines = graph_where (length lines) (λ i j. do_meet (line_of_number lines i) (line_of_number lines j))
