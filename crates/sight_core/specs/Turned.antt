-- The walls and corners of one polygon, for edges that are kept or turned.
use Rattle.std.specs.Prelude.{Bool, List, map, if◌then◌else◌}
use Rattle.plane_spec.specs.declared.Segment.{Segment}
use Rattle.plane_spec.specs.declared.Corner.{Corner}
use Rattle.sight_spec.specs.Scene.{turned_edge, turned_corner}

-- the edge in its own direction, or in the other
abbrev pub directed_edge : Bool → Segment → Segment
directed_edge keep e = if keep then e else turned_edge e

-- the same of all edges
abbrev pub directed_edges : Bool → List Segment → List Segment
directed_edges keep edges = if keep then edges else map turned_edge edges

-- the same of corners
abbrev pub directed_corner : Bool → Corner → Corner
directed_corner keep c = if keep then c else turned_corner c

-- the same of all corners
abbrev pub directed_corners : Bool → List Corner → List Corner
directed_corners keep corners = if keep then corners else map turned_corner corners
