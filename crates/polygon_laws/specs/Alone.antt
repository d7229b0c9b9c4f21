-- One polygon as a scene, and nothing else in it.
use Rattle.std.specs.Prelude.{true, false, List, []}
use Rattle.plane_spec.specs.declared.Point.{Point}
use Rattle.plane_spec.specs.declared.Orientation.TheVariants.{Counterclockwise, Clockwise}
use Rattle.sight_spec.specs.Scene.{Scene, oriented_walls, oriented_corners}

-- the walls and corners of one obstacle, and nothing else
abbrev pub obstacle_alone : List Point → Scene
obstacle_alone points =
    record {
      walls = oriented_walls Counterclockwise points;
      screens = [];
      corners = oriented_corners Counterclockwise points;
    }

-- the walls and corners of an outer polygon, and nothing else
abbrev pub outer_alone : List Point → Scene
outer_alone points =
    record { walls = oriented_walls Clockwise points; screens = []; corners = oriented_corners Clockwise points }
