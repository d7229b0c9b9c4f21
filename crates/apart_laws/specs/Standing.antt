-- Which edges stand beside each other in a sound plan, and what passes through a point.
use Rattle.std.specs.List.{list_all}
use Rattle.std.specs.Prelude.{Bool, ◌&&◌, ◌||◌, not, List}
use Rattle.plane_spec.specs.Polygons.{folds_back, edges_touch}
use Rattle.plane_spec.specs.Vectors.{same_point}
use Rattle.plane_spec.specs.declared.Segment.{Segment}
use Rattle.std.specs.Prelude.{◌≡◌, true, pos}
use Rattle.std.specs.Ordering.{int_eq}
use Rattle.plane_spec.specs.declared.Point.{Point}
use Rattle.front_laws.specs.Seen.{Seen, spans, side_of}

-- the second begins where the first ends, and they share no more
abbrev pub follows : Segment → Segment → Bool
follows e f = same_point e.b f.a && not (folds_back e f)

-- they don't touch, or one follows the other
abbrev pub stands : Segment → Segment → Bool
stands e f = not (edges_touch e f) || (follows e f || follows f e)

-- each of these beside each of those
abbrev pub stand_beside : List Segment → List Segment → Bool
stand_beside xs ys = list_all (λ e. list_all (stands e) ys) xs

-- the direction to v spans it, and v is on its line
pub record PassesThrough (s : Seen) (v : Point) : Type 0 where
  pub spanned : spans v s ≡ true
  pub on_line : int_eq (side_of s v) (pos 0) ≡ true
