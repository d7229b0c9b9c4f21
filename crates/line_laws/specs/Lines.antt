-- Axial lines before and after an edit: which are the same, and those after a removal, made of those before it and of
-- fresh ones between dirty corners.
use Rattle.std.specs.Prelude.{◌≡◌, ℕ, ◌==◌, nat_lt, Bool, ◌&&◌, ◌||◌, not, List, map, filter, is_some}
use Rattle.std.specs.List.{list_all, enumerate_from}
use Rattle.plane_spec.specs.declared.Point.{Point}
use Rattle.plane_spec.specs.Lists.{pairs, distinct_by}
use Rattle.plane_spec.specs.Vectors.{vector}
use Rattle.plan_spec.specs.declared.edit.Changed.{Changed}
use Rattle.sight_spec.specs.Scene.{Scene}
use Rattle.sight_spec.specs.Sight.{are_in_sight}
use Rattle.sight_spec.specs.Stops.{stop_of}
use Rattle.sight_spec.specs.Axial.{AxialLine, here_of, line_through, is_seen_pair, same_ends}
use Rattle.sight_spec.specs.Dirty.{is_dirty_line, dirty_corners}
use Rattle.list_laws.specs.Gaps.{closed_up}

-- ---- the same line

-- the two points see each other in both scenes or in neither, and the line through them has the same stops
pub record IsSameLine (old new : Scene) (p q : Point) : Type 0 where
  pub sight : are_in_sight new p q ≡ are_in_sight old p q
  pub from : stop_of new p (vector q p) ≡ stop_of old p (vector q p)
  pub to : stop_of new q (vector p q) ≡ stop_of old q (vector p q)

-- ---- kept lines

-- the line with the numbers that its corners have when the `count` corners from `start` on are gone
abbrev pub renumbered : ℕ → ℕ → AxialLine → AxialLine
renumbered start count l =
    record { first = closed_up start count l.first; second = closed_up start count l.second; from = l.from; to = l.to }

-- the old lines whose extent misses the boxes, with their new numbers
abbrev pub kept_lines : Changed → Scene → List AxialLine → ℕ → ℕ → List AxialLine
kept_lines boxes old lines start count =
    map (renumbered start count) (filter (λ l. not (is_dirty_line boxes old l)) lines)

-- ---- fresh lines

-- the pairs of dirty corners that see each other
abbrev pub fresh_pairs : Changed → Scene → List AxialLine → Scene → List ((ℕ × Point) × (ℕ × Point))
fresh_pairs boxes old lines new = filter (is_seen_pair new) (pairs (dirty_corners boxes old lines new))

-- their lines, as far as their extent meets the boxes; one whose ends are those of an earlier one is left out
abbrev pub fresh_lines : Changed → Scene → List AxialLine → Scene → List AxialLine
fresh_lines boxes old lines new =
    distinct_by same_ends (filter (is_dirty_line boxes new) (map (line_through new) (fresh_pairs boxes old lines new)))

-- something stops the line of the pair at each end
abbrev pub is_stopped : Scene → (ℕ × Point) × (ℕ × Point) → Bool
is_stopped scene e =
    is_some (stop_of scene e.0.1 (vector e.1.1 e.0.1)) && is_some (stop_of scene e.1.1 (vector e.0.1 e.1.1))

-- something stops the line of each pair of dirty corners that see each other, at each end
abbrev pub are_fresh_stopped : Changed → Scene → List AxialLine → Scene → Bool
are_fresh_stopped boxes old lines new = list_all (is_stopped new) (fresh_pairs boxes old lines new)

-- ---- all lines

-- one line comes before another by its first number, and then by its second
abbrev pub comes_before : AxialLine → AxialLine → Bool
comes_before l m = nat_lt l.first m.first || ((l.first == m.first) && nat_lt l.second m.second)
