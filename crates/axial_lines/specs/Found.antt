-- Lines as they are found: when two have the same ends, which pairs give one that is wanted, and what is added to those
-- that were found.
use Rattle.std.specs.Prelude.{ℕ, ◌+◌, ◌*◌, ◌%◌, ◌^◌, bit_xor, unsigned_abs, ℤ, Bool, true, ◌&&◌, ◌||◌, Option, Some, None, List, [], ◌∷◌, ◌++◌, map, filter, if◌then◌else◌}
use Rattle.std.specs.List.{list_any}
use Rattle.plane_spec.specs.declared.Point.{Point}
use Rattle.plane_spec.specs.declared.PlanBox.{PlanBox}
use Rattle.plane_spec.specs.Vectors.{InRange, vector}
use Rattle.plane_spec.specs.Fractions.{Fraction, RPoint}
use Rattle.plane_spec.specs.Boxes.{does_extent_meet_box}
use Rattle.exact_geom.specs.Parts.{same_parts}
use Rattle.sight_spec.specs.Scene.{Scene}
use Rattle.sight_spec.specs.Sight.{are_in_sight}
use Rattle.sight_spec.specs.Stops.{stop_of}
use Rattle.sight_spec.specs.Axial.{AxialLine, line_through, is_seen_pair}
use Rattle.extent_laws.specs.Corners.{Pair}

-- ---- ends

-- one point, part for part
abbrev pub same_end : RPoint → RPoint → Bool
same_end p q = same_parts p.x q.x && same_parts p.y q.y

-- the ends are the same, part for part, in either order
abbrev pub has_ends_of : AxialLine → AxialLine → Bool
has_ends_of l m = (same_end l.from m.from && same_end l.to m.to) || (same_end l.from m.to && same_end l.to m.from)

-- 64 bits with the low ones of a number mixed in
abbrev pub mixed : ℕ → ℕ → ℕ
mixed bits n = (bit_xor bits n * 1099511628211) % 2 ^ 64

-- the low 64 bits of the size of a number
abbrev pub low_bits : ℤ → ℕ
low_bits z = unsigned_abs z % 2 ^ 64

-- 64 bits made of a fraction's parts
abbrev pub with_parts : ℕ → Fraction → ℕ
with_parts bits f = mixed (mixed bits (low_bits f.num)) (low_bits f.den)

-- 64 bits made of an end's parts
abbrev pub bits_of_end : RPoint → ℕ
bits_of_end p = with_parts (with_parts 0 p.x) p.y

-- the square, in 64 bits
abbrev pub squared : ℕ → ℕ
squared n = (n * n) % 2 ^ 64

-- 64 bits made of both ends, whichever comes first
unfoldable pub bits_of_ends : AxialLine → ℕ
bits_of_ends l = (squared (bits_of_end l.from) + squared (bits_of_end l.to)) % 2 ^ 64

-- ---- what is seen

-- a numbered point in range
abbrev pub IsEndInRange : ℕ × Point → Type 0
IsEndInRange n = InRange n.1

-- where two points see each other, the stops of the line through them: beyond the first, and beyond the second
abbrev pub stops_of_pair : Scene → Point → Point → Option (Option Fraction × Option Fraction)
stops_of_pair scene p q =
    if are_in_sight scene p q then Some (stop_of scene p (vector q p), stop_of scene q (vector p q)) else None

-- the line of a pair, where the two see each other
abbrev pub seen_line : Scene → Pair → Option AxialLine
seen_line scene e = if is_seen_pair scene e then Some (line_through scene e) else None

-- ---- what is found

-- the extent between two points of the line through p and q meets the box, where there is one
abbrev pub is_wanted_extent : Option PlanBox → Point → Point → RPoint → RPoint → Bool
is_wanted_extent None p q from to = true
is_wanted_extent (Some area) p q from to = does_extent_meet_box p q from to area

-- so does the line of a pair
abbrev pub is_wanted : Scene → Option PlanBox → Pair → Bool
is_wanted scene area e = is_wanted_extent area e.0.1 e.1.1 (line_through scene e).from (line_through scene e).to

-- the lines of the pairs that see each other and whose line is wanted
abbrev pub lines_with : Scene → Option PlanBox → List Pair → List AxialLine
lines_with scene area pairs =
    map (line_through scene) (filter (is_wanted scene area) (filter (is_seen_pair scene) pairs))

-- the elements and then those of xs, each left out where it is like one before it that isn't
abbrev pub added : {X : Type 0} → (X → X → Bool) → List X → List X → List X
added alike kept [] = kept
added alike kept (x ∷ xs) = added alike (if list_any (alike x) kept then kept else (kept ++ x ∷ [])) xs

-- the lines and then the wanted ones of the pairs, each left out where one before it has its ends
abbrev pub lines_added : Scene → Option PlanBox → List AxialLine → List Pair → List AxialLine
lines_added scene area kept pairs = added has_ends_of kept (lines_with scene area pairs)
