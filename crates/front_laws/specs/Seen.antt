-- Blockers as they are seen from a station: by the vectors from it to their ends.
use Rattle.std.proofs.Common.{◌≡◌, ℤ, ◌+ℤ◌, ◌-ℤ◌, ℕ, get_or}
use Rattle.std.specs.Ordering.{int_eq}
use Rattle.std.specs.Prelude.{true, if◌then◌else◌, ◌&&◌, ◌||◌, ℕ, ℤ, ◌+ℤ◌, ◌-ℤ◌, ◌≡◌, pos, Bool, int_lt, not, Option}
use Rattle.std.specs.Prelude.{Some, None, false, List, map}
use Rattle.plane_spec.specs.Fractions.{Fraction}
use Rattle.plane_spec.specs.Segments.{are_opposite}
use Rattle.plane_spec.specs.Vectors.{cross_of, vector, point}
use Rattle.plane_spec.specs.declared.Point.{Point}
use Rattle.plane_spec.specs.declared.Segment.{Segment}

-- a wall or screen with which the station isn't in line, by the vectors to its ends: `to` is left of `from`
pub record Seen : Type 0 where
  pub from : Point
  pub to : Point

-- its ends are strictly on both sides of the ray in direction d
abbrev pub spans : Point → Seen → Bool
spans d w = int_lt (pos 0) (cross_of w.from d) && int_lt (pos 0) (cross_of d w.to)

-- where the ray in direction d meets it
abbrev pub hit_of : Point → Seen → Fraction
hit_of d w = record { num = cross_of w.from w.to; den = cross_of d w.to +ℤ cross_of w.from d }

-- how a point lies from its line: positive on the station's side
abbrev pub side_of : Seen → Point → ℤ
side_of w c = cross_of w.from w.to +ℤ cross_of w.to c -ℤ cross_of w.from c

-- v is in front of w, by the sides on which each has the other's ends: where both ends of v are on one side of w, v is
-- in front exactly on the station's side; else no end of w may be on the station's side of v
unfoldable pub is_in_front : Seen → Seen → Bool
is_in_front v w =
    if are_opposite (side_of w v.from) (side_of w v.to)
    then not (int_lt (pos 0) (side_of v w.from) || int_lt (pos 0) (side_of v w.to))
    else (int_lt (pos 0) (side_of w v.from) || int_lt (pos 0) (side_of w v.to))

-- they don't cross properly, and v isn't on the line of w
unfoldable pub are_apart : Seen → Seen → Bool
are_apart v w =
    not (are_opposite (side_of w v.from) (side_of w v.to) && are_opposite (side_of v w.from) (side_of v w.to))
    && not (int_eq (side_of w v.from) (pos 0) && int_eq (side_of w v.to) (pos 0))

-- ---- walls and screens as they are seen from the station

-- the wall or screen counterclockwise as seen from p, and none where p is in line with it
unfoldable pub seen_of : Point → Segment → Option Seen
seen_of p w =
    if int_lt (pos 0) (cross_of (vector p w.a) (vector p w.b))
    then Some (record { from = vector p w.a; to = vector p w.b })
    else (if int_lt (cross_of (vector p w.a) (vector p w.b)) (pos 0)
    then Some (record { from = vector p w.b; to = vector p w.a }) else None)

-- where the ray meets it, if it is seen and spanned
abbrev pub hit_where : Point → Option Seen → Option Fraction
hit_where d None = None
hit_where d (Some s) = if spans d s then Some (hit_of d s) else None

-- it is seen and spanned, and a point at d is strictly behind it
abbrev pub crossed_where : Point → Option Seen → Bool
crossed_where d None = false
crossed_where d (Some s) = spans d s && int_lt (side_of s d) (pos 0)

-- ---- two of them

-- they are apart, asked of either
pub record BothApart (s t : Seen) : Type 0 where
  pub first : are_apart s t ≡ true
  pub second : are_apart t s ≡ true

-- one direction spans both, and they are apart
pub record AreTogether (d : Point) (v w : Seen) : Type 0 where
  pub first : spans d v ≡ true
  pub second : spans d w ≡ true
  pub apart : are_apart v w ≡ true
  pub back : are_apart w v ≡ true

-- the wall or screen of the number, as it is seen from p
abbrev pub seen_at : Point → List Segment → ℕ → Option Seen
seen_at p blockers k = get_or (map (seen_of p) blockers) k None
