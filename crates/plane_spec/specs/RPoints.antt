-- Points with fractions: how three of them turn, and what the segments between them share.
use Rattle.std.specs.Prelude.{ℤ, pos, ◌-ℤ◌, ◌*ℤ◌, Bool, ◌&&◌, ◌||◌, not}
use Rattle.std.specs.Ordering.{int_eq}
use Rattle.plane_spec.specs.Segments.{are_opposite}
use Rattle.plane_spec.specs.Fractions.{Fraction, RPoint, is_before, is_at_least, is_at_most}

-- ---- fractions

-- the difference of two fractions, over the product of their denominators
abbrev pub minus : Fraction → Fraction → Fraction
minus f g = record { num = f.num *ℤ g.den -ℤ g.num *ℤ f.den; den = f.den *ℤ g.den }

-- the product of two fractions, over the product of their denominators
abbrev pub times : Fraction → Fraction → Fraction
times f g = record { num = f.num *ℤ g.num; den = f.den *ℤ g.den }

-- m is from the smaller of f and g to the greater
abbrev pub is_between_fractions : Fraction → Fraction → Fraction → Bool
is_between_fractions m f g =
    (not (is_before m f) && not (is_before g m)) || (not (is_before m g) && not (is_before f m))

-- the extent from one of m and n to the other shares a number with the one from low to high
abbrev pub fractions_overlap : Fraction → Fraction → ℤ → ℤ → Bool
fractions_overlap m n low high = (is_at_least m low || is_at_least n low) && (is_at_most m high || is_at_most n high)

-- ---- points

-- positive where c lies left of the line from a to b, and 0 where it lies on it
abbrev pub orient_of_rpoints : RPoint → RPoint → RPoint → ℤ
orient_of_rpoints a b c = (minus (times (minus b.x a.x) (minus c.y a.y)) (times (minus b.y a.y) (minus c.x a.x))).num

-- x lies on the closed segment from a to b: in line with it, and in its extents
abbrev pub is_rpoint_on_segment : RPoint → RPoint → RPoint → Bool
is_rpoint_on_segment x a b =
    int_eq (orient_of_rpoints a b x) (pos 0) && (is_between_fractions x.x a.x b.x && is_between_fractions x.y a.y b.y)

-- the ends of each segment lie strictly on different sides of the other
abbrev pub do_rpoints_cross : RPoint → RPoint → RPoint → RPoint → Bool
do_rpoints_cross a b c d =
    are_opposite (orient_of_rpoints a b c) (orient_of_rpoints a b d)
    && are_opposite (orient_of_rpoints c d a) (orient_of_rpoints c d b)

-- two closed segments share a point: they cross properly, or an end of one lies on the other
unfoldable pub do_rsegments_touch : RPoint → RPoint → RPoint → RPoint → Bool
do_rsegments_touch a b c d =
    do_rpoints_cross a b c d || ((is_rpoint_on_segment a c d || is_rpoint_on_segment b c d) || (is_rpoint_on_segment c a b || is_rpoint_on_segment d a b))
