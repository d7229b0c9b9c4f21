-- Whole numbers between which a line lies, by which most pairs that don't meet are told.
use Rattle.std.specs.Prelude.{ℕ, ℤ, neg_ℤ, ◌+ℤ◌, nat_le, min, max, unsigned_abs, Bool, ◌&&◌, int_lt, if◌then◌else◌}
use Rattle.plane_spec.specs.Fractions.{Fraction, floor_of, ceil_of}
use Rattle.sight_spec.specs.Axial.{AxialLine}
use Rattle.line_graph.specs.declared.extents.Extent.{Extent}
use Rattle.line_graph.specs.declared.limits.TheConstants.{MAX_RANKED}

-- a whole number, counted from the least one that is told from smaller ones; those beyond the greatest one count alike
unfoldable pub rank_of : ℤ → ℕ
rank_of z =
    if int_lt z (neg_ℤ MAX_RANKED) then 0
    else (if int_lt MAX_RANKED z then unsigned_abs (MAX_RANKED +ℤ MAX_RANKED) else unsigned_abs (z +ℤ MAX_RANKED))

-- a rank that neither coordinate is below
abbrev pub low_of : Fraction → Fraction → ℕ
low_of f g = min (rank_of (floor_of f)) (rank_of (floor_of g))

-- a rank that neither coordinate is above
abbrev pub high_of : Fraction → Fraction → ℕ
high_of f g = max (rank_of (ceil_of f)) (rank_of (ceil_of g))

-- the ranks between which a line lies, in both coordinates
unfoldable pub extent_of : AxialLine → Extent
extent_of l = record {
  left = low_of l.from.x l.to.x;
  right = high_of l.from.x l.to.x;
  below = low_of l.from.y l.to.y;
  above = high_of l.from.y l.to.y;
}

-- neither extent lies wholly before the other, in x or in y
unfoldable pub are_near : Extent → Extent → Bool
are_near e f = ((nat_le e.left f.right && nat_le f.left e.right) && nat_le e.below f.above) && nat_le f.below e.above
