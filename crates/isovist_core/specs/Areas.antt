-- Doubled areas, as the code holds them.
use Rattle.std.specs.Prelude.{ℤ, pos, ◌≤ℤ◌}
use Rattle.plane_spec.specs.Vectors.{IsWithin}
use Rattle.plane_spec.specs.Fractions.{Fraction}
use Rattle.exact_geom.specs.declared.limits.TheConstants.{MAX_FRACTION_PART}

-- how large a product of two parts of hits is
abbrev pub MAX_SIZES : ℤ
MAX_SIZES = pos 1_000_000_000_000_000_000_000_000

-- parts that can be brought to lowest terms, over a denominator of at least 1
pub record IsArea (f : Fraction) : Type 0 where
  pub num : IsWithin MAX_FRACTION_PART f.num
  pub den : IsWithin MAX_FRACTION_PART f.den
  pub positive : pos 1 ≤ℤ f.den
