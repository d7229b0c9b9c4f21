-- Where a ray may be stopped.
use Rattle.std.specs.Prelude.{pos, ◌<ℤ◌}
use Rattle.plane_spec.specs.Vectors.{IsWithin}
use Rattle.plane_spec.specs.Fractions.{Fraction}

-- small parts, over a denominator of at least 1
pub record IsHit (f : Fraction) : Type 0 where
  pub num : IsWithin (pos 320000000000) f.num
  pub den : IsWithin (pos 320000000000) f.den
  pub positive : pos 0 <ℤ f.den
