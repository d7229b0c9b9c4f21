-- The first of the least fractions, sought one after another.
use Rattle.std.specs.Prelude.{pos, ◌-ℤ◌, ◌≤ℤ◌, Bool, false, not, List, Option, Some, None}
use Rattle.std.specs.List.{best_of, filter_map}
use Rattle.plane_spec.specs.declared.Point.{Point}
use Rattle.plane_spec.specs.declared.Segment.{Segment}
use Rattle.plane_spec.specs.Lists.{min_by}
use Rattle.plane_spec.specs.Vectors.{IsWithin}
use Rattle.plane_spec.specs.Fractions.{Fraction, is_before}
use Rattle.exact_geom.specs.declared.limits.TheConstants.{MAX_STOP_PART}
use Rattle.sight_spec.specs.Scene.{Scene, blockers_of_scene}
use Rattle.sight_spec.specs.Stops.{blocker_hit, hits_of}

-- a fraction over a denominator of at least 1 whose parts are as small as a stop's
pub record IsHit (f : Fraction) : Type 0 where
  pub num : IsWithin MAX_STOP_PART f.num
  pub den : IsWithin MAX_STOP_PART f.den
  pub positive : pos 1 ≤ℤ f.den

-- the first of the least among the best so far and the hits after it
unfoldable pub min_from : Option Fraction → List Fraction → Option Fraction
min_from None hits = min_by is_before hits
min_from (Some best) hits = Some (best_of is_before best hits)

-- the first of the least t at which the ray meets a wall or a screen, not reduced
abbrev pub nearest_line_of : Scene → Point → Point → Option Fraction
nearest_line_of scene p d = min_by is_before (filter_map (blocker_hit p d) (blockers_of_scene scene))

-- the first of the least t at which the ray is stopped, not reduced
abbrev pub nearest_of : Scene → Point → Point → Option Fraction
nearest_of scene p d = min_by is_before (hits_of scene p d)

-- there is a hit, and it doesn't come after the other
abbrev pub is_no_later : Option Fraction → Fraction → Bool
is_no_later None other = false
is_no_later (Some hit) other = not (is_before other hit)

-- the wall or screen is hit, and not after the other hit
abbrev pub is_hit_by : Point → Point → Fraction → Segment → Bool
is_hit_by p d other w = is_no_later (blocker_hit p d w) other

-- a step that is one less
abbrev pub one_less : Fraction → Fraction
one_less t = record { num = t.num -ℤ t.den; den = t.den }
