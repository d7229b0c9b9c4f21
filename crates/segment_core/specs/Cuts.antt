-- Cuts of a route, found one after the other.
use Rattle.std.specs.Prelude.{List, if◌then◌else◌}
use Rattle.std.specs.List.{list_any}
use Rattle.plane_spec.specs.Fractions.{Fraction, is_before, same_value}
use Rattle.plane_spec.specs.Lists.{inserted_by}

-- cuts in order with one more, unless one of them has the same value
abbrev pub with_cut : Fraction → List Fraction → List Fraction
with_cut t ts = if list_any (same_value t) ts then ts else inserted_by is_before t ts
