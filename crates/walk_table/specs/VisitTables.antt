-- The table of visits.
use Rattle.std.specs.Prelude.{ℕ, List, [], ◌∷◌, map, codes, get_or}
use Rattle.std.specs.Fmt.{decimal, signed_decimal}
use Rattle.std.specs.List.{sum}
use Rattle.plane_spec.specs.declared.Point.{Point}
use Rattle.report_spec.specs.Records.{table_with_total}

-- a numbered point, with the visits that stand at its number
abbrev pub visit_row : List ℕ → ℕ × Point → List (List ℕ)
visit_row visits e =
    decimal e.0 ∷ signed_decimal e.1.x ∷ signed_decimal e.1.y ∷ decimal (get_or visits e.0 0) ∷ []

-- numbered points, by the visits of all nodes: number, x, y, visits; then the sum of all visits
unfoldable pub visits_table : List (ℕ × Point) → List ℕ → List (List (List ℕ))
visits_table points visits =
    table_with_total (codes "visits") (map (visit_row visits) points) (decimal (sum visits) ∷ [])
