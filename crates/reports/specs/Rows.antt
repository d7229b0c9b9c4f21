-- The rows of a table as they are made, one after the other, and a table with or without totals.
use Rattle.std.specs.Prelude.{◌≡◌, ℕ, Bool, true, false, List, [], ◌∷◌, ◌++◌, drop, filter, length, map, codes, Option, Some, None}
use Rattle.std.specs.Fmt.{decimal}
use Rattle.std.specs.List.{enumerate_from}
use Rattle.plane_spec.specs.declared.Point.{Point}
use Rattle.plan_spec.specs.Grid.{grid_points}
use Rattle.plan_spec.specs.Plan.{Plan}
use Rattle.plan_spec.specs.declared.item.Item.{Item}
use Rattle.grammar_spec.specs.PlanText.{header_words, item_words}
use Rattle.sight_spec.specs.Sight.{is_open}
use Rattle.csv_laws.specs.Plain.{is_visible}

-- a row was made, the first of those that were left; or none was left
abbrev pub Makes : List (List (List ℕ)) → Bool → List (List ℕ) → List (List (List ℕ)) → Type 0
Makes before true row after = (before ≡ row ∷ after) × (is_visible row ≡ true)
Makes before false row after = (before ≡ []) × (after ≡ [])

-- the record that begins a table, and the one that ends it
abbrev pub head : List ℕ → List (List ℕ)
head kind = codes "table" ∷ kind ∷ []

abbrev pub end : ℕ → List (List ℕ)
end count = codes "end" ∷ decimal count ∷ []

-- the record of totals, where there is one
abbrev pub totals : Option (List (List ℕ)) → List (List (List ℕ))
totals None = []
totals (Some total) = total ∷ []

-- the record begins with the word `total`
abbrev pub IsTotal : List (List ℕ) → Type 0
IsTotal row = row ≡ codes "total" ∷ drop 1 row

-- a table with the record of totals, where there is one, which isn't counted
abbrev pub table_by : List ℕ → List (List (List ℕ)) → Option (List (List ℕ)) → List (List (List ℕ))
table_by kind rows total = head kind ∷ (rows ++ (totals total ++ end (length rows) ∷ []))

-- ---- the lines of a plan

-- the lines of the items from a place on, and before them the header's where it isn't made yet
abbrev pub lines_left : Bool → ℕ → List Item → List (List (List ℕ))
lines_left false at items = header_words items ∷ map item_words (drop at items)
lines_left true at items = map item_words (drop at items)

-- ---- the open points of a plan

-- the open grid points of a number and above, each beside its number
abbrev pub open_points_from : Plan → ℕ → List (ℕ × Point)
open_points_from plan number =
    filter (λ e. is_open plan e.1) (enumerate_from number (drop number (grid_points plan.grid)))
