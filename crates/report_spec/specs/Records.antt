-- Records: lists of fields, and how they are printed.
use Rattle.std.specs.Prelude.{ℕ, List, [], ◌∷◌, ◌++◌, length, flat_map, codes, Option, Some, None}
use Rattle.std.specs.Fmt.{decimal, signed_decimal}
use Rattle.std.specs.List.{join_with_byte}
use Rattle.plane_spec.specs.Fractions.{Fraction, RPoint}
use Rattle.options_spec.specs.declared.options.Form.{Form}
use Rattle.options_spec.specs.declared.options.Form.TheVariants.{Text, Csv}

-- ---- fields

-- a fraction as a/b, also where it is whole
abbrev pub fraction_field : Fraction → List ℕ
fraction_field f = signed_decimal f.num ++ codes "/" ++ signed_decimal f.den

-- a number, or `-` where there is none
abbrev pub number_or_dash : Option ℕ → List ℕ
number_or_dash None = codes "-"
number_or_dash (Some n) = decimal n

-- a fraction, or `-` where there is none
abbrev pub fraction_or_dash : Option Fraction → List ℕ
fraction_or_dash None = codes "-"
fraction_or_dash (Some f) = fraction_field f

-- the two coordinates of a point with fractions
abbrev pub rpoint_fields : RPoint → List (List ℕ)
rpoint_fields p = fraction_field p.x ∷ fraction_field p.y ∷ []

-- ---- records

-- the byte between the fields: a space, or a comma
abbrev pub separator : Form → ℕ
separator Text = 32
separator Csv = 44

-- the fields of a record joined, and a newline
abbrev pub record_bytes : Form → List (List ℕ) → List ℕ
record_bytes form fields = join_with_byte (separator form) fields ++ 10 ∷ []

-- records one after the other
abbrev pub records_bytes : Form → List (List (List ℕ)) → List ℕ
records_bytes form records = flat_map (record_bytes form) records

-- ---- tables

-- the kind, the rows, and how many rows there are
abbrev pub table : List ℕ → List (List (List ℕ)) → List (List (List ℕ))
table kind rows = (codes "table" ∷ kind ∷ []) ∷ (rows ++ (codes "end" ∷ decimal (length rows) ∷ []) ∷ [])

-- the same with a record of totals after the rows, which isn't counted
abbrev pub table_with_total : List ℕ → List (List (List ℕ)) → List (List ℕ) → List (List (List ℕ))
table_with_total kind rows total =
    (codes "table" ∷ kind ∷ []) ∷ (rows ++ (codes "total" ∷ total) ∷ (codes "end" ∷ decimal (length rows) ∷ []) ∷ [])
