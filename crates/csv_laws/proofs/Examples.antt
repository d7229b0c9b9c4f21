-- Worked examples: records in csv form, as a csv writer writes them.
use Rattle.std.proofs.Common.{◌≡◌, refl, true, false, [], ◌∷◌}
use Rattle.std.specs.Prelude.{codes}
use Rattle.csv.specs.Writing.{row_text, default_writer, fields_text, is_blank}
use Rattle.options_spec.specs.declared.options.Form.TheVariants.{Csv}
use Rattle.report_spec.specs.Records.{record_bytes}
use Rattle.csv_laws.specs.Plain.{is_plain_record}

plain : is_plain_record (codes "table" ∷ codes "routes" ∷ []) ≡ true
plain = refl

written : row_text default_writer (codes "table" ∷ codes "routes" ∷ []) ≡ codes "table,routes\n"
unfolding fields_text is_blank
written = refl

defined : record_bytes Csv (codes "table" ∷ codes "routes" ∷ []) ≡ codes "table,routes\n"
defined = refl

-- an empty field among others shows by its commas
with_empty : row_text default_writer (codes "a" ∷ [] ∷ codes "b" ∷ [])
    ≡ record_bytes Csv (codes "a" ∷ [] ∷ codes "b" ∷ [])
unfolding fields_text is_blank
with_empty = refl

-- one that stands alone doesn't, so a csv writer writes two quotes
alone : row_text default_writer ([] ∷ []) ≡ codes "\"\"\n"
unfolding fields_text is_blank
alone = refl

-- nor is a field with a comma written as it is
with_comma : is_plain_record (codes "a,b" ∷ []) ≡ false
with_comma = refl
