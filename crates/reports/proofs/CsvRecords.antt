-- What a writer of records of any lengths writes of a record of plain fields.
use Rattle.std.proofs.Common.{◌≡◌, ℕ, ◌==◌, true, List, [], ◌∷◌, ◌++◌, length, if◌then◌else◌, refl, ap, ◌∙◌}
use Rattle.std.specs.List.{list_all}
use Rattle.csv.specs.Writing.{default_writer, escaped, field_text, fields_text, is_blank, needs_quotes, row_text, with_flexible}
use Rattle.csv.specs.declared.writer.WriterBuilder.{WriterBuilder}
use Rattle.csv_laws.specs.Plain.{is_plain, is_visible}
use Rattle.csv_laws.proofs.Written.{written_is_defined}
use Rattle.options_spec.specs.declared.options.Form.TheVariants.{Csv}
use Rattle.report_spec.specs.Records.{record_bytes}

abbrev flexible : WriterBuilder
flexible = with_flexible default_writer true

same_escaped : (field : List ℕ) → escaped flexible field ≡ escaped default_writer field
unfolding escaped
same_escaped [] = refl
same_escaped (b ∷ rest) = ap (λ t. if b == 34 then 34 ∷ b ∷ t else b ∷ t) (same_escaped rest)

same_field : (field : List ℕ) → field_text flexible field ≡ field_text default_writer field
same_field field =
    ap (λ t. if needs_quotes default_writer field then 34 ∷ (t ++ 34 ∷ []) else field) (same_escaped field)

same_fields : (fields : List (List ℕ)) → fields_text flexible fields ≡ fields_text default_writer fields
unfolding fields_text
same_fields [] = refl
same_fields (field ∷ rest) =
    ap (λ t. 44 ∷ (t ++ fields_text flexible rest)) (same_field field)
    ∙ ap (λ t. 44 ∷ (field_text default_writer field ++ t)) (same_fields rest)

same_blank : (fields : List (List ℕ)) → is_blank flexible fields ≡ is_blank default_writer fields
unfolding is_blank
same_blank [] = refl
same_blank (field ∷ []) = ap (λ t. length t == 0) (same_field field)
same_blank (field ∷ next ∷ rest) = refl

same_text : (fields : List (List ℕ)) → row_text flexible fields ≡ row_text default_writer fields
unfolding is_blank
same_text [] = refl
same_text (field ∷ rest) =
    ap (λ t. (t ++ fields_text flexible rest)
    ++ ((if is_blank flexible (field ∷ rest) then 34 ∷ 34 ∷ [] else []) ++ 10 ∷ []))
    (same_field field)
    ∙ ap (λ t. (field_text default_writer field ++ t)
    ++ ((if is_blank flexible (field ∷ rest) then 34 ∷ 34 ∷ [] else []) ++ 10 ∷ [])) (same_fields rest)
    ∙ ap (λ t. (field_text default_writer field ++ fields_text default_writer rest)
    ++ ((if t then 34 ∷ 34 ∷ [] else []) ++ 10 ∷ [])) (same_blank (field ∷ rest))

-- the record in csv form
pub written : (fields : List (List ℕ)) → is_visible fields ≡ true → list_all is_plain fields ≡ true
    → row_text flexible fields ≡ record_bytes Csv fields
written fields visible plain = same_text fields ∙ written_is_defined fields (rw (visible, plain) refl)
