-- What a csv writer writes of a record of plain fields is the fields joined by commas, and a newline.
--
-- No byte of a plain field calls for quotes, so each field is written as it is; and where a field or a comma shows,
-- no two quotes stand for an empty record.
use Rattle.std.proofs.Common.{◌≡◌, ℕ, ◌==◌, Bool, true, false, not, ◌||◌, List, [], ◌∷◌, ◌++◌, length, refl, sym, ap, ◌∙◌, arith}
use Rattle.std.specs.Prelude.{Some, nat_lt, if◌then◌else◌}
use Rattle.std.specs.List.{list_any, list_all, join_with_byte}
use Rattle.std.proofs.lemmas.Bool.{and_parts}
use Rattle.std.proofs.lemmas.List.{append-nil}
use Rattle.csv.specs.Writing.{needs_byte, needs_quotes, field_text, fields_text, is_blank, row_body, row_text, default_writer, read_back}
use Rattle.csv.specs.Machine.{next_record}
use Rattle.csv.specs.Reading.{default_config}
use Rattle.csv.specs.declared.parser.State.TheVariants as st
use Rattle.csv.proofs.RoundTrip.{read-write}
use Rattle.options_spec.specs.declared.options.Form.TheVariants.{Csv}
use Rattle.report_spec.specs.Records.{record_bytes}
use Rattle.csv_laws.specs.Plain.{is_plain_byte, is_plain, is_visible, is_plain_record}

-- ---- fields

not_needed : (b : ℕ) → is_plain_byte b ≡ true → needs_byte default_writer b ≡ false
not_needed b h =
    let comma : (b == 44) ≡ false = by_first (b == 44) (b == 34) (b == 10) (b == 13) h in
    let quote : (b == 34) ≡ false = by_second (b == 44) (b == 34) (b == 10) (b == 13) h in
    let feed : (b == 10) ≡ false = by_third (b == 44) (b == 34) (b == 10) (b == 13) h in
    let return : (b == 13) ≡ false = by_fourth (b == 44) (b == 34) (b == 10) (b == 13) h in
    rw (comma, quote, feed, return) refl
  where
    by_first : (s t u v : Bool) → not ((s || t) || (u || v)) ≡ true → s ≡ false
    by_first s t u v h = grind arith

    by_second : (s t u v : Bool) → not ((s || t) || (u || v)) ≡ true → t ≡ false
    by_second s t u v h = grind arith

    by_third : (s t u v : Bool) → not ((s || t) || (u || v)) ≡ true → u ≡ false
    by_third s t u v h = grind arith

    by_fourth : (s t u v : Bool) → not ((s || t) || (u || v)) ≡ true → v ≡ false
    by_fourth s t u v h = grind arith

none_needed : (field : List ℕ) → is_plain field ≡ true → needs_quotes default_writer field ≡ false
none_needed [] h = refl
none_needed (b ∷ field) h =
    let parts = and_parts (is_plain_byte b) (is_plain field) h in
    ap (λ t. t || list_any (needs_byte default_writer) field) (not_needed b parts.0) ∙ none_needed field parts.1

as_it_is : (field : List ℕ) → is_plain field ≡ true → field_text default_writer field ≡ field
as_it_is field h = rw (none_needed field h) refl

-- ---- the record

body_is_joined : (field : List ℕ) (rest : List (List ℕ)) → list_all is_plain (field ∷ rest) ≡ true
    → row_body default_writer (field ∷ rest) ≡ join_with_byte 44 (field ∷ rest)
unfolding fields_text
body_is_joined field [] h =
    let parts = and_parts (is_plain field) true h in
    append-nil (field_text default_writer field) ∙ as_it_is field parts.0
body_is_joined field (next ∷ rest) h =
    let parts = and_parts (is_plain field) (list_all is_plain (next ∷ rest)) h in
    ap (λ t. t ++ fields_text default_writer (next ∷ rest)) (as_it_is field parts.0)
    ∙ ap (λ t. field ++ 44 ∷ t) (body_is_joined next rest parts.1)

not_blank : (fields : List (List ℕ)) → is_plain_record fields ≡ true → is_blank default_writer fields ≡ false
unfolding is_blank
not_blank [] h = cc
not_blank (field ∷ []) h =
    let parts = and_parts (is_visible (field ∷ [])) (list_all is_plain (field ∷ [])) h in
    let plain = and_parts (is_plain field) true parts.1 in
    ap (λ t. length t == 0) (as_it_is field plain.0) ∙ shown (length field) parts.0
  where
    shown : (n : ℕ) → nat_lt 0 n ≡ true → (n == 0) ≡ false
    shown n h = grind arith
not_blank (field ∷ next ∷ rest) h = refl

pub written_is_defined : (fields : List (List ℕ)) → is_plain_record fields ≡ true
    → row_text default_writer fields ≡ record_bytes Csv fields
written_is_defined [] h = cc
written_is_defined (field ∷ rest) h =
    let parts = and_parts (is_visible (field ∷ rest)) (list_all is_plain (field ∷ rest)) h in
    ap (λ t. row_body default_writer (field ∷ rest) ++ ((if t then 34 ∷ 34 ∷ [] else []) ++ 10 ∷ []))
    (not_blank (field ∷ rest) h)
    ∙ ap (λ t. t ++ 10 ∷ []) (body_is_joined field rest parts.1)

-- ---- reading back

same_back : (fields : List (List ℕ)) → is_visible fields ≡ true → read_back fields ≡ fields
same_back [] h = cc
same_back (field ∷ rest) h = refl

pub read_again : (fields : List (List ℕ)) (tail : List ℕ) → is_plain_record fields ≡ true
    → next_record default_config st.StartRecord [] [] (record_bytes Csv fields ++ tail)
    ≡ Some (fields, st.StartRecord, tail)
read_again fields tail h =
    let visible = (and_parts (is_visible fields) (list_all is_plain fields) h).0 in
    ap (λ t. next_record default_config st.StartRecord [] [] (t ++ tail)) (sym (written_is_defined fields h))
    ∙ read-write fields tail
    ∙ ap (λ t. Some (t, st.StartRecord, tail)) (same_back fields visible)
