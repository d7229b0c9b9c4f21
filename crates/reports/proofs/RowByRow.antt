-- Rows that are added one after the other, and a table that is put: what begins it, its rows, its totals, what ends it.
use Rattle.std.proofs.Common.{◌≡◌, ℕ, Bool, true, false, List, [], ◌∷◌, ◌++◌, length, Option, Result, Ok, Err, OnErr, sym, ap, ◌∙◌, arith}
use Rattle.std.proofs.lemmas.List.Concat.{flat_map-append}
use Rattle.options_spec.specs.declared.options.Form.{Form}
use Rattle.dm_io.specs.Streams.{WritesPrefix}
use Rattle.dm_io.specs.OutputBuffer.{WritesAndBuffers}
use Rattle.dm_io.proofs.Known.{appended_to-nothing}
use Rattle.dm_io.proofs.Pieces.{keeps-end, keeps-more, keeps_all-prefix}
use Rattle.report_spec.specs.Records.{record_bytes, records_bytes}
use Rattle.csv_laws.specs.Plain.{is_visible}
use Rattle.reports.specs.Rows.{Makes, end, head, table_by, totals}

-- what holds anyway
pub on_err-always : {T E P : Type 0} (r : Result T E) → P → OnErr r P
on_err-always (Ok x) p = tt
on_err-always (Err e) p = p

pub made : (before after : List (List (List ℕ))) (more : Bool) (row : List (List ℕ)) → more ≡ true
    → Makes before more row after → (before ≡ row ∷ after) × (is_visible row ≡ true)
made before after true row e h = h
made before after false row e h = absurd (cc)

-- nothing was written
nothing : (before : Option (List ℕ)) (bytes : List ℕ) → WritesPrefix before before bytes
nothing before bytes = (0, omega arith, appended_to-nothing before)

-- what was put of bytes, others of which wait
pub part : (before now : Option (List ℕ)) (bytes waiting : List ℕ) → WritesAndBuffers before now bytes waiting
    → WritesPrefix before now bytes
part before now bytes waiting so_far = keeps_all-prefix before now now bytes waiting so_far (nothing now waiting)

-- ---- a table

-- what is left to be put after the totals, after the rows, and after the record that begins the table
abbrev pub after_total : Form → ℕ → List ℕ
after_total form count = record_bytes form (end count) ++ []

abbrev pub after_rows : Form → ℕ → Option (List (List ℕ)) → List ℕ
after_rows form count total = records_bytes form (totals total) ++ after_total form count

abbrev pub after_head : Form → List (List (List ℕ)) → Option (List (List ℕ)) → List ℕ
after_head form rows total = records_bytes form rows ++ after_rows form (length rows) total

in_parts : (form : Form) (kind : List ℕ) (rows : List (List (List ℕ))) (total : Option (List (List ℕ)))
    → records_bytes form (table_by kind rows total) ≡ record_bytes form (head kind) ++ after_head form rows total
in_parts form kind rows total =
    ap (λ t. record_bytes form (head kind) ++ t)
    (flat_map-append (record_bytes form) rows (totals total ++ end (length rows) ∷ [])
    ∙ ap (λ t. records_bytes form rows ++ t)
    (flat_map-append (record_bytes form) (totals total) (end (length rows) ∷ [])))

-- nothing is put, and nothing waits
pub begun : (before : Option (List ℕ)) (waiting : List ℕ) (form : Form) (kind : List ℕ) (rows : List (List (List ℕ)))
    (total : Option (List (List ℕ))) → waiting ≡ []
    → WritesAndBuffers before before (records_bytes form (table_by kind rows total))
    (waiting ++ (record_bytes form (head kind) ++ after_head form rows total))
begun before waiting form kind rows total none = (
  [],
  ap (λ w. w ++ (record_bytes form (head kind) ++ after_head form rows total)) none
      ∙ sym (in_parts form kind rows total),
  appended_to-nothing before,
)

pub headed : (before now : Option (List ℕ)) (waiting kept : List ℕ) (form : Form) (kind : List ℕ)
    (rows : List (List (List ℕ))) (total : Option (List (List ℕ))) (row : List (List ℕ)) → waiting ≡ []
    → row ≡ head kind → WritesAndBuffers before now (waiting ++ record_bytes form row) kept
    → WritesAndBuffers before now (records_bytes form (table_by kind rows total)) (kept ++ after_head form rows total)
headed before now waiting kept form kind rows total row none is added =
    keeps-more before before now _ waiting (record_bytes form (head kind)) (after_head form rows total) kept
    (begun before waiting form kind rows total none) (rw is at added)

pub rowed : (before mid now : Option (List ℕ)) (whole waiting kept : List ℕ) (form own : Form)
    (rows : List (List (List ℕ))) (total : Option (List (List ℕ))) → own ≡ form
    → WritesAndBuffers before mid whole (waiting ++ after_head form rows total)
    → WritesAndBuffers mid now (waiting ++ records_bytes own rows) kept
    → WritesAndBuffers before now whole (kept ++ after_rows form (length rows) total)
rowed before mid now whole waiting kept form own rows total same so_far added =
    keeps-more before mid now whole waiting (records_bytes form rows) (after_rows form (length rows) total) kept so_far
    (rw same at added)

pub totalled : (before mid now : Option (List ℕ)) (whole waiting kept : List ℕ) (form own : Form) (count : ℕ)
    (total : Option (List (List ℕ))) → own ≡ form
    → WritesAndBuffers before mid whole (waiting ++ after_rows form count total)
    → WritesAndBuffers mid now (waiting ++ records_bytes own (totals total)) kept
    → WritesAndBuffers before now whole (kept ++ after_total form count)
totalled before mid now whole waiting kept form own count total same so_far added =
    keeps-more before mid now whole waiting (records_bytes form (totals total)) (after_total form count) kept so_far
    (rw same at added)

pub ended : (before mid now : Option (List ℕ)) (whole waiting kept : List ℕ) (form own : Form) (count : ℕ)
    (row : List (List ℕ)) → own ≡ form → row ≡ end count
    → WritesAndBuffers before mid whole (waiting ++ after_total form count)
    → WritesAndBuffers mid now (waiting ++ record_bytes own row) kept → WritesAndBuffers before now whole kept
ended before mid now whole waiting kept form own count row same is so_far added =
    keeps-end before now whole kept
    (keeps-more before mid now whole waiting (record_bytes form (end count)) [] kept so_far (rw (same, is) at added))
