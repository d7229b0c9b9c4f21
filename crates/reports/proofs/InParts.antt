-- A table that is put in three parts, one after the other: what begins it, its rows, what ends it.
use Rattle.std.proofs.Common.{◌≡◌, ℕ, List, [], ◌++◌, length, Option, None, refl}
use Rattle.options_spec.specs.declared.options.Form.{Form}
use Rattle.dm_io.specs.Streams.{WritesPrefix, appended_to}
use Rattle.dm_io.specs.OutputBuffer.{WritesAndBuffers}
use Rattle.dm_io.proofs.Known.{appended_to-nothing}
use Rattle.dm_io.proofs.Pieces.{keeps-all, keeps-prefix, keeps-put}
use Rattle.report_spec.specs.Records.{record_bytes, records_bytes, table}
use Rattle.reports.specs.Rows.{end, head}
use Rattle.reports.proofs.RowByRow.{after_head, after_rows, begun}

pub head_put : (before now : Option (List ℕ)) (form : Form) (kind : List ℕ) (rows : List (List (List ℕ)))
    → now ≡ appended_to before (record_bytes form (head kind))
    → WritesAndBuffers before now (records_bytes form (table kind rows)) (after_head form rows None)
head_put before now form kind rows put =
    keeps-put before before now _ (record_bytes form (head kind)) (after_head form rows None)
    (begun before [] form kind rows None refl) put

pub head_begun : (before now : Option (List ℕ)) (form : Form) (kind : List ℕ) (rows : List (List (List ℕ)))
    → WritesPrefix before now (record_bytes form (head kind))
    → WritesPrefix before now (records_bytes form (table kind rows))
head_begun before now form kind rows put =
    keeps-prefix before before now _ [] (record_bytes form (head kind)) (after_head form rows None)
    (begun before [] form kind rows None refl) put

pub rows_put : (before mid now : Option (List ℕ)) (whole : List ℕ) (form : Form) (rows : List (List (List ℕ)))
    → WritesAndBuffers before mid whole (after_head form rows None) → now ≡ appended_to mid (records_bytes form rows)
    → WritesAndBuffers before now whole (after_rows form (length rows) None)
rows_put before mid now whole form rows so_far put =
    keeps-put before mid now whole (records_bytes form rows) (after_rows form (length rows) None) so_far put

pub rows_begun : (before mid now : Option (List ℕ)) (whole : List ℕ) (form : Form) (rows : List (List (List ℕ)))
    → WritesAndBuffers before mid whole (after_head form rows None) → WritesPrefix mid now (records_bytes form rows)
    → WritesPrefix before now whole
rows_begun before mid now whole form rows so_far put =
    keeps-prefix before mid now whole [] (records_bytes form rows) (after_rows form (length rows) None) so_far put

pub end_put : (before mid now : Option (List ℕ)) (whole : List ℕ) (form : Form) (count : ℕ)
    → WritesAndBuffers before mid whole (after_rows form count None)
    → now ≡ appended_to mid (record_bytes form (end count))
    → now ≡ appended_to before whole
end_put before mid now whole form count so_far put =
    keeps-all before now now whole []
    (keeps-put before mid now whole (record_bytes form (end count)) [] so_far put) (appended_to-nothing now)

pub end_begun : (before mid now : Option (List ℕ)) (whole : List ℕ) (form : Form) (count : ℕ)
    → WritesAndBuffers before mid whole (after_rows form count None)
    → WritesPrefix mid now (record_bytes form (end count))
    → WritesPrefix before now whole
end_begun before mid now whole form count so_far put =
    keeps-prefix before mid now whole [] (record_bytes form (end count)) [] so_far put
