-- Records that were printed one after the other.
use Rattle.std.proofs.Common.{◌≡◌, ◌∙◌, ◌+◌, ◌≤◌, ℕ, List, [], ◌∷◌, ◌++◌, take, length, length-append, Option, Result, Ok, Err, OnErr, refl, sym, ap, subst, append-nil, arith}
use Rattle.std.proofs.lemmas.List.{take-append-le}
use Rattle.std.proofs.lemmas.List.Concat.{flat_map-append}
use Rattle.dm_io.specs.Streams.{WritesPrefix, appended_to}
use Rattle.dm_io.proofs.Known.{appended_to-nothing}
use Rattle.dm_io.proofs.Pieces.{appended_to-append, writes_prefix-then}
use Rattle.options_spec.specs.declared.options.Form.{Form}
use Rattle.report_spec.specs.Records.{record_bytes, records_bytes}

-- what holds anyway
pub on_err-always : {T E P : Type 0} (r : Result T E) → P → OnErr r P
on_err-always (Ok x) p = tt
on_err-always (Err e) p = p

-- nothing was written
pub nothing : (before : Option (List ℕ)) (bytes : List ℕ) → WritesPrefix before before bytes
nothing before bytes = (0, omega arith, appended_to-nothing before)

pub no_record : (before : Option (List ℕ)) (form : Form) → before ≡ appended_to before (records_bytes form [])
no_record before form = appended_to-nothing before

-- one record
pub one_record : (form : Form) (row : List (List ℕ)) → record_bytes form row ≡ records_bytes form (row ∷ [])
one_record form row = sym (append-nil (record_bytes form row))

pub one : (before after : Option (List ℕ)) (form : Form) (row : List (List ℕ))
    → after ≡ appended_to before (record_bytes form row) → after ≡ appended_to before (records_bytes form (row ∷ []))
one before after form row e = e ∙ ap (appended_to before) (one_record form row)

pub one_begun : (before after : Option (List ℕ)) (form : Form) (row : List (List ℕ))
    → WritesPrefix before after (record_bytes form row) → WritesPrefix before after (records_bytes form (row ∷ []))
one_begun before after form row h = subst (WritesPrefix before after) (one_record form row) h

-- a prefix of some bytes is one of these and more
begun_of : (before after : Option (List ℕ)) (some more : List ℕ) → WritesPrefix before after some
    → WritesPrefix before after (some ++ more)
begun_of before after some more h = (
  h.0,
  omega (arith, length-append some more, h.1),
  h.2 ∙ ap (appended_to before) (sym (take-append-le h.0 some more h.1)),
)

whole : (before mid after : Option (List ℕ)) (some more : List ℕ) → mid ≡ appended_to before some
    → after ≡ appended_to mid more → after ≡ appended_to before (some ++ more)
whole before mid after some more first second =
    second ∙ ap (λ o. appended_to o more) first ∙ appended_to-append before some more

-- ---- a record, and then a table

pub then_rows : (before mid after : Option (List ℕ)) (form : Form) (row : List (List ℕ)) (rows : List (List (List ℕ)))
    → mid ≡ appended_to before (record_bytes form row) → after ≡ appended_to mid (records_bytes form rows)
    → after ≡ appended_to before (records_bytes form (row ∷ rows))
then_rows before mid after form row rows first second =
    whole before mid after (record_bytes form row) (records_bytes form rows) first second

pub before_rows : (before after : Option (List ℕ)) (form : Form) (row : List (List ℕ)) (rows : List (List (List ℕ)))
    → WritesPrefix before after (record_bytes form row) → WritesPrefix before after (records_bytes form (row ∷ rows))
before_rows before after form row rows h = begun_of before after (record_bytes form row) (records_bytes form rows) h

pub in_rows : (before mid after : Option (List ℕ)) (form : Form) (row : List (List ℕ)) (rows : List (List (List ℕ)))
    → mid ≡ appended_to before (record_bytes form row) → WritesPrefix mid after (records_bytes form rows)
    → WritesPrefix before after (records_bytes form (row ∷ rows))
in_rows before mid after form row rows first second =
    writes_prefix-then before mid after (record_bytes form row) (records_bytes form rows) first second

-- ---- a table, and then another

both : (form : Form) (first second : List (List (List ℕ)))
    → records_bytes form first ++ records_bytes form second ≡ records_bytes form (first ++ second)
both form first second = sym (flat_map-append (record_bytes form) first second)

pub then_second : (before mid after : Option (List ℕ)) (form : Form) (first second : List (List (List ℕ)))
    → mid ≡ appended_to before (records_bytes form first) → after ≡ appended_to mid (records_bytes form second)
    → after ≡ appended_to before (records_bytes form (first ++ second))
then_second before mid after form first second one two =
    whole before mid after (records_bytes form first) (records_bytes form second) one two
    ∙ ap (appended_to before) (both form first second)

pub before_second : (before after : Option (List ℕ)) (form : Form) (first second : List (List (List ℕ)))
    → WritesPrefix before after (records_bytes form first) → WritesPrefix before after (records_bytes form (first ++ second))
before_second before after form first second h =
    subst (WritesPrefix before after) (both form first second)
    (begun_of before after (records_bytes form first) (records_bytes form second) h)

pub in_second : (before mid after : Option (List ℕ)) (form : Form) (first second : List (List (List ℕ)))
    → mid ≡ appended_to before (records_bytes form first) → WritesPrefix mid after (records_bytes form second)
    → WritesPrefix before after (records_bytes form (first ++ second))
in_second before mid after form first second one two =
    subst (WritesPrefix before after) (both form first second)
    (writes_prefix-then before mid after (records_bytes form first) (records_bytes form second) one two)
