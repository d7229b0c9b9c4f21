-- Pieces that are put one after the other.
use Rattle.std.proofs.Common.{◌≡◌, ◌+◌, ℕ, List, [], ◌++◌, length, length-append, take, Option, Some, None, refl, sym, ap, ◌∙◌, append_assoc, append-nil, arith}
use Rattle.std.proofs.Math.Seq.{take-append-add}
use Rattle.std.proofs.lemmas.List.{take-append-le}
use Rattle.dm_io.specs.Streams.{WritesPrefix, appended_to}
use Rattle.dm_io.specs.OutputBuffer.{WritesAndBuffers}
use Rattle.dm_io.proofs.Known.{appended_to-nothing}

pub appended_to-append : (old : Option (List ℕ)) (some more : List ℕ) → appended_to (appended_to old some) more ≡ appended_to old (some ++ more)
appended_to-append None some more = refl
appended_to-append (Some known) some more = ap (λ b. Some b) (append_assoc known some more)

-- the bytes were put, and then others, and nothing waits
pub puts-then : (old mid new : Option (List ℕ)) (some more waiting : List ℕ) → mid ≡ appended_to old some → new ≡ appended_to mid more → waiting ≡ []
    → WritesAndBuffers old new (some ++ more) waiting
puts-then old mid new some more waiting first second none =
    (some ++ more, ap (λ w. (some ++ more) ++ w) none ∙ append-nil (some ++ more), second ∙ ap (λ o. appended_to o more) first ∙ appended_to-append old some more)

-- the bytes were put, and then a prefix of others
pub writes_prefix-then : (old mid new : Option (List ℕ)) (some more : List ℕ) → mid ≡ appended_to old some → WritesPrefix mid new more → WritesPrefix old new (some ++ more)
writes_prefix-then old mid new some more first second = (
  length some + second.0,
  omega (arith, length-append some more, second.1),
  second.2 ∙ ap (λ o. appended_to o (take second.0 more)) first ∙ appended_to-append old some (take second.0 more) ∙ ap (appended_to old) (sym (take-append-add some more second.0)),
)

-- ---- what is left to print

-- nothing was put yet
pub keeps-start : (before : Option (List ℕ)) (bytes : List ℕ) → WritesAndBuffers before before bytes bytes
keeps-start before bytes = ([], refl, appended_to-nothing before)

-- a piece was added, and the rest is left
pub keeps-more : (before mid now : Option (List ℕ)) (bytes waiting piece rest kept : List ℕ)
    → WritesAndBuffers before mid bytes (waiting ++ (piece ++ rest)) → WritesAndBuffers mid now (waiting ++ piece) kept → WritesAndBuffers before now bytes (kept ++ rest)
keeps-more before mid now bytes waiting piece rest kept first second = (
  first.0 ++ second.0,
  append_assoc first.0 second.0 (kept ++ rest)
      ∙ ap (λ b. first.0 ++ b) (sym (append_assoc second.0 kept rest) ∙ ap (λ b. b ++ rest) second.1 ∙ append_assoc waiting piece rest)
      ∙ first.1,
  second.2 ∙ ap (λ o. appended_to o second.0) first.2 ∙ appended_to-append before first.0 second.0,
)

-- a prefix of the piece was put
pub keeps-prefix : (before mid now : Option (List ℕ)) (bytes waiting piece rest : List ℕ)
    → WritesAndBuffers before mid bytes (waiting ++ (piece ++ rest)) → WritesPrefix mid now (waiting ++ piece) → WritesPrefix before now bytes
keeps-prefix before mid now bytes waiting piece rest first second =
    let whole : first.0 ++ ((waiting ++ piece) ++ rest) ≡ bytes = ap (λ b. first.0 ++ b) (append_assoc waiting piece rest) ∙ first.1 in
    let taken : take (length first.0 + second.0) bytes ≡ first.0 ++ take second.0 (waiting ++ piece) =
    ap (take (length first.0 + second.0)) (sym whole)
    ∙ take-append-add first.0 ((waiting ++ piece) ++ rest) second.0
    ∙ ap (λ b. first.0 ++ b) (take-append-le second.0 (waiting ++ piece) rest second.1) in (
      length first.0 + second.0,
      omega (arith, ap length whole, length-append first.0 ((waiting ++ piece) ++ rest), length-append (waiting ++ piece) rest, second.1),
      second.2 ∙ ap (λ o. appended_to o (take second.0 (waiting ++ piece))) first.2 ∙ appended_to-append before first.0 (take second.0 (waiting ++ piece)) ∙ ap (appended_to before) (sym taken),
    )

-- nothing is left but what waits
pub keeps-end : (before now : Option (List ℕ)) (bytes waiting : List ℕ) → WritesAndBuffers before now bytes (waiting ++ []) → WritesAndBuffers before now bytes waiting
keeps-end before now bytes waiting all = rw (append-nil waiting) at all

-- what waits was put
pub keeps-all : (before mid now : Option (List ℕ)) (bytes waiting : List ℕ) → WritesAndBuffers before mid bytes waiting → now ≡ appended_to mid waiting → now ≡ appended_to before bytes
keeps-all before mid now bytes waiting first second =
    second ∙ ap (λ o. appended_to o waiting) first.2 ∙ appended_to-append before first.0 waiting ∙ ap (appended_to before) first.1

-- a prefix of what waits was put
pub keeps_all-prefix : (before mid now : Option (List ℕ)) (bytes waiting : List ℕ) → WritesAndBuffers before mid bytes waiting → WritesPrefix mid now waiting → WritesPrefix before now bytes
keeps_all-prefix before mid now bytes waiting first second = (
  length first.0 + second.0,
  omega (arith, ap length first.1, length-append first.0 waiting, second.1),
  second.2 ∙ ap (λ o. appended_to o (take second.0 waiting)) first.2 ∙ appended_to-append before first.0 (take second.0 waiting)
      ∙ ap (appended_to before) (sym (take-append-add first.0 waiting second.0) ∙ ap (take (length first.0 + second.0)) first.1),
)

-- a piece was put, and nothing waits
pub keeps-put : (before mid now : Option (List ℕ)) (bytes piece rest : List ℕ) → WritesAndBuffers before mid bytes (piece ++ rest) → now ≡ appended_to mid piece → WritesAndBuffers before now bytes rest
keeps-put before mid now bytes piece rest first second = keeps-more before mid now bytes [] piece rest [] first (piece, append-nil piece, second)
