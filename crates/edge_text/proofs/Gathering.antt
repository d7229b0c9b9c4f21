-- Bytes that are added to those that wait.
use Rattle.std.proofs.Common.{ℕ, List, ◌++◌, length-append, Option, Result, Ok, Err, OnErr, sym, ap, ◌∙◌, append_assoc, arith}
use Rattle.std.proofs.lemmas.List.{take-append-le}
use Rattle.dm_io.specs.Streams.{WritesPrefix, appended_to}
use Rattle.dm_io.specs.OutputBuffer.{WritesAndBuffers}

-- a piece waits behind the others
pub buffers-more : (before now : Option (List ℕ)) (bytes waiting piece : List ℕ) → WritesAndBuffers before now bytes waiting
    → WritesAndBuffers before now (bytes ++ piece) (waiting ++ piece)
buffers-more before now bytes waiting piece put =
    (put.0, sym (append_assoc put.0 waiting piece) ∙ ap (λ b. b ++ piece) put.1, put.2)

-- a prefix of the bytes is one of longer bytes
pub prefix-of_longer : (before now : Option (List ℕ)) (bytes more : List ℕ) → WritesPrefix before now bytes
    → WritesPrefix before now (bytes ++ more)
prefix-of_longer before now bytes more put = (
  put.0,
  omega (arith, length-append bytes more, put.1),
  put.2 ∙ ap (appended_to before) (sym (take-append-le put.0 bytes more put.1)),
)

-- what holds anyway
pub on_err-always : {T E P : Type 0} (r : Result T E) → P → OnErr r P
on_err-always (Ok x) p = tt
on_err-always (Err e) p = p
