-- What becomes of bytes that wait for a sink.
use Rattle.std.specs.Prelude.{◌≡◌, ℕ, List, ◌++◌, Option}
use Rattle.dm_io.specs.Streams.{appended_to}

-- a prefix of the bytes was put, and the others wait
abbrev pub WritesAndBuffers : Option (List ℕ) → Option (List ℕ) → List ℕ → List ℕ → Type 0
WritesAndBuffers before after bytes waiting = (put : List ℕ) × (put ++ waiting ≡ bytes) × (after ≡ appended_to before put)
