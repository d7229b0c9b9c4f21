-- What a reader of lines has read so far: these bytes of the source, as these lines.
use Rattle.std.specs.Prelude.{◌≡◌, ◌≤◌, ℕ, List, [], ◌∷◌, ◌++◌, true, false, length, Option}
use Rattle.text_spec.specs.Lines.{lines_of, whole_lines_of}
use Rattle.dm_io.specs.Reader.{ahead, bytes_read, lines_read, saw_end, waiting}
use Rattle.dm_io.specs.Streams.{IsPrefix, IsIfKnown}
use Rattle.dm_io.specs.declared.line_reader.LineReader.{LineReader}

-- the bytes are these lines, each with its newline: whatever follows, they come first among its lines and its whole
-- lines
pub record AreLines (bytes : List ℕ) (lines : List (List ℕ)) : Type 0 where
  pub all : (rest : List ℕ) → lines_of (bytes ++ rest) ≡ lines ++ lines_of rest
  pub whole : (rest : List ℕ) → whole_lines_of (bytes ++ rest) ≡ lines ++ whole_lines_of rest

-- the bytes were read as these lines, and what is ahead of the reader follows them in the source; a loop that reads
-- line after line carries this
pub record HasRead (reader : LineReader) (source left : Option (List ℕ)) (bytes : List ℕ) (lines : List (List ℕ)) : Type 0 where
  pub taken : IsPrefix source bytes (ahead reader left)
  pub number : lines_read reader ≡ length lines
  pub count : bytes_read reader ≡ length bytes
  pub few : length lines ≤ length bytes
  pub goes_on : saw_end reader ≡ false → AreLines bytes lines
  pub ended : saw_end reader ≡ true → (lines_of bytes ≡ lines) × (waiting reader ≡ []) × IsIfKnown [] left
