-- What a reader of lines holds, takes and tells.
use Rattle.std.specs.Prelude.{◌≡◌, ◌⊎◌, ◌<◌, ◌≤◌, ◌+◌, ℕ, List, [], ◌∷◌, ◌++◌, Bool, true, false, length, take, drop, option_map, Option}
use Rattle.text_spec.specs.declared.lines.TheConstants.{MAX_LINE_BYTES}
use Rattle.text_spec.specs.Lines.{is_long, lines_of, without_return}
use Rattle.dm_io.specs.Lines.{has_newline, IsLine}
use Rattle.dm_io.specs.Streams.{IsPrefix, IsIfKnown, prepended_to}
use Rattle.dm_io.specs.declared.line_reader.LineReader.{LineReader}
use Rattle.dm_io.specs.declared.line_reader.More.{More}
use Rattle.dm_io.specs.declared.line_reader.More.TheVariants.{Came, Nothing, Broken, Beyond}
use Rattle.dm_io.specs.declared.lines.Next.{Next}
use Rattle.dm_io.specs.declared.lines.Next.TheVariants.{Line, Long, End, Failed, Over}

-- the bytes that were taken of the source and belong to no line that was read
abbrev pub waiting : LineReader → List ℕ
waiting r = drop r.start r.held.items

-- the line that was read last, as it is shown
abbrev pub line_in : LineReader → List ℕ
line_in r = take r.line_length (drop r.line_start r.held.items)

-- how many bytes the lines that were read had, with their newlines
abbrev pub bytes_read : LineReader → ℕ
bytes_read r = r.bytes_read

-- how many lines were read
abbrev pub lines_read : LineReader → ℕ
lines_read r = r.number

-- how many bytes may be taken of the source
abbrev pub limit_of : LineReader → ℕ
limit_of r = r.limit

-- the end of the source was seen
abbrev pub saw_end : LineReader → Bool
saw_end r = r.ended

-- what is still to be read: the bytes that wait, and then what the source has left
abbrev pub ahead : LineReader → Option (List ℕ) → Option (List ℕ)
ahead r left = prepended_to (waiting r) left

-- a line and its newline were cut from the beginning of what was ahead
pub record Cut (old new : LineReader) (before after : Option (List ℕ)) (line : List ℕ) : Type 0 where
  pub goes_on : saw_end new ≡ false
  pub bytes : IsPrefix (ahead old before) (line ++ 10 ∷ []) (ahead new after)
  pub counted : bytes_read new ≡ bytes_read old + length line + 1

-- all that was ahead is one last line without a newline; it isn't empty
pub record Last (old new : LineReader) (before after : Option (List ℕ)) (line : List ℕ) : Type 0 where
  pub ended : saw_end new ≡ true
  pub some : 0 < length line
  pub bytes : IsPrefix (ahead old before) line after
  pub nothing_left : IsIfKnown [] after
  pub nothing_waits : waiting new ≡ []
  pub counted : bytes_read new ≡ bytes_read old + length line

-- the first of the lines that were ahead was read, and the others are ahead still
pub record LineRead (old new : LineReader) (before after : Option (List ℕ)) (line : List ℕ) : Type 0 where
  pub was_open : saw_end old ≡ false
  pub first : option_map lines_of (ahead old before) ≡ option_map (λ rest. line ∷ lines_of rest) (ahead new after)
  pub plain : has_newline line ≡ false
  pub ends : Cut old new before after line ⊎ Last old new before after line

-- nothing was ahead
pub record NothingAhead (old new : LineReader) (before after : Option (List ℕ)) : Type 0 where
  pub nothing_waited : waiting old ≡ []
  pub nothing_waits : waiting new ≡ []
  pub ended : saw_end new ≡ true
  pub nothing_taken : after ≡ before
  pub nothing_left : saw_end old ≡ false → IsIfKnown [] after

-- no whole line came: this part of one waited or was taken, and all of it waits but for the beginning that was dropped
-- where it is too long
pub record Stopped (old new : LineReader) (before after : Option (List ℕ)) (part : List ℕ) : Type 0 where
  pub was_open : saw_end old ≡ false
  pub goes_on : saw_end new ≡ false
  pub plain : has_newline part ≡ false
  pub taken : IsPrefix (ahead old before) part after
  pub gone : List ℕ
  pub waits : part ≡ gone ++ waiting new
  pub counted : bytes_read new ≡ bytes_read old + length gone
  pub dropped : (gone ≡ []) ⊎ (MAX_LINE_BYTES < length gone)

-- what each `Next` says of the bytes
abbrev pub Reads : LineReader → LineReader → Option (List ℕ) → Option (List ℕ) → Next → Type 0
Reads old new before after Line =
    (line : List ℕ)
    × LineRead old new before after line
    × (is_long line ≡ false)
    × (line_in new ≡ without_return line)
Reads old new before after Long = (line : List ℕ) × LineRead old new before after line × (is_long line ≡ true)
Reads old new before after End = NothingAhead old new before after
Reads old new before after Failed =
    (part : List ℕ)
    × Stopped old new before after part
    × (bytes_read old + length part ≤ limit_of old)
Reads old new before after Over =
    (part extra : List ℕ) × (rest : Option (List ℕ))
    × Stopped old new before rest part
    × (bytes_read old + length part ≡ limit_of old)
    × (length extra ≡ 1)
    × IsPrefix rest extra after

-- while a whole line waits, it is read and nothing is taken
abbrev pub Waits : LineReader → Option (List ℕ) → Option (List ℕ) → Next → Type 0
Waits old before after next = has_newline (waiting old) ≡ true → (after ≡ before) × IsLine next

-- these bytes were dropped from the beginning of those that wait, which leaves room for more: all that waited where
-- they were too many for a line, and else none
pub record Skips (old new : LineReader) (full : Bool) (gone : List ℕ) : Type 0 where
  pub bytes : waiting old ≡ gone ++ waiting new
  pub counted : bytes_read new ≡ bytes_read old + length gone
  pub when_full : full ≡ true → MAX_LINE_BYTES < length gone
  pub when_not : full ≡ false → gone ≡ []
  pub room : length (waiting new) ≤ MAX_LINE_BYTES

-- what asking the source for more leaves
abbrev pub Gets : LineReader → LineReader → Option (List ℕ) → Option (List ℕ) → More → Type 0
Gets old new before after Came =
    (piece : List ℕ)
    × (0 < length piece)
    × (waiting new ≡ waiting old ++ piece)
    × IsPrefix before piece after
Gets old new before after Nothing = (waiting new ≡ waiting old) × (after ≡ before) × IsIfKnown [] after
Gets old new before after Broken = (waiting new ≡ waiting old) × (after ≡ before)
Gets old new before after Beyond =
    (waiting new ≡ waiting old)
    × (extra : List ℕ)
    × (length extra ≡ 1)
    × IsPrefix before extra after
    × (bytes_read old + length (waiting old) ≡ limit_of old)
