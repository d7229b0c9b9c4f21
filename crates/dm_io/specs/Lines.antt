-- Newlines among bytes, and what a reader tells of lines.
use Rattle.std.specs.Prelude.{◌≡◌, ◌<◌, ◌≤◌, ◌+◌, ◌-◌, ◌^◌, ℕ, List, Bool, false, length, take, min, slice_index, if◌then◌else◌, ◌==◌}
use Rattle.std.specs.List.{list_any}
use Rattle.text_spec.specs.declared.lines.TheConstants.{MAX_LINE_BYTES}
use Rattle.text_spec.specs.Lines.{is_newline}
use Rattle.dm_io.specs.declared.lines.Next.{Next}
use Rattle.dm_io.specs.declared.lines.Next.TheVariants.{Line, Long, End, Failed, Over}

-- a line ends among these bytes
abbrev pub has_newline : List ℕ → Bool
has_newline bytes = list_any is_newline bytes

-- a line was read
abbrev pub IsLine : Next → Type 0
IsLine Line = Unit {0}
IsLine Long = Unit {0}
IsLine _ = ⊥

-- how many lines were read after this; the number stands still at its last value
abbrev pub number_after : ℕ → Next → ℕ
number_after n Line = min (n + 1) (2 ^ 64 - 1)
number_after n Long = min (n + 1) (2 ^ 64 - 1)
number_after n End = n
number_after n Failed = n
number_after n Over = n

-- these bytes begin with a line of so many bytes and its newline, and the line isn't too long
pub record BeginsLine (bytes : List ℕ) (count : ℕ) : Type 0 where
  pub within : count < length bytes
  pub plain : has_newline (take count bytes) ≡ false
  pub ends : slice_index bytes count ≡ 10
  pub short : count ≤ MAX_LINE_BYTES

-- a line is told as what it is
abbrev pub next_of : Bool → Next
next_of long = if long then Long else Line

-- at the end of the source so many bytes wait, or the beginning of a line that is too long was dropped
abbrev pub next_at_end : Bool → ℕ → Next
next_at_end long count = if long then Long else (if count == 0 then End else Line)
