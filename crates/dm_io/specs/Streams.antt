-- What a source has left, what a sink was given, and when a fault may be answered.
use Rattle.std.specs.Prelude.{◌≡◌, ◌≤◌, ◌+◌, ◌-◌, ◌^◌, ℕ, List, [], ◌++◌, length, take, min, Option, Some, None}
use Rattle.dm_io.specs.declared.streams.Take.{Take}
use Rattle.dm_io.specs.declared.streams.Take.TheVariants.{Got, End, Failed}
use Rattle.dm_io.specs.declared.streams.Put.{Put}
use Rattle.dm_io.specs.declared.streams.Put.TheVariants.{Took, Failed as PutFailed}

-- a count of faults rose by one, or stands at its last value
abbrev pub Rose : ℕ → ℕ → Type 0
Rose before now = now ≡ min (before + 1) (2 ^ 64 - 1)

-- bytes that are known, with others before them
abbrev pub prepended_to : List ℕ → Option (List ℕ) → Option (List ℕ)
prepended_to prefix None = None
prepended_to prefix (Some rest) = Some (prefix ++ rest)

-- bytes that are known, with others after them
abbrev pub appended_to : Option (List ℕ) → List ℕ → Option (List ℕ)
appended_to None more = None
appended_to (Some bytes) more = Some (bytes ++ more)

-- no bytes are known, or these are
abbrev pub IsIfKnown : List ℕ → Option (List ℕ) → Type 0
IsIfKnown bytes None = Unit {0}
IsIfKnown bytes (Some known) = known ≡ bytes

-- exactly these bytes were taken from the beginning of what was left
abbrev pub IsPrefix : Option (List ℕ) → List ℕ → Option (List ℕ) → Type 0
IsPrefix before prefix after = before ≡ prepended_to prefix after

-- at most so many bytes were taken from the beginning of what was left
abbrev pub TakesAtMost : ℕ → Option (List ℕ) → Option (List ℕ) → Type 0
TakesAtMost n before after = (prefix : List ℕ) × (length prefix ≤ n) × IsPrefix before prefix after

-- a prefix of the bytes was written, and nothing else
abbrev pub WritesPrefix : Option (List ℕ) → Option (List ℕ) → List ℕ → Type 0
WritesPrefix before after bytes = (n : ℕ) × (n ≤ length bytes) × (after ≡ appended_to before (take n bytes))

-- bytes that were got were the beginning of what was left and stand at the beginning of the buffer; at the end nothing
-- was left; a fault takes nothing
abbrev pub Takes : Option (List ℕ) → Option (List ℕ) → List ℕ → Take → Type 0
Takes before after into (Got n) = (1 ≤ n) × (n ≤ length into) × IsPrefix before (take n into) after
Takes before after into End = (after ≡ before) × IsIfKnown [] before
Takes before after into Failed = after ≡ before

-- a fault raises the count, and no other answer changes it
abbrev pub TakeCounts : ℕ → ℕ → Take → Type 0
TakeCounts before now (Got n) = now ≡ before
TakeCounts before now End = now ≡ before
TakeCounts before now Failed = Rose before now

-- the bytes that were taken are written after the others, in order; a fault writes nothing
abbrev pub Puts : Option (List ℕ) → Option (List ℕ) → List ℕ → Put → Type 0
Puts before after piece (Took n) = (1 ≤ n) × (n ≤ length piece) × (after ≡ appended_to before (take n piece))
Puts before after piece PutFailed = after ≡ before

-- a fault raises the count, and no other answer changes it
abbrev pub PutCounts : ℕ → ℕ → Put → Type 0
PutCounts before now (Took n) = now ≡ before
PutCounts before now PutFailed = Rose before now
