-- The faults of the system's streams and files, and what the streams do to the reader and the writer that they stand
-- on.
use Rattle.std.specs.Prelude.{◌≤◌, ℕ, List, length, take, Option}
use Rattle.std.specs.Io.KnownBytes.{Appends, Consumes, IsAtEnd, Keeps}
use Rattle.std.specs.declared.io.traits.Read.{Ghosts as Readers}
use Rattle.std.specs.declared.io.traits.Seek.{Ghosts as Seekers}
use Rattle.std.specs.declared.io.traits.Write.{Ghosts as Writers}
use Rattle.dm_io.specs.declared.streams.Put.{Put}
use Rattle.dm_io.specs.declared.streams.Put.TheVariants.{Took, Failed as PutFailed}
use Rattle.dm_io.specs.declared.streams.Take.{Take}
use Rattle.dm_io.specs.declared.streams.Take.TheVariants.{Got, End, Failed}
use Rattle.dm_io.specs.declared.system.DirFiles.{DirFiles}
use Rattle.dm_io.specs.declared.system.StdSink.{StdSink}
use Rattle.dm_io.specs.declared.system.StdSource.{StdSource}

-- how many faults a source of the system had
abbrev pub source_faults : {R : Type 0} {reads : Readers R} → StdSource R reads → ℕ
source_faults s = s.faults

-- how many faults a sink of the system had
abbrev pub sink_faults : {W : Type 0} {writes : Writers W} → StdSink W writes → ℕ
sink_faults s = s.faults

-- how many faults the files of a folder had
abbrev pub files_faults : {R F D : Type 0} {reads : Readers F} {writes : Writers F} {seeks : Seekers F} {lists : Readers D} → DirFiles R F D reads writes seeks lists → ℕ
files_faults f = f.faults

-- the bytes that the reader of a source will give, where std knows them
abbrev pub source_remaining : {R : Type 0} {reads : Readers R} → StdSource R reads → Option (List ℕ)
source_remaining {R} {reads} s = reads.remaining s.input

-- the bytes that the writer of a sink holds, where std knows them
abbrev pub sink_contents : {W : Type 0} {writes : Writers W} → StdSink W writes → Option (List ℕ)
sink_contents {W} {writes} s = writes.contents s.output

-- by what the reader will give before and after: what was got came from its beginning, the end comes only at its end
-- and takes nothing, as a fault does
abbrev pub TakesFromReader : Option (List ℕ) → Option (List ℕ) → List ℕ → Take → Type 0
TakesFromReader before after into (Got n) = Consumes before after (take n into)
TakesFromReader before after into End = Keeps before after × IsAtEnd after
TakesFromReader before after into Failed = Keeps before after

-- by what the writer holds before and after: what was taken was appended, and at a fault a prefix of the piece at most
abbrev pub PutsIntoWriter : Option (List ℕ) → Option (List ℕ) → List ℕ → Put → Type 0
PutsIntoWriter before after piece (Took n) = Appends before after (take n piece)
PutsIntoWriter before after piece PutFailed = (n : ℕ) × (n ≤ length piece) × Appends before after (take n piece)
