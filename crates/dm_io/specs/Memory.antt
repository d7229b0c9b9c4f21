-- What a source and a sink in memory hold, and what they answer.
use Rattle.std.specs.Prelude.{ℕ, List, ◌==◌, ◌-◌, ◌||◌, if◌then◌else◌, length, drop, min}
use Rattle.dm_io.specs.Calls.{next_fails}
use Rattle.dm_io.specs.declared.calls.Calls.{Calls}
use Rattle.dm_io.specs.declared.mem_source.MemSource.{MemSource}
use Rattle.dm_io.specs.declared.mem_sink.MemSink.{MemSink}
use Rattle.dm_io.specs.declared.streams.Put.{Put}
use Rattle.dm_io.specs.declared.streams.Put.TheVariants.{Took, Failed as PutFailed}
use Rattle.dm_io.specs.declared.streams.Take.{Take}
use Rattle.dm_io.specs.declared.streams.Take.TheVariants.{Got, End, Failed}

-- the bytes that a source hasn't given yet
abbrev pub bytes_left : MemSource → List ℕ
bytes_left s = drop s.at s.bytes.items

-- how many bytes a source gives at most a call
abbrev pub source_most : MemSource → ℕ
source_most s = s.most

-- the calls that were made of a source, and those that fail
abbrev pub source_calls : MemSource → Calls
source_calls s = s.calls

-- what is given of some bytes into a buffer: all of them, or as many as one call gives, or as many as fit
abbrev pub given : List ℕ → ℕ → ℕ → Take
given left most room = if length left == 0 then End else Got (min (min (length left) most) room)

-- what a source answers to a buffer of so many bytes
abbrev pub source_answer : MemSource → ℕ → Take
source_answer s room = if next_fails (source_calls s) then Failed else given (bytes_left s) (source_most s) room

-- the bytes that a sink was given
abbrev pub bytes_held : MemSink → List ℕ
bytes_held s = s.held.items

-- how many bytes a sink has room for
abbrev pub sink_room : MemSink → ℕ
sink_room s = s.room

-- how many bytes a sink takes at most a call
abbrev pub sink_most : MemSink → ℕ
sink_most s = s.most

-- the calls that were made of a sink, and those that fail
abbrev pub sink_calls : MemSink → Calls
sink_calls s = s.calls

-- what a sink answers to a piece of so many bytes: it fails where the call is to fail or there is no room, and takes
-- all of them, or as many as one call takes, or as many as there is room for
abbrev pub sink_answer : MemSink → ℕ → Put
sink_answer s count =
    if next_fails (sink_calls s) || (sink_room s - length (bytes_held s)) == 0
    then PutFailed
    else Took (min (min (sink_room s - length (bytes_held s)) (sink_most s)) count)
