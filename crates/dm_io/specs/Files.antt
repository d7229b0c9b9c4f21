-- What files in memory hold, and what they answer.
use Rattle.std.specs.Prelude.{◌≡◌, ℕ, List, ◌||◌, if◌then◌else◌, drop, is_none, Option, Result, Ok, Err}
use Rattle.dm_io.specs.Calls.{next_fails}
use Rattle.dm_io.specs.Contents.{content_of, opened_content}
use Rattle.dm_io.specs.Memory.{given}
use Rattle.dm_io.specs.declared.calls.Calls.{Calls}
use Rattle.dm_io.specs.declared.mem_files.MemFiles.{MemFiles}
use Rattle.dm_io.specs.declared.streams.OpenFailed.{OpenFailed}
use Rattle.dm_io.specs.declared.streams.Take.{Take}
use Rattle.dm_io.specs.declared.streams.Take.TheVariants.{Failed}

-- the bytes of the open file that weren't given yet, or none before the first opening
abbrev pub file_bytes_left : MemFiles → List ℕ
file_bytes_left f = drop f.at (opened_content f.contents.items f.opened)

-- what the first file of a name holds, if there is one
abbrev pub file_held : MemFiles → List ℕ → Option (List ℕ)
file_held f = content_of f.names.items f.contents.items

-- how many bytes are given at most a call
abbrev pub files_most : MemFiles → ℕ
files_most f = f.most

-- the openings and takes that were made, and those that fail
abbrev pub files_calls : MemFiles → Calls
files_calls f = f.calls

-- what is answered to a buffer of so many bytes
abbrev pub file_answer : MemFiles → ℕ → Take
file_answer f room = if next_fails (files_calls f) then Failed else given (file_bytes_left f) (files_most f) room

-- what is answered to an opening: it fails where the call is to fail or no file has the name
abbrev pub open_answer : MemFiles → List ℕ → Result (Unit {0}) OpenFailed
open_answer f name = if next_fails (files_calls f) || is_none (file_held f name) then Err (record {}) else Ok tt

-- the same files are there, and as many bytes are given at most a call
pub record SameFiles (old new : MemFiles) : Type 0 where
  pub holds : file_held new ≡ file_held old
  pub most : files_most new ≡ files_most old
