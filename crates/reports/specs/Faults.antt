-- What an answer says of the count of the sink's faults.
use Rattle.std.specs.Prelude.{◌≡◌, ℕ, Result, Ok, Err}
use Rattle.dm_io.specs.Streams.{Rose}
use Rattle.reports.specs.declared.fault.ReportFault.{ReportFault}
use Rattle.reports.specs.declared.fault.ReportFault.TheVariants.{Write, NoMemory}

-- the count rose where the answer is that the sink failed, and is as before where it is any other
abbrev pub Counts : {T : Type 0} → Result T ReportFault → ℕ → ℕ → Type 0
Counts (Ok x) before after = after ≡ before
Counts (Err Write) before after = Rose before after
Counts (Err NoMemory) before after = after ≡ before
