-- What a run reads and writes: the plan's file, the script and the output.
use Rattle.std.specs.Prelude.{◌≡◌, ◌≤◌, ◌+◌, ℕ, List, Option}

-- how often the files, the script and the output failed
pub record Faults : Type 0 where
  pub files : ℕ
  pub script : ℕ
  pub out : ℕ

-- what is left of the file that was opened last and of the script, what was written on the output, and the faults
pub record Streams : Type 0 where
  pub file : Option (List ℕ)
  pub script : Option (List ℕ)
  pub out : Option (List ℕ)
  pub faults : Faults

-- these counts
abbrev pub faults : ℕ → ℕ → ℕ → Faults
faults files script out = record { files = files; script = script; out = out }

-- these bytes, and these counts
abbrev pub streams : Option (List ℕ) → Option (List ℕ) → Option (List ℕ) → Faults → Streams
streams file script out counts = record { file = file; script = script; out = out; faults = counts }

-- the files failed once, and nothing else did
abbrev pub OnlyFilesFailed : Faults → Faults → Type 0
OnlyFilesFailed old new = (new.files ≡ old.files + 1) × (new.script ≡ old.script) × (new.out ≡ old.out)

-- the script failed once, and nothing else did
abbrev pub OnlyScriptFailed : Faults → Faults → Type 0
OnlyScriptFailed old new = (new.files ≡ old.files) × (new.script ≡ old.script + 1) × (new.out ≡ old.out)

-- the output failed once, and nothing else did
abbrev pub OnlyOutFailed : Faults → Faults → Type 0
OnlyOutFailed old new = (new.files ≡ old.files) × (new.script ≡ old.script) × (new.out ≡ old.out + 1)

-- no count rose by more than one, nor did that of standard error: so a run may follow over the same streams
pub record RoseOnceAtMost (old new : Faults) (err err_after : ℕ) : Type 0 where
  pub files : new.files ≤ old.files + 1
  pub script : new.script ≤ old.script + 1
  pub out : new.out ≤ old.out + 1
  pub said : err_after ≤ err + 1
