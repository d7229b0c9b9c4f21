-- What was said on standard error, by what was written there and how often it had failed, each before and after.
use Rattle.std.specs.Prelude.{◌≡◌, ◌⊎◌, ◌+◌, ℕ, List, Option}
use Rattle.dm_io.specs.Streams.{WritesPrefix, appended_to}
use Rattle.report_spec.specs.declared.reason.Reason.{Reason}
use Rattle.plan_file.specs.PlanFiles.{ReadsRefused}

-- nothing
abbrev pub IsSilent : Option (List ℕ) → Option (List ℕ) → ℕ → ℕ → Type 0
IsSilent before after faults faults_after = (after ≡ before) × (faults_after ≡ faults)

-- the message was written; or a prefix of it, and then standard error failed once
abbrev pub IsSaid : Option (List ℕ) → Option (List ℕ) → ℕ → ℕ → List ℕ → Type 0
IsSaid before after faults faults_after message =
    ((after ≡ appended_to before message) × (faults_after ≡ faults))
    ⊎ (WritesPrefix before after message × (faults_after ≡ faults + 1))

-- the file was read to its end and holds no plan, by what is known of it and what is left; the line at fault was said with
-- its reason, in the words of this message
abbrev pub SaysWhy : (ℕ → Reason → List ℕ) → Option (List ℕ) → Option (List ℕ) → Option (List ℕ) → Option (List ℕ) → ℕ → ℕ → Type 0
SaysWhy message known left before after faults faults_after =
    (line : ℕ) × (reason : Reason) × ReadsRefused known left line reason
    × IsSaid before after faults faults_after (message line reason)
