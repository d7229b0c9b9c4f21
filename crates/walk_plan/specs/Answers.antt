-- What an answer says of the plan and of the sink.
use Rattle.std.specs.Prelude.{◌≡◌, ◌⊎◌, ◌<◌, ℕ, List, [], length, Option, Result, Ok, Err}
use Rattle.dm_io.specs.Streams.{WritesPrefix, Rose, appended_to}
use Rattle.plan_spec.specs.Plan.{Plan}
use Rattle.sight_spec.specs.Visibility.{open_points}
use Rattle.walk_spec.specs.declared.WalkSpec.{WalkSpec}
use Rattle.walk_plan.specs.PlanWalks.{walk_bytes}
use Rattle.walk_plan.specs.declared.printing.WalkFault.{WalkFault}
use Rattle.walk_plan.specs.declared.printing.WalkFault.TheVariants.{NoOpen, Write, NoMemory}

-- nothing was written; or there is an open point, and a prefix of the table was written
abbrev pub WritesPart : Plan → WalkSpec → Option (List ℕ) → Option (List ℕ) → Type 0
WritesPart plan spec old new =
    (new ≡ old) ⊎ ((0 < length (open_points plan)) × WritesPrefix old new (walk_bytes plan spec))

-- all was written, a prefix of it, or, where the plan has no open point, nothing; the count of faults rose where the sink failed
abbrev pub EndsWalk : {T : Type 0} → Plan → WalkSpec → Option (List ℕ) → Option (List ℕ) → ℕ → ℕ → Result T WalkFault → Type 0
EndsWalk plan spec old new before after (Ok x) =
    (0 < length (open_points plan)) × (new ≡ appended_to old (walk_bytes plan spec)) × (after ≡ before)
EndsWalk plan spec old new before after (Err NoOpen) =
    (open_points plan ≡ []) × (new ≡ old) × (after ≡ before)
EndsWalk plan spec old new before after (Err Write) =
    (0 < length (open_points plan)) × WritesPrefix old new (walk_bytes plan spec) × Rose before after
EndsWalk plan spec old new before after (Err NoMemory) = WritesPart plan spec old new × (after ≡ before)
