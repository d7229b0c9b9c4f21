-- What came of a line at a desk, and the reply that is made of it.
use Rattle.std.specs.Prelude.{ℕ, ◌<◌, ⊤, Bool, true, false, [], length, get_or}
use Rattle.report_spec.specs.Tables.{plan_table_of}
use Rattle.script_loop.specs.Steps.{LineStep}
use Rattle.desk_spec.specs.Desks.{Desk, done, refusal, watch_table}
use Rattle.desk_core.specs.declared.outcome.Outcome.{Outcome}
use Rattle.desk_core.specs.declared.outcome.Outcome.TheVariants.{Nothing, Done, Plan, Watch, Refused}

-- the line is refused
abbrev pub is_refusal : Outcome → Bool
is_refusal (Refused reason) = true
is_refusal _ = false

-- what the line of this number did, where it leaves this desk and this came of it
abbrev pub step_to : Desk → ℕ → Outcome → LineStep Desk
step_to d number Nothing = record { state = d; reply = []; refused = false }
step_to d number Done = done d number []
step_to d number Plan = done d number (plan_table_of d.history.now)
step_to d number (Watch k) = done d number (watch_table (get_or d.lists k []))
step_to d number (Refused reason) = refusal d number reason

-- where notes are to be shown, there is a watcher at the place
abbrev pub HasWatcher : Desk → Outcome → Type 0
HasWatcher d (Watch k) = k < length d.lists
HasWatcher d _ = ⊤
