-- Which calls of an object in memory fail.
use Rattle.std.specs.Prelude.{◌≡◌, ◌+◌, ◌-◌, ◌^◌, ◌==◌, ℕ, List, Bool, min}
use Rattle.std.specs.List.{list_any}
use Rattle.dm_io.specs.declared.calls.Calls.{Calls}

-- the numbers of the calls that fail
abbrev pub failing_calls : Calls → List ℕ
failing_calls c = c.fails.items

-- the number of the next call
abbrev pub next_number : Calls → ℕ
next_number c = c.number

-- how many faults there were
abbrev pub fault_count : Calls → ℕ
fault_count c = c.faults

-- the next call is one of those that fail
abbrev pub next_fails : Calls → Bool
next_fails c = list_any (λ n. n == next_number c) (failing_calls c)

-- no call was made yet, and these are to fail
pub record IsFresh (c : Calls) (fails : List ℕ) : Type 0 where
  pub fails_are : failing_calls c ≡ fails
  pub number_is : next_number c ≡ 0
  pub faults_are : fault_count c ≡ 0

-- a call was made, after which the number is one higher or stands at its last value, and the same calls are to fail
pub record GoesOn (old new : Calls) : Type 0 where
  pub fails_stay : failing_calls new ≡ failing_calls old
  pub number_rises : next_number new ≡ min (next_number old + 1) (2 ^ 64 - 1)
