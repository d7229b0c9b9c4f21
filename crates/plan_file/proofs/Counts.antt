-- No count of faults rises by more than one where one of them alone rose, or none, or a line was said.
use Rattle.std.proofs.Common.{◌≡◌, inl, inr, ◌+◌, ◌≤◌, ℕ, List, Option, ap, arith}
use Rattle.plan_file.specs.Said.{IsSaid}
use Rattle.plan_file.specs.Streams.{Faults, OnlyFilesFailed, OnlyOutFailed, OnlyScriptFailed}

-- no count of files, script and output rose by more than one
pub record Once (old new : Faults) : Type 0 where
  pub files : new.files ≤ old.files + 1
  pub script : new.script ≤ old.script + 1
  pub out : new.out ≤ old.out + 1

pub once-none : (old new : Faults) → new ≡ old → Once old new
once-none old new e = record {
  files = omega (arith, ap (λ (f : Faults). f.files) e);
  script = omega (arith, ap (λ (f : Faults). f.script) e);
  out = omega (arith, ap (λ (f : Faults). f.out) e);
}

pub once-files : (old new : Faults) → OnlyFilesFailed old new → Once old new
once-files old new e =
    record { files = omega (arith, e.0); script = omega (arith, e.1); out = omega (arith, e.2) }

pub once-script : (old new : Faults) → OnlyScriptFailed old new → Once old new
once-script old new e =
    record { files = omega (arith, e.0); script = omega (arith, e.1); out = omega (arith, e.2) }

pub once-out : (old new : Faults) → OnlyOutFailed old new → Once old new
once-out old new e =
    record { files = omega (arith, e.0); script = omega (arith, e.1); out = omega (arith, e.2) }

-- standard error
pub once-said : (before after : Option (List ℕ)) (count count_after : ℕ) (message : List ℕ)
    → IsSaid before after count count_after message → count_after ≤ count + 1
once-said before after count count_after message (inl whole) = omega (arith, whole.1)
once-said before after count count_after message (inr part) = omega (arith, part.1)
