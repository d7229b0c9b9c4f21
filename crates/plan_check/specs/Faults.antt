-- What the answers other than a plan say.
use Rattle.std.specs.Prelude.{ℕ, ⊤}
use Rattle.plan_spec.specs.declared.why.Why.{Why}
use Rattle.plan_check.specs.declared.checking.CheckFault.{CheckFault}
use Rattle.plan_check.specs.declared.checking.CheckFault.TheVariants.{Bad, NoMemory}
use Rattle.plan_check.specs.declared.editing.EditFault.{EditFault}
use Rattle.plan_check.specs.declared.editing.EditFault.TheVariants.{Refused, NoMemory as OutOfMemory}

-- where an item is refused, P holds of its place and of the cause
abbrev pub IfBad : CheckFault → (ℕ → Why → Type 0) → Type 0
IfBad (Bad item why) P = P item why
IfBad NoMemory P = ⊤

-- where the edit is refused, P holds of the cause
abbrev pub IfRefused : EditFault → (Why → Type 0) → Type 0
IfRefused (Refused why) P = P why
IfRefused OutOfMemory P = ⊤
