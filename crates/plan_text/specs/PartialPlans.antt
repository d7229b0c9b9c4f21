-- A plan as far as it is read.
use Rattle.std.specs.Prelude.{ℕ, [], ◌∷◌, ◌++◌, Some}
use Rattle.grammar_spec.specs.declared.plan_line.PlanLine.{PlanLine}
use Rattle.grammar_spec.specs.declared.plan_line.PlanLine.TheVariants.{Blank, Header, Item}
use Rattle.plan_text.specs.declared.plans.PartialPlan.{PartialPlan}

-- one line more
abbrev pub with_line : ℕ → PlanLine → PartialPlan → PartialPlan
with_line number Blank draft = draft
with_line number (Header version) draft = record draft { header = Some version }
with_line number (Item item) draft =
    record draft { items = draft.items ++ item ∷ []; lines = draft.lines ++ number ∷ [] }
