use Rattle.std.proofs.Common.{◌≡◌, ◌++◌, ℕ, List, drop, map, flat_map}
use Rattle.plan_spec.specs.declared.item.Item.{Item}
use Rattle.grammar_spec.specs.PlanText.{item_words, ended_line, plan_text_of}
use Rattle.plan_text.specs.RoundTrip.{HaveNames}
use Rattle.plan_text.proofs.printing.print_plan.Given as goal

-- the text so far, with the lines of the items that are left, is the whole text; and all items have names where those
-- that are left have
pub record IsPrintedTo (printed : List ℕ) (left items : List Item) : Type 0 where
  pub text : printed ++ flat_map ended_line (map item_words left) ≡ plan_text_of items
  pub named : HaveNames left → HaveNames items

abbrev pub invariant-items : goal.invariant-items
invariant-items l = IsPrintedTo l.text.items (drop l.item-index l.items) l.plan.items
