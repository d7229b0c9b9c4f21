-- What is printed, read again.
use Rattle.std.specs.Prelude.{◌≡◌, ℕ, ◌+◌, ◌≤◌, List, [], ◌∷◌, Bool, true, false, Ok, IsTrue, length}
use Rattle.std.specs.List.{list_all, list_any}
use Rattle.text_spec.specs.Lines.{lines_of, is_long}
use Rattle.text_spec.specs.Names.{is_name}
use Rattle.plan_spec.specs.declared.item.Item.{Item}
use Rattle.plan_spec.specs.declared.item.Item.TheVariants.{Obstacle, Screen, Route}
use Rattle.grammar_spec.specs.declared.limits.TheConstants.{MAX_PLAN_BYTES}
use Rattle.grammar_spec.specs.PlanText.{plan_text_of, read_plan_text}

-- the item's name, where it has one, is a name; that of every item in code is, by its type
abbrev pub has_name : Item → Bool
has_name (Obstacle name points) = is_name name
has_name (Screen name from to) = is_name name
has_name (Route name from to) = is_name name
has_name _ = true

-- each item's name is a name
abbrev pub HaveNames : List Item → Type 0
HaveNames items = IsTrue (list_all has_name items)

-- items on lines of their own, one after the other
abbrev pub numbered : ℕ → List Item → List (ℕ × Item)
numbered number [] = []
numbered number (item ∷ items) = (number, item) ∷ numbered (number + 1) items

-- the text of the items is in the grammar, with these items and no others, each on the line after the one before it
pub record ReadsAgain (items : List Item) : Type 0 where
  pub read : read_plan_text (plan_text_of items) ≡ Ok (numbered 2 items)
  pub lines : list_any is_long (lines_of (plan_text_of items)) ≡ false
  pub length : length (plan_text_of items) ≤ MAX_PLAN_BYTES
