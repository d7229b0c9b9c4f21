-- Changes kept instead of plans: each leads from one plan to another.
use Rattle.std.specs.Prelude.{◌≡◌, ◌≤◌, ℕ, ◌+◌, ⊤, List, [], ◌∷◌, ◌++◌, length, None}
use Rattle.circular_buffer.specs.Buffer.{Buffer}
use Rattle.plan_spec.specs.Plan.{Plan}
use Rattle.plan_spec.specs.Edits.{HasShift}
use Rattle.plan_back.specs.declared.back.Back.{Back}
use Rattle.plan_back.specs.Backs.{HasPlace, like_edit, name_of, plan_after_back, why_not_back}
use Rattle.plan_undo.specs.History.{History}

-- the change is allowed on the plan and isn't refused
pub record IsWay (plan : Plan) (back : Back) : Type 0 where
  pub place : HasPlace plan back
  pub shift : HasShift (like_edit back)
  pub valid : why_not_back plan back ≡ None

-- the plan to which changes lead, made from the last to the first
unfoldable pub led : Plan → List Back → Plan
led plan [] = plan
led plan (back ∷ backs) = plan_after_back (led plan backs) back

-- each change is a way on from where those after it lead
abbrev pub AreWays : Plan → List Back → Type 0
AreWays plan [] = ⊤
AreWays plan (back ∷ backs) = IsWay (led plan backs) back × AreWays plan backs

-- the plans to which the changes lead, and the name of what each changes
unfoldable pub plans_of : Plan → List Back → List (Plan × List ℕ)
plans_of plan [] = []
plans_of plan (back ∷ backs) = (led plan (back ∷ backs), name_of back) ∷ plans_of plan backs

-- the history that an editor's plan and two rings of changes stand for
abbrev pub history_of : Plan → Buffer Back → Buffer Back → History
history_of plan past next = record {
  depth = past.capacity;
  now = plan;
  past = plans_of plan past.items;
  next = plans_of plan next.items;
}

-- the changes of both rings lead on from the plan, and there is room for one more wherever one is taken out
pub record AreKept (plan : Plan) (past next : Buffer Back) : Type 0 where
  pub past_ways : AreWays plan past.items
  pub next_ways : AreWays plan next.items
  pub one_depth : next.capacity ≡ past.capacity
  pub deep : 1 ≤ past.capacity
  pub room : length past.items + length next.items ≤ past.capacity

-- the change leads from the plan `after` back to the plan `before`, and changes what has this name
pub record IsWayBack (before after : Plan) (name : List ℕ) (back : Back) : Type 0 where
  pub way : IsWay after back
  pub gives : plan_after_back after back ≡ before
  pub named : name_of back ≡ name

-- the last change of one list was made, and the way back from it stands last in the other
pub record IsStep (before after : Plan) (from from_new to to_new : List Back) (name : List ℕ) : Type 0 where
  pub back : Back
  pub other : Back
  pub from_is : from ≡ from_new ++ back ∷ []
  pub to_is : to_new ≡ to ++ other ∷ []
  pub after_is : after ≡ plan_after_back before back
  pub name_is : name ≡ name_of back
  pub way_back : IsWayBack before after name other
