-- The undo machine: a plan, the changes that can be undone, and those that can be redone.
use Rattle.std.specs.Prelude.{ℕ, ◌-◌, List, [], ◌∷◌, ◌++◌, length, take, Option, Some, None}
use Rattle.circular_buffer.specs.Buffer.{keep_last, last_item}
use Rattle.plan_spec.specs.declared.edit.Edit.{Edit}
use Rattle.plan_spec.specs.Plan.{Plan}
use Rattle.plan_spec.specs.Edits.{plan_after_edit}
use Rattle.plan_back.specs.declared.back.Back.{Back}
use Rattle.plan_back.specs.Backs.{edit_name, name_of, plan_after_back}

-- the plan now; for each change that can be undone the plan before it and the name of what it changed, the latest last,
-- at most `depth` of them; and for each that can be redone the plan after it and this name, the next to redo last
pub record History : Type 0 where
  pub depth : ℕ
  pub now : Plan
  pub past : List (Plan × List ℕ)
  pub next : List (Plan × List ℕ)

-- with nothing to undo or redo
abbrev pub begun : ℕ → Plan → History
begun depth plan = record { depth = depth; now = plan; past = []; next = [] }

-- a change of what has this name was made, which leaves the plan `after`: it can be undone, and nothing can be redone
abbrev pub changed : History → List ℕ → Plan → History
changed h name after =
    record { depth = h.depth; now = after; past = keep_last h.depth (h.past ++ (h.now, name) ∷ []); next = [] }

-- an edit was made
unfoldable pub edited : History → Edit → History
edited h edit = changed h (edit_name edit) (plan_after_edit h.now edit)

-- a change that names places was made
unfoldable pub backed : History → Back → History
backed h back = changed h (name_of back) (plan_after_back h.now back)

-- all but the last
abbrev pub without_last : {X : Type 0} → List X → List X
without_last xs = take (length xs - 1) xs

-- the last of `past` is taken out and is the plan now, and the plan that was now goes to the end of `next`
abbrev pub undone_to : History → Option (Plan × List ℕ) → Option (List ℕ × History)
undone_to h None = None
undone_to h (Some last) =
    Some (
      last.1,
      record {
        depth = h.depth;
        now = last.0;
        past = without_last h.past;
        next = h.next ++ (h.now, last.1) ∷ [];
      },
    )

-- the name that undo answers and what is then, or none where nothing can be undone
unfoldable pub undone : History → Option (List ℕ × History)
undone h = undone_to h (last_item h.past)

-- the last of `next` is taken out and is the plan now, and the plan that was now goes to the end of `past`
abbrev pub redone_to : History → Option (Plan × List ℕ) → Option (List ℕ × History)
redone_to h None = None
redone_to h (Some last) =
    Some (
      last.1,
      record {
        depth = h.depth;
        now = last.0;
        past = h.past ++ (h.now, last.1) ∷ [];
        next = without_last h.next;
      },
    )

-- the name that redo answers and what is then, or none where nothing can be redone
unfoldable pub redone : History → Option (List ℕ × History)
redone h = redone_to h (last_item h.next)
