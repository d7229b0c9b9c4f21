-- A change that is made: the way back from it goes to the end of the past, and nothing is left to redo.
use Rattle.std.specs.Prelude.{◌≡◌, ℕ, ◌-◌, List, [], ◌∷◌, ◌++◌, length}
use Rattle.std.proofs.Common.{ap, ◌∙◌, arith}
use Rattle.circular_buffer.specs.Buffer.{Buffer, buffer, keep_last}
use Rattle.plan_spec.specs.Plan.{Plan}
use Rattle.plan_back.specs.declared.back.Back.{Back}
use Rattle.plan_undo.specs.History.{changed}
use Rattle.plan_undo.specs.Ways.{IsWayBack, AreKept, history_of, plans_of}
use Rattle.plan_undo.proofs.Ends.{kept_length}
use Rattle.plan_undo.proofs.Leads.{plans_with_way_back, ways_with_way_back, ways_dropped, plans_kept}

module _ (p q : Plan) (past next : Buffer Back) (name : List ℕ) (other : Back) (w : IsWayBack p q name other) where
  abbrev past_after : Buffer Back
  past_after = buffer (keep_last past.capacity (past.items ++ other ∷ [])) past.capacity

  abbrev next_after : Buffer Back
  next_after = buffer [] next.capacity

  pub kept_when_changed : AreKept p past next → AreKept q past_after next_after
  kept_when_changed k = record {
    past_ways = ways_dropped q (length (past.items ++ other ∷ []) - past.capacity) (past.items ++ other ∷ []) (ways_with_way_back p q name past.items other w k.past_ways);
    next_ways = tt;
    one_depth = k.one_depth;
    deep = k.deep;
    room = omega (arith, kept_length past.capacity (past.items ++ other ∷ []));
  }

  pub history_when_changed : history_of q past_after next_after ≡ changed (history_of p past next) name q
  unfolding plans_of
  history_when_changed =
      ap (λ plans. record { depth = past.capacity; now = q; past = plans; next = [] })
      (plans_kept q past.capacity (past.items ++ other ∷ [])
      ∙ ap (keep_last past.capacity) (plans_with_way_back p q name past.items other w))
