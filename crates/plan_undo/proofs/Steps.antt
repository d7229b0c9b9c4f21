-- A step through the history, either way.
use Rattle.std.specs.Prelude.{◌≡◌, ℕ, ◌+◌, List, [], ◌∷◌, ◌++◌, length, Option, Some, None, Result, Ok, Err, IfOk, OnErr}
use Rattle.std.proofs.Common.{refl, sym, ap, ap₂, subst, ◌∙◌, arith}
use Rattle.std.proofs.lemmas.List.{length-append}
use Rattle.circular_buffer.specs.Buffer.{Buffer, last_item}
use Rattle.plan_spec.specs.Plan.{Plan}
use Rattle.plan_back.specs.declared.back.Back.{Back}
use Rattle.plan_undo.specs.History.{History, undone, undone_to, redone, redone_to, without_last}
use Rattle.plan_undo.specs.Ways.{IsStep, AreWays, AreKept, history_of, plans_of}
use Rattle.plan_undo.proofs.Ends.{last_of, without_of, no_last}
use Rattle.plan_undo.proofs.Leads.{plans_first, ways_without_first, plans_with_way_back, ways_with_way_back}

-- ---- the ring from which the step came, and the one to which it went

module _ (p q : Plan) (from from_new to to_new : List Back) (name : List ℕ) (s : IsStep p q from from_new to to_new name) where
  plans_from : plans_of p from ≡ plans_of q from_new ++ (q, name) ∷ []
  plans_from =
      ap (plans_of p) s.from_is
      ∙ plans_first p from_new s.back
      ∙ ap₂ (λ t n. plans_of t from_new ++ (t, n) ∷ []) (sym s.after_is) (sym s.name_is)

  plans_to : plans_of q to_new ≡ plans_of p to ++ (p, name) ∷ []
  plans_to = ap (plans_of q) s.to_is ∙ plans_with_way_back p q name to s.other s.way_back

  pub ways_from : AreWays p from → AreWays q from_new
  ways_from h = subst (λ t. AreWays t from_new) (sym s.after_is) (ways_without_first p from_new s.back (subst (AreWays p) s.from_is h)).0

  pub ways_to : AreWays p to → AreWays q to_new
  ways_to h = subst (AreWays q) (sym s.to_is) (ways_with_way_back p q name to s.other s.way_back h)

  pub same_count : length from_new + length to_new ≡ length from + length to
  same_count = omega (arith, ap length s.from_is, ap length s.to_is, length-append from_new (s.back ∷ []), length-append to (s.other ∷ []))

  pub last_from : last_item (plans_of p from) ≡ Some (q, name)
  last_from = ap last_item plans_from ∙ last_of (plans_of q from_new) (q, name)

  pub rest_from : without_last (plans_of p from) ≡ plans_of q from_new
  rest_from = ap without_last plans_from ∙ without_of (plans_of q from_new) (q, name)

  pub more_to : plans_of p to ++ (p, name) ∷ [] ≡ plans_of q to_new
  more_to = sym plans_to

-- ---- undo and redo

module _ (p q : Plan) (past past_new next next_new : Buffer Back) (name : List ℕ)
    (same_past : past_new.capacity ≡ past.capacity) (same_next : next_new.capacity ≡ next.capacity) (k : AreKept p past next) where
  pub kept_when_undone : IsStep p q past.items past_new.items next.items next_new.items name → AreKept q past_new next_new
  kept_when_undone s = record {
    past_ways = ways_from p q past.items past_new.items next.items next_new.items name s k.past_ways;
    next_ways = ways_to p q past.items past_new.items next.items next_new.items name s k.next_ways;
    one_depth = same_next ∙ k.one_depth ∙ sym same_past;
    deep = omega (arith, same_past, k.deep);
    room = omega (arith, same_past, k.room, same_count p q past.items past_new.items next.items next_new.items name s);
  }

  pub history_when_undone : IsStep p q past.items past_new.items next.items next_new.items name
      → undone (history_of p past next) ≡ Some (name, history_of q past_new next_new)
  unfolding undone
  history_when_undone s =
      ap (undone_to (history_of p past next)) (last_from p q past.items past_new.items next.items next_new.items name s)
      ∙ ap₂ (λ older newer. Some (name, record { depth = past.capacity; now = q; past = older; next = newer }))
      (rest_from p q past.items past_new.items next.items next_new.items name s)
      (more_to p q past.items past_new.items next.items next_new.items name s)
      ∙ ap (λ n. Some (name, record { depth = n; now = q; past = plans_of q past_new.items; next = plans_of q next_new.items })) (sym same_past)

  pub kept_when_redone : IsStep p q next.items next_new.items past.items past_new.items name → AreKept q past_new next_new
  kept_when_redone s = record {
    past_ways = ways_to p q next.items next_new.items past.items past_new.items name s k.past_ways;
    next_ways = ways_from p q next.items next_new.items past.items past_new.items name s k.next_ways;
    one_depth = same_next ∙ k.one_depth ∙ sym same_past;
    deep = omega (arith, same_past, k.deep);
    room = omega (arith, same_past, k.room, same_count p q next.items next_new.items past.items past_new.items name s);
  }

  pub history_when_redone : IsStep p q next.items next_new.items past.items past_new.items name
      → redone (history_of p past next) ≡ Some (name, history_of q past_new next_new)
  unfolding redone
  history_when_redone s =
      ap (redone_to (history_of p past next)) (last_from p q next.items next_new.items past.items past_new.items name s)
      ∙ ap₂ (λ older newer. Some (name, record { depth = past.capacity; now = q; past = older; next = newer }))
      (more_to p q next.items next_new.items past.items past_new.items name s)
      (rest_from p q next.items next_new.items past.items past_new.items name s)
      ∙ ap (λ n. Some (name, record { depth = n; now = q; past = plans_of q past_new.items; next = plans_of q next_new.items })) (sym same_past)

-- ---- with any answer

module _ {X : Type 0} (p q : Plan) (past past_new next next_new : Buffer Back)
    (same_past : past_new.capacity ≡ past.capacity) (same_next : next_new.capacity ≡ next.capacity) (k : AreKept p past next) where
  pub kept_after_undo : (r : Result (List ℕ) X) → IfOk r (IsStep p q past.items past_new.items next.items next_new.items)
      → OnErr r (q ≡ p) → OnErr r (past_new ≡ past) → OnErr r (next_new ≡ next) → AreKept q past_new next_new
  kept_after_undo (Ok name) s plan from to = kept_when_undone p q past past_new next next_new name same_past same_next k s
  kept_after_undo (Err fault) s plan from to = rw (plan, from, to) k

  pub kept_after_redo : (r : Result (List ℕ) X) → IfOk r (IsStep p q next.items next_new.items past.items past_new.items)
      → OnErr r (q ≡ p) → OnErr r (next_new ≡ next) → OnErr r (past_new ≡ past) → AreKept q past_new next_new
  kept_after_redo (Ok name) s plan from to = kept_when_redone p q past past_new next next_new name same_past same_next k s
  kept_after_redo (Err fault) s plan from to = rw (plan, from, to) k

-- ---- nothing to undo or redo

no_plans : (p : Plan) (backs : List Back) → plans_of p backs ≡ [] → backs ≡ []
unfolding plans_of
no_plans p [] e = refl
no_plans p (b ∷ backs) e = cc

undone_from : (h : History) (o : Option (Plan × List ℕ)) → undone_to h o ≡ None → o ≡ None
undone_from h None e = refl
undone_from h (Some last) e = cc

redone_from : (h : History) (o : Option (Plan × List ℕ)) → redone_to h o ≡ None → o ≡ None
redone_from h None e = refl
redone_from h (Some last) e = cc

module _ (p : Plan) (past next : Buffer Back) where
  pub nothing_to_undo : past.items ≡ [] → undone (history_of p past next) ≡ None
  unfolding undone plans_of
  nothing_to_undo e = ap (λ backs. undone_to (history_of p past next) (last_item (plans_of p backs))) e

  pub no_past : undone (history_of p past next) ≡ None → past.items ≡ []
  unfolding undone
  no_past e = no_plans p past.items (no_last (plans_of p past.items) (undone_from (history_of p past next) (last_item (plans_of p past.items)) e))

  pub nothing_to_redo : next.items ≡ [] → redone (history_of p past next) ≡ None
  unfolding redone plans_of
  nothing_to_redo e = ap (λ backs. redone_to (history_of p past next) (last_item (plans_of p backs))) e

  pub no_next : redone (history_of p past next) ≡ None → next.items ≡ []
  unfolding redone
  no_next e = no_plans p next.items (no_last (plans_of p next.items) (redone_from (history_of p past next) (last_item (plans_of p next.items)) e))
