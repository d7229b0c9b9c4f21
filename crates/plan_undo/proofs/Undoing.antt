-- What is undone can be redone, and a change that is undone gives back the plan.
use Rattle.std.specs.Prelude.{◌≡◌, ◌≤◌, ℕ, ◌+◌, ◌-◌, drop, List, [], ◌∷◌, ◌++◌, length, Option, Some, None}
use Rattle.std.proofs.Common.{refl, sym, ap, ap₂, ◌∙◌, arith}
use Rattle.std.proofs.lemmas.List.{length-append, drop-append-le}
use Rattle.circular_buffer.specs.Buffer.{keep_last, last_item}
use Rattle.plan_spec.specs.Plan.{Plan}
use Rattle.plan_undo.specs.History.{History, changed, undone, undone_to, redone, redone_to, without_last}
use Rattle.plan_undo.proofs.Ends.{last_of, without_of, last_splits}

-- the last of what is kept is the last
kept_end : {X : Type 0} (n : ℕ) (xs : List X) (x : X) → 1 ≤ n → keep_last n (xs ++ x ∷ []) ≡ keep_last (n - 1) xs ++ x ∷ []
kept_end n xs x deep =
    ap (λ k. drop k (xs ++ x ∷ [])) (less n (length xs) (length (xs ++ x ∷ [])) deep (omega (arith, length-append xs (x ∷ []))))
    ∙ drop-append-le (length xs - (n - 1)) xs (x ∷ []) (omega arith)
  where
    less : (n m k : ℕ) → 1 ≤ n → k ≡ m + 1 → k - n ≡ m - (n - 1)
    less n m k deep e = omega arith

pub undoing_a_change : (h : History) (name : List ℕ) (after : Plan) → 1 ≤ h.depth
    → undone (changed h name after)
    ≡ Some (name, record { depth = h.depth; now = h.now; past = without_last (changed h name after).past; next = (after, name) ∷ [] })
unfolding undone
undoing_a_change h name after deep =
    ap (undone_to (changed h name after))
    (ap last_item (kept_end h.depth h.past (h.now, name) deep) ∙ last_of (keep_last (h.depth - 1) h.past) (h.now, name))

redone_again : (h : History) (last : Plan × List ℕ) → last_item h.past ≡ Some last
    → redone (record { depth = h.depth; now = last.0; past = without_last h.past; next = h.next ++ (h.now, last.1) ∷ [] }) ≡ Some (last.1, h)
unfolding redone
redone_again h last there =
    ap (redone_to (record { depth = h.depth; now = last.0; past = without_last h.past; next = h.next ++ (h.now, last.1) ∷ [] })) (last_of h.next (h.now, last.1))
    ∙ ap₂ (λ older newer. Some (last.1, record { depth = h.depth; now = h.now; past = older; next = newer }))
    (sym (last_splits h.past last there)) (without_of h.next (h.now, last.1))

one_answer : (a b : List ℕ × History) → Some a ≡ Some b → a ≡ b
one_answer a b e = cc

pub redoing_it : (h back : History) (name : List ℕ) → undone h ≡ Some (name, back) → redone back ≡ Some (name, h)
unfolding undone
redoing_it h back name e = by (last_item h.past) refl e
  where
    by : (o : Option (Plan × List ℕ)) → last_item h.past ≡ o → undone_to h o ≡ Some (name, back) → redone back ≡ Some (name, h)
    by None there f = cc
    by (Some last) there f =
        let same = one_answer (last.1, record { depth = h.depth; now = last.0; past = without_last h.past; next = h.next ++ (h.now, last.1) ∷ [] }) (name, back) f in
        ap redone (sym (ap (λ a. a.1) same)) ∙ redone_again h last there ∙ ap (λ a. Some (a.0, h)) same
