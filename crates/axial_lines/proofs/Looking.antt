-- Looks that are made one after the other, and how they are counted.
use Rattle.std.proofs.Common.{◌≡◌, ◌∙◌, ◌⊎◌, ℕ, suc, ◌+◌, ◌<◌, ◌≤◌, List, [], ◌∷◌, ◌++◌, length, get_or, arith, sym, ap, subst}
use Rattle.std.proofs.Common.{inl, inr}
use Rattle.std.specs.Prelude.{Result, Ok, Err, IfOk}
use Rattle.std.proofs.lemmas.Bool.{cases_lt}
use Rattle.std.proofs.lemmas.List.{get_or_append_left, get_or_push, length-append}
use Rattle.plane_spec.specs.declared.Point.{Point}
use Rattle.sight_spec.specs.Scene.{Scene}
use Rattle.sight_sweep.specs.Answers.{IsSeenFrom}
use Rattle.sight_sweep.specs.Steps.{one_more}
use Rattle.view_laws.specs.declared.view.Arc.TheVariants as arcs
use Rattle.view_laws.specs.declared.view.View.{View}
use Rattle.axial_lines.specs.Looks.{AreSeenFrom, HasCountedUpTo, end_at, more_by}

plain : (k : ℕ) → suc k ≡ k + 1
plain k = omega arith

-- ---- the count

-- one sweep more
pub next_counted : (k old new : ℕ) → new ≡ more_by k old → one_more new ≡ more_by (k + 1) old
next_counted k old new e = ap one_more e ∙ ap (λ n. more_by n old) (plain k)

-- all that may be counted
pub all_counted : (n old new : ℕ) → new ≡ more_by n old → HasCountedUpTo n old new
all_counted n old new e = record { sweeps = n; at_most = omega arith; counted = e }

-- none
pub none_counted : (n old new : ℕ) → new ≡ old → HasCountedUpTo n old new
none_counted n old new e = record { sweeps = 0; at_most = omega arith; counted = e }

-- no more than so many
pub some_counted : (k n old new : ℕ) → k ≤ n → new ≡ more_by k old → HasCountedUpTo n old new
some_counted k n old new h e = record { sweeps = k; at_most = h; counted = e }

-- where there is nothing to look from, nothing is counted, whatever the answer
pub unmoved : {X E : Type 0} (r : Result X E) (n old : ℕ) → n ≡ 0 → IfOk r (λ x. old ≡ more_by n old)
unmoved (Ok x) n old e = sym (ap (λ k. more_by k old) e)
unmoved (Err x) n old e = tt

-- ---- the views

-- from none of the points
pub no_view : (scene : Scene) (ends : List (ℕ × Point)) → AreSeenFrom scene ends []
no_view scene ends k v h = absurd (none k h)
  where
    none : (k : ℕ) → k < 0 → ⊥
    none k h = omega (arith, h)

-- one view more
pub one_longer : (views : List View) (view : View) (n : ℕ) → length views ≡ n → length (views ++ view ∷ []) ≡ n + 1
one_longer views view n e = omega (arith, e, length-append views (view ∷ []))

-- from one point more
pub one_view_more : (scene : Scene) (ends : List (ℕ × Point)) (views : List View) (view : View) (n : ℕ)
    → length views ≡ n → AreSeenFrom scene ends views → IsSeenFrom scene (end_at ends n).1 arcs.All view
    → AreSeenFrom scene ends (views ++ view ∷ [])
one_view_more scene ends views view n e all seen k v below = by (cases_lt k n)
  where
    by : (k < n) ⊎ (n ≤ k) → IsSeenFrom scene (end_at ends k).1 arcs.All (get_or (views ++ view ∷ []) k v)
    by (inl low) =
        let inside : k < length views = omega (arith, low, e) in
        subst (IsSeenFrom scene (end_at ends k).1 arcs.All)
        (sym (get_or_append_left views (view ∷ []) v k inside)) (all k v inside)
    by (inr high) =
        let same : n ≡ k = omega (arith, high, below, e, length-append views (view ∷ [])) in
        subst (λ i. IsSeenFrom scene (end_at ends i).1 arcs.All (get_or (views ++ view ∷ []) i v)) same
        (subst (IsSeenFrom scene (end_at ends n).1 arcs.All) (sym (get_or_push views view v n e)) seen)
