-- A list of items whose first ones were added: it goes on, stops, or ends.
use Rattle.std.specs.Prelude.{◌≡◌, ℕ, ◌+◌, ◌≤◌, Bool, true, false, IsTrue, List, ◌∷◌, drop, length, Some, None, Result, Ok, Err, is_ok, cond}
use Rattle.std.proofs.Common.{inr, sym, ap, ◌∙◌, subst}
use Rattle.std.proofs.lemmas.List.{drop_all}
use Rattle.plan_spec.specs.declared.item.Item.{Item}
use Rattle.plan_spec.specs.declared.why.Why.{Why}
use Rattle.plan_spec.specs.declared.why.Why.TheVariants.{Order}
use Rattle.plan_spec.specs.Plan.{Plan, has_outer, with_item}
use Rattle.plan_spec.specs.Accepted.{is_accepted}
use Rattle.plan_spec.specs.Refusals.{check_of, check_from, why_not_item}
use Rattle.plan_laws.proofs.Checking.{accepted_is_ok, checked_on, checked_no_further, checked_at_end}
use Rattle.plan_check.specs.Kept.{IsDraft}
use Rattle.plan_check.proofs.Adding.{added_is_sound, part_added}
use Rattle.plan_check.proofs.Counts.{part_count}

-- the items before `number` are in the draft, and what is left answers for all
pub record IsUnderway (items : List Item) (number : ℕ) (draft : Plan) : Type 0 where
  pub rest : check_from number draft (drop number items) ≡ check_of items
  pub is_draft : IsDraft draft
  pub count : number ≡ part_count draft

pub underway_on : (items : List Item) (number : ℕ) (draft new : Plan) (i : Item) → IsUnderway items number draft
    → drop number items ≡ i ∷ drop (number + 1) items → why_not_item draft i ≡ None → new ≡ with_item draft i → IsUnderway items (number + 1) new
underway_on items number draft new i h next e is =
    let rest = sym (checked_on number draft i (drop (number + 1) items) e) ∙ ap (check_from number draft) (sym next) ∙ h.rest in
    subst (IsUnderway items (number + 1)) (sym is) (record {
      rest = rest;
      is_draft = inr (added_is_sound draft i h.is_draft e);
      count = ap (λ n. n + 1) h.count ∙ sym (part_added draft i h.is_draft e);
    })

pub underway_stops : (items : List Item) (number : ℕ) (draft : Plan) (i : Item) (why : Why) → IsUnderway items number draft
    → drop number items ≡ i ∷ drop (number + 1) items → why_not_item draft i ≡ Some why → check_of items ≡ Err (number, why)
underway_stops items number draft i why h next e =
    sym h.rest ∙ ap (check_from number draft) next ∙ checked_no_further number draft i (drop (number + 1) items) why e

at_end : (items : List Item) (number : ℕ) (draft : Plan) → IsUnderway items number draft → length items ≤ number
    → check_of items ≡ cond (has_outer draft) (Ok draft) (Err (number, Order))
at_end items number draft h all = sym h.rest ∙ ap (check_from number draft) (drop_all number items all) ∙ checked_at_end number draft

pub underway_ends : (items : List Item) (number : ℕ) (draft : Plan) → IsUnderway items number draft → length items ≤ number
    → has_outer draft ≡ true → check_of items ≡ Ok draft
underway_ends items number draft h all begun =
    at_end items number draft h all ∙ ap (λ (t : Bool). cond {A = Result Plan (ℕ × Why)} t (Ok draft) (Err (number, Order))) begun

pub underway_fails : (items : List Item) (number : ℕ) (draft : Plan) → IsUnderway items number draft → length items ≤ number
    → has_outer draft ≡ false → check_of items ≡ Err (number, Order)
underway_fails items number draft h all none =
    at_end items number draft h all ∙ ap (λ (t : Bool). cond {A = Result Plan (ℕ × Why)} t (Ok draft) (Err (number, Order))) none

pub not_accepted : (items : List Item) (fault : ℕ × Why) → check_of items ≡ Err fault → is_accepted items ≡ false
not_accepted items fault e = accepted_is_ok items ∙ ap is_ok e

pub accepted : (items : List Item) (plan : Plan) → check_of items ≡ Ok plan → IsTrue (is_accepted items)
accepted items plan e = accepted_is_ok items ∙ ap is_ok e
