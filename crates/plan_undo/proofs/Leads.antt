-- Changes that lead from one plan to another: one more, and fewer of them.
use Rattle.std.specs.Prelude.{◌≡◌, ◌≤◌, ℕ, zero, suc, ◌+◌, ◌-◌, List, [], ◌∷◌, ◌++◌, length, drop, Some, is_none}
use Rattle.std.proofs.Common.{refl, sym, ap, ap₂, subst, ◌∙◌, arith}
use Rattle.std.proofs.lemmas.Bool.{false≢true}
use Rattle.std.proofs.lemmas.List.{length-append}
use Rattle.circular_buffer.specs.Buffer.{Buffer, keep_last, last_item}
use Rattle.plan_spec.specs.declared.why.Why.{Why}
use Rattle.plan_spec.specs.Plan.{Plan}
use Rattle.plan_back.specs.declared.back.Back.{Back}
use Rattle.plan_back.specs.Backs.{name_of, plan_after_back, why_not_back}
use Rattle.plan_undo.specs.History.{without_last}
use Rattle.plan_undo.specs.Ways.{IsWay, IsWayBack, AreWays, led, plans_of}
use Rattle.plan_undo.proofs.Ends.{last_splits, all_kept}

-- ---- a change that is made first

pub led_first : (p : Plan) (backs : List Back) (c : Back) → led p (backs ++ c ∷ []) ≡ led (plan_after_back p c) backs
unfolding led
led_first p [] c = refl
led_first p (b ∷ backs) c = ap (λ t. plan_after_back t b) (led_first p backs c)

pub plans_first : (p : Plan) (backs : List Back) (c : Back)
    → plans_of p (backs ++ c ∷ []) ≡ plans_of (plan_after_back p c) backs ++ (plan_after_back p c, name_of c) ∷ []
unfolding plans_of led
plans_first p [] c = refl
plans_first p (b ∷ backs) c = ap₂ (λ t r. (plan_after_back t b, name_of b) ∷ r) (led_first p backs c) (plans_first p backs c)

pub ways_without_first : (p : Plan) (backs : List Back) (c : Back) → AreWays p (backs ++ c ∷ []) → AreWays (plan_after_back p c) backs × IsWay p c
unfolding led
ways_without_first p [] c h = (tt, h.0)
ways_without_first p (b ∷ backs) c h =
    let on = ways_without_first p backs c h.1 in
    ((subst (λ t. IsWay t b) (led_first p backs c) h.0, on.0), on.1)

pub ways_with_first : (p : Plan) (backs : List Back) (c : Back) → AreWays (plan_after_back p c) backs → IsWay p c → AreWays p (backs ++ c ∷ [])
unfolding led
ways_with_first p [] c h way = (way, tt)
ways_with_first p (b ∷ backs) c h way = (subst (λ t. IsWay t b) (sym (led_first p backs c)) h.0, ways_with_first p backs c h.1 way)

-- the way back from one plan to another, made first
pub plans_with_way_back : (p q : Plan) (name : List ℕ) (backs : List Back) (other : Back) → IsWayBack p q name other
    → plans_of q (backs ++ other ∷ []) ≡ plans_of p backs ++ (p, name) ∷ []
plans_with_way_back p q name backs other w =
    plans_first q backs other
    ∙ ap₂ (λ t n. plans_of t backs ++ (t, n) ∷ []) w.gives w.named

pub ways_with_way_back : (p q : Plan) (name : List ℕ) (backs : List Back) (other : Back) → IsWayBack p q name other
    → AreWays p backs → AreWays q (backs ++ other ∷ [])
ways_with_way_back p q name backs other w h =
    ways_with_first q backs other (subst (λ t. AreWays t backs) (sym w.gives) h) w.way

-- ---- the last of them

pub plans_dropped : (p : Plan) (n : ℕ) (backs : List Back) → plans_of p (drop n backs) ≡ drop n (plans_of p backs)
unfolding plans_of
plans_dropped p zero backs = refl
plans_dropped p (suc n) [] = refl
plans_dropped p (suc n) (b ∷ backs) = plans_dropped p n backs

pub ways_dropped : (p : Plan) (n : ℕ) (backs : List Back) → AreWays p backs → AreWays p (drop n backs)
ways_dropped p zero backs h = h
ways_dropped p (suc n) [] h = tt
ways_dropped p (suc n) (b ∷ backs) h = ways_dropped p n backs h.1

pub plans_length : (p : Plan) (backs : List Back) → length (plans_of p backs) ≡ length backs
unfolding plans_of
plans_length p [] = refl
plans_length p (b ∷ backs) = ap suc (plans_length p backs)

pub plans_kept : (p : Plan) (n : ℕ) (backs : List Back) → plans_of p (keep_last n backs) ≡ keep_last n (plans_of p backs)
plans_kept p n backs =
    plans_dropped p (length backs - n) backs
    ∙ ap (λ k. drop (k - n) (plans_of p backs)) (sym (plans_length p backs))

-- ---- the one that is made first

-- it is a way on from the plan
pub last_way : (p : Plan) (backs : List Back) (c : Back) → AreWays p backs → last_item backs ≡ Some c → IsWay p c
last_way p backs c h last = (ways_without_first p (without_last backs) c (subst (AreWays p) (last_splits backs c last) h)).1

-- so it isn't refused
pub cant_be_refused : (p : Plan) (c : Back) (why : Why) → IsWay p c → why_not_back p c ≡ Some why → ⊥
cant_be_refused p c why way refused = false≢true (sym (ap is_none refused) ∙ ap is_none way.valid)

-- where one is taken out of the one list, there is room for one more in the other
pub one_more_kept : (from : List Back) (c : Back) (to : Buffer Back) (other : Back) → from ≡ without_last from ++ c ∷ []
    → length from + length to.items ≤ to.capacity → keep_last to.capacity (to.items ++ other ∷ []) ≡ to.items ++ other ∷ []
one_more_kept from c to other splits room =
    all_kept to.capacity (to.items ++ other ∷ []) (omega (arith, room, ap length splits, length-append (without_last from) (c ∷ []), length-append to.items (other ∷ [])))
