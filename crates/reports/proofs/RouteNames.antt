-- The name of a route by its number.
use Rattle.std.proofs.Common.{◌≡◌, ◌≤◌, ◌-◌, ℕ, zero, suc, true, nat_le, List, [], ◌∷◌, ◌++◌, drop, length, get_or, refl, sym, ap, arith}
use Rattle.plan_spec.specs.declared.item.Route.{Route}
use Rattle.report_spec.specs.Tables.{route_name}

later : (k : ℕ) → nat_le 1 (suc k) ≡ true
later k = grind arith

before : (k : ℕ) → suc k - 1 ≡ k
before k = omega arith

pub named : (routes : List Route) (k : ℕ) (r : Route) (rest : List Route) → drop k routes ≡ r ∷ rest
    → route_name routes k ≡ r.name
named [] zero r rest e = absurd (cc)
named [] (suc k) r rest e = absurd (cc)
named (q ∷ routes) zero r rest e = ap (λ l. (get_or l 0 q).name) e
named (q ∷ routes) (suc k) r rest e = rw (later k, before k) (named routes k r rest e)

none_named : (routes : List Route) (k : ℕ) → length routes ≤ k → route_name routes k ≡ []
none_named [] k all = refl
none_named (q ∷ routes) zero all = absurd (omega arith)
none_named (q ∷ routes) (suc k) all = rw (later k, before k) (none_named routes k (omega arith))

-- for a number that no route has, nothing is added
pub nothing_added : (row : List (List ℕ)) (routes : List Route) (k : ℕ) → length routes ≤ k
    → row ++ [] ∷ [] ≡ row ++ route_name routes k ∷ []
nothing_added row routes k all = ap (λ name. row ++ name ∷ []) (sym (none_named routes k all))
