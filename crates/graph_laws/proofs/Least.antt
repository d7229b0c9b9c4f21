-- The least of costs, some of which are none.
use Rattle.std.specs.Prelude.{◌≡◌, ℕ, ◌+◌, ◌≤◌, nat_lt, Bool, true, false, cond, List, [], ◌∷◌, Option, Some, None}
use Rattle.std.specs.List.{Contains}
use Rattle.std.proofs.Common.{refl, sym, ◌⊎◌, inl, inr, arith, subst}
use Rattle.std.proofs.lemmas.Bool.{cond_both, ltb-true, ltb-false}
use Rattle.std.proofs.lemmas.Option.{none-some, same_Some}
use Rattle.route_spec.specs.Routes.{lesser, min_of, raised}
use Rattle.graph_laws.proofs.Members.{contains_first, contains_later, contains_none, first_or_later}

-- there is a cost, and it is no more than so much
abbrev pub IsAtMost : Option ℕ → ℕ → Type 0
IsAtMost None most = ⊥
IsAtMost (Some cost) most = cost ≤ most

-- ---- the lesser of two

lesser_of_both : (a b most : ℕ) → (a ≤ most) ⊎ (b ≤ most) → IsAtMost (cond (nat_lt b a) (Some b) (Some a)) most
lesser_of_both a b most h = cond_both (nat_lt b a) (Some b) (Some a) (λ c. IsAtMost c most)
    (λ test. elim h [ inl first ↦ omega (arith, ltb-true b a test) | inr second ↦ second ])
    (λ test. elim h [ inl first ↦ first | inr second ↦ omega (arith, ltb-false b a test) ])

pub lesser_at_most_first : (a b : Option ℕ) (most : ℕ) → IsAtMost a most → IsAtMost (lesser a b) most
lesser_at_most_first None b most h = absurd h
lesser_at_most_first (Some a) None most h = h
lesser_at_most_first (Some a) (Some b) most h = lesser_of_both a b most (inl h)

pub lesser_at_most_second : (a b : Option ℕ) (most : ℕ) → IsAtMost b most → IsAtMost (lesser a b) most
lesser_at_most_second None b most h = h
lesser_at_most_second (Some a) None most h = absurd h
lesser_at_most_second (Some a) (Some b) most h = lesser_of_both a b most (inr h)

pub lesser_is_one : (a b : Option ℕ) (cost : ℕ) → lesser a b ≡ Some cost → (a ≡ Some cost) ⊎ (b ≡ Some cost)
lesser_is_one None b cost e = inr e
lesser_is_one (Some a) None cost e = inl e
lesser_is_one (Some a) (Some b) cost e = by_test (nat_lt b a) e
  where
    by_test : (t : Bool) → cond t (Some b) (Some a) ≡ Some cost → (Some a ≡ Some cost) ⊎ (Some b ≡ Some cost)
    by_test true h = inr h
    by_test false h = inl h

-- ---- the least of a list

pub least_at_most : (costs : List (Option ℕ)) (a : Option ℕ) (most : ℕ) → Contains costs a → IsAtMost a most → IsAtMost (min_of costs) most
least_at_most [] a most here h = absurd (contains_none a here)
least_at_most (c ∷ costs) a most here h = elim (first_or_later c costs a here) [
  | inl first ↦ lesser_at_most_first c (min_of costs) most (subst (λ o. IsAtMost o most) (sym first) h)
  | inr later ↦ lesser_at_most_second c (min_of costs) most (least_at_most costs a most later h)
]

pub least_is_one : (costs : List (Option ℕ)) (cost : ℕ) → min_of costs ≡ Some cost → Contains costs (Some cost)
least_is_one [] cost e = absurd (none-some cost e)
least_is_one (c ∷ costs) cost e = elim (lesser_is_one c (min_of costs) cost e) [
  | inl first ↦ subst (λ o. Contains (c ∷ costs) o) first (contains_first c costs)
  | inr later ↦ contains_later c costs (Some cost) (least_is_one costs cost later)
]

-- ---- a turn more

pub raised_at_most : (turn : ℕ) (a : Option ℕ) (most : ℕ) → IsAtMost a most → IsAtMost (raised turn a) (most + turn)
raised_at_most turn None most h = absurd h
raised_at_most turn (Some a) most h = omega (arith, h)

pub raised_from : (turn : ℕ) (a : Option ℕ) (cost : ℕ) → raised turn a ≡ Some cost → (before : ℕ) × (a ≡ Some before) × (cost ≡ before + turn)
raised_from turn None cost e = absurd (none-some cost e)
raised_from turn (Some a) cost e = (a, refl, sym (same_Some (a + turn) cost e))

-- ---- a cost where a test says so

pub none_unless : (t : Bool) (a : Option ℕ) (cost : ℕ) → cond t a None ≡ Some cost → (t ≡ true) × (a ≡ Some cost)
none_unless true a cost e = (refl, e)
none_unless false a cost e = absurd (none-some cost e)
