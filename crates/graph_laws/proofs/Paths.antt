-- Paths that meet no place twice: where a path comes back to a place, what lies between is left out.
use Rattle.std.specs.Prelude.{◌≡◌, ℕ, ◌+◌, ◌<◌, ◌≤◌, true, false, List, [], ◌∷◌, map, length, eqb}
use Rattle.std.specs.List.{AllByRecursion, IsDistinct, list_any}
use Rattle.std.proofs.Common.{sym, inl, inr, arith, subst}
use Rattle.std.proofs.lemmas.Bool.{cases_Bool, or_cases, or_parts, eqb-true}
use Rattle.std.proofs.lemmas.List.{length-map}
use Rattle.std.proofs.lemmas.Map.Keys.{IsDistinct-cons, IsDistinct-tail}
use Rattle.std.proofs.lemmas.Map.Steps.{length-le_from_distinct_below}

none_distinct : IsDistinct eqb []
unfolding IsDistinct
none_distinct = tt

-- where no number equals n, each differs from it
none_equal : (n : ℕ) (xs : List ℕ) → list_any (eqb n) xs ≡ false → AllByRecursion (λ x. eqb n x ≡ false) xs
none_equal n [] h = tt
none_equal n (x ∷ xs) h = let parts = or_parts (eqb n x) (list_any (eqb n) xs) h in (parts.0, none_equal n xs parts.1)

-- places that have numbers, those where a path may start, and which leads to which at what cost
module _ {X : Type 0} (IsPlace IsStart : X → Type 0) (LeadsTo : X → X → Type 0) (cost : X → X → ℕ) (number : X → ℕ) where
  -- a path to a place, told by the places before it, the last first
  abbrev pub IsPath : X → List X → Type 0
  IsPath t [] = IsPlace t × IsStart t
  IsPath t (s ∷ before) = IsPlace t × IsPath s before × LeadsTo s t

  -- what its steps cost together
  abbrev pub path_cost : X → List X → ℕ
  path_cost t [] = 0
  path_cost t (s ∷ before) = path_cost s before + cost s t

  -- a path to a place that meets none twice, at no more than a cost
  pub record ShortPath (t : X) (most : ℕ) : Type 0 where
    pub before : List X
    pub path : IsPath t before
    pub apart : IsDistinct eqb (map number (t ∷ before))
    pub cheap : path_cost t before ≤ most

  pub end_is_place : (t : X) (before : List X) → IsPath t before → IsPlace t
  end_is_place t [] p = p.0
  end_is_place t (s ∷ before) p = p.0

  -- the path of no step
  pub stays : (t : X) (most : ℕ) → IsPlace t → IsStart t → ShortPath t most
  stays t most place start = record {
    before = [];
    path = (place, start);
    apart = IsDistinct-cons eqb (number t) [] tt none_distinct;
    cheap = omega arith;
  }

  -- of a path that meets a number, the part up to where it meets it
  cut : (n : ℕ) (s : X) (most : ℕ) (before : List X) → IsPath s before → IsDistinct eqb (map number (s ∷ before)) → path_cost s before ≤ most
      → list_any (eqb n) (map number (s ∷ before)) ≡ true → (u : X) × (n ≡ number u) × ShortPath u most
  cut n s most [] path apart cheap met = elim (or_cases (eqb n (number s)) false met) [
    | inl here ↦ (s, eqb-true n (number s) here, record { before = []; path = path; apart = apart; cheap = cheap })
    | inr nowhere ↦ grind arith
  ]
  cut n s most (r ∷ before) path apart cheap met = elim (or_cases (eqb n (number s)) (list_any (eqb n) (map number (r ∷ before))) met) [
    | inl here ↦ (s, eqb-true n (number s) here, record { before = r ∷ before; path = path; apart = apart; cheap = cheap })
    | inr later ↦ cut n r most before path.1 (IsDistinct-tail eqb (number s) (map number (r ∷ before)) apart) (omega arith) later
  ]

  -- where no two places have one number
  module _ (same : (u t : X) → IsPlace u → IsPlace t → number u ≡ number t → u ≡ t) where
    -- one step more; where it comes back to a place, the path ends there
    pub extend : (s t : X) (most : ℕ) → ShortPath s most → IsPlace t → LeadsTo s t → ShortPath t (most + cost s t)
    extend s t most short place leads = elim (cases_Bool (list_any (eqb (number t)) (map number (s ∷ short.before)))) [
      | inl met ↦
          let found = cut (number t) s (most + cost s t) short.before short.path short.apart (omega (arith, short.cheap)) met in
          subst (λ (x : X). ShortPath x (most + cost s t)) (same found.0 t (end_is_place found.0 found.2.before found.2.path) place (sym found.1)) found.2
      | inr new ↦ record {
        before = s ∷ short.before;
        path = (place, short.path, leads);
        apart = IsDistinct-cons eqb (number t) (map number (s ∷ short.before)) (none_equal (number t) (map number (s ∷ short.before)) new) short.apart;
        cheap = omega (arith, short.cheap);
      }
    ]

  -- where the numbers are below a count
  module _ (count : ℕ) (below : (t : X) → IsPlace t → number t < count) where
    numbers_below : (n : ℕ) (t : X) (before : List X) → IsPath t before → list_any (eqb n) (map number (t ∷ before)) ≡ true → n < count
    numbers_below n t [] path met = elim (or_cases (eqb n (number t)) false met) [
      | inl here ↦ subst (λ (m : ℕ). m < count) (sym (eqb-true n (number t) here)) (below t path.0)
      | inr nowhere ↦ grind arith
    ]
    numbers_below n t (s ∷ before) path met = elim (or_cases (eqb n (number t)) (list_any (eqb n) (map number (s ∷ before))) met) [
      | inl here ↦ subst (λ (m : ℕ). m < count) (sym (eqb-true n (number t) here)) (below t path.0)
      | inr later ↦ numbers_below n s before path.1 later
    ]

    -- a path that meets no place twice has fewer steps than there are places
    pub few_steps : (t : X) (most : ℕ) (short : ShortPath t most) → length short.before < count
    few_steps t most short =
        let bound = length-le_from_distinct_below (map number (t ∷ short.before)) count short.apart (λ n met. numbers_below n t short.before short.path met) in
        let same_length : length (map number (t ∷ short.before)) ≡ length (t ∷ short.before) = length-map (t ∷ short.before) number in
        omega (arith, bound, same_length)
