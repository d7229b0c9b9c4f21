-- How many sectors come up to a place.
use Rattle.std.proofs.Common.{◌≡◌, ◌≢◌, ℕ, ◌+◌, ◌<◌, ◌≤◌, arith, ap, subst, sym, List, length, get_or}
use Rattle.std.specs.Prelude.{cond}
use Rattle.std.proofs.lemmas.Bool.{ne_eqb}
use Rattle.front_laws.proofs.Tests.{by_lt}
use Rattle.view_laws.specs.declared.view.Sector.{Sector}
use Rattle.view_laws.specs.Views.{AreInOrder, radial_at, radial_between, radial_on}
use Rattle.sight_sweep.specs.Told.{IsCount}

chain : (a b c : ℕ) → a < b → b < c → a < c
chain a b c h k = omega (arith, h, k)

between : (a b : ℕ) → a ≤ b → b ≤ a → a ≡ b
between a b h k = omega (arith, h, k)

-- all after one that is past the place are so
all_beyond : (sectors : List Sector) (place count : ℕ) → AreInOrder sectors
    → (count < length sectors → (s : Sector) → place < (get_or sectors count s).place)
    → (k : ℕ) (s : Sector) → count ≤ k → k < length sectors → place < (get_or sectors k s).place
all_beyond sectors place count order first k s le lt = by_lt count k
    (λ more. chain place (get_or sectors count s).place (get_or sectors k s).place
    (first (chain count k (length sectors) more lt) s) (order count k s more lt))
    (λ at_most. let same : count ≡ k = between count k le at_most in
    subst (λ n. place < (get_or sectors n s).place) same (first (subst (λ n. n < length sectors) (sym same) lt) s))

-- none of them is up to the place
pub count_none : (sectors : List Sector) (place count : ℕ) → AreInOrder sectors → count ≡ 0
    → (count < length sectors → (s : Sector) → place < (get_or sectors count s).place)
    → IsCount sectors place count
count_none sectors place count order none first = record {
  within = omega (arith, none);
  reached = λ k s lt. absurd (omega (arith, none, lt));
  beyond = all_beyond sectors place count order first;
}

-- the last of the first ones is up to it, and the next one past it
pub count_some : (sectors : List Sector) (place count last : ℕ) → AreInOrder sectors → last + 1 ≡ count
    → count ≤ length sectors
    → (count < length sectors → (s : Sector) → place < (get_or sectors count s).place)
    → (last < length sectors → (s : Sector) → (get_or sectors last s).place ≤ place)
    → IsCount sectors place count
count_some sectors place count last order is within first reached = record {
  within = within;
  reached = λ k s lt.
      let inside : last < length sectors = omega (arith, is, within) in
      by_lt k last
      (λ less. weaker (get_or sectors k s).place (get_or sectors last s).place place (order k last s less inside)
      (reached inside s))
      (λ at_least. let same : last ≡ k = between last k at_least (omega (arith, is, lt)) in
      subst (λ n. (get_or sectors n s).place ≤ place) same (reached inside s));
  beyond = all_beyond sectors place count order first;
}
  where
    weaker : (a b c : ℕ) → a < b → b ≤ c → a ≤ c
    weaker a b c h k = omega (arith, h, k)

-- past a sector's own place it tells what is first after it
pub radial_away : (s : Sector) (place : ℕ) → place ≢ s.place → radial_at s place ≡ radial_between s.after
radial_away s place other = ap (λ t. cond t (radial_on s) (radial_between s.after)) (ne_eqb place s.place other)
