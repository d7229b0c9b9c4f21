-- The events of an arc, as they are listed.
use Rattle.std.proofs.Common.{◌≡◌, ℕ, ◌+◌, ◌*◌, ◌/◌, ◌%◌, ◌<◌, ◌≤◌, arith, sym, subst, refl, List, [], ◌∷◌, ◌++◌}
use Rattle.std.proofs.Common.{length}
use Rattle.std.specs.Prelude.{Bool, true, false}
use Rattle.std.specs.List.{Contains}
use Rattle.std.specs.List.Sorted.{IsNonDecreasing, IsPermutation}
use Rattle.std.proofs.lemmas.List.Elements.{All-push, Contains-append_left, Contains-append_right}
use Rattle.std.proofs.lemmas.List.Sorted.{All-permutation, Contains-permutation}
use Rattle.plane_spec.specs.declared.Point.{Point}
use Rattle.plane_spec.specs.declared.Corner.{Corner}
use Rattle.plane_spec.specs.Vectors.{IsDirected}
use Rattle.front_laws.proofs.Tests.{by_lt, clash}
use Rattle.turn_laws.specs.Places.{place_of}
use Rattle.view_laws.specs.declared.view.Arc.{Arc}
use Rattle.view_laws.specs.Views.{is_in_arc}
use Rattle.sight_sweep.specs.Events.{way_at, IsEvent, HasAll, AreFirstEvents, AreEvents}

event_place : (place number : ℕ) → number < 2048 → (place * 2048 + number) / 2048 ≡ place
event_place place number h = omega (arith, h)

event_number : (place number : ℕ) → number < 2048 → (place * 2048 + number) % 2048 ≡ number
event_number place number h = omega (arith, h)

-- an event is listed
pub event_listed : (corners : List Corner) (p : Point) (arc : Arc) (number : ℕ) → length corners ≤ 1024
    → number < length corners → IsDirected (way_at p corners number) → is_in_arc arc (way_at p corners number) ≡ true
    → IsEvent corners p arc (place_of (way_at p corners number) * 2048 + number)
event_listed corners p arc number few lt some within =
    let place = place_of (way_at p corners number) in
    let is = event_number place number (small number (length corners) lt few) in
    record {
      within = subst (λ k. k < length corners) (sym is) lt;
      directed = subst (λ k. IsDirected (way_at p corners k)) (sym is) some;
      in_arc = subst (λ k. is_in_arc arc (way_at p corners k) ≡ true) (sym is) within;
      place = subst (λ k. (place * 2048 + number) / 2048 ≡ place_of (way_at p corners k)) (sym is)
          (event_place place number (small number (length corners) lt few));
    }
  where
    small : (k n : ℕ) → k < n → n ≤ 1024 → k < 2048
    small k n h j = omega (arith, h, j)

-- one more that isn't in the arc
pub all_but : (corners : List Corner) (p : Point) (arc : Arc) (shown : ℕ → Bool) (number : ℕ) (events : List ℕ)
    → (shown number ≡ true → IsDirected (way_at p corners number) → is_in_arc arc (way_at p corners number) ≡ true → ⊥)
    → HasAll corners p arc shown number events → HasAll corners p arc shown (number + 1) events
all_but corners p arc shown number events none all k lt inside own some within = by_lt k number
    (λ low. all k low inside own some within)
    (λ high. let same : k ≡ number = between k number lt high in
    absurd (none (subst (λ n. shown n ≡ true) same own) (subst (λ n. IsDirected (way_at p corners n)) same some)
    (subst (λ n. is_in_arc arc (way_at p corners n) ≡ true) same within)))
  where
    between : (k n : ℕ) → k < n + 1 → n ≤ k → k ≡ n
    between k n h j = omega (arith, h, j)

contains_first : (events : List ℕ) (x y : ℕ) → Contains events x → Contains (events ++ y ∷ []) x
contains_first events x y c = Contains-append_left events (y ∷ []) x c

contains_last : (events : List ℕ) (y : ℕ) → Contains (events ++ y ∷ []) y
contains_last events y = Contains-append_right events (y ∷ []) y (0, omega arith, refl)

-- one more that is
pub all_and : (corners : List Corner) (p : Point) (arc : Arc) (shown : ℕ → Bool) (number : ℕ) (events : List ℕ)
    → HasAll corners p arc shown number events
    → HasAll corners p arc shown (number + 1) (events ++ (place_of (way_at p corners number) * 2048 + number) ∷ [])
all_and corners p arc shown number events all k lt inside own some within = by_lt k number
    (λ low. contains_first events (place_of (way_at p corners k) * 2048 + k)
    (place_of (way_at p corners number) * 2048 + number) (all k low inside own some within))
    (λ high. let same : number ≡ k = between k number lt high in
    subst (λ n. Contains (events ++ (place_of (way_at p corners number) * 2048 + number) ∷ [])
    (place_of (way_at p corners n) * 2048 + n)) same
    (contains_last events (place_of (way_at p corners number) * 2048 + number)))
  where
    between : (k n : ℕ) → k < n + 1 → n ≤ k → n ≡ k
    between k n h j = omega (arith, h, j)

-- ---- both

pub no_events : (corners : List Corner) (p : Point) (arc : Arc) (shown : ℕ → Bool)
    → AreFirstEvents corners p arc shown 0 []
no_events corners p arc shown = record {
  each = λ k d lt. absurd (omega (arith, lt));
  all = λ k lt inside own some within. absurd (omega (arith, lt));
}

pub next_not : (corners : List Corner) (p : Point) (arc : Arc) (shown : ℕ → Bool) (number : ℕ) (events : List ℕ)
    → (shown number ≡ true → IsDirected (way_at p corners number) → is_in_arc arc (way_at p corners number) ≡ false)
    → AreFirstEvents corners p arc shown number events → AreFirstEvents corners p arc shown (number + 1) events
next_not corners p arc shown number events out f = record {
  each = f.each;
  all = all_but corners p arc shown number events
      (λ own some within. clash (is_in_arc arc (way_at p corners number)) within (out own some)) f.all;
}

pub next_one : (corners : List Corner) (p : Point) (arc : Arc) (shown : ℕ → Bool) (number : ℕ) (events : List ℕ)
    → length corners ≤ 1024
    → number < length corners → IsDirected (way_at p corners number) → is_in_arc arc (way_at p corners number) ≡ true
    → AreFirstEvents corners p arc shown number events
    → AreFirstEvents corners p arc shown (number + 1) (events ++ (place_of (way_at p corners number) * 2048 + number)
    ∷ [])
next_one corners p arc shown number events few lt some within f = record {
  each = All-push (IsEvent corners p arc) events (place_of (way_at p corners number) * 2048 + number) f.each
      (event_listed corners p arc number few lt some within);
  all = all_and corners p arc shown number events f.all;
}

pub sorted_events : (corners : List Corner) (p : Point) (arc : Arc) (shown : ℕ → Bool) (events sorted : List ℕ)
    → IsPermutation events sorted
    → IsNonDecreasing sorted → AreFirstEvents corners p arc shown (length corners) events
    → AreEvents corners p arc shown sorted
sorted_events corners p arc shown events sorted same order f = record {
  sorted = order;
  each = All-permutation (IsEvent corners p arc) events sorted same f.each;
  all = λ k lt own some within. Contains-permutation events sorted (place_of (way_at p corners k) * 2048 + k) same
      (f.all k lt lt own some within);
}

pub all_listed : (corners : List Corner) (p : Point) (arc : Arc) (shown : ℕ → Bool) (count : ℕ) (events : List ℕ)
    → length corners ≤ count
    → AreFirstEvents corners p arc shown count events → AreFirstEvents corners p arc shown (length corners) events
all_listed corners p arc shown count events end f = record {
  each = f.each;
  all = λ k lt inside own some within. f.all k (up k (length corners) count lt end) inside own some within;
}
  where
    up : (k n m : ℕ) → k < n → n ≤ m → k < m
    up k n m h j = omega (arith, h, j)
