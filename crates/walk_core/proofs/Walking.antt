-- A walker's steps, and the visits that it has made so far.
use Rattle.std.proofs.Common.{◌≡◌, ℕ, zero, suc, ◌+◌, ◌%◌, ◌^◌, ◌<◌, ◌≤◌, cond, eqb, List, [], ◌∷◌, All, length, get_or, set, refl, sym, ap, ◌∙◌, inl, inr, arith, subst}
use Rattle.std.specs.List.{count_by, range_with_len}
use Rattle.std.proofs.lemmas.Bool.{cases_eq, eq-eqb, ne_eqb}
use Rattle.std.proofs.lemmas.List.{get_or-set_same, get_or-set_other, length-set}
use Rattle.std.proofs.lemmas.List.Elements.{All-get_or}
use Rattle.rand_pcg.specs.Lcg.{Lcg}
use Rattle.walk_spec.specs.Walks.{Walker, generator_of, draw, drawn_from, goes_among, stepped, walker_after}
use Rattle.walk_core.specs.Lists.{Lists, listed}
use Rattle.walk_core.proofs.Sums.{sum_first, count_at_most}

-- ---- a step
among_none : (list : List ℕ) (w : Walker) → length list ≡ 0 → goes_among list w ≡ w
among_none [] w e = refl
among_none (x ∷ xs) w e = absurd (omega (arith, e))

among_some : (list : List ℕ) (w : Walker) → 0 < length list → goes_among list w ≡ drawn_from list w.generator
among_some [] w e = absurd (omega (arith, e))
among_some (x ∷ xs) w e = refl

pub stays : (neighbours : ℕ → List ℕ) (w : Walker) → length (neighbours w.at) ≡ 0 → stepped neighbours w ≡ w
unfolding stepped
stays neighbours w e = among_none (neighbours w.at) w e

pub goes : (neighbours : ℕ → List ℕ) (w : Walker) → 0 < length (neighbours w.at) → stepped neighbours w ≡ drawn_from (neighbours w.at) w.generator
unfolding stepped
goes neighbours w some = among_some (neighbours w.at) w some

-- ---- a walker never leaves the nodes
pub drawn_below : (n : ℕ) (list : List ℕ) (g : Lcg) → 0 < length list → All (λ v. v < n) list → (drawn_from list g).at < n
unfolding drawn_from
drawn_below n list g some all = All-get_or (λ v. v < n) list ((draw g).0 % length list) 0 (omega (arith, some)) all

among_below : (n : ℕ) (list : List ℕ) (w : Walker) → w.at < n → All (λ v. v < n) list → (goes_among list w).at < n
among_below n [] w h all = h
among_below n (x ∷ xs) w h all = drawn_below n (x ∷ xs) w.generator (omega arith) all

module _ (n : ℕ) (neighbours : ℕ → List ℕ) (starts : List ℕ) (some : 0 < length starts) (all : All (λ v. v < n) starts)
    (near : (i : ℕ) → i < n → All (λ v. v < n) (neighbours i)) where
  stepped_below : (w : Walker) → w.at < n → (stepped neighbours w).at < n
  unfolding stepped
  stepped_below w h = among_below n (neighbours w.at) w h (near w.at h)

  pub walker_below : (seed number steps : ℕ) → (walker_after neighbours starts seed number steps).at < n
  unfolding walker_after
  walker_below seed number zero = drawn_below n starts (generator_of seed number) some all
  walker_below seed number (suc steps) = stepped_below (walker_after neighbours starts seed number steps) (walker_below seed number steps)

-- ---- the visits so far
-- how often a walker stood at a node, after each of so many numbers of steps from 0 on
abbrev pub visited : (ℕ → List ℕ) → List ℕ → ℕ → ℕ → ℕ → ℕ → ℕ
visited neighbours starts seed number node steps =
    count_by (λ k. eqb (walker_after neighbours starts seed number k).at node) (range_with_len 0 steps)

-- after so many steps
pub record Walking (lists : Lists) (starts : List ℕ) (seed number steps at : ℕ) (generator : Lcg) (before now : List ℕ) : Type 0 where
  pub walker : ◌≡◌ {A = Walker} (record { at = at; generator = generator }) (walker_after (listed lists) starts seed number steps)
  pub sized : length now ≡ lists.count
  pub counted : (node : ℕ) → node < lists.count → get_or now node 0 ≡ get_or before node 0 + visited (listed lists) starts seed number node (steps + 1)

module _ (lists : Lists) (starts : List ℕ) (seed number : ℕ) where
  -- one more visit
  visit : (before now : List ℕ) (steps at node : ℕ) → at < length now → (walker_after (listed lists) starts seed number steps).at ≡ at
      → get_or now node 0 ≡ get_or before node 0 + visited (listed lists) starts seed number node steps
      → get_or (set now at (get_or now at 0 + 1)) node 0 ≡ get_or before node 0 + visited (listed lists) starts seed number node (steps + 1)
  visit before now steps at node lt is e =
      let more = sum_first (λ k. cond (eqb (walker_after (listed lists) starts seed number k).at node) 1 0) steps in
      elim (cases_eq node at) [
        | inl same ↦
            let one : ◌≡◌ {A = ℕ} (cond (eqb (walker_after (listed lists) starts seed number steps).at node) 1 0) 1 = rw (is, eq-eqb at node (sym same)) refl in
            ap (λ (x : ℕ). get_or (set now at (get_or now at 0 + 1)) x 0) same
            ∙ get_or-set_same now at (get_or now at 0 + 1) 0 lt
            ∙ ap (λ (x : ℕ). get_or now x 0 + 1) (sym same)
            ∙ omega (arith, e, more, one)
        | inr other ↦
            let none : ◌≡◌ {A = ℕ} (cond (eqb (walker_after (listed lists) starts seed number steps).at node) 1 0) 0 = rw (is, ne_eqb at node (λ z. other (sym z))) refl in
            get_or-set_other now at node (get_or now at 0 + 1) 0 other ∙ omega (arith, e, more, none)
      ]

  -- the walker at its start
  begun : (at : ℕ) (g next : Lcg) → g ≡ generator_of seed number
      → ◌≡◌ {A = Walker} (record { at = at; generator = next }) (drawn_from starts g)
      → ◌≡◌ {A = Walker} (record { at = at; generator = next }) (walker_after (listed lists) starts seed number 0)
  unfolding walker_after
  begun at g next same e = e ∙ ap (drawn_from starts) same

  pub walking_begins : (before : List ℕ) (at : ℕ) (g next : Lcg) → g ≡ generator_of seed number
      → ◌≡◌ {A = Walker} (record { at = at; generator = next }) (drawn_from starts g)
      → length before ≡ lists.count → at < length before
      → Walking lists starts seed number 0 at next before (set before at (get_or before at 0 + 1))
  walking_begins before at g next same e sized lt =
      let w = begun at g next same e in
      record {
        walker = w;
        sized = length-set before at (get_or before at 0 + 1) ∙ sized;
        counted = λ node in_. visit before before 0 at node lt (sym (ap (λ (x : Walker). x.at) w)) (omega arith);
      }

  -- the walker after one more step
  gone : (steps at after : ℕ) (g next : Lcg)
      → ◌≡◌ {A = Walker} (record { at = at; generator = g }) (walker_after (listed lists) starts seed number steps)
      → ◌≡◌ {A = Walker} (record { at = after; generator = next }) (stepped (listed lists) (record { at = at; generator = g }))
      → ◌≡◌ {A = Walker} (record { at = after; generator = next }) (walker_after (listed lists) starts seed number (suc steps))
  unfolding walker_after
  gone steps at after g next w e = e ∙ ap (stepped (listed lists)) w

  pub walking_goes : (before now : List ℕ) (steps at after : ℕ) (g next : Lcg)
      → Walking lists starts seed number steps at g before now
      → ◌≡◌ {A = Walker} (record { at = after; generator = next }) (stepped (listed lists) (record { at = at; generator = g }))
      → after < length now
      → Walking lists starts seed number (steps + 1) after next before (set now after (get_or now after 0 + 1))
  walking_goes before now steps at after g next i e lt =
      let one : suc steps ≡ steps + 1 = omega arith in
      let w = rw one at (gone steps at after g next i.walker e) in
      record {
        walker = w;
        sized = length-set now after (get_or now after 0 + 1) ∙ i.sized;
        counted = λ node in_. visit before now (steps + 1) after node lt (sym (ap (λ (x : Walker). x.at) w)) (i.counted node in_);
      }

  -- a count has room for one more visit
  pub has_room : (before now : List ℕ) (steps at node : ℕ) (g : Lcg) → Walking lists starts seed number steps at g before now
      → node < lists.count → get_or before node 0 ≤ 2 ^ 32 → steps ≤ 10000 → get_or now node 0 + 1 < 2 ^ 64
  has_room before now steps at node g i in_ room few =
      omega (arith, i.counted node in_, count_at_most (λ k. eqb (walker_after (listed lists) starts seed number k).at node) 0 (steps + 1))

-- where a walker stands, by what its start and its steps give
pub start_below : (n at : ℕ) (starts : List ℕ) (g next : Lcg) → 0 < length starts → All (λ v. v < n) starts
    → ◌≡◌ {A = Walker} (record { at = at; generator = next }) (drawn_from starts g) → at < n
start_below n at starts g next some all e =
    subst (λ (x : ℕ). x < n) (sym (ap (λ (w : Walker). w.at) e)) (drawn_below n starts g some all)

pub step_below : (n at after : ℕ) (neighbours : ℕ → List ℕ) (g next : Lcg) → at < n → All (λ v. v < n) (neighbours at)
    → ◌≡◌ {A = Walker} (record { at = after; generator = next }) (stepped neighbours (record { at = at; generator = g })) → after < n
unfolding stepped
step_below n at after neighbours g next h all e =
    subst (λ (x : ℕ). x < n) (sym (ap (λ (w : Walker). w.at) e)) (among_below n (neighbours at) (record { at = at; generator = g }) h all)
