-- The visits of some walkers.
use Rattle.std.proofs.Common.{◌≡◌, ℕ, ◌+◌, ◌-◌, ◌*◌, ◌^◌, ◌<◌, ◌≤◌, List, eqb, length, get_or, replicate, set, refl, sym, ap, ◌∙◌, inl, inr, arith}
use Rattle.std.proofs.lemmas.List.{length-replicate, get_or-replicate, length-set, get_or-set_same, get_or-set_other}
use Rattle.std.proofs.lemmas.Bool.{cases_eq}
use Rattle.std.proofs.lemmas.List.FromFn.{fill_by_all, length-map-range_with_len, get_or-map-range_with_len}
use Rattle.walk_spec.specs.declared.WalkSpec.{WalkSpec}
use Rattle.walk_spec.specs.Walks.{walker_after, visits_by, visits_from}
use Rattle.walk_core.specs.Lists.{Lists, listed, part_visits}
use Rattle.vga_grid.proofs.Counting.{sum_split, sum_most}
use Rattle.walk_core.proofs.Sums.{sum_more, count_at_most}

module _ (neighbours : ℕ → List ℕ) (starts : List ℕ) (spec : WalkSpec) where
  by_at_most : (node number : ℕ) → visits_by neighbours starts spec node number ≤ spec.steps + 1
  unfolding visits_by
  by_at_most node number = count_at_most (λ k. eqb (walker_after neighbours starts spec.seed number k).at node) 0 (spec.steps + 1)

  pub few_visits : (first walkers node : ℕ) → spec.steps ≤ 10000 → visits_from neighbours starts spec first walkers node ≤ walkers * 10001
  unfolding visits_from
  few_visits first walkers node few = sum_most (visits_by neighbours starts spec node) 10001 first walkers (λ x. omega (arith, by_at_most node x, few))

  pub no_visits : (first node : ℕ) → visits_from neighbours starts spec first 0 node ≡ 0
  unfolding visits_from
  no_visits first node = refl

  pub more_visits : (first walkers node : ℕ)
      → visits_from neighbours starts spec first (walkers + 1) node
      ≡ visits_from neighbours starts spec first walkers node + visits_by neighbours starts spec node (first + walkers)
  unfolding visits_from
  more_visits first walkers node = sum_more (visits_by neighbours starts spec node) first walkers

  pub both_visits : (first here there node : ℕ)
      → visits_from neighbours starts spec first (here + there) node
      ≡ visits_from neighbours starts spec first here node + visits_from neighbours starts spec (first + here) there node
  unfolding visits_from
  both_visits first here there node = sum_split (visits_by neighbours starts spec node) first here there

-- the walkers from a first one up to another have walked
pub record Counting (lists : Lists) (starts : List ℕ) (spec : WalkSpec) (first walker : ℕ) (visits : List ℕ) : Type 0 where
  pub sized : length visits ≡ lists.count
  pub low : first ≤ walker
  pub counted : (node : ℕ) → node < lists.count → get_or visits node 0 ≡ visits_from (listed lists) starts spec first (walker - first) node

module _ (lists : Lists) (starts : List ℕ) (spec : WalkSpec) (first : ℕ) where
  pub counting_begins : (n : ℕ) → n ≡ lists.count → Counting lists starts spec first first (replicate n 0)
  counting_begins n e = record {
    sized = length-replicate n 0 ∙ e;
    low = omega arith;
    counted = λ node in_.
        let z : first - first ≡ 0 = omega arith in
        get_or-replicate n node 0 0 (omega (arith, e, in_)) ∙ rw z (sym (no_visits (listed lists) starts spec first node));
  }

  pub counting_room : (walker : ℕ) (visits : List ℕ) → Counting lists starts spec first walker visits → walker ≤ 1000 → spec.steps ≤ 10000
      → (node : ℕ) → node < lists.count → get_or visits node 0 ≤ 2 ^ 32
  counting_room walker visits i few steps node in_ =
      omega (arith, i.counted node in_, few_visits (listed lists) starts spec first (walker - first) node steps)

  pub counting_goes : (walker : ℕ) (visits after : List ℕ) → Counting lists starts spec first walker visits → length after ≡ length visits
      → ((node : ℕ) → node < lists.count → get_or after node 0 ≡ get_or visits node 0 + visits_by (listed lists) starts spec node walker)
      → Counting lists starts spec first (walker + 1) after
  counting_goes walker visits after i len added = record {
    sized = len ∙ i.sized;
    low = omega (arith, i.low);
    counted = λ node in_.
        let n : walker + 1 - first ≡ walker - first + 1 = omega (arith, i.low) in
        let w : first + (walker - first) ≡ walker = omega (arith, i.low) in
        let more = more_visits (listed lists) starts spec first (walker - first) node in
        added node in_ ∙ ap (λ (x : ℕ). x + visits_by (listed lists) starts spec node walker) (i.counted node in_)
        ∙ rw n (sym (rw w at more));
  }

  pub all_counted : (walkers : ℕ) (visits : List ℕ) → length visits ≡ lists.count
      → ((node : ℕ) → node < lists.count → get_or visits node 0 ≡ visits_from (listed lists) starts spec first walkers node)
      → visits ≡ part_visits lists starts spec first walkers
  all_counted walkers visits sized e = fill_by_all (visits_from (listed lists) starts spec first walkers) visits lists.count 0 sized e

-- ---- sums of two lists of visits
-- the first k visits have the others added, and the rest are as before
pub record Adding (k : ℕ) (others before now : List ℕ) : Type 0 where
  pub sized : length now ≡ length before
  pub added : (i : ℕ) → i < k → i < length before → get_or now i 0 ≡ get_or before i 0 + get_or others i 0
  pub kept : (i : ℕ) → k ≤ i → get_or now i 0 ≡ get_or before i 0

pub adding_begins : (others before : List ℕ) → Adding 0 others before before
adding_begins others before = record { sized = refl; added = λ i lt in_. absurd (omega arith); kept = λ i ge. refl }

pub adding_goes : (k : ℕ) (others before now : List ℕ) → k < length before → Adding k others before now
    → Adding (k + 1) others before (set now k (get_or now k 0 + get_or others k 0))
adding_goes k others before now lt a = record {
  sized = length-set now k (get_or now k 0 + get_or others k 0) ∙ a.sized;
  added = λ i le in_. elim (cases_eq i k) [
    | inl e ↦ rw e (get_or-set_same now k (get_or now k 0 + get_or others k 0) 0 (omega (arith, a.sized, lt)) ∙ ap (λ (x : ℕ). x + get_or others k 0) (a.kept k (omega arith)))
    | inr ne ↦ get_or-set_other now k i (get_or now k 0 + get_or others k 0) 0 ne ∙ a.added i (omega arith) in_
  ];
  kept = λ i ge. get_or-set_other now k i (get_or now k 0 + get_or others k 0) 0 (λ e. omega arith) ∙ a.kept i (omega arith);
}

-- ---- two parts
module _ (lists : Lists) (starts : List ℕ) (spec : WalkSpec) (first here there : ℕ) where
  pub part_at : (node walkers from : ℕ) (visits : List ℕ) → node < lists.count → visits ≡ part_visits lists starts spec from walkers
      → get_or visits node 0 ≡ visits_from (listed lists) starts spec from walkers node
  part_at node walkers from visits in_ e =
      ap (λ xs. get_or xs node 0) e ∙ get_or-map-range_with_len (visits_from (listed lists) starts spec from walkers) 0 lists.count node node 0 in_ (omega arith)

  pub part_length : (walkers from : ℕ) (visits : List ℕ) → visits ≡ part_visits lists starts spec from walkers → length visits ≡ lists.count
  part_length walkers from visits e =
      ap length e ∙ length-map-range_with_len (visits_from (listed lists) starts spec from walkers) 0 lists.count

  pub room_for_both : (left right : List ℕ) → left ≡ part_visits lists starts spec first here → right ≡ part_visits lists starts spec (first + here) there
      → here + there ≤ 1000 → spec.steps ≤ 10000
      → (node : ℕ) → node < length left → get_or left node 0 + get_or right node 0 < 2 ^ 64
  room_for_both left right l r few steps node lt =
      let in_ : node < lists.count = omega (arith, part_length here first left l, lt) in
      omega (
        arith,
        part_at node here first left in_ l,
        part_at node there (first + here) right in_ r,
        few_visits (listed lists) starts spec first here node steps,
        few_visits (listed lists) starts spec (first + here) there node steps,
      )

  pub both_parts : (walkers : ℕ) (left right sums : List ℕ) → here + there ≡ walkers
      → left ≡ part_visits lists starts spec first here → right ≡ part_visits lists starts spec (first + here) there
      → length sums ≡ length left
      → ((node : ℕ) → node < length left → get_or sums node 0 ≡ get_or left node 0 + get_or right node 0)
      → sums ≡ part_visits lists starts spec first walkers
  both_parts walkers left right sums w l r len e =
      let sized = part_length here first left l in
      all_counted lists starts spec first walkers sums (len ∙ sized) (λ node in_.
      let lt : node < length left = omega (arith, sized, in_) in
      let both = both_visits (listed lists) starts spec first here there node in
      omega (arith, e node lt, part_at node here first left in_ l, part_at node there (first + here) right in_ r, (rw w at both)))
