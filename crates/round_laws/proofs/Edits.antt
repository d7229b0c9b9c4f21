-- The list of the round: one taken out, one put in.
use Rattle.std.proofs.Common.{◌≡◌, ◌≢◌, ℕ, ◌+◌, ◌-◌, ◌<◌, ◌≤◌, ◌==◌, ℤ, ◌∙◌, arith, sym, subst, List, length, get_or}
use Rattle.std.proofs.Common.{pos, ap}
use Rattle.std.proofs.lemmas.Int.{ints}
use Rattle.std.proofs.lemmas.List.Edits.{get_or-insert_at, get_or-insert_below, get_or-insert_above, length-insert}
use Rattle.std.proofs.lemmas.List.Edits.{get_or-remove_below, get_or-remove_above, length-remove}
use Rattle.std.specs.List.{list_any}
use Rattle.std.specs.Prelude.{if◌then◌else◌, ◌&&◌, ◌||◌, All, insert, remove, Bool, true, false, not, int_lt, Some}
use Rattle.plane_spec.specs.Segments.{are_opposite}
use Rattle.plane_spec.specs.declared.Point.{Point}
use Rattle.plane_spec.specs.declared.Segment.{Segment}
use Rattle.front_laws.proofs.Lists.{HasPassing, any_is, any_at, some_of, AllPairs-remove, AllPairs-insert}
use Rattle.front_laws.proofs.Tests.{by_lt, number_between, by_cases, either_first, either_second, clash_back}
use Rattle.front_laws.proofs.Tests.{never_equal, some_same, tested_same_number}
use Rattle.front_laws.specs.Seen.{Seen, side_of, is_in_front, seen_at}
use Rattle.round_laws.specs.Rounds.{Numbered, Holds, is_number}

-- ---- lists

pub All-insert : {X : Type 0} (P : X → Type 0) (xs : List X) (i : ℕ) (y : X) → All P xs → i ≤ length xs → P y
    → All P (insert xs i y)
All-insert {X} P xs i y all inside own k d lt = by_lt k i
    (λ low. subst P (sym (get_or-insert_below xs i y d k low inside)) (all k d (omega (arith, low, inside))))
    (λ high. by_lt i k
    (λ above. let n = k - 1 in let e : n + 1 ≡ k = omega (arith, above) in
    subst (λ t. P (get_or (insert xs i y) t d)) e
    (subst P (sym (get_or-insert_above xs i y d n (at_least i n k e above) inside))
    (all n d (within_is n k (length xs) (length (insert xs i y)) (length-insert xs i y inside) lt e))))
    (λ same. subst (λ t. P (get_or (insert xs i y) t d)) (number_between i k high same)
    (subst P (sym (get_or-insert_at xs i y d inside)) own)))
  where
    at_least : (i n k : ℕ) → n + 1 ≡ k → i < k → i ≤ n
    at_least i n k e h = omega (arith, e, h)

    within_is : (n k l m : ℕ) → m ≡ l + 1 → k < m → n + 1 ≡ k → n < l
    within_is n k l m e h f = omega (arith, e, h, f)

pub All-remove : {X : Type 0} (P : X → Type 0) (xs : List X) (i : ℕ) → All P xs → i < length xs → All P (remove xs i)
All-remove {X} P xs i all inside k d lt = by_lt k i
    (λ low. subst P (sym (get_or-remove_below xs i d k low inside)) (all k d (omega (arith, low, inside))))
    (λ high. subst P (sym (get_or-remove_above xs i d k high inside))
    (all (k + 1) d (within_is k (length xs) (length (remove xs i)) (length-remove_is xs i inside) lt)))
  where
    length-remove_is : (xs : List X) (i : ℕ) → i < length xs → length (remove xs i) + 1 ≡ length xs
    length-remove_is xs i h = omega (arith, length-remove xs i h)

    within_is : (k l m : ℕ) → m + 1 ≡ l → k < m → k + 1 < l
    within_is k l m e h = omega (arith, e, h)

any_insert : {X : Type 0} (test : X → Bool) (xs : List X) (i : ℕ) (y d : X) → i ≤ length xs
    → list_any test (insert xs i y) ≡ (list_any test xs || test y)
any_insert {X} test xs i y d inside = any_is test (insert xs i y) d (list_any test xs || test y) forth back
  where
    at_least : (i n k : ℕ) → n + 1 ≡ k → i < k → i ≤ n
    at_least i n k e h = omega (arith, e, h)

    within_is : (n k l m : ℕ) → m ≡ l + 1 → k < m → n + 1 ≡ k → n < l
    within_is n k l m e h f = omega (arith, e, h, f)

    longer : (k l m : ℕ) → m ≡ l + 1 → k < l → k < m
    longer k l m e h = omega (arith, e, h)

    longer_one : (k l m : ℕ) → m ≡ l + 1 → k < l → k + 1 < m
    longer_one k l m e h = omega (arith, e, h)

    own : (i l m : ℕ) → m ≡ l + 1 → i ≤ l → i < m
    own i l m e h = omega (arith, e, h)

    forth : HasPassing test (insert xs i y) d → (list_any test xs || test y) ≡ true
    forth s = by_lt s.place i
        (λ low. either_first (list_any test xs) (test y)
        (any_at test xs d (record {
          place = s.place;
          within = omega (arith, low, inside);
          holds = subst
              (λ t. test t ≡ true) (get_or-insert_below xs i y d s.place low inside) s.holds;
        })))
        (λ high. by_lt i s.place
        (λ above. let n = s.place - 1 in let e : n + 1 ≡ s.place = omega (arith, above) in
        either_first (list_any test xs) (test y) (any_at test xs d (record {
          place = n;
          within = within_is n s.place (length xs) (length (insert xs i y)) (length-insert xs i y inside) s.within e;
          holds = subst (λ t. test t ≡ true) (get_or-insert_above xs i y d n (at_least i n s.place e above) inside)
              (subst (λ k. test (get_or (insert xs i y) k d) ≡ true) (sym e) s.holds);
        })))
        (λ same. either_second (list_any test xs) (test y)
        (subst (λ t. test t ≡ true) (get_or-insert_at xs i y d inside)
        (subst (λ k. test (get_or (insert xs i y) k d) ≡ true) (sym (number_between i s.place high same))
        s.holds))))

    from_rest : HasPassing test xs d → HasPassing test (insert xs i y) d
    from_rest s = by_lt s.place i
        (λ low. record {
          place = s.place;
          within = longer s.place (length xs) (length (insert xs i y))
              (length-insert xs i y inside) s.within;
          holds = subst (λ t. test t ≡ true)
              (sym (get_or-insert_below xs i y d s.place low inside)) s.holds;
        })
        (λ high. record {
          place = s.place + 1;
          within = longer_one s.place (length xs) (length (insert xs i y))
              (length-insert xs i y inside) s.within;
          holds = subst (λ t. test t ≡ true)
              (sym (get_or-insert_above xs i y d s.place high inside)) s.holds;
        })

    second : (a b : Bool) → (a || b) ≡ true → a ≡ false → b ≡ true
    second a b h k = grind arith

    back : (list_any test xs || test y) ≡ true → HasPassing test (insert xs i y) d
    back h = by_cases (list_any test xs)
        (λ k. from_rest (some_of test xs d k))
        (λ k. record {
          place = i;
          within = own i (length xs) (length (insert xs i y)) (length-insert xs i y inside)
              inside;
          holds = subst (λ t. test t ≡ true) (sym (get_or-insert_at xs i y d inside))
              (second (list_any test xs) (test y) h k);
        })

-- where no other passes the test beside the one that is taken out
any_remove : {X : Type 0} (test : X → Bool) (xs : List X) (i : ℕ) (d : X) → i < length xs
    → ((j : ℕ) → j < length xs → j ≢ i → test (get_or xs j d) ≡ true → test (get_or xs i d) ≡ false)
    → list_any test (remove xs i) ≡ (list_any test xs && not (test (get_or xs i d)))
any_remove {X} test xs i d inside alone = any_is test (remove xs i) d (list_any test xs && not (test (get_or xs i d)))
    forth back
  where
    size : length (remove xs i) + 1 ≡ length xs
    size = omega (arith, length-remove xs i inside)

    both : (a b : Bool) → a ≡ true → b ≡ false → (a && not b) ≡ true
    both a b h k = grind arith

    first : (a b : Bool) → (a && not b) ≡ true → a ≡ true
    first a b h = grind arith

    second : (a b : Bool) → (a && not b) ≡ true → b ≡ false
    second a b h = grind arith

    one_more : (k l m : ℕ) → m + 1 ≡ l → k < m → k + 1 < l
    one_more k l m e h = omega (arith, e, h)

    shorter : (k l m i : ℕ) → m + 1 ≡ l → k < i → i < l → k < m
    shorter k l m i e h j = omega (arith, e, h, j)

    less_one : (n k l m : ℕ) → m + 1 ≡ l → k < l → n + 1 ≡ k → n < m
    less_one n k l m e h f = omega (arith, e, h, f)

    not_same_above : (k i : ℕ) → i ≤ k → k + 1 ≡ i → ⊥
    not_same_above k i h e = omega (arith, h, e)

    at_least : (i n k : ℕ) → n + 1 ≡ k → i < k → i ≤ n
    at_least i n k e h = omega (arith, e, h)

    found : (j : ℕ) → j < length xs → (j ≡ i → ⊥) → test (get_or xs j d) ≡ true
        → (list_any test xs && not (test (get_or xs i d))) ≡ true
    found j lt other h = both (list_any test xs) (test (get_or xs i d))
        (any_at test xs d (record { place = j; within = lt; holds = h })) (alone j lt other h)

    forth : HasPassing test (remove xs i) d → (list_any test xs && not (test (get_or xs i d))) ≡ true
    forth s = by_lt s.place i
        (λ low. found s.place (omega (arith, low, inside)) (λ e. never_equal s.place i low e)
        (subst (λ t. test t ≡ true) (get_or-remove_below xs i d s.place low inside) s.holds))
        (λ high. found (s.place + 1) (one_more s.place (length xs) (length (remove xs i)) size s.within)
        (λ e. not_same_above s.place i high e)
        (subst (λ t. test t ≡ true) (get_or-remove_above xs i d s.place high inside) s.holds))

    back : (list_any test xs && not (test (get_or xs i d))) ≡ true → HasPassing test (remove xs i) d
    back h =
        let s = some_of test xs d (first (list_any test xs) (test (get_or xs i d)) h) in
        let none = second (list_any test xs) (test (get_or xs i d)) h in
        by_lt s.place i
        (λ low. record {
          place = s.place;
          within = shorter s.place (length xs) (length (remove xs i)) i size low
              inside;
          holds = subst (λ t. test t ≡ true) (sym (get_or-remove_below xs i d s.place low inside)) s.holds;
        })
        (λ high. by_lt i s.place
        (λ above. let n = s.place - 1 in let e : n + 1 ≡ s.place = omega (arith, above) in
        record {
          place = n;
          within = less_one n s.place (length xs) (length (remove xs i)) size s.within e;
          holds = subst (λ t. test t ≡ true) (sym (get_or-remove_above xs i d n (at_least i n s.place e above) inside))
              (subst (λ k. test (get_or xs k d) ≡ true) (sym e) s.holds);
        })
        (λ same. absurd (clash_back (test (get_or xs i d)) none
        (subst (λ k. test (get_or xs k d) ≡ true) (sym (number_between i s.place high same)) s.holds))))

-- ---- each once

-- nothing is in front of itself
pub never_itself : (s : Seen) → is_in_front s s ≡ false
unfolding is_in_front
never_itself s = by_sides (side_of s s.from) (side_of s s.to) from_is to_is
  where
    from_is : side_of s s.from ≡ pos 0
    from_is = omega (arith, ints)

    to_is : side_of s s.to ≡ pos 0
    to_is = omega (arith, ints)

    by_sides : (x y : ℤ) → x ≡ pos 0 → y ≡ pos 0
        → (if are_opposite x y then not (int_lt (pos 0) x || int_lt (pos 0) y)
        else (int_lt (pos 0) x || int_lt (pos 0) y)) ≡ false
    by_sides x y e f = grind (arith, ints)

once : (p : Point) (blockers : List Segment) (kept : ℕ → Bool) (test : ℕ → Seen → Bool) (active : List Numbered)
    (b : Numbered) → Holds p blockers kept test active
    → (j i : ℕ) → j < i → i < length active → (get_or active j b).0 ≡ (get_or active i b).0 → ⊥
once p blockers kept test active b h j i lt within e =
    let same = some_same (get_or active j b).1 (get_or active i b).1
    (sym (h.known j b (omega (arith, lt, within))) ∙ ap (seen_at p blockers) e ∙ h.known i b within) in
    clash_back (is_in_front (get_or active i b).1 (get_or active i b).1) (never_itself (get_or active i b).1)
    (subst (λ t. is_in_front t (get_or active i b).1 ≡ true) same (h.order j i b lt within))

-- ---- the steps

-- tests that agree where the list is asked
pub held_so : (p : Point) (blockers : List Segment) (kept : ℕ → Bool) (test other : ℕ → Seen → Bool)
    (active : List Numbered) → Holds p blockers kept test active
    → ((n : ℕ) (s : Seen) → n < length blockers → kept n ≡ true → seen_at p blockers n ≡ Some s → test n s ≡ other n s)
    → Holds p blockers kept other active
held_so p blockers kept test other active h same = record {
  order = h.order;
  known = h.known;
  numbers = h.numbers;
  are_kept = h.are_kept;
  exactly = λ n s within k seen. h.exactly n s within k seen ∙ same n s within k seen;
}

-- one is taken out
pub taken_out : (p : Point) (blockers : List Segment) (kept : ℕ → Bool) (test : ℕ → Seen → Bool)
    (active : List Numbered) (i : ℕ) (b : Numbered) → Holds p blockers kept test active → i < length active
    → Holds p blockers kept (λ n s. test n s && not ((get_or active i b).0 == n)) (remove active i)
taken_out p blockers kept test active i b h inside = record {
  order = AllPairs-remove (λ v w. is_in_front v.1 w.1 ≡ true) active i h.order inside;
  known = All-remove (λ b. seen_at p blockers b.0 ≡ Some b.1) active i h.known inside;
  numbers = All-remove (λ b. b.0 < length blockers) active i h.numbers inside;
  are_kept = All-remove (λ b. kept b.0 ≡ true) active i h.are_kept inside;
  exactly = λ n s within k seen. any_remove (is_number n) active i b inside (λ j lt other e. alone n j lt other e)
      ∙ ap (λ t. t && not ((get_or active i b).0 == n)) (h.exactly n s within k seen);
}
  where
    alone : (n j : ℕ) → j < length active → j ≢ i → ((get_or active j b).0 == n) ≡ true → ((get_or active i b).0 == n)
        ≡ false
    alone n j lt other e = by_cases ((get_or active i b).0 == n)
        (λ f. let same = tested_same_number (get_or active j b).0 n e
        ∙ sym (tested_same_number (get_or active i b).0 n f) in
        by_lt j i
        (λ low. absurd (once p blockers kept test active b h j i low inside same))
        (λ high. absurd (once p blockers kept test active b h i j (above i j high other) lt (sym same))))
        (λ f. f)
      where
        above : (i j : ℕ) → i ≤ j → j ≢ i → i < j
        above i j le other = by_lt i j (λ lt. lt) (λ ge. absurd (other (omega (arith, le, ge))))

-- one is put in, at its place in the order
pub put_in : (p : Point) (blockers : List Segment) (kept : ℕ → Bool) (test : ℕ → Seen → Bool) (active : List Numbered)
    (i n : ℕ) (s : Seen) → Holds p blockers kept test active → i ≤ length active
    → n < length blockers → kept n ≡ true → seen_at p blockers n ≡ Some s
    → ((k : ℕ) (b : Numbered) → k < i → is_in_front (get_or active k b).1 s ≡ true)
    → ((k : ℕ) (b : Numbered) → i ≤ k → k < length active → is_in_front s (get_or active k b).1 ≡ true)
    → Holds p blockers kept (λ m t. test m t || (n == m)) (insert active i (n, s))
put_in p blockers kept test active i n s h inside within k seen before after = record {
  order = AllPairs-insert (λ v w. is_in_front v.1 w.1 ≡ true) active i (n, s) h.order inside before after;
  known = All-insert (λ b. seen_at p blockers b.0 ≡ Some b.1) active i (n, s) h.known inside seen;
  numbers = All-insert (λ b. b.0 < length blockers) active i (n, s) h.numbers inside within;
  are_kept = All-insert (λ b. kept b.0 ≡ true) active i (n, s) h.are_kept inside k;
  exactly = λ m t m_in m_kept m_seen. any_insert (is_number m) active i (n, s) (n, s) inside
      ∙ ap (λ u. u || (n == m)) (h.exactly m t m_in m_kept m_seen);
}
