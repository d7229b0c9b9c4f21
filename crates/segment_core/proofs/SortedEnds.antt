-- Ends in order by their parts: those of one point stand beside each other, and each step keeps one end.
use Rattle.std.proofs.Common.{◌≡◌, ◌≢◌, ◌<◌, ◌≤◌, ◌+◌, ◌*◌, ◌==◌, ℕ, ℤ, ◌≤ℤ◌, Bool, true, false, cond, ◌&&◌, List, [], ◌∷◌, length, refl, sym, ap, ◌∙◌, arith}
use Rattle.std.specs.Prelude.{All, int_lt}
use Rattle.std.specs.Cmp.{IsTotalOrder, int_cmp_total, nat_cmp_total, on_total, then_total}
use Rattle.std.specs.declared.cmp.Ordering.{Ordering}
use Rattle.std.specs.declared.cmp.Ordering.TheVariants.{Less, Equal, Greater}
use Rattle.std.specs.Ordering.{int_cmp, int_eq, is_lt, nat_cmp, on, ordering_then, then_cmp}
use Rattle.std.specs.List.{enumerate_from, flat_map, IsDistinct}
use Rattle.std.specs.List.Sorted.{IsPermutation, IsSorted}
use Rattle.std.proofs.lemmas.Bool.{eqb-false, eqb-true, eq-eqb}
use Rattle.std.proofs.lemmas.Int.{ints}
use Rattle.std.proofs.lemmas.List.Elements.{All-nil, All-cons, All-weaker, recursion_from_All}
use Rattle.std.proofs.lemmas.List.Sorted.{All-permutation, length_permutation, ranks_by, sorted_far}
use Rattle.std.proofs.lemmas.Map.Keys.{IsDistinct-IsPermutation, apart_from_distinct}
use Rattle.int_laws.proofs.Tests.{equal_tested, not_less}
use Rattle.route_spec.specs.Routes.{Piece}
use Rattle.segment_core.specs.declared.ends.End.{End}
use Rattle.segment_core.specs.Ends.{is_one_point, both_ends, end_at, end_of, ends_of, no_end, AreSortedEnds}
use Rattle.segment_core.proofs.Numbering.{both, parts_of}
use Rattle.segment_core.proofs.Tails.{ends_length}

-- ---- the order of ends

-- by the parts of the point, and then by the step
abbrev pub end_cmp : End → End → Ordering
end_cmp =
    then_cmp (on (λ e. e.x_num) int_cmp)
    (then_cmp (on (λ e. e.x_den) int_cmp)
    (then_cmp (on (λ e. e.y_num) int_cmp) (then_cmp (on (λ e. e.y_den) int_cmp) (on (λ e. e.step) nat_cmp))))

ends_total : IsTotalOrder end_cmp
ends_total =
    then_total (on_total (λ (e : End). e.x_num) int_cmp_total)
    (then_total (on_total (λ (e : End). e.x_den) int_cmp_total)
    (then_total (on_total (λ (e : End). e.y_num) int_cmp_total)
    (then_total (on_total (λ (e : End). e.y_den) int_cmp_total) (on_total (λ (e : End). e.step) nat_cmp_total))))

-- what isn't less by a first number and then by another isn't less by the first
not_less_first : (a b : ℤ) (o : Ordering) → is_lt (ordering_then (int_cmp a b) o) ≡ false → b ≤ℤ a
not_less_first a b o h = by (int_lt a b) refl
  where
    by : (t : Bool) → int_lt a b ≡ t → b ≤ℤ a
    by true e =
        let never = sym (ap (λ t. is_lt (ordering_then (cond t Less (cond (int_lt b a) Greater Equal)) o)) e) ∙ h in cc
    by false e = omega (arith, ints, e)

equal_first : (a b : ℤ) (o : Ordering) → a ≡ b → ordering_then (int_cmp a b) o ≡ o
equal_first a b o same =
    let less : int_lt a b ≡ false = not_less a b (omega (arith, ints, same)) in
    let more : int_lt b a ≡ false = not_less b a (omega (arith, ints, same)) in
    ap (λ t. ordering_then (cond t Less (cond (int_lt b a) Greater Equal)) o) less
    ∙ ap (λ t. ordering_then (cond t Greater Equal) o) more

-- a number between two equal ones is equal to them, and then what comes after it decides
record Between (a b : ℤ) (o p : Ordering) : Type 0 where
  same : a ≡ b
  before : is_lt o ≡ false
  after : is_lt p ≡ false

between : (a b c : ℤ) (o p : Ordering) → b ≡ c → is_lt (ordering_then (int_cmp a b) o) ≡ false
    → is_lt (ordering_then (int_cmp c a) p) ≡ false → Between a b o p
between a b c o p e g h =
    let low = not_less_first a b o g in
    let high = not_less_first c a p h in
    let same : a ≡ b = omega (arith, ints, low, high, e) in
    record {
      same = same;
      before = sym (ap is_lt (equal_first a b o same)) ∙ g;
      after = sym (ap is_lt (equal_first c a p (sym e ∙ sym same))) ∙ h;
    }

-- an end between two of one point is at that point
one_between : (d e f : End) → is_one_point d f ≡ true → is_lt (end_cmp e d) ≡ false → is_lt (end_cmp f e) ≡ false
    → is_one_point e f ≡ true
one_between d e f h low high =
    let parts = parts_of d f h in
    let x_num = between e.x_num d.x_num f.x_num _ _ parts.x_num low high in
    let x_den = between e.x_den d.x_den f.x_den _ _ parts.x_den x_num.before x_num.after in
    let y_num = between e.y_num d.y_num f.y_num _ _ parts.y_num x_den.before x_den.after in
    let y_den = between e.y_den d.y_den f.y_den _ _ parts.y_den y_num.before y_num.after in
    both (int_eq e.x_num f.x_num && int_eq e.x_den f.x_den) (int_eq e.y_num f.y_num && int_eq e.y_den f.y_den)
    (both (int_eq e.x_num f.x_num) (int_eq e.x_den f.x_den) (equal_tested e.x_num f.x_num (x_num.same ∙ parts.x_num))
    (equal_tested e.x_den f.x_den (x_den.same ∙ parts.x_den)))
    (both (int_eq e.y_num f.y_num) (int_eq e.y_den f.y_den) (equal_tested e.y_num f.y_num (y_num.same ∙ parts.y_num))
    (equal_tested e.y_den f.y_den (y_den.same ∙ parts.y_den)))

-- ---- the steps of ends

abbrev made : List (ℕ × Piece) → List End
made es = flat_map both_ends es

steps_below : (m a : ℕ) (ps : List Piece) → a + length ps ≤ m → All (λ e. e.step < 2 * m) (made (enumerate_from a ps))
steps_below m a [] few = All-nil (λ e. e.step < 2 * m)
steps_below m a (p ∷ ps) few =
    let rest = made (enumerate_from (a + 1) ps) in
    let even : 2 * a < 2 * m = omega (arith, few) in
    let odd : 2 * a + 1 < 2 * m = omega (arith, few) in
    All-cons (λ e. e.step < 2 * m) (end_of p.to (2 * a)) (end_of p.from (2 * a + 1) ∷ rest) even
    (All-cons (λ e. e.step < 2 * m) (end_of p.from (2 * a + 1)) rest odd (steps_below m (a + 1) ps (omega
    (arith, few))))

steps_from : (a : ℕ) (ps : List Piece) → All (λ e. 2 * a ≤ e.step) (made (enumerate_from a ps))
steps_from a [] = All-nil (λ e. 2 * a ≤ e.step)
steps_from a (p ∷ ps) =
    let rest = made (enumerate_from (a + 1) ps) in
    let odd : 2 * a ≤ 2 * a + 1 = omega arith in
    All-cons (λ e. 2 * a ≤ e.step) (end_of p.to (2 * a)) (end_of p.from (2 * a + 1) ∷ rest) (omega arith)
    (All-cons (λ e. 2 * a ≤ e.step) (end_of p.from (2 * a + 1)) rest odd
    (All-weaker (λ e. 2 * (a + 1) ≤ e.step) (λ e. 2 * a ≤ e.step) (λ e h. omega (arith, h)) rest (steps_from
    (a + 1) ps)))

abbrev same_step : End → End → Bool
same_step d e = d.step == e.step

other_number : (a b : ℕ) → a ≢ b → (a == b) ≡ false
other_number a b apart = by (a == b) (eqb-true a b)
  where
    by : (t : Bool) → (t ≡ true → a ≡ b) → t ≡ false
    by true same = absurd (apart (same refl))
    by false same = refl

steps_differ : (a : ℕ) (ps : List Piece) → IsDistinct same_step (made (enumerate_from a ps))
unfolding IsDistinct
steps_differ a [] = tt
steps_differ a (p ∷ ps) =
    let rest = made (enumerate_from (a + 1) ps) in
    let later = steps_from (a + 1) ps in (
      (
        other_number (2 * a) (2 * a + 1) (λ e. omega (arith, e)),
        recursion_from_All (λ e. (2 * a == e.step) ≡ false) rest
            (All-weaker (λ e. 2 * (a + 1) ≤ e.step) (λ e. (2 * a == e.step) ≡ false)
            (λ e h. other_number (2 * a) e.step (λ g. omega (arith, h, g))) rest later),
      ),
      (
        recursion_from_All (λ e. (2 * a + 1 == e.step) ≡ false) rest
            (All-weaker (λ e. 2 * (a + 1) ≤ e.step) (λ e. (2 * a + 1 == e.step) ≡ false)
            (λ e h. other_number (2 * a + 1) e.step (λ g. omega (arith, h, g))) rest later),
        steps_differ (a + 1) ps,
      ),
    )

turned : (a b : ℕ) → (a == b) ≡ (b == a)
turned a b = by (a == b) (eqb-true a b) (eqb-false a b)
  where
    by : (t : Bool) → (t ≡ true → a ≡ b) → (t ≡ false → a ≢ b) → t ≡ (b == a)
    by true same apart = sym (eq-eqb b a (sym (same refl)))
    by false same apart = sym (other_number b a (λ e. apart refl (sym e)))

-- ---- all of it

pub sorted_ends : (pieces : List Piece) (ends : List End) (count : ℕ) → length pieces ≤ 65536
    → IsPermutation (ends_of pieces) ends
    → IsSorted end_cmp ends → count ≡ 2 * length pieces → AreSortedEnds ends count
sorted_ends pieces ends count few moved sorted is =
    let all = length_permutation (ends_of pieces) ends moved in
    let inside = All-permutation (λ e. e.step < 2 * length pieces) (ends_of pieces) ends moved (steps_below
    (length pieces) 0 pieces (omega arith)) in
    let differ = IsDistinct-IsPermutation same_step (λ d e. turned d.step e.step) (ends_of pieces) ends moved
    (steps_differ 0 pieces) in
    let far = sorted_far (λ d e. is_lt (end_cmp d e)) (ranks_by ends_total (λ e. e)) ends sorted in
    record {
      at_most = omega (arith, all, ends_length pieces, few);
      inside = λ j below. let h = inside j no_end below in omega (arith, h, is);
      apart = λ i j less below. eqb-false (end_at ends i).step (end_at ends j).step
          (apart_from_distinct same_step ends i j no_end differ less below);
      between = λ i j order below h.
          one_between (end_at ends i) (end_at ends j) (end_at ends (j + 1)) h
          (far i j no_end order (omega (arith, below))) (far j (j + 1) no_end (omega arith) below);
    }
