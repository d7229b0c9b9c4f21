-- Nodes are numbered along the ends in order.
use Rattle.std.proofs.Common.{◌≡◌, ◌≢◌, ◌<◌, ◌≤◌, ◌+◌, ◌-◌, ◌==◌, ℕ, Bool, true, false, ◌&&◌, List, length, set, refl, sym, ap, ◌∙◌, ◌⊎◌, inl, inr, arith, subst}
use Rattle.std.specs.Ordering.{int_eq}
use Rattle.std.proofs.lemmas.Bool.{eqb-true, eqb-false}
use Rattle.std.proofs.lemmas.List.{get_or-set_same, get_or-set_other}
use Rattle.int_laws.proofs.Tests.{tested_equal, equal_tested}
use Rattle.segment_core.specs.declared.ends.End.{End}
use Rattle.segment_core.specs.Ends.{is_one_point, end_at, node_of_end, AreSortedEnds, AreNumbered}

both_of : (a b : Bool) → a && b ≡ true → (a ≡ true) × (b ≡ true)
both_of true true h = (refl, refl)
both_of true false h = cc
both_of false b h = cc

pub both : (a b : Bool) → a ≡ true → b ≡ true → a && b ≡ true
both true b g h = h
both false b g h = cc

pub record SameParts (a b : End) : Type 0 where
  pub x_num : a.x_num ≡ b.x_num
  pub x_den : a.x_den ≡ b.x_den
  pub y_num : a.y_num ≡ b.y_num
  pub y_den : a.y_den ≡ b.y_den

pub parts_of : (a b : End) → is_one_point a b ≡ true → SameParts a b
parts_of a b h =
    let halves = both_of (int_eq a.x_num b.x_num && int_eq a.x_den b.x_den) (int_eq a.y_num b.y_num
    && int_eq a.y_den b.y_den) h in
    let xs = both_of (int_eq a.x_num b.x_num) (int_eq a.x_den b.x_den) halves.0 in
    let ys = both_of (int_eq a.y_num b.y_num) (int_eq a.y_den b.y_den) halves.1 in
    record {
      x_num = tested_equal a.x_num b.x_num xs.0;
      x_den = tested_equal a.x_den b.x_den xs.1;
      y_num =
          tested_equal a.y_num b.y_num ys.0;
      y_den = tested_equal a.y_den b.y_den ys.1;
    }

one_of_parts : (a b : End) → SameParts a b → is_one_point a b ≡ true
one_of_parts a b p =
    both (int_eq a.x_num b.x_num && int_eq a.x_den b.x_den) (int_eq a.y_num b.y_num && int_eq a.y_den b.y_den)
    (both (int_eq a.x_num b.x_num) (int_eq a.x_den b.x_den) (equal_tested a.x_num b.x_num p.x_num)
    (equal_tested a.x_den b.x_den p.x_den))
    (both (int_eq a.y_num b.y_num) (int_eq a.y_den b.y_den) (equal_tested a.y_num b.y_num p.y_num)
    (equal_tested a.y_den b.y_den p.y_den))

-- two ends at the point of a third are at one point
pub one_through : (a b c : End) → is_one_point a c ≡ true → is_one_point b c ≡ true → is_one_point a b ≡ true
one_through a b c g h =
    let p = parts_of a c g in
    let q = parts_of b c h in
    one_of_parts a b (record {
      x_num = p.x_num ∙ sym q.x_num;
      x_den = p.x_den ∙ sym q.x_den;
      y_num = p.y_num
          ∙ sym q.y_num;
      y_den = p.y_den ∙ sym q.y_den;
    })

pub one_along : (a b c : End) → is_one_point a b ≡ true → is_one_point b c ≡ true → is_one_point a c ≡ true
one_along a b c g h =
    let p = parts_of a b g in
    let q = parts_of b c h in
    one_of_parts a c (record {
      x_num = p.x_num ∙ q.x_num;
      x_den = p.x_den ∙ q.x_den;
      y_num = p.y_num
          ∙ q.y_num;
      y_den = p.y_den ∙ q.y_den;
    })

pub one_turned : (a b : End) → is_one_point a b ≡ true → is_one_point b a ≡ true
one_turned a b h =
    let p = parts_of a b h in
    one_of_parts b a (record { x_num = sym p.x_num; x_den = sym p.x_den; y_num = sym p.y_num; y_den = sym p.y_den })

pub one_alone : (a : End) → is_one_point a a ≡ true
one_alone a = one_of_parts a a (record { x_num = refl; x_den = refl; y_num = refl; y_den = refl })

pub true_or_false : (b : Bool) → (b ≡ true) ⊎ (b ≡ false)
true_or_false true = inl refl
true_or_false false = inr refl

pub not_both : (b : Bool) → b ≡ true → b ≡ false → ⊥
not_both true g h = cc
not_both false g h = cc

pub none_numbered : (ends : List End) (tails : List ℕ) → AreNumbered ends tails 0 0
none_numbered ends tails = record {
  low = omega arith;
  assigned = λ j below. absurd (omega (arith, below));
  last = λ j e. absurd (omega (arith, e));
  alike = λ i j less below h. absurd (omega (arith, below));
  unlike = λ i j less below h. absurd (omega (arith, below));
}

module _ (ends : List End) (tails : List ℕ) (node at next : ℕ) (sorted : AreSortedEnds ends (length tails))
    (n : AreNumbered ends tails node at) (at_in : at < length ends) where
  abbrev now : List ℕ
  now = set tails (end_at ends at).step next

  here : node_of_end ends now at ≡ next
  here = get_or-set_same tails (end_at ends at).step next 0 (sorted.inside at at_in)

  before : (j : ℕ) → j < at → node_of_end ends now j ≡ node_of_end ends tails j
  before j less = get_or-set_other tails (end_at ends at).step (end_at ends j).step next 0
      (sorted.apart j at less at_in)

  -- the new end compares rightly with those before
  module _ (step_up : node ≤ next) (at_most : next ≤ node + 1) (first : at ≡ 0 → next ≡ 0)
      (same : (k : ℕ) → k + 1 ≡ at → is_one_point (end_at ends k) (end_at ends at) ≡ true → next ≡ node)
      (other : (k : ℕ) → k + 1 ≡ at → is_one_point (end_at ends k) (end_at ends at) ≡ false → next ≡ node + 1) where
    alike_here : (i k : ℕ) → k + 1 ≡ at → i ≤ k → is_one_point (end_at ends i) (end_at ends at) ≡ true
        → node_of_end ends tails i ≡ next
    alike_here i k is low h =
        let k_in : k + 1 < length ends = omega (arith, is, at_in) in
        let h_at = subst (λ (m : ℕ). is_one_point (end_at ends i) (end_at ends m) ≡ true) (sym is) h in
        let one = subst (λ (m : ℕ). is_one_point (end_at ends k) (end_at ends m)
        ≡ true) is (sorted.between i k low k_in h_at) in
        let pair = one_through (end_at ends i) (end_at ends k) (end_at ends at) h one in
        by_place (i == k) (eqb-true i k) (eqb-false i k) pair ∙ n.last k is ∙ sym (same k is one)
      where
        by_place : (b : Bool) → (b ≡ true → i ≡ k) → (b ≡ false → i ≢ k)
            → is_one_point (end_at ends i) (end_at ends k) ≡ true → node_of_end ends tails i ≡ node_of_end ends tails k
        by_place true e apart pair = ap (λ (m : ℕ). node_of_end ends tails m) (e refl)
        by_place false e apart pair = n.alike i k (omega (arith, low, apart refl)) (omega (arith, is)) pair

    unlike_here : (i k : ℕ) → k + 1 ≡ at → i ≤ k → is_one_point (end_at ends i) (end_at ends at) ≡ false
        → node_of_end ends tails i < next
    unlike_here i k is low h = elim (true_or_false (is_one_point (end_at ends k) (end_at ends at))) [
      | inr away ↦ omega (arith, n.assigned i (omega (arith, is, low)), other k is away)
      | inl one ↦ omega (
        arith,
        less_before one (true_or_false (is_one_point (end_at ends i)
            (end_at ends k))),
        n.last k is,
        same k is one,
      )
    ]
      where
        apart_from : is_one_point (end_at ends k) (end_at ends at) ≡ true → i ≡ k → ⊥
        apart_from one e = not_both (is_one_point (end_at ends i) (end_at ends at)) (subst (λ (m : ℕ). is_one_point
            (end_at ends m) (end_at ends at) ≡ true) (sym e) one) h

        less_before : is_one_point (end_at ends k) (end_at ends at) ≡ true
            → (is_one_point (end_at ends i) (end_at ends k) ≡ true) ⊎ (is_one_point (end_at ends i) (end_at ends k)
            ≡ false)
            → node_of_end ends tails i < node_of_end ends tails k
        less_before one (inl pair) = absurd (not_both (is_one_point (end_at ends i) (end_at ends at)) (one_along
            (end_at ends i) (end_at ends k) (end_at ends at) pair one) h)
        less_before one (inr apart) = let less : i ≢ k = apart_from one in n.unlike i k (omega (arith, low, less))
            (omega (arith, is)) apart

    is_last : (j : ℕ) → j + 1 ≡ at + 1 → j ≡ at
    is_last j e = omega (arith, e)

    by_end : (P : ℕ → Type 0) (j : ℕ) → j < at + 1 → (j < at → P j) → P at → P j
    by_end P j below old new = by_test (j == at) (eqb-true j at) (eqb-false j at)
      where
        by_test : (b : Bool) → (b ≡ true → j ≡ at) → (b ≡ false → j ≢ at) → P j
        by_test true e apart = subst P (sym (e refl)) new
        by_test false e apart = old (omega (arith, below, apart refl))

    pub more_numbered : AreNumbered ends now next (at + 1)
    more_numbered = record {
      low = omega (arith, n.low, at_most);
      assigned = λ j below. by_end (λ m. node_of_end ends now m ≤ next) j below (λ less. omega
          (arith, before j less, n.assigned j less, step_up)) (omega (arith, here));
      last = λ j e. subst (λ (m : ℕ). node_of_end ends now m ≡ next) (sym (is_last j e)) here;
      alike = λ i j less below. by_end (λ m. i < m → is_one_point (end_at ends i) (end_at ends m) ≡ true
          → node_of_end ends now i ≡ node_of_end ends now m) j below
          (λ j_less i_less h. before i (omega (arith, i_less, j_less)) ∙ n.alike i j i_less j_less h
          ∙ sym (before j j_less))
          (λ i_less h. before i i_less ∙ alike_here i (at - 1) (omega (arith, i_less)) (omega (arith, i_less)) h
          ∙ sym here) less;
      unlike = λ i j less below. by_end (λ m. i < m → is_one_point (end_at ends i) (end_at ends m) ≡ false
          → node_of_end ends now i < node_of_end ends now m) j below
          (λ j_less i_less h. omega (
            arith,
            before i (omega
                (arith, i_less, j_less)),
            n.unlike i j i_less j_less h,
            before j j_less,
          ))
          (λ i_less h. omega (
            arith,
            before i i_less,
            unlike_here i (at - 1) (omega (arith, i_less)) (omega
                (arith, i_less)) h,
            here,
          )) less;
    }

module _ (ends : List End) (tails : List ℕ) (node at next : ℕ) (sorted : AreSortedEnds ends (length tails))
    (n : AreNumbered ends tails node at) (at_in : at < length ends) where
  before_at : (b : Bool) (k : ℕ) → k + 1 ≡ at → is_one_point (end_at ends k) (end_at ends at) ≡ b
      → is_one_point (end_at ends (at - 1)) (end_at ends at) ≡ b
  before_at b k e h = let same : k ≡ at - 1 = omega (arith, e) in subst (λ (m : ℕ). is_one_point (end_at ends m)
      (end_at ends at) ≡ b) same h

  pub next_other : 0 < at → is_one_point (end_at ends (at - 1)) (end_at ends at) ≡ false → next ≡ node + 1
      → AreNumbered ends (set tails (end_at ends at).step next) next (at + 1)
  next_other up apart is =
      more_numbered ends tails node at next sorted n at_in (omega (arith, is)) (omega (arith, is)) (λ z. absurd
      (omega (arith, z, up)))
      (λ k e one. absurd (not_both (is_one_point (end_at ends (at - 1)) (end_at ends at))
      (before_at true k e one) apart)) (λ k e h. is)

  pub next_same : 0 < at → is_one_point (end_at ends (at - 1)) (end_at ends at) ≡ true → next ≡ node
      → AreNumbered ends (set tails (end_at ends at).step next) next (at + 1)
  next_same up one is =
      more_numbered ends tails node at next sorted n at_in (omega (arith, is)) (omega (arith, is)) (λ z. absurd
      (omega (arith, z, up)))
      (λ k e h. is) (λ k e apart. absurd (not_both (is_one_point (end_at ends (at - 1)) (end_at ends at)) one
      (before_at false k e apart)))

  pub next_first : at ≤ 0 → next ≡ node → AreNumbered ends (set tails (end_at ends at).step next) next (at + 1)
  next_first none is =
      more_numbered ends tails node at next sorted n at_in (omega (arith, is)) (omega (arith, is)) (λ z. omega
      (arith, is, n.low, none))
      (λ k e h. is) (λ k e apart. absurd (omega (arith, e, none)))
