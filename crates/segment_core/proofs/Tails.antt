-- The numbers given along the ends are those of the steps' tails.
use Rattle.std.proofs.Common.{◌≡◌, ◌≢◌, ◌<◌, ◌≤◌, ◌+◌, ◌*◌, ◌/◌, ◌%◌, ◌==◌, ℕ, Bool, true, false, ◌&&◌, List, [], ◌∷◌, length, get_or, refl, sym, ap, ◌∙◌, ◌⊎◌, inl, inr, arith, subst}
use Rattle.std.specs.Prelude.{nat_lt}
use Rattle.std.specs.Ordering.{int_eq}
use Rattle.std.specs.List.{Contains, enumerate_from, flat_map}
use Rattle.std.proofs.lemmas.List.FromFn.{length-enumerate_from}
use Rattle.std.specs.List.Sorted.{IsPermutation}
use Rattle.std.proofs.lemmas.List.{get_or_default}
use Rattle.std.proofs.lemmas.List.Sorted.{Contains-permutation}
use Rattle.std.proofs.lemmas.Bool.{eqb-true, eqb-false, eq-eqb, ltb-true, ltb-false}
use Rattle.plane_spec.specs.Fractions.{RPoint, same_rpoint, same_value}
use Rattle.route_spec.specs.Routes.{Piece, tail_of}
use Rattle.exact_geom.proofs.Values.{parts_tell_values}
use Rattle.graph_laws.proofs.Members.{contains_first, contains_later}
use Rattle.segment_core.specs.declared.ends.End.{End}
use Rattle.route_laws.specs.Bounds.{IsEnd}
use Rattle.segment_core.specs.Steps.{piece_at, step_at, AreInRange}
use Rattle.segment_core.specs.Nodes.{AreTailsOf}
use Rattle.segment_core.specs.Ends.{is_one_point, end_of, both_ends, ends_of, end_at, no_end, node_of_end, AreNumbered}
use Rattle.segment_core.proofs.Numbers.{numbered, among}
use Rattle.segment_core.proofs.Numbering.{one_turned, one_alone, true_or_false, not_both}

-- the place from which a step leads
abbrev pub tail_at : List Piece → ℕ → RPoint
tail_at pieces s = tail_of (step_at pieces s).0.1 (step_at pieces s).1

end_among : (p : Piece) (k s : ℕ) (b : Bool) → (b ≡ true → s ≡ 2 * k + 1) → (b ≡ false → s ≡ 2 * k)
    → Contains (both_ends (k, p)) (end_of (tail_of p b) s)
end_among p k s true odd even =
    subst (λ (n : ℕ). Contains (both_ends (k, p)) (end_of p.from n)) (sym (odd refl))
    (contains_later (end_of p.to (2 * k)) (end_of p.from (2 * k + 1) ∷ []) (end_of p.from (2 * k + 1))
    (contains_first (end_of p.from (2 * k + 1)) []))
end_among p k s false odd even =
    subst (λ (n : ℕ). Contains (both_ends (k, p)) (end_of p.to n)) (sym (even refl)) (contains_first (end_of p.to
    (2 * k)) (end_of p.from (2 * k + 1) ∷ []))

-- each step has its end
step_has_end : (pieces : List Piece) (s : ℕ) → s < 2 * length pieces
    → Contains (ends_of pieces) (end_of (tail_at pieces s) s)
step_has_end pieces s below =
    let half : s / 2 < length pieces = omega (arith, below) in
    among both_ends (enumerate_from 0 pieces) (s / 2, piece_at pieces (s / 2)) (end_of (tail_at pieces s) s)
    (numbered pieces (s / 2) half)
    (end_among (piece_at pieces (s / 2)) (s / 2) s (s % 2 == 1)
    (λ e. let odd = eqb-true (s % 2) 1 e in omega (arith, odd)) (λ e. let even = eqb-false (s % 2) 1 e in omega
    (arith, even)))

tail_lowest : (pieces : List Piece) (s : ℕ) → AreInRange pieces → s < 2 * length pieces → IsEnd (tail_at pieces s)
tail_lowest pieces s r below = by_way (s % 2 == 1)
  where
    by_way : (b : Bool) → IsEnd (tail_of (piece_at pieces (s / 2)) b)
    by_way true = (r.each (s / 2) (omega (arith, below))).from
    by_way false = (r.each (s / 2) (omega (arith, below))).to

one_where_same : (p q : RPoint) (s t : ℕ) → IsEnd p → IsEnd q → is_one_point (end_of p s) (end_of q t) ≡ same_rpoint p q
one_where_same p q s t g h =
    ap (λ b. b && (int_eq p.y.num q.y.num && int_eq p.y.den q.y.den)) (parts_tell_values p.x q.x g.x h.x)
    ∙ ap (λ b. same_value p.x q.x && b) (parts_tell_values p.y q.y g.y h.y)

module _ (pieces : List Piece) (ends : List End) (tails : List ℕ) (last : ℕ) (r : AreInRange pieces)
    (same : IsPermutation (ends_of pieces) ends) (each : length tails ≡ 2 * length pieces)
    (n : AreNumbered ends tails last (length ends)) where
  -- where a step's end stands
  place_of : (s : ℕ) → s < 2 * length pieces
      → (j : ℕ) × (j < length ends) × (end_at ends j ≡ end_of (tail_at pieces s) s)
  place_of s below =
      let found = Contains-permutation (ends_of pieces) ends (end_of (tail_at pieces s) s) same
      (step_has_end pieces s below) in
      (found.0, found.1, get_or_default ends found.0 no_end (end_of (tail_at pieces s) s) found.1 ∙ found.2)

  pub tails_below : (s : ℕ) → s < 2 * length pieces → get_or tails s 0 < last + 1
  tails_below s below =
      let j = place_of s below in
      let is : node_of_end ends tails j.0 ≡ get_or tails s 0 = ap (λ (e : End). get_or tails e.step 0) j.2 in
      omega (arith, n.assigned j.0 j.1, is)

  equal_is : (a b : ℕ) (x : Bool) → (x ≡ true → a ≡ b) → (x ≡ false → a ≢ b) → (a == b) ≡ x
  equal_is a b true g h = eq-eqb a b (g refl)
  equal_is a b false g h = by_test (a == b) (eqb-true a b)
    where
      by_test : (t : Bool) → (t ≡ true → a ≡ b) → t ≡ false
      by_test true e = absurd (h refl (e refl))
      by_test false e = refl

  abbrev Agrees : ℕ → ℕ → Type 0
  Agrees i j =
      (is_one_point (end_at ends i) (end_at ends j) ≡ true → node_of_end ends tails i ≡ node_of_end ends tails j)
      × (is_one_point (end_at ends i) (end_at ends j) ≡ false → node_of_end ends tails i ≢ node_of_end ends tails j)

  agrees_below : (i j : ℕ) → i < j → j < length ends → Agrees i j
  agrees_below i j less j_in = (n.alike i j less j_in, λ h e. omega (arith, n.unlike i j less j_in h, e))

  turned_false : (i j : ℕ) → is_one_point (end_at ends i) (end_at ends j) ≡ false
      → (is_one_point (end_at ends j) (end_at ends i) ≡ true) ⊎ (is_one_point (end_at ends j) (end_at ends i) ≡ false)
      → is_one_point (end_at ends j) (end_at ends i) ≡ false
  turned_false i j h (inl one) = absurd (not_both (is_one_point (end_at ends i) (end_at ends j)) (one_turned
      (end_at ends j) (end_at ends i) one) h)
  turned_false i j h (inr away) = away

  agrees_above : (i j : ℕ) → j < i → i < length ends → Agrees i j
  agrees_above i j less i_in =
      let below = agrees_below j i less i_in in (
        λ h. sym (below.0 (one_turned (end_at ends i) (end_at ends j) h)),
        λ h e. below.1 (turned_false i j h (true_or_false (is_one_point (end_at ends j) (end_at ends i)))) (sym e),
      )

  agrees_same : (i j : ℕ) → i ≡ j → Agrees i j
  agrees_same i j same = (
    λ h. ap (λ (m : ℕ). node_of_end ends tails m) same,
    λ h e. not_both (is_one_point (end_at ends i) (end_at ends j)) (subst (λ (m : ℕ). is_one_point (end_at ends i)
        (end_at ends m) ≡ true) same (one_alone (end_at ends i))) h,
  )

  agrees : (i j : ℕ) → i < length ends → j < length ends → Agrees i j
  agrees i j i_in j_in = by_less (i == j) (nat_lt i j) (eqb-true i j) (eqb-false i j) (ltb-true i j) (ltb-false i j)
    where
      by_less : (b d : Bool) → (b ≡ true → i ≡ j) → (b ≡ false → i ≢ j) → (d ≡ true → i < j) → (d ≡ false → j ≤ i)
          → Agrees i j
      by_less true d same apart less more = agrees_same i j (same refl)
      by_less false true same apart less more = agrees_below i j (less refl) j_in
      by_less false false same apart less more = agrees_above i j (omega (arith, more refl, apart refl)) i_in

  compared : (i j : ℕ) → i < length ends → j < length ends
      → (node_of_end ends tails i == node_of_end ends tails j) ≡ is_one_point (end_at ends i) (end_at ends j)
  compared i j i_in j_in =
      let h = agrees i j i_in j_in in
      equal_is (node_of_end ends tails i) (node_of_end ends tails j) (is_one_point (end_at ends i)
      (end_at ends j)) h.0 h.1

  pub tails_are : AreTailsOf pieces tails
  tails_are = record {
    one_each = each;
    alike = λ s t s_in t_in.
        let i = place_of s s_in in
        let j = place_of t t_in in
        let first : node_of_end ends tails i.0 ≡ get_or tails s 0 = ap (λ (e : End). get_or tails e.step 0) i.2 in
        let second : node_of_end ends tails j.0 ≡ get_or tails t 0 = ap (λ (e : End). get_or tails e.step 0) j.2 in
        ap (λ (m : ℕ). m == get_or tails t 0) (sym first)
        ∙ ap (λ (m : ℕ). node_of_end ends tails i.0 == m) (sym second) ∙ compared i.0 j.0 i.1 j.1
        ∙ ap (λ (e : End). is_one_point e (end_at ends j.0)) i.2
        ∙ ap (λ (e : End). is_one_point (end_of (tail_at pieces s) s) e) j.2
        ∙ one_where_same (tail_at pieces s) (tail_at pieces t) s t (tail_lowest pieces s r s_in)
        (tail_lowest pieces t r t_in);
  }

both_length : (es : List (ℕ × Piece)) → length (flat_map both_ends es) ≡ 2 * length es
both_length [] = refl
both_length (e ∷ es) = omega (arith, both_length es)

pub ends_length : (pieces : List Piece) → length (ends_of pieces) ≡ 2 * length pieces
ends_length pieces = both_length (enumerate_from 0 pieces) ∙ ap (λ (n : ℕ). 2 * n) (length-enumerate_from 0 pieces)
