-- The neighbours of a piece, counted at its two ends.
--
-- The steps from a node stand for the pieces that have an end there. Counted at the first end, and then at the second
-- without those that have the first too, each neighbour is counted once: piece by piece the two tests add up to the
-- definition's.
use Rattle.std.proofs.Common.{◌≡◌, ◌<◌, ◌≤◌, ◌+◌, ◌*◌, ◌/◌, ◌%◌, ◌-◌, ◌==◌, ℕ, suc, Bool, true, false, cond, not, ◌&&◌, ◌||◌, List, [], ◌∷◌, length, get_or, drop, refl, sym, ap, ◌∙◌, arith, subst}
use Rattle.std.specs.Prelude.{if◌then◌else◌}
use Rattle.std.specs.List.{enumerate_from, filter, range_with_len}
use Rattle.std.proofs.lemmas.List.{drop_all}
use Rattle.std.proofs.lemmas.List.FromFn.{length-range_with_len}
use Rattle.std.proofs.lemmas.List.Sums.{length-filter}
use Rattle.list_laws.proofs.Elements.{filter_twice}
use Rattle.plane_spec.specs.Fractions.{RPoint, same_rpoint}
use Rattle.route_spec.specs.Routes.{Piece, neighbours_of, share_end, tail_of}
use Rattle.segment_core.specs.Steps.{leads_to, piece_at, reversed_step, row_of, step_at}
use Rattle.segment_core.specs.Nodes.{AreTailsOf, counts_apart, counts_at}
use Rattle.segment_core.proofs.Places.{dropped}
use Rattle.segment_core.proofs.Numbers.{number_in, step_at_in}
use Rattle.segment_core.proofs.Reversed.{reversed_below, tail_reversed}

-- ---- steps, piece by piece

steps_from : ℕ → List Piece → List ℕ
steps_from a [] = []
steps_from a (p ∷ ps) = 2 * a ∷ (2 * a + 1) ∷ steps_from (a + 1) ps

numbers_are : (a : ℕ) (ps : List Piece) → range_with_len (2 * a) (2 * length ps) ≡ steps_from a ps
unfolding steps_from
numbers_are a [] = refl
numbers_are a (p ∷ ps) =
    let more : 2 * length (p ∷ ps) ≡ suc (suc (2 * length ps)) = omega arith in
    let next : 2 * a + 1 + 1 ≡ 2 * (a + 1) = omega arith in
    ap (range_with_len (2 * a)) more
    ∙ ap (λ rest. 2 * a ∷ (2 * a + 1) ∷ rest) (ap (λ (n : ℕ). range_with_len n (2 * length ps)) next
    ∙ numbers_are (a + 1) ps)

abbrev one : Bool → ℕ
one b = cond b 1 0

one_more : {X : Type 0} (b : Bool) (x : X) (ys : List X) → length (cond b (x ∷ ys) ys) ≡ one b + length ys
one_more true x ys = omega arith
one_more false x ys = omega arith

-- where two tests of steps add up to a test of pieces at each piece, they do so for all
both_counted : (q r : ℕ → Bool) (t : ℕ × Piece → Bool) (a : ℕ) (ps : List Piece)
    → ((i j : ℕ) → i < length ps → j ≡ a + i
    → one (q (2 * j)) + one (q (2 * j + 1)) + (one (r (2 * j)) + one (r (2 * j + 1))) ≡ one (t (j, piece_at ps i)))
    → length (filter q (steps_from a ps)) + length (filter r (steps_from a ps))
    ≡ length (filter t (enumerate_from a ps))
unfolding steps_from
both_counted q r t a [] each = refl
both_counted q r t a (p ∷ ps) each =
    omega (
      arith,
      one_more (q (2 * a)) (2 * a) (filter q ((2 * a + 1) ∷ steps_from (a + 1) ps)),
      one_more (q (2 * a + 1)) (2 * a + 1) (filter q (steps_from (a + 1) ps)),
      one_more (r (2 * a)) (2 * a) (filter r ((2 * a + 1) ∷ steps_from (a + 1) ps)),
      one_more (r (2 * a + 1)) (2 * a + 1) (filter r (steps_from (a + 1) ps)),
      one_more (t (a, p)) (a, p) (filter t (enumerate_from (a + 1) ps)),
      each 0 a (omega arith) (omega arith),
      both_counted q r t (a + 1) ps (λ i j below is. each (suc i) j (omega (arith, below)) (omega (arith, is))),
    )

-- ---- the tests at one piece

sums : (n a b c d : Bool)
    → one (a && (n && true)) + one (b && (n && not a))
    + (one (c && ((n && true) && (not a && not b))) + one (d && ((n && not c) && (not b && not a))))
    ≡ one (n && ((b || a) || (d || c)))
sums true true true true true = refl
sums true true true true false = refl
sums true true true false true = refl
sums true true true false false = refl
sums true true false true true = refl
sums true true false true false = refl
sums true true false false true = refl
sums true true false false false = refl
sums true false true true true = refl
sums true false true true false = refl
sums true false true false true = refl
sums true false true false false = refl
sums true false false true true = refl
sums true false false true false = refl
sums true false false false true = refl
sums true false false false false = refl
sums false true true true true = refl
sums false true true true false = refl
sums false true true false true = refl
sums false true true false false = refl
sums false true false true true = refl
sums false true false true false = refl
sums false true false false true = refl
sums false true false false false = refl
sums false false true true true = refl
sums false false true true false = refl
sums false false true false true = refl
sums false false true false false = refl
sums false false false true true = refl
sums false false false true false = refl
sums false false false false true = refl
sums false false false false false = refl

add_up : (q0 q1 r0 r1 t n a b c d : Bool) → q0 ≡ (a && (n && true)) → q1 ≡ (b && (n && not a))
    → r0 ≡ (c && ((n && true) && (not a && not b))) → r1 ≡ (d && ((n && not c) && (not b && not a)))
    → t ≡ (n && ((b || a) || (d || c))) → one q0 + one q1 + (one r0 + one r1) ≡ one t
add_up q0 q1 r0 r1 t n a b c d e f g h k = omega
    (arith, ap one e, ap one f, ap one g, ap one h, ap one k, sums n a b c d)

reversed_even : (j : ℕ) → reversed_step (2 * j) ≡ 2 * j + 1
reversed_even j = let rest : 2 * j % 2 ≡ 0 = omega arith in ap (λ (n : ℕ). if n == 1 then 2 * j - 1 else 2 * j + 1) rest

reversed_odd : (j : ℕ) → reversed_step (2 * j + 1) ≡ 2 * j
reversed_odd j =
    let rest : (2 * j + 1) % 2 ≡ 1 = omega arith in
    let back : 2 * j + 1 - 1 ≡ 2 * j = omega arith in
    ap (λ (n : ℕ). if n == 1 then 2 * j + 1 - 1 else 2 * j + 1 + 1) rest ∙ back

module _ (tails : List ℕ) (k at from j : ℕ) where
  abbrev first : ℕ
  first = get_or tails (2 * j + 1) 0

  abbrev last : ℕ
  last = get_or tails (2 * j) 0

  counts_even : counts_at tails k at (2 * j) ≡ (not (j == k) && true)
  counts_even =
      let half : 2 * j / 2 ≡ j = omega arith in
      let rest : 2 * j % 2 ≡ 0 = omega arith in
      ap (λ (h : ℕ). not (h == k) && not ((2 * j % 2 == 1) && (at == get_or tails (reversed_step (2 * j)) 0))) half
      ∙ ap (λ (n : ℕ). not (j == k) && not ((n == 1) && (at == get_or tails (reversed_step (2 * j)) 0))) rest

  counts_odd : counts_at tails k at (2 * j + 1) ≡ (not (j == k) && not (at == last))
  counts_odd =
      let half : (2 * j + 1) / 2 ≡ j = omega arith in
      let rest : (2 * j + 1) % 2 ≡ 1 = omega arith in
      ap (λ (h : ℕ). not (h == k) && not (((2 * j + 1) % 2 == 1)
      && (at == get_or tails (reversed_step (2 * j + 1)) 0))) half
      ∙ ap (λ (n : ℕ). not (j == k) && not ((n == 1) && (at == get_or tails (reversed_step (2 * j + 1)) 0))) rest
      ∙ ap (λ (s : ℕ). not (j == k) && not (at == get_or tails s 0)) (reversed_odd j)

  apart_even : counts_apart tails k at from (2 * j)
      ≡ ((not (j == k) && true) && (not (from == last) && not (from == first)))
  apart_even =
      ap (λ b. b && (not (from == last) && not (from == get_or tails (reversed_step (2 * j)) 0))) counts_even
      ∙ ap (λ (s : ℕ). (not (j == k) && true) && (not (from == last)
      && not (from == get_or tails s 0))) (reversed_even j)

  apart_odd : counts_apart tails k at from (2 * j + 1)
      ≡ ((not (j == k) && not (at == last)) && (not (from == first) && not (from == last)))
  apart_odd =
      ap (λ b. b && (not (from == first) && not (from == get_or tails (reversed_step (2 * j + 1)) 0))) counts_odd
      ∙ ap (λ (s : ℕ). (not (j == k) && not (at == last)) && (not (from == first)
      && not (from == get_or tails s 0))) (reversed_odd j)

-- ---- ends and their nodes

-- a step follows where its node is the other's end
leads_is : (pieces : List Piece) (tails : List ℕ) (s t : ℕ) → AreTailsOf pieces tails → s < 2 * length pieces
    → t < 2 * length pieces
    → leads_to pieces s t ≡ (get_or tails (reversed_step s) 0 == get_or tails t 0)
leads_is pieces tails s t are s_in t_in =
    ap (λ (p : RPoint). same_rpoint p (tail_of (step_at pieces t).0.1 (step_at pieces t).1)) (sym
    (tail_reversed pieces s))
    ∙ sym (are.alike (reversed_step s) t (reversed_below s (length pieces) s_in) t_in)

number_below : (k n : ℕ) (b : Bool) → k < n → number_in k b < 2 * n
number_below k n true below = omega (arith, below)
number_below k n false below = omega (arith, below)

ends_alike : (pieces : List Piece) (tails : List ℕ) (k j : ℕ) (b c : Bool) → AreTailsOf pieces tails
    → k < length pieces → j < length pieces
    → same_rpoint (tail_of (piece_at pieces k) b) (tail_of (piece_at pieces j) c)
    ≡ (get_or tails (number_in k b) 0 == get_or tails (number_in j c) 0)
ends_alike pieces tails k j b c are k_in j_in =
    ap (λ s. same_rpoint (tail_of s.0.1 s.1) (tail_of (piece_at pieces j) c)) (sym (step_at_in pieces k b))
    ∙ ap (λ s. same_rpoint (tail_of (step_at pieces (number_in k b)).0.1 (step_at pieces (number_in k b)).1)
    (tail_of s.0.1 s.1)) (sym (step_at_in pieces j c))
    ∙ sym (are.alike (number_in k b) (number_in j c) (number_below k (length pieces) b k_in) (number_below j
    (length pieces) c j_in))

module _ (pieces : List Piece) (tails : List ℕ) (k from to : ℕ) (are : AreTailsOf pieces tails)
    (k_in : k < length pieces)
    (from_is : from ≡ get_or tails (2 * k + 1) 0) (to_is : to ≡ get_or tails (2 * k) 0) where
  abbrev test : ℕ × Piece → Bool
  test other = not (other.0 == k) && share_end (piece_at pieces k) other.1

  abbrev at_first : ℕ → Bool
  at_first s = leads_to pieces (2 * k) s && counts_at tails k from s

  abbrev at_second : ℕ → Bool
  at_second s = leads_to pieces (2 * k + 1) s && counts_apart tails k to from s

  leads_first : (s : ℕ) → s < 2 * length pieces → leads_to pieces (2 * k) s ≡ (from == get_or tails s 0)
  leads_first s below =
      leads_is pieces tails (2 * k) s are (omega (arith, k_in)) below
      ∙ ap (λ (n : ℕ). get_or tails n 0 == get_or tails s 0) (reversed_even k)
      ∙ ap (λ (n : ℕ). n == get_or tails s 0) (sym from_is)

  leads_second : (s : ℕ) → s < 2 * length pieces → leads_to pieces (2 * k + 1) s ≡ (to == get_or tails s 0)
  leads_second s below =
      leads_is pieces tails (2 * k + 1) s are (omega (arith, k_in)) below
      ∙ ap (λ (n : ℕ). get_or tails n 0 == get_or tails s 0) (reversed_odd k)
      ∙ ap (λ (n : ℕ). n == get_or tails s 0) (sym to_is)

  both_parts : (f g : ℕ → Bool) (s : ℕ) (a b : Bool) → f s ≡ a → g s ≡ b → (f s && g s) ≡ (a && b)
  both_parts f g s a b e h = ap (λ x. x && g s) e ∙ ap (λ x. a && x) h

  shared : (j : ℕ) → j < length pieces → share_end (piece_at pieces k) (piece_at pieces j)
      ≡ (((from == get_or tails (2 * j + 1) 0) || (from == get_or tails (2 * j) 0))
      || ((to == get_or tails (2 * j + 1) 0) || (to == get_or tails (2 * j) 0)))
  shared j j_in =
      four _ _ _ _ _ _ _ _ (end_is true true from from_is) (end_is true false from from_is)
      (end_is false true to to_is) (end_is false false to to_is)
    where
      end_is : (b c : Bool) (node : ℕ) → node ≡ get_or tails (number_in k b) 0
          → same_rpoint (tail_of (piece_at pieces k) b) (tail_of (piece_at pieces j) c)
          ≡ (node == get_or tails (number_in j c) 0)
      end_is b c node is = ends_alike pieces tails k j b c are k_in j_in
          ∙ ap (λ (n : ℕ). n == get_or tails (number_in j c) 0) (sym is)

      four : (a b c d e f g h : Bool) → a ≡ e → b ≡ f → c ≡ g → d ≡ h → ((a || b) || (c || d)) ≡ ((e || f) || (g || h))
      four a b c d e f g h p q r s =
          ap (λ x. (x || b) || (c || d)) p ∙ ap (λ x. (e || x) || (c || d)) q ∙ ap (λ x. (e || f) || (x || d)) r
          ∙ ap (λ x. (e || f) || (g || x)) s

  each_piece : (i j : ℕ) → i < length pieces → j ≡ 0 + i
      → one (at_first (2 * j)) + one (at_first (2 * j + 1)) + (one (at_second (2 * j)) + one (at_second
      (2 * j + 1))) ≡ one (test (j, piece_at pieces i))
  each_piece i j below is =
      let same : i ≡ j = omega (arith, is) in
      let j_in : j < length pieces = omega (arith, below, same) in
      let even : 2 * j < 2 * length pieces = omega (arith, j_in) in
      let odd : 2 * j + 1 < 2 * length pieces = omega (arith, j_in) in
      subst (λ (n : ℕ). one (at_first (2 * j)) + one (at_first (2 * j + 1)) + (one (at_second (2 * j)) + one
      (at_second (2 * j + 1))) ≡ one (test (j, piece_at pieces n))) (sym same)
      (add_up (at_first (2 * j)) (at_first (2 * j + 1)) (at_second (2 * j)) (at_second (2 * j + 1)) (test
      (j, piece_at pieces j))
      (not (j == k)) (from == get_or tails (2 * j) 0) (from == get_or tails (2 * j + 1) 0) (to == get_or tails
      (2 * j) 0) (to == get_or tails (2 * j + 1) 0)
      (both_parts (leads_to pieces (2 * k)) (counts_at tails k from) (2 * j) _ _ (leads_first (2 * j) even)
      (counts_even tails k from from j))
      (both_parts (leads_to pieces (2 * k)) (counts_at tails k from) (2 * j + 1) _ _ (leads_first (2 * j + 1) odd)
      (counts_odd tails k from from j))
      (both_parts (leads_to pieces (2 * k + 1)) (counts_apart tails k to from) (2 * j) _ _ (leads_second
      (2 * j) even) (apart_even tails k to from j))
      (both_parts (leads_to pieces (2 * k + 1)) (counts_apart tails k to from) (2 * j + 1) _ _ (leads_second
      (2 * j + 1) odd) (apart_odd tails k to from j))
      (ap (λ b. not (j == k) && b) (shared j j_in)))

  pub neighbours_are : length (filter (counts_at tails k from) (row_of pieces (2 * k)))
      + length (filter (counts_apart tails k to from) (row_of pieces (2 * k + 1)))
      ≡ neighbours_of pieces (k, piece_at pieces k)
  neighbours_are =
      let steps = range_with_len 0 (2 * length pieces) in
      let first = ap length (filter_twice (counts_at tails k from) (leads_to pieces (2 * k)) steps)
      ∙ ap (λ xs. length (filter at_first xs)) (numbers_are 0 pieces) in
      let second = ap length (filter_twice (counts_apart tails k to from) (leads_to pieces (2 * k + 1)) steps)
      ∙ ap (λ xs. length (filter at_second xs)) (numbers_are 0 pieces) in
      let all = both_counted at_first at_second test 0 pieces each_piece in
      let counted = length-filter test (enumerate_from 0 pieces) in
      omega (arith, first, second, all, counted)

-- ---- counting along a list

-- so many of the elements before a place pass
pub record Counting (p : ℕ → Bool) (xs : List ℕ) (done count : ℕ) : Type 0 where
  pub left : count + length (filter p (drop done xs)) ≡ length (filter p xs)
  pub at_most : count ≤ done

pub counting_begins : (p : ℕ → Bool) (xs : List ℕ) → Counting p xs 0 0
counting_begins p xs = record { left = omega arith; at_most = omega arith }

pub counting_more : (p : ℕ → Bool) (xs : List ℕ) (done count next : ℕ) (b : Bool) → done < length xs
    → p (get_or xs done 0) ≡ b
    → next ≡ count + cond b 1 0 → Counting p xs done count → Counting p xs (done + 1) next
counting_more p xs done count next b below passes is h = record {
  left =
      let rest = ap (λ ys. length (filter p ys)) (dropped xs done 0 below) in
      let here = one_more (p (get_or xs done 0)) (get_or xs done 0) (filter p (drop (done + 1) xs)) in
      omega (arith, h.left, rest, here, is, ap one passes);
  at_most = no_more b is;
}
  where
    no_more : (b : Bool) → next ≡ count + cond b 1 0 → next ≤ done + 1
    no_more true is = omega (arith, h.at_most, is)
    no_more false is = omega (arith, h.at_most, is)

pub counting_ends : (p : ℕ → Bool) (xs : List ℕ) (done count : ℕ) → length xs ≤ done → Counting p xs done count
    → count ≡ length (filter p xs)
counting_ends p xs done count all h = omega (arith, h.left, ap (λ ys. length (filter p ys)) (drop_all done xs all))

kept_at_most : (p : ℕ → Bool) (xs : List ℕ) → length (filter p xs) ≤ length xs
kept_at_most p [] = omega arith
kept_at_most p (x ∷ xs) = by (p x) (one_more (p x) x (filter p xs)) (kept_at_most p xs)
  where
    by : (b : Bool) → length (filter p (x ∷ xs)) ≡ one b + length (filter p xs) → length (filter p xs) ≤ length xs
        → length (filter p (x ∷ xs)) ≤ length (x ∷ xs)
    by true e h = omega (arith, e, h)
    by false e h = omega (arith, e, h)

pub row_at_most : (pieces : List Piece) (s : ℕ) → length (row_of pieces s) ≤ 2 * length pieces
row_at_most pieces s =
    omega (
      arith,
      kept_at_most (leads_to pieces s) (range_with_len 0 (2 * length pieces)),
      length-range_with_len 0
          (2 * length pieces),
    )

pub count_at_most : (pieces : List Piece) (s : ℕ) (p : ℕ → Bool) → length pieces ≤ 65536
    → length (filter p (row_of pieces s)) ≤ 131072
count_at_most pieces s p few = omega (arith, kept_at_most p (row_of pieces s), row_at_most pieces s, few)
