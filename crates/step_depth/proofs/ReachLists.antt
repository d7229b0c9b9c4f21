-- Lists of what nodes reach.
use Rattle.std.proofs.Common.{◌≡◌, ℕ, ◌+◌, ◌-◌, ◌≤◌, List, [], ◌∷◌, ◌++◌, map, refl, sym, ap, ◌∙◌, arith}
use Rattle.std.specs.Prelude.{count_by, is_some}
use Rattle.std.specs.List.{range_with_len}
use Rattle.std.proofs.Common.{zero, suc}
use Rattle.std.proofs.lemmas.List.{map-append}
use Rattle.std.proofs.lemmas.List.FromFn.{map-range_with_len_more}
use Rattle.graph_spec.specs.Graphs.{Graph, nodes, depths_of, total_depth, measures_of}
use Rattle.step_depth.specs.Measured.{measured}
use Rattle.step_depth.specs.declared.reach.Reach.{Reach}
use Rattle.step_depth.specs.Reached.{reach_of, reaches_of}

pub reach_is : (g : Graph) (i : ℕ) (r : Reach) → r.connectivity ≡ count_by (g.joins i) (nodes g) → r.reached ≡ count_by is_some (depths_of g i) → r.total ≡ total_depth (depths_of g i) → r ≡ reach_of g i
unfolding reach_of
reach_is g i r p q t = λ k. record { connectivity = p k; reached = q k; total = t k }

pub reaches_more : (g : Graph) (first i : ℕ) (rs all : List Reach) (r : Reach) → first ≤ i → rs ≡ reaches_of g first (i - first) → r ≡ reach_of g i → all ≡ rs ++ r ∷ [] → all ≡ reaches_of g first (i + 1 - first)
reaches_more g first i rs all r low done is pushed =
    let n : i + 1 - first ≡ i - first + 1 = omega arith in
    let at : first + (i - first) ≡ i = omega arith in
    pushed ∙ ap (λ xs. xs ++ r ∷ []) done ∙ ap (λ x. reaches_of g first (i - first) ++ x ∷ []) is
    ∙ sym (map-range_with_len_more (reach_of g) first (i - first) i at) ∙ ap (λ (k : ℕ). reaches_of g first k) (sym n)

range_cat : (a m n : ℕ) → range_with_len a (m + n) ≡ range_with_len a m ++ range_with_len (a + m) n
range_cat a zero n = let p : zero + n ≡ n = omega arith in let q : a + zero ≡ a = omega arith in rw (p, q) refl
range_cat a (suc m) n =
    let p : suc m + n ≡ suc (m + n) = omega arith in
    let q : a + 1 + m ≡ a + suc m = omega arith in
    rw p (ap (λ xs. a ∷ xs) (rw q at (range_cat (a + 1) m n)))

-- the values at the numbers up to one in the middle, and at those from there on
pub parts_joined : {X : Type 0} (f : ℕ → X) (first middle end : ℕ) (low high all : List X) → first ≤ middle → middle ≤ end
    → low ≡ map f (range_with_len first (middle - first)) → high ≡ map f (range_with_len middle (end - middle))
    → all ≡ low ++ high → all ≡ map f (range_with_len first (end - first))
parts_joined f first middle end low high all a b left right is =
    let at : first + (middle - first) ≡ middle = omega arith in
    let len : middle - first + (end - middle) ≡ end - first = omega arith in
    is ∙ ap (λ xs. xs ++ high) left ∙ ap (λ xs. map f (range_with_len first (middle - first)) ++ xs) right
    ∙ sym (ap (map f) (range_cat first (middle - first) (end - middle))
    ∙ map-append f (range_with_len first (middle - first)) (range_with_len (first + (middle - first)) (end - middle))
    ∙ ap (λ (k : ℕ). map f (range_with_len first (middle - first)) ++ map f (range_with_len k (end - middle))) at)
    ∙ ap (λ (k : ℕ). map f (range_with_len first k)) len

measured_is : (g : Graph) (i : ℕ) → measured (reach_of g i) ≡ measures_of g i
unfolding reach_of measures_of
measured_is g i = refl

pub measured_row : (g : Graph) (a n : ℕ) → map measured (reaches_of g a n) ≡ map (measures_of g) (range_with_len a n)
measured_row g a zero = refl
measured_row g a (suc n) = ap (λ m. m ∷ map measured (reaches_of g (a + 1) n)) (measured_is g a) ∙ ap (λ ms. measures_of g a ∷ ms) (measured_row g (a + 1) n)
