-- No direction of a list in order lies strictly in a gap of it.
--
-- In a gap from one direction to the next, each direction of the list stands up to the first of them or from the second
-- on. In the gap from the last to the first one, each stands up to the last, and from the first on.
use Rattle.std.proofs.Common.{◌≡◌, ◌∙◌, Bool, true, false, List, [], ◌∷◌, ◌++◌, refl, sym, subst, append_assoc}
use Rattle.std.specs.List.{All}
use Rattle.std.proofs.lemmas.Bool.{both_ways}
use Rattle.std.proofs.lemmas.List.Elements.{All-nil, All-cons, All-head, All-tail, All-append, All-weaker, All-same}
use Rattle.list_laws.specs.Orders.{IsBefore, IsRising}
use Rattle.plane_spec.specs.declared.Point.{Point}
use Rattle.plane_spec.specs.Vectors.{IsDirected, turns_before}
use Rattle.exact_geom.proofs.Circle.{turns_one_way}
use Rattle.sight_spec.specs.Isovist.{gaps_to, gaps_of}
use Rattle.isovist_laws.proofs.Between.{IsBetween, not_after, not_before, not_neither}

-- x stands outside the gap from e to f
data IsOutside (e f x : Point) : Type 0 where
  up_to : turns_before e f ≡ true → turns_before e x ≡ false → IsOutside e f x
  onwards : turns_before e f ≡ true → turns_before x f ≡ false → IsOutside e f x
  within : turns_before e f ≡ false → turns_before e x ≡ false → turns_before x f ≡ false → IsOutside e f x

not_between : (e f x : Point) → IsDirected e → IsDirected f → IsDirected x → IsOutside e f x → IsBetween e f x → ⊥
not_between e f x e_some f_some x_some (up_to h n) b = not_before e f x b e_some f_some x_some h n
not_between e f x e_some f_some x_some (onwards h n) b = not_after e f x b e_some f_some x_some h n
not_between e f x e_some f_some x_some (within h n m) b = not_neither e f x b e_some f_some x_some h n m

-- no direction comes before itself
pub itself : (x : Point) → turns_before x x ≡ false
itself x = by (turns_before x x) refl
  where
    by : (t : Bool) → turns_before x x ≡ t → t ≡ false
    by false e = refl
    by true e = absurd (both_ways (turns_before x x) (turns_one_way x x e) e)

-- in a list in order each of the first part comes before all of the second
parts_in_order : (xs ys : List Point) → IsRising turns_before (xs ++ ys) → All (λ x. All (IsBefore turns_before x) ys) xs
parts_in_order [] ys up = All-nil (λ x. All (IsBefore turns_before x) ys)
parts_in_order (x ∷ xs) ys up =
    All-cons (λ x. All (IsBefore turns_before x) ys) x xs (second xs ys up.0) (parts_in_order xs ys up.1)
  where
    second : (xs ys : List Point) → All (IsBefore turns_before x) (xs ++ ys) → All (IsBefore turns_before x) ys
    second [] ys all = all
    second (z ∷ xs) ys all = second xs ys (All-tail (IsBefore turns_before x) z (xs ++ ys) all)

later_part : (xs ys : List Point) → IsRising turns_before (xs ++ ys) → IsRising turns_before ys
later_part [] ys up = up
later_part (x ∷ xs) ys up = later_part xs ys up.1

module _ (directions : List Point) (rising : IsRising turns_before directions) where
  abbrev EmptyGap : Point × Point → Type 0
  EmptyGap gap = All (IsOutside gap.0 gap.1) directions

  step : (first : Point) → All (λ x. turns_before x first ≡ false) directions → (passed rest : List Point)
      → directions ≡ passed ++ rest → All EmptyGap (gaps_to first rest)
  step first from_first passed [] is = All-nil EmptyGap
  step first from_first passed (e ∷ []) is =
      All-cons EmptyGap (e, first) [] (by (turns_before e first) refl) (All-nil EmptyGap)
    where
      up : IsRising turns_before (passed ++ e ∷ [])
      up = subst (IsRising turns_before) is rising

      up_to_last : All (λ x. turns_before e x ≡ false) directions
      up_to_last =
          All-same (λ x. turns_before e x ≡ false) directions (passed ++ e ∷ []) is
          (All-append (λ x. turns_before e x ≡ false) passed (e ∷ [])
          (All-weaker (λ x. All (IsBefore turns_before x) (e ∷ [])) (λ x. turns_before e x ≡ false)
          (λ x h. (All-head (IsBefore turns_before x) e [] h).not_back) passed (parts_in_order passed (e ∷ []) up))
          (All-cons (λ x. turns_before e x ≡ false) e [] (itself e) (All-nil (λ x. turns_before e x ≡ false))))

      by : (t : Bool) → turns_before e first ≡ t → All (IsOutside e first) directions
      by true h = λ k d l. up_to h (up_to_last k d l)
      by false h = λ k d l. within h (up_to_last k d l) (from_first k d l)
  step first from_first passed (e ∷ f ∷ rest) is =
      All-cons EmptyGap (e, f) (gaps_to first (f ∷ rest))
      (All-same (IsOutside e f) directions (passed ++ e ∷ f ∷ rest) is
      (All-append (IsOutside e f) passed (e ∷ f ∷ rest)
      (All-weaker (λ x. All (IsBefore turns_before x) (e ∷ f ∷ rest)) (IsOutside e f)
      (λ x h. up_to before (All-head (IsBefore turns_before x) e (f ∷ rest) h).not_back) passed
      (parts_in_order passed (e ∷ f ∷ rest) up))
      (All-cons (IsOutside e f) e (f ∷ rest) (up_to before (itself e))
      (All-cons (IsOutside e f) f rest (onwards before (itself f))
      (All-weaker (IsBefore turns_before f) (IsOutside e f) (λ x h. onwards before h.not_back) rest here.1.0)))))
      (step first from_first (passed ++ e ∷ []) (f ∷ rest) (is ∙ sym (append_assoc passed (e ∷ []) (f ∷ rest))))
    where
      up : IsRising turns_before (passed ++ e ∷ f ∷ rest)
      up = subst (IsRising turns_before) is rising

      here : IsRising turns_before (e ∷ f ∷ rest)
      here = later_part passed (e ∷ f ∷ rest) up

      before : turns_before e f ≡ true
      before = (All-head (IsBefore turns_before e) f rest here.0).forth

-- each direction stands outside each gap
all_outside : (directions : List Point) (up : IsRising turns_before directions)
    → All (EmptyGap directions up) (gaps_of directions)
all_outside [] up = All-nil (EmptyGap [] up)
all_outside (e ∷ directions) up =
    step (e ∷ directions) up e
    (All-cons (λ x. turns_before x e ≡ false) e directions (itself e)
    (All-weaker (IsBefore turns_before e) (λ x. turns_before x e ≡ false) (λ x h. h.not_back) directions up.0))
    [] (e ∷ directions) refl

-- both directions of each gap are of the list
both_directed : (first : Point) (directions : List Point) → IsDirected first → All IsDirected directions
    → All (λ gap. IsDirected gap.0 × IsDirected gap.1) (gaps_to first directions)
both_directed first [] one all = All-nil (λ gap. IsDirected gap.0 × IsDirected gap.1)
both_directed first (e ∷ []) one all =
    All-cons (λ gap. IsDirected gap.0 × IsDirected gap.1) (e, first) [] (All-head IsDirected e [] all, one)
    (All-nil (λ gap. IsDirected gap.0 × IsDirected gap.1))
both_directed first (e ∷ f ∷ directions) one all =
    let later = All-tail IsDirected e (f ∷ directions) all in
    All-cons (λ gap. IsDirected gap.0 × IsDirected gap.1) (e, f) (gaps_to first (f ∷ directions))
    (All-head IsDirected e (f ∷ directions) all, All-head IsDirected f directions later)
    (both_directed first (f ∷ directions) one later)

gaps_directed : (directions : List Point) → All IsDirected directions
    → All (λ gap. IsDirected gap.0 × IsDirected gap.1) (gaps_of directions)
gaps_directed [] all = All-nil (λ gap. IsDirected gap.0 × IsDirected gap.1)
gaps_directed (e ∷ directions) all = both_directed e (e ∷ directions) (All-head IsDirected e directions all) all

-- nothing of a list lies strictly between these two
abbrev pub HasNoneBetween : List Point → Point × Point → Type 0
HasNoneBetween directions gap = All (λ x. IsBetween gap.0 gap.1 x → ⊥) directions

-- no direction of a list in order lies strictly in a gap of it
pub gaps_empty : (directions : List Point) → All IsDirected directions → IsRising turns_before directions
    → All (HasNoneBetween directions) (gaps_of directions)
gaps_empty directions all up =
    λ k d l.
    let ends = gaps_directed directions all k d l in
    λ m x n. not_between _ _ _ ends.0 ends.1 (all m x n) (all_outside directions up k d l m x n)
