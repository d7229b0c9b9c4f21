-- What the test of simple polygons says of two edges, by their numbers.
use Rattle.std.specs.Prelude.{true, false, not, ◌&&◌, if◌then◌else◌, Bool}
use Rattle.std.proofs.Common.{arith, ℕ, ◌≡◌, ◌==◌, ap, sym, ◌+◌, ◌∙◌, refl}
use Rattle.std.proofs.lemmas.Bool.{eqb-true, not-true}
use Rattle.plane_spec.specs.declared.Segment.{Segment}
use Rattle.plane_spec.specs.Polygons.{edges_touch, folds_back, may_be_edges}

-- ---- what stands beside what

same_tested : (a b : ℕ) → a ≡ b → (a == b) ≡ true
same_tested a b h = grind arith

other_tested : (a b : ℕ) → (a ≡ b → ⊥) → (a == b) ≡ false
other_tested a b h = grind arith

pub stand_next : (count i j : ℕ) (e f : Segment) → may_be_edges count ((i, e), (j, f)) ≡ true → j ≡ i + 1
    → folds_back e f ≡ false
unfolding may_be_edges
stand_next count i j e f h next =
    not-true (folds_back e f)
    (sym (ap (λ t. if t then not (folds_back e f) else
    (if (i == 0) && (j + 1 == count) then not (folds_back f e) else not (edges_touch e f)))
    (same_tested j (i + 1) next)) ∙ h)

pub stand_wrap : (count i j : ℕ) (e f : Segment) → may_be_edges count ((i, e), (j, f)) ≡ true → (j ≡ i + 1 → ⊥) → i ≡ 0
    → j + 1 ≡ count → folds_back f e ≡ false
unfolding may_be_edges
stand_wrap count i j e f h far first last =
    not-true (folds_back f e)
    (sym (by_tests (j == i + 1) (i == 0) (j + 1 == count) (not (folds_back e f)) (not (folds_back f e))
    (not (edges_touch e f)) (other_tested j (i + 1) far) (same_tested i 0 first) (same_tested (j + 1) count last))
    ∙ h)
  where
    by_tests : (s t u a b c : Bool) → s ≡ false → t ≡ true → u ≡ true → (if s then a else (if t && u then b else c)) ≡ b
    by_tests s t u a b c e f g = rw (e, f, g) refl

pub stand_apart : (count i j : ℕ) (e f : Segment) → may_be_edges count ((i, e), (j, f)) ≡ true → (j ≡ i + 1 → ⊥)
    → (i ≡ 0 → j + 1 ≡ count → ⊥) → edges_touch e f ≡ false
unfolding may_be_edges
stand_apart count i j e f h far no_wrap =
    not-true (edges_touch e f)
    (sym (by_tests (j == i + 1) ((i == 0) && (j + 1 == count)) (not (folds_back e f)) (not (folds_back f e))
    (not (edges_touch e f)) (other_tested j (i + 1) far)
    (both_false (i == 0) (j + 1 == count) (λ s t. no_wrap (from_test i 0 s) (from_test (j + 1) count t)))) ∙ h)
  where
    by_tests : (s t a b c : Bool) → s ≡ false → t ≡ false → (if s then a else (if t then b else c)) ≡ c
    by_tests s t a b c e f = rw (e, f) refl

    both_false : (s t : Bool) → (s ≡ true → t ≡ true → ⊥) → (s && t) ≡ false
    both_false true true never = absurd (never refl refl)
    both_false true false never = refl
    both_false false t never = refl

    from_test : (a b : ℕ) → (a == b) ≡ true → a ≡ b
    from_test a b k = eqb-true a b k
