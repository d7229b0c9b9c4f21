-- The names of boxes are names.
use Rattle.std.proofs.Common.{◌≡◌, ◌≤◌, ◌<◌, ◌+◌, ℕ, zero, suc, Bool, true, ◌++◌, ◌⊎◌, inl, inr, decimal, refl, subst, arith}
use Rattle.std.proofs.lemmas.Bool.{and_parts}
use Rattle.std.specs.Prelude.{codes}
use Rattle.std.specs.Fmt.{digits}
use Rattle.std.specs.List.{list_all, range_with_len}
use Rattle.text_spec.specs.Names.{is_name}

-- what all numbers of a stretch pass, each of them passes
one_of : (test : ℕ → Bool) (a m k : ℕ) → list_all test (range_with_len a m) ≡ true → a ≤ k → k < a + m → test k ≡ true
one_of test a zero k all low high = absurd (omega arith)
one_of test a (suc m) k all low high =
    let parts = and_parts (test a) (list_all test (range_with_len (a + 1) m)) all in
    elim (first_or_later a k low) [
      | inl same ↦ subst (λ n. test n ≡ true) same parts.0
      | inr later ↦ one_of test (a + 1) m k parts.1 later (omega arith)
    ]
  where
    first_or_later : (a k : ℕ) → a ≤ k → (a ≡ k) ⊎ (a + 1 ≤ k)
    first_or_later a k low = grind arith

all_named : list_all (λ i. is_name (codes "b" ++ decimal i)) (range_with_len 0 250) ≡ true
unfolding digits
all_named = refl

pub box_named : (i : ℕ) → i < 250 → is_name (codes "b" ++ decimal i) ≡ true
box_named i below = one_of (λ k. is_name (codes "b" ++ decimal k)) 0 250 i all_named (omega arith) (omega arith)
