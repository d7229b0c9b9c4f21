-- Lists and their last elements.
use Rattle.std.specs.Prelude.{◌≡◌, ◌≤◌, ℕ, ◌-◌, List, [], ◌∷◌, ◌++◌, length, drop, Option, Some, None}
use Rattle.std.proofs.Common.{refl, sym, ap, ap₂, ◌∙◌, arith}
use Rattle.std.proofs.lemmas.List.{length-append, length-drop, take_at}
use Rattle.circular_buffer.specs.Buffer.{keep_last, last_item}
use Rattle.circular_buffer.proofs.Places.{cut_end, slice_get-last}
use Rattle.plan_undo.specs.History.{without_last}

module _ {X : Type 0} where
  pub last_of : (xs : List X) (x : X) → last_item (xs ++ x ∷ []) ≡ Some x
  last_of xs x = slice_get-last xs x (length (xs ++ x ∷ []) - 1) (omega (arith, length-append xs (x ∷ [])))

  pub without_of : (xs : List X) (x : X) → without_last (xs ++ x ∷ []) ≡ xs
  without_of xs x = take_at xs (x ∷ []) (length (xs ++ x ∷ []) - 1) (omega (arith, length-append xs (x ∷ [])))

  one_value : (o : Option X) (x y : X) → o ≡ Some x → o ≡ Some y → x ≡ y
  one_value o x y e h = cc

  no_value : (o : Option X) (x : X) (xs ys : List X) → o ≡ Some x → o ≡ None → xs ≡ ys
  no_value o x xs ys e h = cc

  -- a list whose last element is x
  pub last_splits : (xs : List X) (x : X) → last_item xs ≡ Some x → xs ≡ without_last xs ++ x ∷ []
  last_splits [] x e = cc
  last_splits (y ∷ ys) x e =
      let on = cut_end (y ∷ ys) (omega arith) in
      on.2
      ∙ ap₂ (λ a b. a ++ b ∷ []) (sym (ap without_last on.2 ∙ without_of on.0 on.1))
      (one_value (last_item (y ∷ ys)) on.1 x (ap last_item on.2 ∙ last_of on.0 on.1) e)

  -- a list without a last element
  pub no_last : (xs : List X) → last_item xs ≡ None → xs ≡ []
  no_last [] e = refl
  no_last (y ∷ ys) e =
      let on = cut_end (y ∷ ys) (omega arith) in
      no_value (last_item (y ∷ ys)) on.1 (y ∷ ys) [] (ap last_item on.2 ∙ last_of on.0 on.1) e

  -- as many as are kept
  pub kept_length : (n : ℕ) (xs : List X) → length (keep_last n xs) ≤ n
  kept_length n xs = omega (arith, length-drop (length xs - n) xs)

  -- all, where they are no more
  pub all_kept : (n : ℕ) (xs : List X) → length xs ≤ n → keep_last n xs ≡ xs
  all_kept n xs few = ap (λ k. drop k xs) (none (length xs) n few)
    where
      none : (m n : ℕ) → m ≤ n → m - n ≡ 0
      none m n few = omega arith
